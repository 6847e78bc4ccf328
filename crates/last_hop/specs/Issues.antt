-- The invoke IDs of issues (5.4.4, 20.1.2.6).
use Rattle.std.specs.Prelude.{◌≡◌, ◌<◌, ℕ, ◌+◌, ◌%◌, ◌==◌, Bool, false, if◌then◌else◌, List, [], ◌∷◌, ◌++◌, Option}
use Rattle.std.specs.Prelude.{Some, None}
use Rattle.history.specs.declared.Entry.{Entry}
use Rattle.history.specs.declared.Entry.TheVariants as entry
use Rattle.last_hop.specs.declared.issues.IssueKey.{IssueKey}
use Rattle.npdu.specs.Mac.{same_station}
use Rattle.npdu.specs.declared.mac.Station.{Station}

module _ {Q R : Type 0} where
  -- the client and the instance of an entry, if it is the issue of this number
  abbrev pub issued : ℕ → Entry Station Q R → Option (Station × ℕ)
  issued n (entry.Issue number client instance request moment) = if number == n then Some (client, instance) else None
  issued n e = None

  -- an entry is an issue of this client
  abbrev pub is_of : Station → Entry Station Q R → Bool
  is_of client (entry.Issue number other instance request moment) = same_station other client
  is_of client e = false

  -- how many issues of this client there are among entries
  abbrev pub count_of : Station → List (Entry Station Q R) → ℕ
  count_of client [] = 0
  count_of client (e ∷ es) = (if is_of client e then 1 else 0) + count_of client es

  -- the issue of this number is of this client, to the device of this instance; each client counts its issues from 0,
  -- and has 256 invoke IDs, of which this one wasn't given anew since (5.4.4, 20.1.2.6)
  pub record IsKeyOf (n : ℕ) (h : List (Entry Station Q R)) (k : IssueKey) : Type 0 where
    pub before : List (Entry Station Q R)
    pub issue : Entry Station Q R
    pub after : List (Entry Station Q R)
    pub parts : h ≡ before ++ issue ∷ after
    pub issue_is : issued n issue ≡ Some (k.client, k.instance)
    pub id : k.invoke_id ≡ count_of k.client before % 256
    pub latest : count_of k.client after < 256
