-- The server of transactions: what it knows, and what changes of it (5.4.1, 5.4.5).
use Rattle.std.specs.Prelude.{◌≡◌, ℕ, ◌≤◌, false, List, [], ◌∷◌, ◌++◌, length, filter, Option, Some, None}
use Rattle.apdu.specs.declared.sizes.MaxApdu.{MaxApdu}
use Rattle.object_model.specs.Objects.{PlainTable}
use Rattle.server_answers.specs.remembered.Records.{AreAscending, AreDistinct, askers, forgotten, is_full, remembered}
use Rattle.server_answers.specs.remembered.declared.record.Asker.{Asker}
use Rattle.server_answers.specs.remembered.declared.record.Record.{Record}
use Rattle.profile.specs.Ages as age
use Rattle.profile.specs.Limits.{MAX_REMEMBERED}
use Rattle.server_answers.specs.services.Asked.{left_by}
use Rattle.server_answers.specs.Gathering.{gathered_with, gathering_of, is_kept, receiver_of}
use Rattle.server_tsm.specs.Waking.{after_sayings, after_saying}
use Rattle.server_answers.specs.declared.gathering.RequestGathering.{RequestGathering}
use Rattle.server_answers.specs.Plan.{ServerChange, Stays, Says, Gathers, GivesUp, Executes, Wakes}

-- records: what is remembered, in order of execution; gatherings: the requests of which segments came; table: the
-- objects; max_apdu: what its link carries; quiet_until: the moment before which it takes no request; moment: that of
-- the last change
pub record ServerTsmState (A : Type 0) : Type 0 where
  pub records : List (Record A)
  pub gatherings : List (RequestGathering A)
  pub table : PlainTable A
  pub max_apdu : MaxApdu
  pub quiet_until : ℕ
  pub moment : ℕ

-- a server that has executed nothing, with these objects
abbrev pub new_server : {A : Type 0} → PlainTable A → MaxApdu → ServerTsmState A
new_server table max_apdu =
    record { records = []; gatherings = []; table = table; max_apdu = max_apdu; quiet_until = 0; moment = 0 }

-- one that restarts at this moment with these objects: it takes no request as long as an answer of before could live
abbrev pub restarted : {A : Type 0} → ℕ → PlainTable A → ServerTsmState A → ServerTsmState A
restarted now table st =
    record {
      records = [];
      gatherings = [];
      table = table;
      max_apdu = st.max_apdu;
      quiet_until = age.end_of_quiet now;
      moment = now;
    }

-- the moments of execution are this or earlier
abbrev pub AreUpTo : {A : Type 0} → ℕ → List (Record A) → Type 0
AreUpTo moment [] = Unit {0}
AreUpTo moment (r ∷ rs) = (r.at ≤ moment) × AreUpTo moment rs

-- they are in order of execution, and none is executed later than a moment
pub record AreTimely {A : Type 0} (moment : ℕ) (rs : List (Record A)) : Type 0 where
  pub ascending : AreAscending rs
  pub past : AreUpTo moment rs

-- what a server keeps at a moment: MAX_REMEMBERED answers at most, one for each asker, and timely (5.4.5)
pub record AreKept {A : Type 0} (moment : ℕ) (rs : List (Record A)) : Type 0 where
  pub few : length rs ≤ MAX_REMEMBERED
  pub distinct : AreDistinct (askers rs)
  pub timely : AreTimely moment rs

-- there is a place for the answer to an asker: none of it is remembered, nor are there as many others as can be
-- (5.4.5.1)
pub record HasPlace {A : Type 0} (now : ℕ) (asker : Asker) (rs : List (Record A)) : Type 0 where
  pub none : remembered now asker rs ≡ None
  pub room : is_full now rs ≡ false

-- what is still gathered, but for what is of an excepted asker
abbrev pub still_gathered : {A : Type 0} → ℕ → Option Asker → List (RequestGathering A) → List (RequestGathering A)
still_gathered now except xs = filter (is_kept now except) xs

-- executed at this moment
abbrev pub stamped : {A : Type 0} → ℕ → Record A → Record A
stamped now r = record r { at = now }

-- what a change leaves
abbrev pub committed : {A : Type 0} → ℕ → ServerChange A → ServerTsmState A → ServerTsmState A
committed now Stays st = record st { moment = now }
committed now (Says saying) st = record st { records = after_saying saying st.records; moment = now }
committed now (Gathers asked segment octets) st =
    let before = receiver_of (gathering_of now asked.asker st.gatherings) segment in
    record st {
      gatherings =
          still_gathered now (Some asked.asker) st.gatherings ++ gathered_with now asked segment octets before ∷ [];
      moment = now;
    }
committed now (GivesUp asker) st =
    record st { gatherings = still_gathered now (Some asker) st.gatherings; moment = now }
committed now (Executes request r) st =
    record st {
      records = forgotten now (st.records ++ stamped now r ∷ []);
      gatherings = still_gathered now (Some r.asker) st.gatherings;
      table = left_by st.table request;
      moment = now;
    }
committed now (Wakes sayings) st =
    record st {
      records = after_sayings sayings (forgotten now st.records);
      gatherings = still_gathered now None st.gatherings;
      moment = now;
    }
