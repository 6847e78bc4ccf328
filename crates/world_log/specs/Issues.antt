-- Who issued what: the last issue of each client under each invoke ID, and what may be forgotten of the others.
use Rattle.std.specs.Prelude.{◌≡◌, ◌<◌, ◌^◌, ℕ, ◌+◌, ◌==◌, ◌&&◌, Bool, true, false, cond, List, [], ◌∷◌, ◌++◌, Option}
use Rattle.std.specs.Prelude.{Some, None, Vec}
use Rattle.std.specs.Prelude.{IfSome, IsSome, length, replicate, slice_get}
use Rattle.std.specs.Vec.{vec_capacity, vec_len}
use Rattle.carry_ends.specs.carry_world.PlainWorld as plain
use Rattle.carry_ends.specs.carry_world.PlainWorld.{last_key}
use Rattle.npdu.specs.Mac.{same_station, station_cmp}
use Rattle.npdu.specs.declared.mac.Station.{Station}
use Rattle.sorted_map.specs.Entries.{value_of}
use Rattle.world_log.specs.declared.key.Key.{Key}
use Rattle.world_log.specs.declared.key.Run.{Run}

-- keys: who issued, and under which invoke ID, of each issue, in order (5.4.1). ready: whose issue room was made for
pub record IssuesState : Type 0 where
  pub keys : List plain.Key
  pub ready : Option Key

-- who issued, and under which invoke ID, in the words of the promise (5.4.1)
abbrev pub key_of : Key → plain.Key
key_of k = record { client = k.client; invoke_id = k.invoke_id }

-- an issue, and those before it that are forgotten: whoever made these, they are as this one, which stands behind them
abbrev pub run_keys : Run → List plain.Key
run_keys r = replicate r.before (key_of r.key) ++ key_of r.key ∷ []

abbrev pub keys_in : List Run → List plain.Key
keys_in [] = []
keys_in (r ∷ rs) = run_keys r ++ keys_in rs

abbrev pub flat : Option (Option ℕ) → Option ℕ
flat None = None
flat (Some number) = number

-- the numbers that are kept of clients under one invoke ID, in the order of their stations
abbrev pub ClientNumbers : Type 0
ClientNumbers = List (Station × Option ℕ)

-- what is kept of a client, where any is known under the invoke ID
abbrev pub kept_in : Option ClientNumbers → Station → Option (Option ℕ)
kept_in None client = None
kept_in (Some clients) client = value_of station_cmp client clients

-- what is kept of a key, if it is known: by its invoke ID, and then by its client
abbrev pub kept_of : List ClientNumbers → Key → Option (Option ℕ)
kept_of m k = kept_in (slice_get m k.invoke_id) k.client

-- the number that is kept of a key
abbrev pub number_of : List ClientNumbers → Key → Option ℕ
number_of m k = flat (kept_of m k)

-- the number that is kept of each key is that of its last issue (5.4.1)
pub record LeadsToLast (m : List ClientNumbers) (keys : List plain.Key) : Type 0 where
  pub numbers : (k : Key) → number_of m k ≡ last_key k.client k.invoke_id keys

-- two keys are one
abbrev pub same_key : Key → Key → Bool
same_key a b = same_station a.client b.client && (a.invoke_id == b.invoke_id)

-- of a key this is kept then, and of any other what was: for private functions alone
pub record IsKeptOf (key : Key) (number : Option ℕ) (old new : List ClientNumbers) : Type 0 where
  pub kept : (k : Key) → kept_of new k ≡ cond (same_key key k) (Some number) (kept_of old k)

-- .. of each key the same number is
pub record IsSameOf (old new : List ClientNumbers) : Type 0 where
  pub same : (k : Key) → number_of new k ≡ number_of old k

-- of a client under an invoke ID this is kept then, and of any other what was: for private functions alone
pub record IsPutIn (client : Station) (number : Option ℕ) (old new : ClientNumbers) : Type 0 where
  pub kept : (c : Station) →
      value_of station_cmp c new ≡ cond (same_station client c) (Some number) (value_of station_cmp c old)

-- .. of each client the same number is
pub record IsSameIn (old new : ClientNumbers) : Type 0 where
  pub same : (c : Station) → flat (value_of station_cmp c new) ≡ flat (value_of station_cmp c old)

-- there is room for the issue of a key
pub record IsReady {A : Type 0} (issued : ℕ) (runs : Vec Run A) (m : List ClientNumbers) (key : Key) : Type 0 where
  pub known : IsSome (kept_of m key)
  pub room : vec_len runs < vec_capacity runs
  pub fits : issued + 1 < 2 ^ 64

-- what is kept of the issues is of so many, and leads to the last of each key
pub record AreLast {A : Type 0} (issued : ℕ) (runs : Vec Run A) (m : List ClientNumbers) (next : Option Key) :
    Type 0 where
  pub count : issued ≡ length (keys_in runs.items)
  pub leads : LeadsToLast m (keys_in runs.items)
  pub ready : IfSome next (λ key. IsReady issued runs m key)

-- this is the number
abbrev pub is_number : (number : ℕ) → Option ℕ → Bool
is_number number None = false
is_number number (Some n) = n == number

-- those that are kept, and an issue behind so many that are forgotten: it is kept too, or forgotten
abbrev pub folded : (is_last : Bool) → (gap : ℕ) → Run → List Run → List Run
folded true gap r kept = kept ++ record { key = r.key; before = gap + r.before } ∷ []
folded false gap r kept = kept

-- how many are forgotten then
abbrev pub gap_after : (is_last : Bool) → (gap : ℕ) → Run → ℕ
gap_after true gap r = 0
gap_after false gap r = gap + (r.before + 1)

-- this is kept of the keys of issues: as many, and the last issue of each client under each invoke ID (5.4.1)
pub record KeepsKeys (all kept : List plain.Key) : Type 0 where
  pub count : length kept ≡ length all
  pub last : (client : Station) (id : ℕ) → last_key client id kept ≡ last_key client id all
