-- What is remembered of requests that were executed, in order of execution (5.4.5).
use Rattle.std.specs.Prelude.{◌≢◌, ◌≤◌, ℕ, not, Bool, true, false, if◌then◌else◌, List, [], ◌∷◌, length, map, Option}
use Rattle.std.specs.Prelude.{Some, None}
use Rattle.std.specs.List.{AllByRecursion}
use Rattle.std.specs.Ordering.{is_eq, nat_cmp, ordering_then}
use Rattle.std.specs.declared.cmp.Ordering.{Ordering}
use Rattle.npdu.specs.Mac.{station_cmp}
use Rattle.npdu.specs.declared.mac.Way.{Way}
use Rattle.segments.specs.Sender.{SenderState}
use Rattle.profile.specs.Ages as age
use Rattle.remembered.specs.declared.record.Asker.{Asker}
use Rattle.remembered.specs.declared.record.Record.{Record}

-- askers by their invoke IDs, then by their stations
abbrev pub asker_cmp : Asker → Asker → Ordering
asker_cmp a b = ordering_then (nat_cmp a.invoke_id b.invoke_id) (station_cmp a.station b.station)

-- the record is of this asker
abbrev pub is_of : {A : Type 0} → Asker → Record A → Bool
is_of a r = is_eq (asker_cmp r.asker a)

-- this where the test holds, else none
abbrev pub some_if : {X : Type 0} → Bool → X → Option X
some_if true x = Some x
some_if false x = None

-- what came later, else this
abbrev pub later_or : {X : Type 0} → Option X → Option X → Option X
later_or (Some x) o = Some x
later_or None o = o

-- the newest record of an asker: the last one of it
abbrev pub newest : {A : Type 0} → Asker → List (Record A) → Option (Record A)
newest a [] = None
newest a (r ∷ rs) = later_or (newest a rs) (some_if (is_of a r) r)

-- a record lives while an answer of its moment of execution does
abbrev pub lives : {A : Type 0} → ℕ → Record A → Bool
lives now r = age.lives r.at now

-- a record that lives
abbrev pub living : {A : Type 0} → ℕ → Option (Record A) → Option (Record A)
living now None = None
living now (Some r) = some_if (lives now r) r

-- what is remembered for an asker: its newest record, if it lives
abbrev pub remembered : {A : Type 0} → ℕ → Asker → List (Record A) → Option (Record A)
remembered now a rs = living now (newest a rs)

-- the oldest is dead
abbrev pub begins_dead : {A : Type 0} → ℕ → List (Record A) → Bool
begins_dead now [] = false
begins_dead now (r ∷ rs) = not (lives now r)

-- without the dead ones at the front
abbrev pub forgotten : {A : Type 0} → ℕ → List (Record A) → List (Record A)
forgotten now [] = []
forgotten now (r ∷ rs) = if lives now r then r ∷ rs else forgotten now rs

-- there is no place for another one: there are MAX_REMEMBERED, and none to be forgotten
abbrev pub is_full : {A : Type 0} → ℕ → List (Record A) → Bool
is_full now rs = age.has_no_place (length rs) (begins_dead now rs)

-- the moments of execution of all of them are this or later
abbrev pub AreFrom : {A : Type 0} → ℕ → List (Record A) → Type 0
AreFrom moment [] = Unit {0}
AreFrom moment (r ∷ rs) = (moment ≤ r.at) × AreFrom moment rs

-- they are in order of execution
abbrev pub AreAscending : {A : Type 0} → List (Record A) → Type 0
AreAscending [] = Unit {0}
AreAscending (r ∷ rs) = AreFrom r.at rs × AreAscending rs

-- none of them stands twice
abbrev pub AreDistinct : {X : Type 0} → List X → Type 0
AreDistinct [] = Unit {0}
AreDistinct (x ∷ xs) = AllByRecursion (λ y. y ≢ x) xs × AreDistinct xs

-- who asked for what is remembered
abbrev pub askers : {A : Type 0} → List (Record A) → List Asker
askers rs = map (λ r. r.asker) rs

-- the same, said on this way by this sender
abbrev pub said_on : {A : Type 0} → Way → Option SenderState → Record A → Record A
said_on way sending r = record r { way = way; sending = sending }

-- a first record and those behind it: changed where it is of the asker, and none behind it is
abbrev pub said_by : {A : Type 0} → Option (Record A) → Bool → Way → Option SenderState → Record A → List (Record A) →
    List (Record A) → List (Record A)
said_by (Some x) is_of way sending r rs rest = r ∷ rest
said_by None true way sending r rs rest = said_on way sending r ∷ rs
said_by None false way sending r rs rest = r ∷ rs

-- the newest record of an asker alone is said on this way by this sender
abbrev pub said_again : {A : Type 0} → Asker → Way → Option SenderState → List (Record A) → List (Record A)
said_again a way sending [] = []
said_again a way sending (r ∷ rs) =
    said_by (newest a rs) (is_of a r) way sending r rs (said_again a way sending rs)
