-- What was put out on a bus, and how a frame that is heard there is judged.
use Rattle.std.specs.Prelude.{◌≡◌, ◌≤◌, ◌<◌, ℕ, ◌-◌, ◌==◌, ◌&&◌, max, not, Bool, true, false, List, [], ◌∷◌, ◌++◌}
use Rattle.std.specs.Prelude.{Option, Some, None, Result, Ok, Err, bytes_eq, replicate, slice_index_or, slice_set}
use Rattle.std.specs.Prelude.{if◌then◌else◌, length}
use Rattle.std.specs.List.{filter}
use Rattle.std.specs.List.Sorted.{IsNonDecreasingBy}
use Rattle.profile.specs.Ages.{is_heard_in_time}
use Rattle.tags.specs.declared.fault.Fault.{Fault}
use Rattle.tags.specs.declared.fault.Fault.TheVariants.{Expired, Forged}
use Rattle.bus_traffic.specs.declared.sending.Known.{Known}
use Rattle.bus_traffic.specs.declared.sending.Recent.{Recent}
use Rattle.bus_traffic.specs.declared.sending.Sending.{Sending}

-- those of just these octets
abbrev pub equals : {A : Type 0} → (octets : List ℕ) → List (Sending A) → List (Sending A)
equals octets all = filter (λ s. bytes_eq s.octets octets) all

-- the later of a moment and another, if there is another
abbrev pub later_of : ℕ → Option ℕ → ℕ
later_of a None = a
later_of a (Some b) = max a b

-- the youngest of their stamps, if there is any
abbrev pub youngest : {A : Type 0} → List (Sending A) → Option ℕ
youngest [] = None
youngest (s ∷ ss) = Some (later_of s.stamp (youngest ss))

-- How a frame is judged at a moment whose youngest sending has this stamp: nobody sent it, it is too old, or it has
-- that stamp.
abbrev pub judged_by : (now : ℕ) → Option ℕ → Result ℕ Fault
judged_by now None = Err Forged
judged_by now (Some stamp) = if is_heard_in_time stamp now then Ok stamp else Err Expired

-- how a frame of these octets is judged at a moment, where all this was put out on its bus
abbrev pub judged : {A : Type 0} → (now : ℕ) → (octets : List ℕ) → List (Sending A) → Result ℕ Fault
judged now octets all = judged_by now (youngest (equals octets all))

-- what is known of frames of these octets: the youngest of their stamps, and nothing where none was put out
abbrev pub known_of : {A : Type 0} → (octets : List ℕ) → List (Known A) → Option ℕ
known_of octets [] = None
known_of octets (k ∷ ks) = if bytes_eq k.octets octets then Some k.stamp else known_of octets ks

-- nothing is known
abbrev pub is_unknown : Option ℕ → Bool
is_unknown None = true
is_unknown (Some stamp) = false

-- whether each frame is known once, by its octets
abbrev pub are_known_once : {A : Type 0} → List (Known A) → Bool
are_known_once [] = true
are_known_once (k ∷ ks) = is_unknown (known_of k.octets ks) && are_known_once ks

-- each frame is known once
abbrev pub AreKnownOnce : {A : Type 0} → List (Known A) → Type 0
AreKnownOnce ks = are_known_once ks ≡ true

-- what is known of those that may still be heard
abbrev pub young_known : {A : Type 0} → (now : ℕ) → List (Known A) → List (Known A)
young_known now ks = filter (λ k. is_heard_in_time k.stamp now) ks

-- what is known by a sending alone
abbrev pub known_by : {A : Type 0} → Sending A → Known A
known_by s = record { octets = s.octets; stamp = s.stamp }

-- the same with a stamp that may be younger
abbrev pub aged : {A : Type 0} → (stamp : ℕ) → Known A → Known A
aged stamp k = record { octets = k.octets; stamp = max k.stamp stamp }

-- what is known of a frame, where this is known of it too
abbrev pub learned : {A : Type 0} → Known A → List (Known A) → List (Known A)
learned new [] = new ∷ []
learned new (k ∷ ks) = if bytes_eq k.octets new.octets then aged new.stamp k ∷ ks else k ∷ learned new ks

-- it is young enough to be heard at a moment
abbrev pub is_young : {A : Type 0} → (now : ℕ) → Sending A → Bool
is_young now s = is_heard_in_time s.stamp now

-- it was delivered nowhere yet
abbrev pub unheard : {A : Type 0} → Sending A → Recent A
unheard s = record { sending = s; heard = replicate 256 false }

-- it was delivered at an address
abbrev pub is_heard_at : {A : Type 0} → (address : ℕ) → Recent A → Bool
is_heard_at address r = slice_index_or r.heard address false

-- those that may still be heard
abbrev pub young : {A : Type 0} → (now : ℕ) → List (Recent A) → List (Recent A)
young now rs = filter (λ r. is_young now r.sending) rs

-- those that may still be heard, and this behind them
abbrev pub followed : {A : Type 0} → (now : ℕ) → Sending A → List (Recent A) → List (Recent A)
followed now s rs = young now rs ++ unheard s ∷ []

-- a frame may still be heard at a moment, and wasn't delivered at this address, which isn't its sender's
abbrev pub waits_at : {A : Type 0} → (now address : ℕ) → Recent A → Bool
waits_at now address r = is_young now r.sending && (not (address == r.sending.sender) && not (is_heard_at address r))

-- it has just these octets, and waits to be delivered at this address
abbrev pub is_due_at : {A : Type 0} → (now address : ℕ) → (octets : List ℕ) → Recent A → Bool
is_due_at now address octets r = bytes_eq r.sending.octets octets && waits_at now address r

-- it is delivered at an address
abbrev pub marked : {A : Type 0} → (address : ℕ) → Recent A → Recent A
marked address r = record { sending = r.sending; heard = slice_set r.heard address true }

-- just these octets are delivered at an address: they are those of the first that is due there, if one is
abbrev pub delivered : {A : Type 0} → (now address : ℕ) → (octets : List ℕ) → List (Recent A) → List (Recent A)
delivered now address octets [] = []
delivered now address octets (r ∷ rs) =
    if is_due_at now address octets r then marked address r ∷ rs else r ∷ delivered now address octets rs

-- how many frames were put out before it, on all buses
abbrev pub turn_of : {A : Type 0} → Recent A → ℕ
turn_of r = r.sending.place.frames

-- the last of these, if there is any, wasn't put out behind another, as their places say
abbrev pub IsBehindLast : {A : Type 0} → (new : Recent A) → List (Recent A) → Type 0
IsBehindLast {A} new rs = (r : Recent A) → 0 < length rs → turn_of (slice_index_or rs (length rs - 1) r) ≤ turn_of new

-- no frame of these was put out behind one that stands behind it, as their places say
abbrev pub AreInTurn : {A : Type 0} → List (Recent A) → Type 0
AreInTurn rs = IsNonDecreasingBy turn_of rs
