-- Whether a frame waits, and is due, whatever is asked first.
use Rattle.std.proofs.Common.{◌≡◌, refl, ℕ, List, Bool, true, false}
use Rattle.std.specs.Prelude.{◌&&◌, ◌==◌, bytes_eq, not}
use Rattle.bus_traffic.specs.Sendings.{is_due_at, is_heard_at, is_young, waits_at}
use Rattle.bus_traffic.specs.declared.sending.Recent.{Recent}

none_left : (young other heard : Bool) → heard ≡ true → false ≡ (young && (other && not heard))
none_left true true true e = refl
none_left true false true e = refl
none_left false true true e = refl
none_left false false true e = refl
none_left true true false e = absurd (cc e)
none_left true false false e = refl
none_left false true false e = refl
none_left false false false e = refl

all_left : (young other heard : Bool) → heard ≡ false → (young && other) ≡ (young && (other && not heard))
all_left true true false e = refl
all_left true false false e = refl
all_left false true false e = refl
all_left false false false e = refl
all_left true true true e = absurd (cc e)
all_left true false true e = refl
all_left false true true e = refl
all_left false false true e = refl

-- one that was delivered at an address doesn't wait there
pub heard_not : {A : Type 0} (now address : ℕ) (r : Recent A) → is_heard_at address r ≡ true →
    false ≡ waits_at now address r
heard_not now address r e = none_left (is_young now r.sending) (not (address == r.sending.sender)) (is_heard_at address r) e

pub not_heard : {A : Type 0} (now address : ℕ) (r : Recent A) → is_heard_at address r ≡ false →
    (is_young now r.sending && not (address == r.sending.sender)) ≡ waits_at now address r
not_heard now address r e = all_left (is_young now r.sending) (not (address == r.sending.sender)) (is_heard_at address r) e

pub ruleset waits_rules = (heard_not, not_heard)

none_due : (same waits : Bool) → waits ≡ false → false ≡ (same && waits)
none_due true false e = refl
none_due false false e = refl
none_due true true e = absurd (cc e)
none_due false true e = refl

all_due : (same waits : Bool) → waits ≡ true → same ≡ (same && waits)
all_due true true e = refl
all_due false true e = refl
all_due true false e = absurd (cc e)
all_due false false e = refl

-- .. and isn't due; one that waits is due where it has the octets
pub not_due : {A : Type 0} (now address : ℕ) (octets : List ℕ) (r : Recent A) → waits_at now address r ≡ false →
    false ≡ is_due_at now address octets r
not_due now address octets r e = none_due (bytes_eq r.sending.octets octets) (waits_at now address r) e

pub is_due : {A : Type 0} (now address : ℕ) (octets : List ℕ) (r : Recent A) → waits_at now address r ≡ true →
    bytes_eq r.sending.octets octets ≡ is_due_at now address octets r
is_due now address octets r e = all_due (bytes_eq r.sending.octets octets) (waits_at now address r) e

pub ruleset due_rules = (not_due, is_due)
