-- A header and an APDU behind it are the NPDU of that APDU.
use Rattle.std.proofs.Common.{◌≡◌, ◌∙◌, ap, List, [], ◌∷◌, ◌++◌, ℕ, Bool, Option, Some, None, append_assoc}
use Rattle.npdu.specs.Header.{PlainDestination, canonical, control_of, dnet_octets}
use Rattle.unitdata.specs.Saying.{header_to}

-- the octets of a header without an APDU, and an APDU behind them
pub begun : (expects_reply : Bool) (d : Option PlainDestination) (out apdu : List ℕ) → out ≡ canonical (header_to expects_reply d []) →
    out ++ apdu ≡ canonical (header_to expects_reply d apdu)
begun expects_reply None out apdu e = ap (λ (o : List ℕ). o ++ apdu) e
begun expects_reply (Some d) out apdu e =
    ap (λ (o : List ℕ). o ++ apdu) e
    ∙ ap (λ (o : List ℕ). 1 ∷ (control_of (header_to expects_reply (Some d) []) ∷ o)) (append_assoc (dnet_octets (Some d)) (d.hops ∷ []) apdu)

pub ruleset say_rules = (begun)
