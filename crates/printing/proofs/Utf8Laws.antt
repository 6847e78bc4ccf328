-- What is UTF-8 is told by its test.
use Rattle.std.proofs.Common.{◌≡◌, refl, ℕ, List, Bool, true, false}
use Rattle.std.specs.Str.{IsUtf8, is_utf8}
use Rattle.std.proofs.lemmas.Str.{IsUtf8-from_is_utf8, is_utf8-from_IsUtf8}

pub is_readable : (octets : List ℕ) → IsUtf8 octets → is_utf8 octets ≡ true
is_readable octets u = is_utf8-from_IsUtf8 octets u

told : (octets : List ℕ) (b : Bool) → is_utf8 octets ≡ b → ¬ (IsUtf8 octets) → b ≡ false
told octets true e none = absurd (none (IsUtf8-from_is_utf8 octets e))
told octets false e none = refl

pub is_unreadable : (octets : List ℕ) → ¬ (IsUtf8 octets) → is_utf8 octets ≡ false
is_unreadable octets none = told octets (is_utf8 octets) refl none

pub ruleset readable_laws = (is_readable, is_unreadable)
