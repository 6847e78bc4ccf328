-- Whether octets are UTF-8, as a test.
use Rattle.std.proofs.Common.{◌≡◌, ℕ, Bool, true, false, List, [], refl}
use Rattle.std.specs.Str.{IsUtf8, is_utf8}
use Rattle.object_model.specs.Site.{IsText}
use Rattle.std.proofs.lemmas.Str.{is_utf8-from_IsUtf8, IsUtf8-from_is_utf8}

pub utf8_true : (octets : List ℕ) → IsUtf8 octets → is_utf8 octets ≡ true
utf8_true octets u = is_utf8-from_IsUtf8 octets u

false_unless : (b : Bool) → (b ≡ true → ⊥) → b ≡ false
false_unless true f = absurd (f (λ i. true))
false_unless false f = λ i. false

pub utf8_false : (octets : List ℕ) → (IsUtf8 octets → ⊥) → is_utf8 octets ≡ false
utf8_false octets f = false_unless (is_utf8 octets) (λ e. f (IsUtf8-from_is_utf8 octets e))

pub ruleset text_rules = (utf8_true, utf8_false)

-- no octets are a text
pub empty_text : IsText []
empty_text = rw (is_utf8-from_IsUtf8 [] ([], (refl, refl))) refl
