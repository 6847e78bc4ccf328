-- What stands at the front of a body is one field.
use Rattle.std.proofs.Common.{true, false, ◌≡◌, ℕ, ◌<◌, List, [], ◌∷◌, length, None, refl, subst, inl, inr, arith}
use Rattle.tags.specs.Tag.{PlainTag, contents, opening, closing, TakesTag, NoTag}
use Rattle.tags.specs.Element.{context}
use Rattle.tags.specs.Number.{SpellsUnsigned}
use Rattle.tags.specs.Refusal.{IsBadNumber}
use Rattle.tags.proofs.OneTag.{one_front_tag, tag_shortens, no_tag_at_end}
use Rattle.apdu.specs.declared.numbers.RejectReason.{RejectReason}
use Rattle.apdu.specs.declared.numbers.RejectReason.TheVariants.{InvalidTag, MissingRequiredParameter}
use Rattle.services.specs.Fields.{NoContents, NoOpening, NoClosing, IsOtherTag, TakesNumber, RejectsOpening, RejectsBehind, opening_tag, RejectsTag}
use Rattle.services.specs.Fields.{RejectsContents}

pub false_is_not_true : false ≡ true → ⊥
false_is_not_true e = cc

pub some_octets : (octets : List ℕ) → (octets ≡ [] → ⊥) → 0 < length octets
some_octets [] h = absurd (h refl)
some_octets (b ∷ rest) h = omega arith

pub no_contents_of_none : (octets : List ℕ) (number : ℕ) → NoTag octets → NoContents octets number
no_contents_of_none octets number lacks = record { none = λ inner rest u. lacks.none u.0 rest (context number (contents inner)) u.1 u.2 }

pub no_contents_of_other : (octets : List ℕ) (t : PlainTag) (next : List ℕ) (number : ℕ) → TakesTag octets t next → IsOtherTag t number →
    NoContents octets number
no_contents_of_other octets t next number taken is =
    record { none = λ inner rest u. is.other inner (one_front_tag octets t (context number (contents inner)) next rest taken u).tag }

-- where a tag stands, octets do
pub some_of_tag : (octets : List ℕ) (t : PlainTag) (rest : List ℕ) → TakesTag octets t rest → 0 < length octets
some_of_tag octets t rest taken = let short = tag_shortens octets t rest taken in omega (arith, short)

pub other_contents : (octets : List ℕ) (t : PlainTag) (next : List ℕ) (number : ℕ) → TakesTag octets t next → IsOtherTag t number → (0 < length octets) ×
    NoContents octets number
other_contents octets t next number taken is = (some_of_tag octets t next taken, no_contents_of_other octets t next number taken is)

-- where no tag stands, no contents do
pub tag_rejects_contents : (reason : RejectReason) (octets : List ℕ) (number : ℕ) → RejectsTag reason octets → RejectsContents reason octets number
tag_rejects_contents MissingRequiredParameter octets number h = h
tag_rejects_contents InvalidTag octets number h = (h.0, no_contents_of_none octets number h.1)
tag_rejects_contents reason octets number h = absurd h

pub ruleset tag_laws = (some_octets)

pub ruleset contents_laws = (some_of_tag, no_contents_of_other, tag_rejects_contents)

pub bad_number : (octets : List ℕ) → ((0 < length octets) → 4 < length octets) → IsBadNumber octets
bad_number [] h = inl refl
bad_number (b ∷ rest) h = inr (h (omega arith))

pub ruleset number_laws = (bad_number)

pub no_opening_of_none : (octets : List ℕ) (number : ℕ) → NoTag octets → NoOpening octets number
no_opening_of_none octets number lacks = record { none = λ rest u. lacks.none u.0 rest (context number opening) u.1 u.2 }

pub no_opening_of_other : (octets : List ℕ) (t : PlainTag) (next : List ℕ) (number : ℕ) → TakesTag octets t next → (t ≡ context number opening → ⊥) →
    NoOpening octets number
no_opening_of_other octets t next number taken is = record { none = λ rest u. is (one_front_tag octets t (context number opening) next rest taken u).tag }

pub tag_rejects_opening : (reason : RejectReason) (octets : List ℕ) (number : ℕ) → RejectsTag reason octets → RejectsOpening reason octets number
tag_rejects_opening MissingRequiredParameter octets number h = h
tag_rejects_opening InvalidTag octets number h = (h.0, no_opening_of_none octets number h.1)
tag_rejects_opening reason octets number h = absurd h

pub ruleset opening_laws = (some_of_tag, no_opening_of_other, tag_rejects_opening)

-- where no tag stands, no optional number does, and the opening tag behind it is rejected
pub tag_rejects_behind : (reason : RejectReason) (octets : List ℕ) (number list : ℕ) → RejectsTag reason octets → RejectsBehind reason octets number list
tag_rejects_behind reason octets number list h = opening_tag None octets (absent reason octets number h, refl) (tag_rejects_opening reason octets list h)
  where
    absent : (reason : RejectReason) (octets : List ℕ) (number : ℕ) → RejectsTag reason octets → NoContents octets number
    absent MissingRequiredParameter octets number h = no_contents_of_none octets number (no_tag_at_end octets h)
    absent InvalidTag octets number h = no_contents_of_none octets number h.1
    absent reason octets number h = absurd h

-- another tag than both
pub other_behind : (octets : List ℕ) (t : PlainTag) (next : List ℕ) (number list : ℕ) → TakesTag octets t next → IsOtherTag t number →
    (t ≡ context list opening → ⊥) → RejectsBehind InvalidTag octets number list
other_behind octets t next number list taken is isnt =
    opening_tag None octets (no_contents_of_other octets t next number taken is, refl)
    (some_of_tag octets t next taken, no_opening_of_other octets t next list taken isnt)

pub number_taken : (octets : List ℕ) (t : PlainTag) (rest : List ℕ) (number : ℕ) (inner : List ℕ) (n : ℕ) → TakesTag octets t rest →
    t ≡ context number (contents inner) → SpellsUnsigned inner n → TakesNumber octets number n rest
number_taken octets t rest number inner n taken e is = record { inner = inner; tag = subst (λ (x : PlainTag). TakesTag octets x rest) e taken; said = is }

pub ruleset behind_laws = (no_contents_of_other)

pub ruleset last_laws = (some_octets)

pub no_closing_of_none : (octets : List ℕ) (number : ℕ) → NoTag octets → NoClosing octets number
no_closing_of_none octets number lacks = record { none = λ rest u. lacks.none u.0 rest (context number closing) u.1 u.2 }

pub no_closing_of_other : (octets : List ℕ) (t : PlainTag) (next : List ℕ) (number : ℕ) → TakesTag octets t next → (t ≡ context number closing → ⊥) →
    NoClosing octets number
no_closing_of_other octets t next number taken is = record { none = λ rest u. is (one_front_tag octets t (context number closing) next rest taken u).tag }

pub tag_rejects_closing : (reason : RejectReason) (octets : List ℕ) (number : ℕ) → RejectsTag reason octets → NoClosing octets number
tag_rejects_closing MissingRequiredParameter octets number h = no_closing_of_none octets number (no_tag_at_end octets h)
tag_rejects_closing InvalidTag octets number h = no_closing_of_none octets number h.1
tag_rejects_closing reason octets number h = absurd h

pub ruleset closing_laws = (no_closing_of_other, tag_rejects_closing)

pub no_tag_of_reason : (reason : RejectReason) (octets : List ℕ) → RejectsTag reason octets → NoTag octets
no_tag_of_reason MissingRequiredParameter octets h = no_tag_at_end octets h
no_tag_of_reason InvalidTag octets h = h.1
no_tag_of_reason reason octets h = absurd h

pub ruleset inner_laws = (no_tag_of_reason)
