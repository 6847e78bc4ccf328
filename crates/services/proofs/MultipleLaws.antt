-- Lists of properties are read one property after another.
use Rattle.std.proofs.Common.{◌≡◌, ◌≢◌, ℕ, suc, ◌<◌, List, [], ◌∷◌, ◌++◌, length, Option, Some, None, refl, subst, inl, inr, arith}
use Rattle.tags.specs.Tag.{PlainTag, closing, TakesTag, NoTag}
use Rattle.tags.specs.Element.{context}
use Rattle.apdu.specs.declared.numbers.RejectReason.{RejectReason}
use Rattle.apdu.specs.declared.numbers.RejectReason.TheVariants.{InvalidParameterDataType, InvalidTag, MissingRequiredParameter}
use Rattle.services.specs.Fields.{IsOtherTag, TakesNumber, TakesEach, RejectsTag}
use Rattle.services.specs.Multiple.{OpensList, RejectsFirst, RejectsNext, TakesReference, TakesRefs, RejectsRefs, MustStand, SpellsReadMultiple}
use Rattle.services.specs.Multiple.{RejectsReadMultiple, RejectsReferences, at_index, at_next}
use Rattle.services.specs.MultipleSteps.{TakesNext, IsNext, RejectsNextTag, GoesOn, RejectsGoing, in_option, in_next, References, RejectsPriority}
use Rattle.primitives.specs.declared.plain_data.PropertyReference.{PropertyReference}
use Rattle.primitives.specs.declared.plain_data.ObjectRefs.{ObjectRefs}
use Rattle.primitives.specs.Sound.{IsSoundRefs}
use Rattle.std.specs.List.{AllByRecursion}
use Rattle.services.proofs.Lists.{takes_more, all_more}
use Rattle.services.proofs.Shortens.{number_shortens, option_shortens}
use Rattle.tags.proofs.OneTag.{tag_shortens}
use Rattle.services.proofs.FieldLaws.{some_of_tag, no_contents_of_other, no_contents_of_none, no_closing_of_other, no_closing_of_none}

pub tag_rejects_first : (reason : RejectReason) (octets : List ℕ) → RejectsTag reason octets → RejectsFirst reason octets
tag_rejects_first MissingRequiredParameter octets h = inl h
tag_rejects_first InvalidTag octets h = (h.0, no_closing_of_none octets 1 h.1, no_contents_of_none octets 0 h.1)
tag_rejects_first reason octets h = absurd h

pub ruleset first_laws = (tag_rejects_first, some_of_tag, no_closing_of_other, no_contents_of_other)

-- a further property under the tag that stands there
pub next_taken : (octets : List ℕ) (t : PlainTag) (rest : List ℕ) (next : Option ℕ) → TakesTag octets t rest → IsNext t next → TakesNext octets next rest
next_taken octets t rest None taken is = subst (λ (x : PlainTag). TakesTag octets x rest) is taken
next_taken octets t rest (Some p) taken is = record { inner = is.0; tag = subst (λ (x : PlainTag). TakesTag octets x rest) is.1 taken; said = is.2 }

pub next_rejected : (reason : RejectReason) (octets : List ℕ) (t : PlainTag) (rest : List ℕ) → TakesTag octets t rest → RejectsNextTag reason t →
    RejectsNext reason octets
next_rejected InvalidTag octets t rest taken h = (no_closing_of_other octets t rest 1 taken h.0, no_contents_of_other octets t rest 0 taken h.1)
next_rejected InvalidParameterDataType octets t rest taken h =
    record { inner = h.0; rest = rest; taken = subst (λ (x : PlainTag). TakesTag octets x rest) h.1 taken; bad = h.2 }
next_rejected reason octets t rest taken h = absurd h

pub ruleset next_laws = (next_taken, next_rejected, no_closing_of_none, no_contents_of_none)

pub first_rejected : (octets : List ℕ) (t : PlainTag) (rest : List ℕ) → TakesTag octets t rest → (t ≡ context 1 closing → ⊥) → IsOtherTag t 0 →
    RejectsFirst InvalidTag octets
first_rejected octets t rest taken unclosed other =
    (some_of_tag octets t rest taken, no_closing_of_other octets t rest 1 taken unclosed, no_contents_of_other octets t rest 0 taken other)

-- where no tag stands within a list, neither an optional number nor what goes on is read
pub tag_rejects_going : (reason : RejectReason) (octets : List ℕ) (number : ℕ) → (reason ≡ InvalidTag) × NoTag octets → RejectsGoing reason octets number
tag_rejects_going reason octets number h =
    in_next None octets (no_contents_of_none octets number h.1, refl) (rw (h.0) (no_closing_of_none octets 1 h.1, no_contents_of_none octets 0 h.1))

-- without the optional number, what goes on stands there itself
pub goes_on_without : (octets : List ℕ) (t : PlainTag) (rest : List ℕ) (number : ℕ) (next : Option ℕ) → TakesTag octets t rest → IsOtherTag t number →
    IsNext t next → GoesOn octets number None next rest
goes_on_without octets t rest number next taken other is =
    record { at = octets; option_taken = (no_contents_of_other octets t rest number taken other, refl); next_taken = next_taken octets t rest next taken is }

pub going_rejected_without : (reason : RejectReason) (octets : List ℕ) (t : PlainTag) (rest : List ℕ) (number : ℕ) → TakesTag octets t rest →
    IsOtherTag t number → RejectsNextTag reason t → RejectsGoing reason octets number
going_rejected_without reason octets t rest number taken other h =
    in_next None octets (no_contents_of_other octets t rest number taken other, refl) (next_rejected reason octets t rest taken h)

-- the references that were read, and the property that was read behind them
pub record Before (start : List ℕ) (rs : List PropertyReference) (p : ℕ) (here : List ℕ) : Type 0 where
  pub at : List ℕ
  pub taken : TakesEach TakesReference start rs at
  pub property_taken : TakesNumber at 0 p here

-- where reading the references has come to
abbrev pub Reached : List ℕ → List PropertyReference → Option ℕ → List ℕ → Type 0
Reached start rs None here = References start rs here
Reached start rs (Some p) here = Before start rs p here

abbrev pub left : Option ℕ → List ℕ → ℕ
left None here = 0
left (Some p) here = suc (length here)

abbrev pub reference : ℕ → Option ℕ → PropertyReference
reference p i = record { property = p; index = i }

pub not_empty : {X : Type 0} (xs : List X) (x : X) → xs ++ x ∷ [] ≡ [] → ⊥
not_empty [] x e = cc
not_empty (y ∷ xs) x e = cc

pub one_more_reference : (start : List ℕ) (rs : List PropertyReference) (p : ℕ) (i next : Option ℕ) (here rest : List ℕ) → Before start rs p here →
    GoesOn here 1 i next rest → Reached start (rs ++ reference p i ∷ []) next rest
one_more_reference start rs p i None here rest b g = record {
  at = g.at;
  taken = takes_more TakesReference start b.at g.at rs (reference p i) b.taken record {
    behind_property = here;
    property_taken =
        b.property_taken;
    index_taken = g.option_taken;
  };
  closed = g.next_taken;
  some = not_empty rs (reference p i);
}
one_more_reference start rs p i (Some q) here rest b g = record {
  at = g.at;
  taken = takes_more TakesReference start b.at g.at rs (reference p i) b.taken record {
    behind_property = here;
    property_taken =
        b.property_taken;
    index_taken = g.option_taken;
  };
  property_taken = g.next_taken;
}

next_shortens : (octets : List ℕ) (next : Option ℕ) (rest : List ℕ) → TakesNext octets next rest → left next rest < suc (length octets)
next_shortens octets None rest t = omega arith
next_shortens octets (Some p) rest t = let lt = number_shortens octets 0 p rest t in omega (arith, lt)

pub next_is_shorter : (octets : List ℕ) (next : Option ℕ) (rest : List ℕ) → TakesNext octets next rest → length rest < length octets
next_is_shorter octets None rest t = tag_shortens octets (context 1 closing) rest t
next_is_shorter octets (Some p) rest t = number_shortens octets 0 p rest t

pub going_shortens : (octets : List ℕ) (number : ℕ) (i next : Option ℕ) (rest : List ℕ) → GoesOn octets number i next rest →
    left next rest < suc (length octets)
going_shortens octets number i next rest g =
    let le = option_shortens octets number i g.at g.option_taken in
    let lt = next_shortens g.at next rest g.next_taken in
    omega (arith, le, lt)

pub reference_rejected : (reason : RejectReason) (start : List ℕ) (rs : List PropertyReference) (p : ℕ) (here : List ℕ) → Before start rs p here →
    RejectsGoing reason here 1 → RejectsReferences reason start
reference_rejected reason start rs p here b (in_option h) = at_index rs b.at p here b.taken b.property_taken h
reference_rejected reason start rs p here b (in_next i at t h) =
    at_next (rs ++ reference p i ∷ []) at (not_empty rs (reference p i))
    (takes_more TakesReference start b.at at rs (reference p i) b.taken record { behind_property = here; property_taken = b.property_taken; index_taken = t })
    h

pub refs_taken : {A : Type 0} (octets : List ℕ) (r : ObjectRefs A) (inside rest : List ℕ) → OpensList octets r.object inside → References inside r.refs rest →
    TakesRefs octets r rest
refs_taken octets r inside rest o t = record {
  inside = inside;
  behind_references = t.at;
  opened = o;
  references_taken = t.taken;
  closed = t.closed;
  some =
      t.some;
}

-- the objects that were read, and what is left
pub record ReadBefore {A : Type 0} (start : List ℕ) (asked : List (ObjectRefs A)) (here : List ℕ) : Type 0 where
  pub taken : TakesEach TakesRefs start asked here
  pub sound : AllByRecursion IsSoundRefs asked

pub many_begins : (A : Type 0) (start : List ℕ) → ReadBefore {A = A} start [] start
many_begins A start = record { taken = refl; sound = tt }

pub many_goes_on : {A : Type 0} (start here next : List ℕ) (asked : List (ObjectRefs A)) (r : ObjectRefs A) → ReadBefore start asked here →
    TakesRefs here r next → IsSoundRefs r → ReadBefore start (asked ++ r ∷ []) next
many_goes_on start here next asked r b t h = record {
  taken = takes_more TakesRefs start here next asked r b.taken t;
  sound = all_more IsSoundRefs asked r b.sound h;
}

pub many_stops : {A : Type 0} (reason : RejectReason) (start here : List ℕ) (asked : List (ObjectRefs A)) → ReadBefore start asked here →
    MustStand asked here → RejectsRefs reason here → RejectsReadMultiple A reason start
many_stops reason start here asked b must h = record { before = asked; at = here; taken = b.taken; must = must; rejected = h }

pub ended : {X : Type 0} (before : List X) (here : List ℕ) → (MustStand before here → ⊥) → (here ≡ []) × (before ≢ [])
ended before [] h = (refl, λ e. h (inl e))
ended before (b ∷ rest) h = absurd (h (inr (omega arith)))

pub many_ends : {A : Type 0} (start here : List ℕ) (asked : List (ObjectRefs A)) → ReadBefore start asked here → (MustStand asked here → ⊥) →
    SpellsReadMultiple start asked
many_ends start here asked b h =
    let e = ended asked here h in
    record { taken = subst (λ (x : List ℕ). TakesEach TakesRefs start asked x) e.0 b.taken; some = e.1 }

pub tag_rejects_priority : (reason : RejectReason) (octets : List ℕ) → (reason ≡ InvalidTag) × NoTag octets → RejectsPriority reason octets
tag_rejects_priority reason octets h =
    in_next None octets (no_contents_of_none octets 3 h.1, refl) tt (rw (h.0) (no_closing_of_none octets 1 h.1, no_contents_of_none octets 0 h.1))

pub priority_rejected_without : (reason : RejectReason) (octets : List ℕ) (t : PlainTag) (rest : List ℕ) → TakesTag octets t rest → IsOtherTag t 3 →
    RejectsNextTag reason t → RejectsPriority reason octets
priority_rejected_without reason octets t rest taken other h =
    in_next None octets (no_contents_of_other octets t rest 3 taken other, refl) tt (next_rejected reason octets t rest taken h)
