-- A refusal excludes each spelling, and octets have one refusal only.
use Rattle.std.proofs.Common.{◌≡◌, ◌⊎◌, ℕ, zero, suc, ◌+◌, ◌*◌, ◌/◌, ◌%◌, ◌<◌, ◌≤◌, List, [], ◌∷◌, ◌++◌, length, true, false, refl, sym, ap, subst, ◌∙◌}
use Rattle.std.proofs.Common.{append_assoc, inl, inr, arith}
use Rattle.std.proofs.lemmas.Bool.{cases_lt, lt-ltb, le-ltb}
use Rattle.std.proofs.lemmas.List.{append-nil, length-append}
use Rattle.tags.specs.declared.fault.Fault.{Fault}
use Rattle.tags.specs.declared.fault.Fault.TheVariants.{Short, BadTag, BadLength}
use Rattle.tags.specs.declared.tag.Class.{Class}
use Rattle.tags.specs.declared.tag.Class.TheVariants.{Application, Context}
use Rattle.tags.specs.Tag.{PlainTag, PlainContent, null, boolean, contents, opening, closing, class_bit, number_bits, number_octets, length_bits, length_octets}
use Rattle.tags.specs.Tag.{HasContents, SpellsContent, SpellsTag, TakesTag, NoTag, IsCutTag, IsReservedNumber, IsReservedTag, IsBadTagLength, RefusesTag}
use Rattle.tags.specs.Element.{TakesTags, waiting, Closes, StayOpen, NeverCloses, context}
use Rattle.tags.specs.Value.{NoValue}
use Rattle.tags.specs.Refusal.{application, RefusesInside, RefusesOpened, RefusesSomeTag, BeginsWithClosing, HasBadContents, RefusesValue}
use Rattle.tags.proofs.TagLaws.{length_bits-lt, number_bits_above}
use Rattle.tags.proofs.OneTag.{one_tag, one_front_tag}
use Rattle.tags.proofs.ElementLaws.{no_element_never_closed}
use Rattle.tags.proofs.ValueLaws.{no_value_without_tag, no_value_of_context, no_value_of_closing, no_value_of_contents}

-- ---- tags

low_bits : (class : Class) (bits low : ℕ) → low < 8 → (class ≡ Application → low < 6) → ((16 * bits + class_bit class + low) / 8 % 2 ≡ 0) ×
    (5 < (16 * bits + class_bit class + low) % 8) → ⊥
low_bits Application bits low small plain r = let p = plain refl in omega (arith, r.1)
low_bits Context bits low small plain r = omega (arith, r.0)

not_extended : (class : Class) (number low : ℕ) → low < 8 → number < 15 → 240 ≤ 16 * number_bits number + class_bit class + low → ⊥
not_extended Application number low small short le = let t = lt-ltb number 15 short in let e : number_bits number ≡ number = rw t refl in omega arith
not_extended Context number low small short le = let t = lt-ltb number 15 short in let e : number_bits number ≡ number = rw t refl in omega arith

not_reserved : (number : ℕ) (rest : List ℕ) → 15 ≤ number → number < 255 → IsReservedNumber (number_octets number ++ rest) → ⊥
not_reserved number rest long lt r =
    let t = le-ltb number 15 long in
    let is : number_octets number ≡ number ∷ [] = rw t refl in
    let reserved : (number < 15) ⊎ (255 ≤ number) = subst (λ (x : List ℕ). IsReservedNumber (x ++ rest)) is r in
    elim reserved [ inl a ↦ omega arith | inr b ↦ omega arith ]

-- the first octets of a tag with a number and these low bits are not reserved
number_not_reserved : (class : Class) (number low : ℕ) (rest : List ℕ) → number < 255 → low < 8 → (class ≡ Application → low < 6) →
    IsReservedTag ((16 * number_bits number + class_bit class + low) ∷ (number_octets number ++ rest)) → ⊥
number_not_reserved class number low rest lt small plain (inl r) = low_bits class (number_bits number) low small plain r
number_not_reserved class number low rest lt small plain (inr r) =
    elim (cases_lt number 15) [
      | inl short ↦ absurd (not_extended class number low small short r.0)
      | inr long ↦ not_reserved number rest long lt r.1
    ]

spelled_not_reserved : (front rest : List ℕ) (class : Class) (number : ℕ) (content : PlainContent) → SpellsContent front class number content →
    IsReservedTag (front ++ rest) → ⊥
spelled_not_reserved front rest class number null s r = let q : IsReservedTag (0 ∷ rest) = subst (λ (x : List ℕ). IsReservedTag (x ++ rest)) (s.2) r in
    elim q [ inl a ↦ omega (arith, a.1) | inr b ↦ omega (arith, b.0) ]
spelled_not_reserved front rest class number (boolean false) s r = let q : IsReservedTag (16 ∷ rest) =
    subst (λ (x : List ℕ). IsReservedTag (x ++ rest)) (s.2) r in elim q [ inl a ↦ omega (arith, a.1) | inr b ↦ omega (arith, b.0) ]
spelled_not_reserved front rest class number (boolean true) s r = let q : IsReservedTag (17 ∷ rest) =
    subst (λ (x : List ℕ). IsReservedTag (x ++ rest)) (s.2) r in elim q [ inl a ↦ omega (arith, a.1) | inr b ↦ omega (arith, b.0) ]
spelled_not_reserved front rest class number (contents inner) s r =
    let low = length_bits s.form (length inner) in
    let lt = length_bits-lt s.form (length inner) s.length_fits in
    let behind = length_octets s.form (length inner) ++ inner in
    let q = subst (λ (x : List ℕ). IsReservedTag (x ++ rest)) s.parts r in
    number_not_reserved class number low (behind ++ rest) s.number_fits (omega arith) (λ is. lt)
    (subst (λ (x : List ℕ). IsReservedTag ((16 * number_bits number + class_bit class + low) ∷ x)) (append_assoc (number_octets number) behind rest) q)
spelled_not_reserved front rest class number opening s r =
    number_not_reserved Context number 6 rest s.1 (omega arith) (λ is. absurd cc) (subst (λ (x : List ℕ). IsReservedTag (x ++ rest)) s.2 r)
spelled_not_reserved front rest class number closing s r =
    number_not_reserved Context number 7 rest s.1 (omega arith) (λ is. absurd cc) (subst (λ (x : List ℕ). IsReservedTag (x ++ rest)) s.2 r)

-- a Null or Boolean of another length has an initial octet that no tag has
not_bad_length : (class : Class) (bits low : ℕ) → low < 8 → (class ≡ Application → (1 < bits) × (low < 6)) →
    ((0 < 16 * bits + class_bit class + low) × (16 * bits + class_bit class + low < 6)) ⊎
    ((17 < 16 * bits + class_bit class + low) × (16 * bits + class_bit class + low < 22)) → ⊥
not_bad_length Application bits low small plain (inl r) = let p = plain refl in omega (arith, r.1, p.0)
not_bad_length Application bits low small plain (inr r) = let p = plain refl in omega (arith, r.1, p.0)
not_bad_length Context bits low small plain (inl r) = omega (arith, r.1)
not_bad_length Context bits low small plain (inr r) = omega (arith, r.0, r.1)

spelled_not_bad_length : (front rest : List ℕ) (class : Class) (number : ℕ) (content : PlainContent) → SpellsContent front class number content →
    IsBadTagLength (front ++ rest) → ⊥
spelled_not_bad_length front rest class number null s r = let q : IsBadTagLength (0 ∷ rest) = subst (λ (x : List ℕ). IsBadTagLength (x ++ rest)) (s.2) r in
    elim q [ inl a ↦ omega (arith, a.0) | inr b ↦ omega (arith, b.0) ]
spelled_not_bad_length front rest class number (boolean false) s r = let q : IsBadTagLength (16 ∷ rest) =
    subst (λ (x : List ℕ). IsBadTagLength (x ++ rest)) (s.2) r in elim q [ inl a ↦ omega (arith, a.1) | inr b ↦ omega (arith, b.0) ]
spelled_not_bad_length front rest class number (boolean true) s r = let q : IsBadTagLength (17 ∷ rest) =
    subst (λ (x : List ℕ). IsBadTagLength (x ++ rest)) (s.2) r in elim q [ inl a ↦ omega (arith, a.1) | inr b ↦ omega (arith, b.0) ]
spelled_not_bad_length front rest class number (contents inner) s r =
    let low = length_bits s.form (length inner) in
    let lt = length_bits-lt s.form (length inner) s.length_fits in
    not_bad_length class (number_bits number) low (omega arith) (λ is. (number_bits_above number (subst (λ (x : Class). HasContents x number) is s.may), lt))
    (subst (λ (x : List ℕ). IsBadTagLength (x ++ rest)) s.parts r)
spelled_not_bad_length front rest class number opening s r =
    not_bad_length Context (number_bits number) 6 (omega arith) (λ is. absurd cc) (subst (λ (x : List ℕ). IsBadTagLength (x ++ rest)) s.2 r)
spelled_not_bad_length front rest class number closing s r =
    not_bad_length Context (number_bits number) 7 (omega arith) (λ is. absurd cc) (subst (λ (x : List ℕ). IsBadTagLength (x ++ rest)) s.2 r)

-- a tag that is refused is not spelled
cut_has_no_tag : (octets front rest : List ℕ) (t : PlainTag) → IsCutTag octets → SpellsTag front t → octets ≡ front ++ rest → ⊥
cut_has_no_tag octets front rest t cut s e =
    let whole : front ++ (rest ++ cut.more) ≡ (octets ++ cut.more) ++ [] = sym (append_assoc front rest cut.more) ∙ ap (λ (x : List ℕ). x ++ cut.more) (sym e)
    ∙ sym (append-nil (octets ++ cut.more)) in
    let one = one_tag front (octets ++ cut.more) (rest ++ cut.more) [] t cut.tag s cut.spelled whole in
    let front-len = ap (λ (x : List ℕ). length x) one.front in
    let octets-len = ap (λ (x : List ℕ). length x) e in
    omega (arith, cut.lacks, front-len, octets-len, length-append octets cut.more, length-append front rest)

pub refused_is_no_tag : (fault : Fault) (octets : List ℕ) → RefusesTag fault octets → NoTag octets
refused_is_no_tag Short octets r = record { none = λ front rest t s e. cut_has_no_tag octets front rest t r s e }
refused_is_no_tag BadTag octets r = record {
  none =
      λ front rest t s e. spelled_not_reserved front rest t.class t.number t.content s (subst (λ (x : List ℕ). IsReservedTag x) e r);
}
refused_is_no_tag BadLength octets r = record {
  none =
      λ front rest t s e. spelled_not_bad_length front rest t.class t.number t.content s (subst (λ (x : List ℕ). IsBadTagLength x) e r);
}
refused_is_no_tag fault octets r = absurd r

reserved_grows : (octets more : List ℕ) → IsReservedTag octets → IsReservedTag (octets ++ more)
reserved_grows [] more r = absurd r
reserved_grows (first ∷ rest) more (inl r) = inl r
reserved_grows (first ∷ []) more (inr r) = absurd r.1
reserved_grows (first ∷ number ∷ rest) more (inr r) = inr r

bad_length_grows : (octets more : List ℕ) → IsBadTagLength octets → IsBadTagLength (octets ++ more)
bad_length_grows [] more r = absurd r
bad_length_grows (first ∷ rest) more r = r

cut_or_reserved : (octets : List ℕ) → IsCutTag octets → IsReservedTag octets → ⊥
cut_or_reserved octets cut r = spelled_not_reserved (octets ++ cut.more) [] cut.tag.class cut.tag.number cut.tag.content cut.spelled
    (subst (λ (x : List ℕ). IsReservedTag x) (sym (append-nil (octets ++ cut.more))) (reserved_grows octets cut.more r))

cut_or_bad_length : (octets : List ℕ) → IsCutTag octets → IsBadTagLength octets → ⊥
cut_or_bad_length octets cut r = spelled_not_bad_length (octets ++ cut.more) [] cut.tag.class cut.tag.number cut.tag.content cut.spelled
    (subst (λ (x : List ℕ). IsBadTagLength x) (sym (append-nil (octets ++ cut.more))) (bad_length_grows octets cut.more r))

reserved_or_bad_length : (octets : List ℕ) → IsReservedTag octets → IsBadTagLength octets → ⊥
reserved_or_bad_length [] r b = r
reserved_or_bad_length (first ∷ rest) (inl r) (inl b) = omega (arith, r.1, b.1)
reserved_or_bad_length (first ∷ rest) (inl r) (inr b) = omega (arith, r.0, r.1, b.0, b.1)
reserved_or_bad_length (first ∷ rest) (inr r) (inl b) = omega (arith, r.0, b.1)
reserved_or_bad_length (first ∷ rest) (inr r) (inr b) = omega (arith, r.0, b.1)

pub one_tag_refusal : (f g : Fault) (octets : List ℕ) → RefusesTag f octets → RefusesTag g octets → f ≡ g
one_tag_refusal Short Short octets r s = refl
one_tag_refusal BadTag BadTag octets r s = refl
one_tag_refusal BadLength BadLength octets r s = refl
one_tag_refusal Short BadTag octets r s = absurd (cut_or_reserved octets r s)
one_tag_refusal BadTag Short octets r s = absurd (cut_or_reserved octets s r)
one_tag_refusal Short BadLength octets r s = absurd (cut_or_bad_length octets r s)
one_tag_refusal BadLength Short octets r s = absurd (cut_or_bad_length octets s r)
one_tag_refusal BadTag BadLength octets r s = absurd (reserved_or_bad_length octets r s)
one_tag_refusal BadLength BadTag octets r s = absurd (reserved_or_bad_length octets s r)
one_tag_refusal Short g octets r s = absurd s
one_tag_refusal BadTag g octets r s = absurd s
one_tag_refusal BadLength g octets r s = absurd s
one_tag_refusal f g octets r s = absurd r

-- ---- values

-- the tags up to where none stands are one list
one_stop : (octets : List ℕ) (ts us : List PlainTag) (x y : List ℕ) → TakesTags octets ts x → TakesTags octets us y → NoTag x → NoTag y → x ≡ y
one_stop octets [] [] x y a b nowhere none = sym a ∙ b
one_stop octets [] (u ∷ us) x y a b nowhere none = absurd (nowhere.none b.1.0 b.0 u b.1.1 (sym a ∙ b.1.2))
one_stop octets (t ∷ ts) [] x y a b nowhere none = absurd (none.none a.1.0 a.0 t a.1.1 (sym b ∙ a.1.2))
one_stop octets (t ∷ ts) (u ∷ us) x y a b nowhere none =
    let one = one_front_tag octets t u a.0 b.0 a.1 b.1 in
    one_stop a.0 ts us x y a.2 (subst (λ (z : List ℕ). TakesTags z us y) (sym one.rest) b.2) nowhere none

-- tags that leave an element open, with none behind them, are no part of tags that close it
never_closes : (octets : List ℕ) (ts us : List PlainTag) (x y : List ℕ) (n : ℕ) → TakesTags octets ts x → TakesTags octets us y → Closes ts n →
    StayOpen us n → NoTag y → ⊥
never_closes octets [] us x y (suc n) a b c d none = c
never_closes octets [] [] x y zero a b c d none = d
never_closes octets [] (u ∷ us) x y zero a b c d none = d
never_closes octets (t ∷ ts) us x y zero a b c d none = c
never_closes octets (t ∷ ts) [] x y (suc n) a b c d none = none.none a.1.0 a.0 t a.1.1 (sym b ∙ a.1.2)
never_closes octets (t ∷ ts) (u ∷ us) x y (suc n) a b c d none =
    let one = one_front_tag octets t u a.0 b.0 a.1 b.1 in
    never_closes a.0 ts us x y (waiting t.content (suc n)) a.2 (subst (λ (z : List ℕ). TakesTags z us y) (sym one.rest) b.2) c
    (subst (λ (z : PlainTag). StayOpen us (waiting z.content (suc n))) (sym one.tag) d) none

inside_never_closes : (fault : Fault) (inside : List ℕ) → RefusesInside fault inside → NeverCloses inside
inside_never_closes fault inside r = record {
  none = λ after c. never_closes inside c.tags r.reached.tags after r.rest 1 c.taken r.reached.taken c.balanced r.reached.left_open
      (refused_is_no_tag fault r.rest r.refused);
}

opened_is_no_value : (A : Type 0) (fault : Fault) (octets : List ℕ) → RefusesOpened fault octets → NoValue A octets
opened_is_no_value A fault octets r = no_value_of_context octets (context r.number opening) r.inside r.opened refl
    (no_element_never_closed octets r.number r.inside r.opened (inside_never_closes fault r.inside r.refused))

some_tag_is_no_value : (A : Type 0) (fault : Fault) (octets : List ℕ) → RefusesSomeTag fault octets → NoValue A octets
some_tag_is_no_value A fault octets (inl r) = no_value_without_tag octets (refused_is_no_tag fault octets r)
some_tag_is_no_value A fault octets (inr r) = opened_is_no_value A fault octets r

-- what is refused begins with no value
pub refused_is_no_value : (A : Type 0) (fault : Fault) (octets : List ℕ) → RefusesValue fault octets → NoValue A octets
refused_is_no_value A Short octets r = some_tag_is_no_value A Short octets r
refused_is_no_value A BadTag octets (inl r) = some_tag_is_no_value A BadTag octets r
refused_is_no_value A BadTag octets (inr r) = no_value_of_closing octets (context r.number closing) r.rest r.taken refl
refused_is_no_value A BadLength octets (inl r) = some_tag_is_no_value A BadLength octets r
refused_is_no_value A BadLength octets (inr r) = no_value_of_contents octets r.number r.inner r.rest r.taken r.bad
refused_is_no_value A fault octets r = absurd r

one_opened_refusal : (f g : Fault) (octets : List ℕ) → RefusesOpened f octets → RefusesOpened g octets → f ≡ g
one_opened_refusal f g octets r s =
    let one = one_front_tag octets (context r.number opening) (context s.number opening) r.inside s.inside r.opened s.opened in
    let taken = subst (λ (z : List ℕ). TakesTags z s.refused.reached.tags s.refused.rest) (sym one.rest) s.refused.reached.taken in
    let stop = one_stop r.inside r.refused.reached.tags s.refused.reached.tags r.refused.rest s.refused.rest r.refused.reached.taken taken
    (refused_is_no_tag f _ r.refused.refused) (refused_is_no_tag g _ s.refused.refused) in
    one_tag_refusal f g r.refused.rest r.refused.refused (subst (λ (z : List ℕ). RefusesTag g z) (sym stop) s.refused.refused)

-- what the first tag carries, where it is read at all
one_content : (octets : List ℕ) (t u : PlainTag) (x y : List ℕ) → TakesTag octets t x → TakesTag octets u y → t.content ≡ u.content
one_content octets t u x y s r = ap (λ (z : PlainTag). z.content) (one_front_tag octets t u x y s r).tag

one_some_refusal : (f g : Fault) (octets : List ℕ) → RefusesSomeTag f octets → RefusesSomeTag g octets → f ≡ g
one_some_refusal f g octets (inl r) (inl s) = one_tag_refusal f g octets r s
one_some_refusal f g octets (inl r) (inr s) = absurd ((refused_is_no_tag f octets r).none s.opened.0 s.inside (context s.number opening) s.opened.1 s.opened.2)
one_some_refusal f g octets (inr r) (inl s) = absurd ((refused_is_no_tag g octets s).none r.opened.0 r.inside (context r.number opening) r.opened.1 r.opened.2)
one_some_refusal f g octets (inr r) (inr s) = one_opened_refusal f g octets r s

-- a tag that is read and opens nothing is another cause than a refused one
some_tag_or : (fault : Fault) (octets : List ℕ) (t : PlainTag) (rest : List ℕ) → RefusesSomeTag fault octets → TakesTag octets t rest →
    (t.content ≡ opening → ⊥) → ⊥
some_tag_or fault octets t rest (inl r) taken other = (refused_is_no_tag fault octets r).none taken.0 rest t taken.1 taken.2
some_tag_or fault octets t rest (inr r) taken other = other (one_content octets t (context r.number opening) rest r.inside taken r.opened)

some_tag_or_closing : (fault : Fault) (octets : List ℕ) → RefusesSomeTag fault octets → BeginsWithClosing octets → ⊥
some_tag_or_closing fault octets r c = some_tag_or fault octets (context c.number closing) c.rest r c.taken (λ e. absurd cc)

some_tag_or_contents : (fault : Fault) (octets : List ℕ) → RefusesSomeTag fault octets → HasBadContents octets → ⊥
some_tag_or_contents fault octets r c = some_tag_or fault octets (application c.number (contents c.inner)) c.rest r c.taken (λ e. absurd cc)

closing_or_contents : (octets : List ℕ) → BeginsWithClosing octets → HasBadContents octets → ⊥
closing_or_contents octets c b =
    let e : closing ≡ contents b.inner = one_content octets (context c.number closing) (application b.number (contents b.inner)) c.rest b.rest c.taken
    b.taken in
    cc

-- octets have one refusal
pub one_refusal : (f g : Fault) (octets : List ℕ) → RefusesValue f octets → RefusesValue g octets → f ≡ g
one_refusal Short Short octets r s = refl
one_refusal BadTag BadTag octets r s = refl
one_refusal BadLength BadLength octets r s = refl
one_refusal Short BadTag octets r (inl s) = one_some_refusal Short BadTag octets r s
one_refusal Short BadTag octets r (inr s) = absurd (some_tag_or_closing Short octets r s)
one_refusal BadTag Short octets (inl r) s = one_some_refusal BadTag Short octets r s
one_refusal BadTag Short octets (inr r) s = absurd (some_tag_or_closing Short octets s r)
one_refusal Short BadLength octets r (inl s) = one_some_refusal Short BadLength octets r s
one_refusal Short BadLength octets r (inr s) = absurd (some_tag_or_contents Short octets r s)
one_refusal BadLength Short octets (inl r) s = one_some_refusal BadLength Short octets r s
one_refusal BadLength Short octets (inr r) s = absurd (some_tag_or_contents Short octets s r)
one_refusal BadTag BadLength octets (inl r) (inl s) = one_some_refusal BadTag BadLength octets r s
one_refusal BadTag BadLength octets (inl r) (inr s) = absurd (some_tag_or_contents BadTag octets r s)
one_refusal BadTag BadLength octets (inr r) (inl s) = absurd (some_tag_or_closing BadLength octets s r)
one_refusal BadTag BadLength octets (inr r) (inr s) = absurd (closing_or_contents octets r s)
one_refusal BadLength BadTag octets (inl r) (inl s) = one_some_refusal BadLength BadTag octets r s
one_refusal BadLength BadTag octets (inr r) (inl s) = absurd (some_tag_or_contents BadTag octets s r)
one_refusal BadLength BadTag octets (inl r) (inr s) = absurd (some_tag_or_closing BadLength octets r s)
one_refusal BadLength BadTag octets (inr r) (inr s) = absurd (closing_or_contents octets s r)
one_refusal Short g octets r s = absurd s
one_refusal BadTag g octets r s = absurd s
one_refusal BadLength g octets r s = absurd s
one_refusal f g octets r s = absurd r
