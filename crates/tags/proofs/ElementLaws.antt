-- The octets of an element never begin those of another element, and when none stands at a front.
use Rattle.std.proofs.Common.{◌≡◌, ◌⊎◌, ◌↔◌, Bool, true, false, ℕ, zero, suc, ◌<◌, length, arith, List, [], ◌∷◌, ◌++◌, append_assoc, refl, sym, ap, subst, ◌∙◌}
use Rattle.std.proofs.Common.{inl, inr}
use Rattle.std.proofs.lemmas.List.{append_cancel_left, append_cancel_right, append-nil, length-append}
use Rattle.tags.specs.declared.tag.Class.TheVariants.{Application, Context}
use Rattle.tags.specs.declared.tag.Class.{Class}
use Rattle.tags.specs.Tag.{PlainTag, PlainContent, null, boolean, contents, opening, closing, SpellsContent, TakesTag, NoTag}
use Rattle.tags.specs.Element.{TakesTags, waiting, Closes, ClosesBefore, NeverCloses, context, IsElement, TakesElement, NoElement}
use Rattle.tags.specs.Refusal.{application}
use Rattle.tags.proofs.OneTag.{one_tag, one_front_tag, tag_some}

contents_opening : (inner : List ℕ) → contents inner ≡ opening → ⊥
contents_opening inner e = cc

-- tags at the front, cut off from what follows, and put in front of something else
tags_alone : (octets : List ℕ) (ts : List PlainTag) (rest : List ℕ) → TakesTags octets ts rest → (front : List ℕ) × TakesTags front ts [] ×
    (octets ≡ front ++ rest)
tags_alone octets [] rest taken = ([], refl, taken)
tags_alone octets (t ∷ ts) rest taken =
    let more = tags_alone taken.0 ts rest taken.2 in
    let first = taken.1 in
    (first.0 ++ more.0, (more.0, (first.0, first.1, refl), more.1), first.2 ∙ ap (λ (x : List ℕ). first.0 ++ x) more.2 ∙ sym (append_assoc first.0 more.0 rest))

tags_before : (octets : List ℕ) (ts : List PlainTag) (rest : List ℕ) → TakesTags octets ts [] → TakesTags (octets ++ rest) ts rest
tags_before octets [] rest taken = ap (λ (x : List ℕ). x ++ rest) taken
tags_before octets (t ∷ ts) rest taken =
    let first = taken.1 in
    (taken.0 ++ rest, (first.0, first.1, ap (λ (x : List ℕ). x ++ rest) first.2 ∙ append_assoc first.0 taken.0 rest), tags_before taken.0 ts rest taken.2)

-- the closing tag that balances an opening one is one
one_closing : (octets : List ℕ) (ts us : List PlainTag) (x y : List ℕ) (n : ℕ) → TakesTags octets ts x → TakesTags octets us y → Closes ts n → Closes us n →
    x ≡ y
one_closing octets [] [] x y n a b c d = sym a ∙ b
one_closing octets [] (u ∷ us) x y zero a b c d = absurd d
one_closing octets [] (u ∷ us) x y (suc n) a b c d = absurd c
one_closing octets (t ∷ ts) [] x y zero a b c d = absurd c
one_closing octets (t ∷ ts) [] x y (suc n) a b c d = absurd d
one_closing octets (t ∷ ts) (u ∷ us) x y zero a b c d = absurd c
one_closing octets (t ∷ ts) (u ∷ us) x y (suc n) a b c d =
    let one = one_front_tag octets t u a.0 b.0 a.1 b.1 in
    one_closing a.0 ts us x y (waiting t.content (suc n)) a.2 (subst (λ (z : List ℕ). TakesTags z us y) (sym one.rest) b.2) c
    (subst (λ (z : PlainTag). Closes us (waiting z.content (suc n))) (sym one.tag) d)

-- the first tag of an element
pub record StartsElement (octets rest : List ℕ) (t : PlainTag) : Type 0 where
  pub context : t.class ≡ Context
  pub next : List ℕ
  pub taken : TakesTag (octets ++ rest) t next

abbrev pub first_tag : (octets : List ℕ) → IsElement octets → PlainTag
first_tag octets (inl p) = context p.number (contents p.inner)
first_tag octets (inr b) = context b.number opening

pub element_starts : (octets rest : List ℕ) (e : IsElement octets) → StartsElement octets rest (first_tag octets e)
element_starts octets rest (inl p) = record { context = refl; next = rest; taken = (octets, p.spelled, refl) }
element_starts octets rest (inr b) = record {
  context = refl;
  next = b.inside ++ rest;
  taken =
      (b.opened.0, b.opened.1, ap (λ (x : List ℕ). x ++ rest) b.opened.2 ∙ append_assoc b.opened.0 b.inside rest);
}

pub one_element : (a b x y : List ℕ) → IsElement a → IsElement b → a ++ x ≡ b ++ y → a ≡ b
unfolding element_starts
one_element a b x y (inl p) (inl q) e = (one_tag a b x y (context p.number (contents p.inner)) (context q.number (contents q.inner)) p.spelled q.spelled
    e).front
one_element a b x y (inl p) (inr q) e =
    let s = element_starts b y (inr q) in
    let one = one_tag a s.taken.0 x s.next (context p.number (contents p.inner)) (context q.number opening) p.spelled s.taken.1 (e ∙ s.taken.2) in
    absurd (contents_opening p.inner (ap (λ (t : PlainTag). t.content) one.tag))
one_element a b x y (inr p) (inl q) e =
    let s = element_starts a x (inr p) in
    let one = one_tag b s.taken.0 y s.next (context q.number (contents q.inner)) (context p.number opening) q.spelled s.taken.1 (sym e ∙ s.taken.2) in
    absurd (contents_opening q.inner (ap (λ (t : PlainTag). t.content) one.tag))
one_element a b x y (inr p) (inr q) e =
    let s = element_starts a x (inr p) in
    let r = element_starts b y (inr q) in
    let one = one_tag s.taken.0 r.taken.0 s.next r.next (context p.number opening) (context q.number opening) s.taken.1 r.taken.1
    (sym s.taken.2 ∙ e ∙ r.taken.2) in
    let at : TakesTags (p.inside ++ x) q.closed.tags y =
    subst (λ (z : List ℕ). TakesTags z q.closed.tags y) (sym one.rest) (tags_before q.inside q.closed.tags y q.closed.taken) in
    let same = one_closing (p.inside ++ x) p.closed.tags q.closed.tags x y 1 (tags_before p.inside p.closed.tags x p.closed.taken) at p.closed.balanced
    q.closed.balanced in
    append_cancel_right a b x (e ∙ ap (λ (z : List ℕ). b ++ z) (sym same))

pub element_some : (octets : List ℕ) → IsElement octets → 0 < length octets
element_some octets (inl p) = tag_some octets (context p.number (contents p.inner)) p.spelled
element_some octets (inr p) = let some = tag_some p.opened.0 (context p.number opening) p.opened.1 in
    rw (p.opened.2) (omega (arith, length-append p.opened.0 p.inside))

-- ---- what an element at a front is

pub primitive_taken : (octets : List ℕ) (number : ℕ) (inner : List ℕ) (rest : List ℕ) → TakesTag octets (context number (contents inner)) rest →
    (front : List ℕ) × TakesElement octets front rest
primitive_taken octets number inner rest taken = (taken.0, (inl record { number = number; inner = inner; spelled = taken.1 }, taken.2))

pub constructed_taken : (octets : List ℕ) (number : ℕ) (inside rest : List ℕ) → TakesTag octets (context number opening) inside → ClosesBefore inside rest →
    (front : List ℕ) × TakesElement octets front rest
constructed_taken octets number inside rest taken c =
    let more = tags_alone inside c.tags rest c.taken in (
      taken.0 ++ more.0,
      (
        inr record {
          number = number;
          inside = more.0;
          opened = (taken.0, taken.1, refl);
          closed =
              record { tags = c.tags; taken = more.1; balanced = c.balanced };
        },
        taken.2 ∙ ap (λ (x : List ℕ). taken.0 ++ x) more.2 ∙ sym (append_assoc taken.0 more.0 rest),
      ),
    )

-- ---- no element at a front

pub no_element_without_tag : (octets : List ℕ) → NoTag octets → NoElement octets
no_element_without_tag octets none = record {
  none = λ front rest b e. let first = element_starts front rest b in
      none.none first.taken.0 first.next (first_tag front b) first.taken.1 (e ∙ first.taken.2);
}

pub no_element_never_closed : (octets : List ℕ) (number : ℕ) (inside : List ℕ) → TakesTag octets (context number opening) inside → NeverCloses inside →
    NoElement octets
unfolding element_starts
no_element_never_closed octets number inside taken never = record {
  none = λ front rest b e.
      elim b as (λ (z : IsElement front). ⊥) [
        | inl p ↦ let one = one_front_tag octets (context number opening) (context p.number (contents p.inner)) inside rest taken (front, p.spelled, e) in
            contents_opening p.inner (sym (ap (λ (t : PlainTag). t.content) one.tag))
        | inr q ↦ let s = element_starts front rest (inr q) in
            let one = one_tag taken.0 s.taken.0 inside s.next (context number opening) (context q.number opening) taken.1 s.taken.1
            (sym taken.2 ∙ e ∙ s.taken.2) in
            never.none rest record {
              tags = q.closed.tags;
              taken =
                  subst (λ (z : List ℕ). TakesTags z q.closed.tags rest) (sym one.rest) (tags_before q.inside q.closed.tags rest q.closed.taken);
              balanced =
                  q.closed.balanced;
            }
      ];
}

-- the octets of a Null or a Boolean are of the application class
pub simple_class : (octets : List ℕ) (t : PlainTag) (next : List ℕ) → TakesTag octets t next → (t.content ≡ null) ⊎ ((b : Bool) × (t.content ≡ boolean b)) →
    t.class ≡ Application
simple_class octets t next taken (inl is) = let s : SpellsContent taken.0 t.class t.number null =
    subst (λ (x : PlainContent). SpellsContent taken.0 t.class t.number x) is taken.1 in s.0
simple_class octets t next taken (inr (false, is)) = let s : SpellsContent taken.0 t.class t.number (boolean false) =
    subst (λ (x : PlainContent). SpellsContent taken.0 t.class t.number x) is taken.1 in s.0
simple_class octets t next taken (inr (true, is)) = let s : SpellsContent taken.0 t.class t.number (boolean true) =
    subst (λ (x : PlainContent). SpellsContent taken.0 t.class t.number x) is taken.1 in s.0

-- an opening or a closing tag is of the context class
pub bracket_class : (octets : List ℕ) (t : PlainTag) (next : List ℕ) → TakesTag octets t next → (t.content ≡ opening) ⊎ (t.content ≡ closing) →
    t.class ≡ Context
bracket_class octets t next taken (inl is) = let s : SpellsContent taken.0 t.class t.number opening =
    subst (λ (x : PlainContent). SpellsContent taken.0 t.class t.number x) is taken.1 in s.0
bracket_class octets t next taken (inr is) = let s : SpellsContent taken.0 t.class t.number closing =
    subst (λ (x : PlainContent). SpellsContent taken.0 t.class t.number x) is taken.1 in s.0

-- a tag of either class, by its number and what it carries
pub application_tag : (octets : List ℕ) (t : PlainTag) (rest : List ℕ) (content : PlainContent) → TakesTag octets t rest → t.class ≡ Application →
    t.content ≡ content → TakesTag octets (application t.number content) rest
application_tag octets t rest content taken class is = (
  taken.0,
  subst (λ (x : PlainContent). SpellsContent taken.0 Application t.number x) is
      (subst (λ (x : Class). SpellsContent taken.0 x t.number t.content) class taken.1),
  taken.2,
)

pub context_tag : (octets : List ℕ) (t : PlainTag) (rest : List ℕ) (content : PlainContent) → TakesTag octets t rest → t.class ≡ Context →
    t.content ≡ content → TakesTag octets (context t.number content) rest
context_tag octets t rest content taken class is = (
  taken.0,
  subst (λ (x : PlainContent). SpellsContent taken.0 Context t.number x) is
      (subst (λ (x : Class). SpellsContent taken.0 x t.number t.content) class taken.1),
  taken.2,
)

first_tag_closing : (front : List ℕ) (b : IsElement front) → (first_tag front b).content ≡ closing → ⊥
first_tag_closing front (inl p) e = cc
first_tag_closing front (inr q) e = cc

-- an application tag or a closing tag begins none
pub no_element_otherwise : (octets : List ℕ) (t : PlainTag) (next : List ℕ) → TakesTag octets t next → (t.class ≡ Application) ⊎ (t.content ≡ closing) →
    NoElement octets
no_element_otherwise octets t next taken other = record {
  none = λ front rest b e.
      let s = element_starts front rest b in
      let one = one_tag taken.0 s.taken.0 next s.next t (first_tag front b) taken.1 s.taken.1 (sym taken.2 ∙ e ∙ s.taken.2) in
      elim other [
        | inl app ↦ let is : t.class ≡ Context = ap (λ (u : PlainTag). u.class) one.tag ∙ s.context in cc
        | inr closes ↦ first_tag_closing front b (sym (ap (λ (u : PlainTag). u.content) one.tag) ∙ closes)
      ];
}

-- an element at the front is all of the octets where nothing is left behind it, and only there
pub element_alone : (octets front rest : List ℕ) → IsElement front → octets ≡ front ++ rest → (rest ≡ []) ↔ IsElement octets
element_alone octets front rest is e = (
  λ none. subst (λ (x : List ℕ). IsElement x) (sym (e ∙ ap (λ (x : List ℕ). front ++ x) none ∙ append-nil front)) is,
  λ whole.
      let same = one_element octets front [] rest whole is (append-nil octets ∙ e) in
      append_cancel_left front rest [] (sym e ∙ same ∙ sym (append-nil front)),
)
