-- The octets of a value never begin those of another value, and when none stands at a front.
use Rattle.std.proofs.Common.{refl, ◌≡◌, ◌⊎◌, ℕ, List, ◌++◌, Result, Ok, Err, true, false, sym, ap, subst, ◌∙◌, inl, inr, arith, ◌<◌, [], ◌∷◌, length}
use Rattle.std.specs.Prelude.{IfErr}
use Rattle.std.proofs.lemmas.List.{append_cancel_left, length-append}
use Rattle.tags.specs.declared.fault.Fault.{Fault}
use Rattle.tags.specs.declared.fault.Fault.TheVariants.{Memory, Short, BadTag, BadLength}
use Rattle.tags.specs.declared.tag.Class.{Class}
use Rattle.tags.specs.declared.tag.Class.TheVariants.{Application, Context}
use Rattle.tags.specs.declared.object_id.ObjectId.{ObjectId}
use Rattle.tags.specs.declared.value.Value.{Value}
use Rattle.tags.specs.declared.value.Value.TheVariants as value
use Rattle.tags.specs.Tag.{PlainTag, PlainContent, null, boolean, contents, opening, closing, SpellsContent, TakesTag, NoTag}
use Rattle.tags.specs.Element.{IsElement, NoElement}
use Rattle.tags.specs.Value.{Says, Carries, SpellsByTag, SpellsValue, SpellsValues, TakesValue, NoValue}
use Rattle.tags.specs.Refusal.{application, IsBadContents, RefusesSomeTag, RefusesElement, RefusesValue}
use Rattle.tags.proofs.OneTag.{one_tag, one_front_tag, tag_some}
use Rattle.tags.proofs.ElementLaws.{element_some, element_starts, first_tag, one_element, bracket_class, context_tag, no_element_otherwise}

same_object : (k l : ObjectId) → k.object_type ≡ l.object_type → k.instance ≡ l.instance → k ≡ l
same_object k l types instances =
    ap (λ (n : ℕ). record { object_type = n; instance = k.instance }) types ∙ ap (λ (n : ℕ). record { object_type = l.object_type; instance = n }) instances

-- the contents of a tag say one value
says_one : {A : Type 0} (number : ℕ) (octets : List ℕ) (v w : Value A) → Says number octets v → Says number octets w → v ≡ w
says_one number octets value.Null w s r = absurd s
says_one number octets (value.Bool b) w s r = absurd s
says_one number octets (value.Built x) w s r = absurd s
says_one number octets v value.Null s r = absurd r
says_one number octets v (value.Bool b) s r = absurd r
says_one number octets v (value.Built x) s r = absurd r
says_one number octets (value.Unsigned m) (value.Unsigned n) s r = ap value.Unsigned (s.1.value ∙ sym r.1.value)
says_one number octets (value.Signed y) (value.Signed z) s r = ap value.Signed (s.1.value ∙ sym r.1.value)
says_one number octets (value.Text a x) (value.Text b y) s r = cc
says_one number octets (value.Bits a x) (value.Bits b y) s r = cc
says_one number octets (value.Enum m) (value.Enum n) s r = ap value.Enum (s.1.value ∙ sym r.1.value)
says_one number octets (value.Object k) (value.Object l) s r =
    let e = sym s.1.value ∙ r.1.value in
    let types : k.object_type ≡ l.object_type = omega (arith, s.1.sound.1, r.1.sound.1) in
    let instances : k.instance ≡ l.instance = omega (arith, s.1.sound.1, r.1.sound.1) in
    ap value.Object (same_object k l types instances)
says_one number octets (value.Other m x) (value.Other n y) s r = cc
says_one number octets v w s r = grind arith

carries_one : {A : Type 0} (class : Class) (number : ℕ) (content : PlainContent) (v w : Value A) → Carries class number content v →
    Carries class number content w → v ≡ w
carries_one class number null v w s r = s ∙ sym r
carries_one class number (boolean b) v w s r = s ∙ sym r
carries_one class number (contents octets) v w s r = says_one number octets v w s.1 r.1
carries_one class number opening v w s r = absurd s
carries_one class number closing v w s r = absurd s

-- a tag that carries a value is no element's first
carried_class : {A : Type 0} (class : Class) (number : ℕ) (content : PlainContent) (front : List ℕ) (v : Value A) → SpellsContent front class number content →
    Carries class number content v → class ≡ Application
carried_class class number null front v s c = s.0
carried_class class number (boolean false) front v s c = s.0
carried_class class number (boolean true) front v s c = s.0
carried_class class number (contents octets) front v s c = c.0
carried_class class number opening front v s c = absurd c
carried_class class number closing front v s c = absurd c

by_tag_class : {A : Type 0} (front : List ℕ) (v : Value A) (s : SpellsByTag front v) → s.tag.class ≡ Application
by_tag_class front v s = carried_class s.tag.class s.tag.number s.tag.content front v s.spelled s.carried

tag_or_element : {A : Type 0} (a b x y : List ℕ) (v : Value A) → SpellsByTag a v → IsElement b → a ++ x ≡ b ++ y → ⊥
tag_or_element a b x y v c e same =
    let s = element_starts b y e in
    let one = one_tag a s.taken.0 x s.next c.tag (first_tag b e) c.spelled s.taken.1 (same ∙ s.taken.2) in
    let is : c.tag.class ≡ Application = by_tag_class a v c in
    let not : c.tag.class ≡ Context = ap (λ (t : PlainTag). t.class) one.tag ∙ s.context in
    cc

pub one_value : {A : Type 0} (a b x y : List ℕ) (v w : Value A) → SpellsValue a v → SpellsValue b w → a ++ x ≡ b ++ y → (a ≡ b) × (v ≡ w)
one_value a b x y v w (inl s) (inl r) e =
    let one = one_tag a b x y s.tag r.tag s.spelled r.spelled e in (
      one.front,
      carries_one r.tag.class r.tag.number r.tag.content v w (subst (λ (u : PlainTag). Carries u.class u.number u.content v) one.tag s.carried)
          r.carried,
    )
one_value a b x y v w (inl s) (inr r) e = absurd (tag_or_element a b x y v s r.1 e)
one_value a b x y v w (inr s) (inl r) e = absurd (tag_or_element b a y x w r s.1 (sym e))
one_value a b x y v w (inr s) (inr r) e =
    let same = one_element a b x y s.1 r.1 e in
    (same, s.0 ∙ ap value.Built same ∙ sym r.0)

value_some : {A : Type 0} (octets : List ℕ) (v : Value A) → SpellsValue octets v → 0 < length octets
value_some octets v (inl s) = tag_some octets s.tag s.spelled
value_some octets v (inr s) = element_some octets s.1

-- octets spell one list of values
pub one_list : {A : Type 0} (octets : List ℕ) (vs ws : List (Value A)) → SpellsValues octets vs → SpellsValues octets ws → vs ≡ ws
one_list octets [] [] s r = refl
one_list octets [] (w ∷ ws) s r = let some = value_some r.0 w r.2 in let len = length-append r.0 r.1 in
    absurd (omega (arith, ap (λ (x : List ℕ). length x) (sym s ∙ r.4)))
one_list octets (v ∷ vs) [] s r = let some = value_some s.0 v s.2 in let len = length-append s.0 s.1 in
    absurd (omega (arith, ap (λ (x : List ℕ). length x) (sym r ∙ s.4)))
one_list {A} octets (v ∷ vs) (w ∷ ws) s r =
    let one = one_value s.0 r.0 s.1 r.1 v w s.2 r.2 (sym s.4 ∙ r.4) in
    let rests : s.1 ≡ r.1 = append_cancel_left r.0 s.1 r.1 (ap (λ (x : List ℕ). x ++ s.1) (sym one.0) ∙ sym s.4 ∙ r.4) in
    let more = one_list s.1 vs ws s.3 (subst (λ (x : List ℕ). SpellsValues x ws) (sym rests) r.3) in
    ap (λ (x : Value A). x ∷ vs) one.1 ∙ ap (λ (xs : List (Value A)). w ∷ xs) more

-- what the tag at a front carries
pub carried_taken : {A : Type 0} (octets : List ℕ) (t : PlainTag) (next : List ℕ) (v : Value A) → TakesTag octets t next →
    Carries t.class t.number t.content v → TakesValue octets v next
carried_taken octets t next v taken carried =
    record { front = taken.0; spelled = inl record { tag = t; spelled = taken.1; carried = carried }; parts = taken.2 }

-- ---- no value at a front

pub no_value_without_tag : {A : Type 0} (octets : List ℕ) → NoTag octets → NoValue A octets
no_value_without_tag octets none = record {
  none = λ front rest v s e. elim s [
    | inl c ↦ none.none front rest c.tag c.spelled e
    | inr b ↦ let first = element_starts front rest b.1 in none.none first.taken.0 first.next (first_tag front b.1) first.taken.1 (e ∙ first.taken.2)
  ];
}

says_no_value : {A : Type 0} (number : ℕ) (octets : List ℕ) (v : Value A) → IsBadContents number octets → Says number octets v → ⊥
says_no_value number octets value.Null bad s = s
says_no_value number octets (value.Bool b) bad s = s
says_no_value number octets (value.Built x) bad s = s
says_no_value number octets v bad s = grind arith

-- contents that say no value
pub no_value_of_contents : {A : Type 0} (octets : List ℕ) (number : ℕ) (inner next : List ℕ) → TakesTag octets (application number (contents inner)) next →
    IsBadContents number inner → NoValue A octets
no_value_of_contents octets number inner next taken bad = record {
  none = λ front rest v s e. elim s [
    | inl c ↦ let one = one_tag taken.0 front next rest (application number (contents inner)) c.tag taken.1 c.spelled (sym taken.2 ∙ e) in
        says_no_value number inner v bad (subst (λ (u : PlainTag). Carries u.class u.number u.content v) (sym one.tag) c.carried).1
    | inr b ↦ let first = element_starts front rest b.1 in
        let one = one_tag taken.0 first.taken.0 next first.next (application number (contents inner)) (first_tag front b.1) taken.1 first.taken.1
        (sym taken.2 ∙ e ∙ first.taken.2) in
        let not : Application ≡ Context = ap (λ (u : PlainTag). u.class) one.tag ∙ first.context in
        cc
  ];
}

-- a context tag that begins no element
pub no_value_of_context : {A : Type 0} (octets : List ℕ) (t : PlainTag) (next : List ℕ) → TakesTag octets t next → t.class ≡ Context → NoElement octets →
    NoValue A octets
no_value_of_context octets t next taken is none = record {
  none = λ front rest v s e. elim s [
    | inl c ↦ let one = one_tag taken.0 front next rest t c.tag taken.1 c.spelled (sym taken.2 ∙ e) in
        let app : c.tag.class ≡ Application = by_tag_class front v c in
        let not : t.class ≡ c.tag.class = ap (λ (u : PlainTag). u.class) one.tag in
        cc
    | inr b ↦ none.none front rest b.1 e
  ];
}

-- the same of what a call returned
pub refused_as_element : (A : Type 0) {X : Type 0} (r : Result X Fault) (octets : List ℕ) (t : PlainTag) (next : List ℕ) → TakesTag octets t next →
    t.class ≡ Context → IfErr r (λ fault. (fault ≡ Memory) ⊎ NoElement octets) → IfErr r (λ fault. (fault ≡ Memory) ⊎ NoValue A octets)
refused_as_element A (Ok x) octets t next taken is r = tt
refused_as_element A (Err fault) octets t next taken is (inl memory) = inl memory
refused_as_element A (Err fault) octets t next taken is (inr none) = inr (no_value_of_context octets t next taken is none)

-- a closing tag begins no value
pub no_value_of_closing : {A : Type 0} (octets : List ℕ) (t : PlainTag) (next : List ℕ) → TakesTag octets t next → t.content ≡ closing → NoValue A octets
no_value_of_closing octets t next taken is =
    no_value_of_context octets t next taken (bracket_class octets t next taken (inr is)) (no_element_otherwise octets t next taken (inr is))

-- ---- which refusal

-- a tag that is refused refuses the value
pub refused_by_tag : (fault : Fault) (octets : List ℕ) → RefusesSomeTag fault octets → RefusesValue fault octets
refused_by_tag Short octets r = r
refused_by_tag BadTag octets r = inl r
refused_by_tag BadLength octets r = inl r
refused_by_tag fault octets (inl r) = absurd r
refused_by_tag fault octets (inr r) = absurd r.refused.refused

-- what is refused as an element, where a context tag stands
pub refused_by_element : (fault : Fault) (octets : List ℕ) (t : PlainTag) (next : List ℕ) → TakesTag octets t next → t.class ≡ Context →
    RefusesElement fault octets → RefusesValue fault octets
refused_by_element fault octets t next taken is (inl r) = refused_by_tag fault octets r
refused_by_element fault octets t next taken is (inr r) =
    let one = one_front_tag octets t r.1.tag next r.1.rest taken r.1.taken in
    rw (r.0) (elim r.1.other [
      | inl app ↦ let not : t.class ≡ Application = ap (λ (u : PlainTag). u.class) one.tag ∙ app in absurd cc
      | inr closes ↦ inr record {
        number = r.1.tag.number;
        rest = r.1.rest;
        taken =
            context_tag octets r.1.tag r.1.rest closing r.1.taken (sym (ap (λ (u : PlainTag). u.class) one.tag) ∙ is) closes;
      }
    ])
