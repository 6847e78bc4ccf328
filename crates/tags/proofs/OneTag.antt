-- The octets of a tag never begin those of another tag.
use Rattle.std.proofs.Common.{◌≡◌, ℕ, ◌<◌, List, [], ◌++◌, length, true, false, sym, ap, ◌∙◌, arith}
use Rattle.std.proofs.lemmas.List.{append_cancel_right, length-append}
use Rattle.tags.specs.declared.tag.Class.{Class}
use Rattle.tags.specs.Tag.{PlainTag, PlainContent, null, boolean, contents, opening, closing, SpellsContent, SpellsTag, TakesTag, OnlyTag, NoTag}
use Rattle.tags.specs.TagReading.{tag_at}
use Rattle.tags.proofs.TagLaws.{tag_again}
use Rattle.tags.proofs.Steps.{ok_pair_injective}

-- two spellings at the front of the same octets are one
pub record SameTag (a b x y : List ℕ) (t u : PlainTag) : Type 0 where
  pub tag : t ≡ u
  pub front : a ≡ b
  pub rest : x ≡ y

pub one_tag : (a b x y : List ℕ) (t u : PlainTag) → SpellsTag a t → SpellsTag b u → a ++ x ≡ b ++ y → SameTag a b x y t u
one_tag a b x y t u s r e =
    let p = ok_pair_injective t u x y (sym (tag_again a t x s) ∙ ap tag_at e ∙ tag_again b u y r) in
    record { tag = p.0; front = append_cancel_right a b x (e ∙ ap (λ (z : List ℕ). b ++ z) (sym p.1)); rest = p.1 }

-- what stands at the front is one tag
pub one_front_tag : (octets : List ℕ) (t u : PlainTag) (x y : List ℕ) (s : TakesTag octets t x) (r : TakesTag octets u y) → SameTag (s.0) (r.0) x y t u
one_front_tag octets t u x y s r = one_tag s.0 r.0 x y t u s.1 r.1 (sym s.2 ∙ r.2)

content_some : (front : List ℕ) (class : Class) (number : ℕ) (content : PlainContent) → SpellsContent front class number content → 0 < length front
content_some front class number null s = rw (s.2) (omega arith)
content_some front class number (boolean false) s = rw (s.2) (omega arith)
content_some front class number (boolean true) s = rw (s.2) (omega arith)
content_some front class number (contents octets) s = rw (s.parts) (omega arith)
content_some front class number opening s = rw (s.2) (omega arith)
content_some front class number closing s = rw (s.2) (omega arith)

-- a tag has an octet
pub tag_some : (front : List ℕ) (t : PlainTag) → SpellsTag front t → 0 < length front
tag_some front t s = content_some front t.class t.number t.content s

pub tag_shortens : (octets : List ℕ) (t : PlainTag) (rest : List ℕ) → TakesTag octets t rest → length rest < length octets
tag_shortens octets t rest taken = rw (taken.2) (omega (arith, length-append taken.0 rest, tag_some taken.0 t taken.1))

-- what is taken is the only tag that stands there
pub only_tag : (octets : List ℕ) (t : PlainTag) (rest : List ℕ) → TakesTag octets t rest → OnlyTag octets t rest
only_tag octets t rest taken = record { only = λ u after other. let one = one_front_tag octets t u rest after taken other in (one.tag, one.rest) }

-- no tag stands at the end
pub no_tag_at_end : (octets : List ℕ) → octets ≡ [] → NoTag octets
no_tag_at_end octets e = record {
  none = λ front rest t s parts.
      let none : length octets ≡ 0 = ap length e in
      let whole : length octets ≡ length (front ++ rest) = ap length parts in
      omega (arith, none, whole, length-append front rest, tag_some front t s);
}
