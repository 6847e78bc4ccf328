-- What a parameter's tag says is one thing.
use Rattle.std.proofs.Common.{◌≡◌, [], Option, Some, None, IfNone, ℕ, List, ap, sym, refl, ◌∙◌, arith}
use Rattle.tags.specs.declared.object_id.ObjectId.{ObjectId}
use Rattle.tags.specs.declared.tag.Class.{Class}
use Rattle.tags.specs.Number.{SpellsUnsigned}
use Rattle.tags.specs.Tag.{PlainTag, OnlyTag, NoTag}
use Rattle.tags.proofs.OneTag.{no_tag_at_end, only_tag}
use Rattle.apdu_fields.specs.Parameter.{carrying, IsObject, Takes, Only, Lacks, CarriesOther, NoContents}

same_contents : (class : Class) (number : ℕ) (x y : List ℕ) → carrying class number x ≡ carrying class number y → x ≡ y
same_contents class number x y e =
    let f = ap (λ (t : PlainTag). t.content) e in
    cc

-- the contents are one, and so is what they say
only_said : {A : Type 0} (Says : List ℕ → A → Type 0) → ((inner : List ℕ) (a b : A) → Says inner a → Says inner b → a ≡ b) →
    (class : Class) (number : ℕ) (octets inner : List ℕ) (a : A) (rest : List ℕ) → OnlyTag octets (carrying class number inner) rest → Says inner a →
    Only Says class number octets a rest
only_said Says one class number octets inner a rest h s = record {
  only = λ b after t.
      let p = h.only _ after t.tag in
      let same = same_contents class number inner t.inner p.0 in
      (one inner a b s (rw same t.said), p.1);
}

one_unsigned : (inner : List ℕ) (m n : ℕ) → SpellsUnsigned inner m → SpellsUnsigned inner n → m ≡ n
one_unsigned inner m n s t = s.value ∙ sym t.value

identified : ℕ → ℕ → ObjectId
identified object_type instance = record { object_type = object_type; instance = instance }

identified_again : (o : ObjectId) → identified o.object_type o.instance ≡ o
unfolding identified
identified_again o = refl

pub one_object : (inner : List ℕ) (o p : ObjectId) → IsObject inner o → IsObject inner p → o ≡ p
one_object inner o p s t =
    let kind : o.object_type ≡ p.object_type = omega (arith, s.sound, t.sound, s.value, t.value) in
    let instance : o.instance ≡ p.instance = omega (arith, s.sound, t.sound, s.value, t.value) in
    cc (identified_again o, identified_again p)

pub only_number : (class : Class) (number : ℕ) (octets inner : List ℕ) (n : ℕ) (rest : List ℕ) → OnlyTag octets (carrying class number inner) rest →
    SpellsUnsigned inner n → Only SpellsUnsigned class number octets n rest
only_number = only_said SpellsUnsigned one_unsigned

pub only_object : (class : Class) (number : ℕ) (octets inner : List ℕ) (o : ObjectId) (rest : List ℕ) → OnlyTag octets (carrying class number inner) rest →
    IsObject inner o → Only IsObject class number octets o rest
only_object = only_said IsObject one_object

-- .. so what is taken is taken alone
pub alone_number : (class : Class) (number : ℕ) (octets : List ℕ) (n : ℕ) (rest : List ℕ) → Takes SpellsUnsigned class number octets n rest →
    Only SpellsUnsigned class number octets n rest
alone_number class number octets n rest t = only_number class number octets t.inner n rest (only_tag octets (carrying class number t.inner) rest t.tag) t.said

pub alone_object : (class : Class) (number : ℕ) (octets : List ℕ) (o : ObjectId) (rest : List ℕ) → Takes IsObject class number octets o rest →
    Only IsObject class number octets o rest
alone_object class number octets o rest t = only_object class number octets t.inner o rest (only_tag octets (carrying class number t.inner) rest t.tag) t.said

pub lacks_contents : {A : Type 0} (Says : List ℕ → A → Type 0) (class : Class) (number : ℕ) (octets : List ℕ) → NoContents class number octets →
    Lacks Says class number octets
lacks_contents Says class number octets h = record { none = λ a rest t. h.none t.inner rest t.tag }

pub ruleset parameter_rules = (only_number, only_object, lacks_contents)

pub no_contents_of_other : (class : Class) (number : ℕ) (octets : List ℕ) (t : PlainTag) (rest : List ℕ) → OnlyTag octets t rest →
    CarriesOther class number t → NoContents class number octets
no_contents_of_other class number octets t rest only other = record { none = λ inner after u. other.other inner ((only.only _ after u).0) }

pub no_contents_without_tag : (class : Class) (number : ℕ) (octets : List ℕ) → NoTag octets → NoContents class number octets
no_contents_without_tag class number octets lacks = record { none = λ inner after u. lacks.none (u.0) after (carrying class number inner) (u.1) (u.2) }

pub no_contents_at_end : (class : Class) (number : ℕ) (octets : List ℕ) → octets ≡ [] → NoContents class number octets
no_contents_at_end class number octets e = no_contents_without_tag class number octets (no_tag_at_end octets e)

pub no_contents_in : {X : Type 0} (r : Option X) (class : Class) (number : ℕ) (octets : List ℕ) (t : PlainTag) (rest : List ℕ) → OnlyTag octets t rest →
    IfNone r (CarriesOther class number t) → IfNone r (NoContents class number octets)
no_contents_in (Some x) class number octets t rest only other = tt
no_contents_in None class number octets t rest only other = no_contents_of_other class number octets t rest only other

pub ruleset contents_rules = (no_contents_in, no_contents_at_end, no_contents_without_tag)
