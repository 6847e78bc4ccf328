-- Each field that stands at the front of a body is one field.
use Rattle.std.proofs.Common.{◌≡◌, ℕ, List, [], ◌∷◌, ◌++◌, length, Option, Some, None, refl, sym, ap, subst, ◌∙◌, arith}
use Rattle.std.proofs.lemmas.List.{append_cancel_left}
use Rattle.tags.specs.declared.object_id.ObjectId.{ObjectId}
use Rattle.tags.specs.declared.value.Value.{Value}
use Rattle.tags.specs.Tag.{PlainTag, contents, opening, closing, TakesTag}
use Rattle.tags.specs.Element.{context}
use Rattle.tags.specs.declared.tag.Class.TheVariants.{Context}
use Rattle.apdu_fields.proofs.Parameters.{alone_number, alone_object}
use Rattle.tags.specs.Value.{TakesValue}
use Rattle.tags.proofs.OneTag.{one_front_tag}
use Rattle.tags.proofs.ValueLaws.{one_value, no_value_of_closing}
use Rattle.services.specs.Fields.{TakesObject, TakesNumber, TakesOption, TakesLast, TakesOpening, TakesClosing, TakesEach, TakesInside, OpensBehind}
use Rattle.services.specs.Requests.{TakesProperty}
use Rattle.services.proofs.FieldLaws.{some_of_tag}

contents_are : (a b : List ℕ) → contents a ≡ contents b → a ≡ b
contents_are a b e = cc

contents_or_closing : (a : List ℕ) → contents a ≡ closing → ⊥
contents_or_closing a e = cc

contents_or_opening : (a : List ℕ) → contents a ≡ opening → ⊥
contents_or_opening a e = cc

-- the contents under one context tag
pub one_contents : (octets : List ℕ) (number : ℕ) (x y a b : List ℕ) → TakesTag octets (context number (contents x)) a →
    TakesTag octets (context number (contents y)) b → (x ≡ y) × (a ≡ b)
one_contents octets number x y a b s r =
    let one = one_front_tag octets (context number (contents x)) (context number (contents y)) a b s r in
    (contents_are x y (ap (λ (t : PlainTag). t.content) one.tag), one.rest)

-- contents and a closing tag do not stand at one place
pub contents_no_closing : (octets : List ℕ) (n m : ℕ) (x a b : List ℕ) → TakesTag octets (context n (contents x)) a → TakesClosing octets m b → ⊥
contents_no_closing octets n m x a b s r =
    contents_or_closing x (ap (λ (t : PlainTag). t.content) (one_front_tag octets (context n (contents x)) (context m closing) a b s r).tag)

pub contents_no_opening : (octets : List ℕ) (n m : ℕ) (x a b : List ℕ) → TakesTag octets (context n (contents x)) a → TakesOpening octets m b → ⊥
contents_no_opening octets n m x a b s r =
    contents_or_opening x (ap (λ (t : PlainTag). t.content) (one_front_tag octets (context n (contents x)) (context m opening) a b s r).tag)

pub one_object : (octets : List ℕ) (number : ℕ) (o p : ObjectId) (a b : List ℕ) → TakesObject octets number o a → TakesObject octets number p b → (o ≡ p) ×
    (a ≡ b)
one_object octets number o p a b s r = (alone_object Context number octets o a s).only p b r

pub one_number : (octets : List ℕ) (number n m : ℕ) (a b : List ℕ) → TakesNumber octets number n a → TakesNumber octets number m b → (n ≡ m) × (a ≡ b)
one_number octets number n m a b s r = (alone_number Context number octets n a s).only m b r

pub one_option : (octets : List ℕ) (number : ℕ) (n m : Option ℕ) (a b : List ℕ) → TakesOption octets number n a → TakesOption octets number m b → (n ≡ m) ×
    (a ≡ b)
one_option octets number None None a b s r = (refl, s.1 ∙ sym r.1)
one_option octets number None (Some m) a b s r = absurd (s.0.none r.inner b r.tag)
one_option octets number (Some n) None a b s r = absurd (r.0.none s.inner a s.tag)
one_option octets number (Some n) (Some m) a b s r = let one = one_number octets number n m a b s r in (ap (λ (k : ℕ). Some k) one.0, one.1)

pub no_tag_here : (octets : List ℕ) (t : PlainTag) (rest : List ℕ) → octets ≡ [] → TakesTag octets t rest → ⊥
no_tag_here octets t rest e taken = let some = some_of_tag octets t rest taken in let none : length octets ≡ 0 = ap length e in omega (arith, some, none)

pub one_last : (octets : List ℕ) (number : ℕ) (n m : Option ℕ) (a b : List ℕ) → TakesLast octets number n a → TakesLast octets number m b → (n ≡ m) × (a ≡ b)
one_last octets number None None a b s r = (refl, s.1 ∙ sym r.1)
one_last octets number None (Some m) a b s r = absurd (no_tag_here octets (context number (contents r.inner)) b s.0 r.tag)
one_last octets number (Some n) None a b s r = absurd (no_tag_here octets (context number (contents s.inner)) a r.0 s.tag)
one_last octets number (Some n) (Some m) a b s r = let one = one_number octets number n m a b s r in (ap (λ (k : ℕ). Some k) one.0, one.1)

pub one_opening : (octets : List ℕ) (number : ℕ) (a b : List ℕ) → TakesOpening octets number a → TakesOpening octets number b → a ≡ b
one_opening octets number a b s r = (one_front_tag octets (context number opening) (context number opening) a b s r).rest

pub one_closing : (octets : List ℕ) (number : ℕ) (a b : List ℕ) → TakesClosing octets number a → TakesClosing octets number b → a ≡ b
one_closing octets number a b s r = (one_front_tag octets (context number closing) (context number closing) a b s r).rest

pub one_behind : (octets : List ℕ) (number : ℕ) (n m : Option ℕ) (list : ℕ) (a b : List ℕ) → OpensBehind octets number n list a →
    OpensBehind octets number m list b → (n ≡ m) × (a ≡ b)
one_behind octets number n m list a b s r =
    let one = one_option octets number n m s.at r.at s.option_taken r.option_taken in
    (one.0, one_opening s.at list a b s.opened (subst (λ (x : List ℕ). TakesOpening x list b) (sym one.1) r.opened))

pub one_property : (octets : List ℕ) (o p : ObjectId) (n m : ℕ) (a b : List ℕ) → TakesProperty octets o n a → TakesProperty octets p m b → (o ≡ p) × (n ≡ m) ×
    (a ≡ b)
one_property octets o p n m a b s r =
    let one = one_object octets 0 o p s.behind_object r.behind_object s.object_taken r.object_taken in
    let two = one_number s.behind_object 1 n m a b s.property_taken (subst (λ (x : List ℕ). TakesNumber x 1 m b) (sym one.1) r.property_taken) in
    (one.0, two.0, two.1)

pub one_front_value : {A : Type 0} (octets : List ℕ) (v w : Value A) (a b : List ℕ) → TakesValue octets v a → TakesValue octets w b → (v ≡ w) × (a ≡ b)
one_front_value octets v w a b s r =
    let e : s.front ++ a ≡ r.front ++ b = sym s.parts ∙ r.parts in
    let one = one_value s.front r.front a b v w s.spelled r.spelled e in
    (one.1, append_cancel_left r.front a b (ap (λ (x : List ℕ). x ++ a) (sym one.0) ∙ e))

pub value_no_closing : {A : Type 0} (octets : List ℕ) (v : Value A) (number : ℕ) (a b : List ℕ) → TakesValue octets v a → TakesClosing octets number b → ⊥
value_no_closing octets v number a b s r = (no_value_of_closing octets (context number closing) b r refl).none s.front a v s.spelled s.parts

-- two readings of a list that ends in its own way are one
pub one_list : {X : Type 0} (Takes : List ℕ → X → List ℕ → Type 0) (Ends : List ℕ → List ℕ → Type 0)
    → ((o : List ℕ) (x y : X) (a b : List ℕ) → Takes o x a → Takes o y b → (x ≡ y) × (a ≡ b))
    → ((o a b : List ℕ) → Ends o a → Ends o b → a ≡ b)
    → ((o : List ℕ) (x : X) (a b : List ℕ) → Takes o x a → Ends o b → ⊥)
    → (octets : List ℕ) (xs ys : List X) (at bt a b : List ℕ) → TakesEach Takes octets xs at → Ends at a → TakesEach Takes octets ys bt → Ends bt b →
    (xs ≡ ys) × (a ≡ b)
one_list Takes Ends one ends apart octets [] [] at bt a b s e t f =
    (refl, ends octets a b (subst (λ (z : List ℕ). Ends z a) (sym s) e) (subst (λ (z : List ℕ). Ends z b) (sym t) f))
one_list Takes Ends one ends apart octets [] (y ∷ ys) at bt a b s e t f = absurd (apart octets y t.0 a t.1 (subst (λ (z : List ℕ). Ends z a) (sym s) e))
one_list Takes Ends one ends apart octets (x ∷ xs) [] at bt a b s e t f = absurd (apart octets x s.0 b s.1 (subst (λ (z : List ℕ). Ends z b) (sym t) f))
one_list {X} Takes Ends one ends apart octets (x ∷ xs) (y ∷ ys) at bt a b s e t f =
    let h = one octets x y s.0 t.0 s.1 t.1 in
    let r = one_list Takes Ends one ends apart s.0 xs ys at bt a b s.2 e (subst (λ (z : List ℕ). TakesEach Takes z ys bt) (sym h.1) t.2) f in
    (ap (λ (z : X). z ∷ xs) h.0 ∙ ap (λ (zs : List X). y ∷ zs) r.0, r.1)

pub one_inside : {A : Type 0} (octets : List ℕ) (number : ℕ) (vs ws : List (Value A)) (a b : List ℕ) → TakesInside octets number vs a →
    TakesInside octets number ws b → (vs ≡ ws) × (a ≡ b)
one_inside octets number vs ws a b s r =
    one_list TakesValue (λ (o : List ℕ) (c : List ℕ). TakesClosing o number c) one_front_value
    (λ o c d x y. one_closing o number c d x y)
    (λ o v c d x y. value_no_closing o v number c d x y)
    octets vs ws s.at r.at a b s.taken s.closed r.taken r.closed
