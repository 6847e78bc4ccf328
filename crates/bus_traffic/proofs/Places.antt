-- A change of the first that passes a test, made at its place.
use Rattle.std.proofs.Common.{◌≡◌, ℕ, suc, ◌+◌, ◌<◌, List, ◌∷◌, ◌++◌, true, length, take, drop, refl, ap, sym, ◌∙◌, arith}
use Rattle.std.specs.Prelude.{Some, bytes_eq, get_or, slice_get, slice_set}
use Rattle.std.proofs.lemmas.Option.{get_or_from_slice_get}
use Rattle.std.proofs.Math.Seq.{drop-cons}
use Rattle.std.proofs.lemmas.List.{drop-set, take-append-drop, take-set}
use Rattle.bus_traffic.specs.Sendings.{aged, delivered, is_due_at, learned, marked}
use Rattle.bus_traffic.specs.declared.sending.Known.{Known}
use Rattle.bus_traffic.specs.declared.sending.Recent.{Recent}

set_parts : {X : Type 0} (xs : List X) (i : ℕ) (y : X) → i < length xs → slice_set xs i y ≡ take i xs ++ y ∷ drop (i + 1) xs
set_parts xs i y lt = sym (take-append-drop i (slice_set xs i y))
    ∙ ap (λ ys. ys ++ drop i (slice_set xs i y)) (take-set xs i y) ∙ ap (λ ys. take i xs ++ ys) (drop-set xs i y lt)

pub rest_at : {X : Type 0} (xs : List X) (i : ℕ) (x : X) → i < length xs → get_or xs i x ≡ x → drop i xs ≡ x ∷ drop (i + 1) xs
rest_at xs i x lt e =
    let more : suc i ≡ i + 1 = omega arith in
    drop-cons xs i x lt ∙ ap (λ y. y ∷ drop (suc i) xs) e ∙ ap (λ n. x ∷ drop n xs) more

pub learned_first : {A : Type 0} (new k : Known A) (ks : List (Known A)) → bytes_eq k.octets new.octets ≡ true
    → learned new (k ∷ ks) ≡ aged new.stamp k ∷ ks
learned_first new k ks e = rw (e) refl

pub learned_at : {A : Type 0} (new x : Known A) (xs : List (Known A)) (i : ℕ) → i < length xs → get_or xs i x ≡ x
    → bytes_eq x.octets new.octets ≡ true → take i xs ++ learned new (drop i xs) ≡ learned new xs
    → slice_set xs i (aged new.stamp x) ≡ learned new xs
learned_at new x xs i lt e is g = set_parts xs i (aged new.stamp x) lt
    ∙ ap (λ ys. take i xs ++ ys) (sym (ap (λ ys. learned new ys) (rest_at xs i x lt e) ∙ learned_first new x _ is)) ∙ g

pub delivered_first : {A : Type 0} (now address : ℕ) (octets : List ℕ) (r : Recent A) (rs : List (Recent A))
    → is_due_at now address octets r ≡ true
    → delivered now address octets (r ∷ rs) ≡ marked address r ∷ rs
delivered_first now address octets r rs e = rw (e) refl

pub delivered_at : {A : Type 0} (now address : ℕ) (octets : List ℕ) (x : Recent A) (xs : List (Recent A)) (i : ℕ)
    → i < length xs → get_or xs i x ≡ x → is_due_at now address octets x ≡ true
    → take i xs ++ delivered now address octets (drop i xs) ≡ delivered now address octets xs
    → slice_set xs i (marked address x) ≡ delivered now address octets xs
delivered_at now address octets x xs i lt e is g = set_parts xs i (marked address x) lt
    ∙ ap (λ ys. take i xs ++ ys)
    (sym (ap (λ ys. delivered now address octets ys) (rest_at xs i x lt e) ∙ delivered_first now address octets x _ is))
    ∙ g

pub ruleset place_rules = (learned_at, delivered_at)

-- what stands at a place is one
pub one_there : {X : Type 0} (xs : List X) (i : ℕ) (x y : X) → x ≡ get_or xs i x → slice_get xs i ≡ Some y → x ≡ y
one_there xs i x y e there = e ∙ get_or_from_slice_get xs i y x there
