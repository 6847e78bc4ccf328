-- Lists of objects as they open.
use Rattle.std.proofs.Common.{◌≡◌, ◌∙◌, refl, sym, ap, ℕ, ◌+◌, ◌<◌, List, [], ◌∷◌, ◌++◌, arith}
use Rattle.std.specs.Prelude.{zero, suc, map, length, drop, get_or}
use Rattle.std.specs.List.{AllByRecursion}
use Rattle.object_model.specs.declared.site.SiteObject.{SiteObject}
use Rattle.object_model.specs.declared.site.SiteObjects.{SiteObjects}
use Rattle.object_model.specs.Site.{opening_value, opening_table, IsValueObject, HasOneDevice}
use Rattle.object_model.proofs.TextLaws.{empty_text}

pub map_append : {X Y : Type 0} (f : X → Y) (xs ys : List X) → map f (xs ++ ys) ≡ map f xs ++ map f ys
map_append f [] ys = refl
map_append {X} {Y} f (x ∷ xs) ys = ap (λ (zs : List Y). f x ∷ zs) (map_append f xs ys)

pub length_map : {X Y : Type 0} (f : X → Y) (xs : List X) → length (map f xs) ≡ length xs
length_map f [] = refl
length_map f (x ∷ xs) = ap suc (length_map f xs)

-- what is left from a place on is the item there and what is left behind it
pub drop_item : {X : Type 0} (xs : List X) (i : ℕ) (x : X) → i < length xs → x ≡ get_or xs i x → drop i xs ≡ x ∷ drop (i + 1) xs
drop_item [] i x below is = absurd (omega (arith, below))
drop_item {X} (y ∷ ys) zero x below is = ap (λ (z : X). z ∷ ys) (sym is)
drop_item (y ∷ ys) (suc i) x below is =
    let next : suc i + 1 ≡ suc (i + 1) = omega arith in
    drop_item ys i x (omega (arith, below)) is ∙ ap (λ (n : ℕ). x ∷ drop n (y ∷ ys)) (sym next)

values_open : {A : Type 0} (xs : List (SiteObject A)) → AllByRecursion IsValueObject (map opening_value xs)
values_open [] = tt
values_open (x ∷ xs) = (tt, values_open xs)

-- a table opens with its one Device object
pub opens_with_device : {A : Type 0} (s : SiteObjects A) → HasOneDevice (opening_table s)
opens_with_device s = values_open s.objects

pub ruleset opening_rules = (map_append, length_map)

pub ruleset site_rules = (opens_with_device)

pub ruleset device_rules = (empty_text)
