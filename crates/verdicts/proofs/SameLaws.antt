-- What is one with another, part by part.
use Rattle.std.proofs.Common.{◌≡◌, ◌∙◌, ap, ℕ, List, [], ◌∷◌, Option, Result}
use Rattle.std.specs.Prelude.{◌≢◌}
use Rattle.primitives.specs.declared.error.ErrorClass.{ErrorClass}
use Rattle.primitives.specs.declared.error.ErrorCode.{ErrorCode}
use Rattle.primitives.specs.declared.plain_data.ObjectResults.{ObjectResults}
use Rattle.primitives.specs.declared.plain_data.PropertyResult.{PropertyResult}
use Rattle.tags.specs.declared.object_id.ObjectId.{ObjectId}
use Rattle.tags.specs.declared.value.Value.{Value}

pub first_is : {X : Type 0} (x y : X) (xs ys : List X) → x ∷ xs ≡ y ∷ ys → x ≡ y
first_is x y xs ys e = cc

pub rest_is : {X : Type 0} (x y : X) (xs ys : List X) → x ∷ xs ≡ y ∷ ys → xs ≡ ys
rest_is x y xs ys e = cc

pub both_are : {X : Type 0} (x y : X) (xs ys : List X) → x ≡ y → xs ≡ ys → x ∷ xs ≡ y ∷ ys
both_are x y xs ys e f = cc

pub ruleset list_laws = (first_is, rest_is, both_are)

abbrev object_results : {A : Type 0} → ObjectId → List (PropertyResult A) → ObjectResults A
object_results o rs = record { object = o; results = rs }

pub one_object : {A : Type 0} (a b : ObjectResults A) → a.object ≡ b.object → a.results ≡ b.results → a ≡ b
one_object {A} a b e f =
    ap (λ (o : ObjectId). object_results o a.results) e
    ∙ ap (λ (rs : List (PropertyResult A)). object_results b.object rs) f

pub object_is : {A : Type 0} (a b : ObjectResults A) → a ≡ b → a.object ≡ b.object
object_is {A} a b e = ap (λ (x : ObjectResults A). x.object) e

pub results_are : {A : Type 0} (a b : ObjectResults A) → a ≡ b → a.results ≡ b.results
results_are {A} a b e = ap (λ (x : ObjectResults A). x.results) e

pub ruleset object_laws = (one_object, object_is, results_are)

abbrev property_result : {A : Type 0} → ℕ → Option ℕ → Result (List (Value A)) (ErrorClass × ErrorCode) → PropertyResult A
property_result p i r = record { property = p; index = i; result = r }

pub one_result : {A : Type 0} (a b : PropertyResult A) → a.property ≡ b.property → a.index ≡ b.index →
    a.result ≡ b.result → a ≡ b
one_result {A} a b e f g =
    ap (λ (p : ℕ). property_result p a.index a.result) e
    ∙ ap (λ (i : Option ℕ). property_result b.property i a.result) f
    ∙ ap (λ (r : Result (List (Value A)) (ErrorClass × ErrorCode)). property_result b.property b.index r) g

pub property_is : {A : Type 0} (a b : PropertyResult A) → a ≡ b → a.property ≡ b.property
property_is {A} a b e = ap (λ (x : PropertyResult A). x.property) e

pub index_is : {A : Type 0} (a b : PropertyResult A) → a ≡ b → a.index ≡ b.index
index_is {A} a b e = ap (λ (x : PropertyResult A). x.index) e

pub result_is : {A : Type 0} (a b : PropertyResult A) → a ≡ b → a.result ≡ b.result
result_is {A} a b e = ap (λ (x : PropertyResult A). x.result) e

pub ruleset result_laws = (one_result, property_is, index_is, result_is)
