-- Steps that may fail, one after another.
use Rattle.std.proofs.Common.{◌≡◌, ◌⊎◌, Bool, true, false, cond, Result, Ok, Err, refl, ap, inl, inr}
use Rattle.tags.specs.declared.fault.Fault.{Fault}
use Rattle.tags.specs.TagReading.{◌>>=◌}

-- the value of a step that did not fail
pub bind_ok : {A B : Type 0} (r : Result A Fault) (f : A → Result B Fault) (y : B) → (r >>= f) ≡ Ok y → (x : A) × (r ≡ Ok x) × (f x ≡ Ok y)
bind_ok (Ok x) f y e = (x, refl, e)
bind_ok (Err d) f y e = absurd cc

-- which way a test went
pub which_way : {A : Type 0} (b : Bool) (x y z : A) → cond b x y ≡ z → ((b ≡ true) × (x ≡ z)) ⊎ ((b ≡ false) × (y ≡ z))
which_way true x y z e = inl (refl, e)
which_way false x y z e = inr (refl, e)

pub err_is_not_ok : {A : Type 0} (d : Fault) (x : A) → Err d ≡ Ok x → ⊥
err_is_not_ok d x e = cc

abbrev pub done : {A : Type 0} → A → Result A Fault
done x = Ok x

pub ok_injective : {A : Type 0} (x y : A) → done x ≡ done y → x ≡ y
ok_injective x y e = cc

pub ok_pair_injective : {A B : Type 0} (a c : A) (b d : B) → done {A = A × B} (a, b) ≡ done (c, d) → (a ≡ c) × (b ≡ d)
ok_pair_injective {A} {B} a c b d e =
    let q = ok_injective (a, b) (c, d) e in
    (ap (λ (p : A × B). p.0) q, ap (λ (p : A × B). p.1) q)

-- where two steps fail, which did
pub bind_err : {A B : Type 0} (r : Result A Fault) (f : A → Result B Fault) (d : Fault) → (r >>= f) ≡ Err d → (r ≡ Err d) ⊎
    ((x : A) × (r ≡ Ok x) × (f x ≡ Err d))
bind_err (Ok x) f d e = inr (x, refl, e)
bind_err (Err b) f d e = inl cc

pub ok_is_not_err : {A : Type 0} (x : A) (d : Fault) → Ok x ≡ Err d → ⊥
ok_is_not_err x d e = cc

abbrev pub failed : (A : Type 0) → Fault → Result A Fault
failed A d = Err d

pub err_injective : (A : Type 0) (a b : Fault) → failed A a ≡ failed A b → a ≡ b
err_injective A a b e = cc
