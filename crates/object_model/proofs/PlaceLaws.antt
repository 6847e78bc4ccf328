-- The map of places follows the list of identifiers.
use Rattle.std.proofs.Common.{refl, sym, ap, ◌∙◌, ◌≡◌, ℕ, Bool, true, false, List, [], ◌∷◌, ◌++◌}
use Rattle.std.specs.Prelude.{suc, ◌==◌, cond, if◌then◌else◌, Option, Some, None, option_map, length, is_some}
use Rattle.std.proofs.lemmas.Bool.{eqb-true, and_parts}
use Rattle.std.specs.Ordering.{is_eq}
use Rattle.std.specs.Cmp.{both_tied, unsigned_tied}
use Rattle.primitives.specs.tags.declared.object_id.ObjectId.{ObjectId}
use Rattle.object_model.specs.Identifiers.{same_id}
use Rattle.object_model.specs.Places.{place_of, id_cmp, also_at}

-- the two tests of identifiers are one
pub same_by_cmp : (p q : ObjectId) → is_eq (id_cmp p q) ≡ same_id p q
same_by_cmp p q = sym (both_tied (p.object_type == q.object_type) (p.instance == q.instance) _ _ (sym (unsigned_tied _ _)) (sym (unsigned_tied _ _)))

true_is_not : false ≡ true → ⊥
true_is_not e = cc e

-- identifiers that pass the test are equal
pub same_is : (p q : ObjectId) → same_id p q ≡ true → p ≡ q
same_is p q e =
    let parts = and_parts _ _ e in
    ap (λ (n : ℕ). record { object_type = n; instance = p.instance }) (eqb-true _ _ parts.0)
    ∙ ap (λ (n : ℕ). record { object_type = q.object_type; instance = n }) (eqb-true _ _ parts.1)

pub is_none : {X : Type 0} (o : Option X) → is_some o ≡ false → o ≡ None
is_none None e = refl
is_none (Some x) e = absurd (true_is_not (sym e))

noted_if : (old : Option ℕ) (test : Bool) (place : ℕ) (put q : ObjectId) → same_id put q ≡ test → (test ≡ true → old ≡ None) →
    cond test (Some place) old ≡ also_at old put place q
noted_if None test place put q e none = rw e refl
noted_if (Some p) false place put q e none = refl
noted_if (Some p) true place put q e none = cc (none refl)

-- a place put into the map is one put behind the list
pub noted : (at : ObjectId → Option ℕ) (put q : ObjectId) (place : ℕ) → at put ≡ None →
    cond (is_eq (id_cmp put q)) (Some place) (at q) ≡ also_at (at q) put place q
noted at put q place none =
    noted_if (at q) (is_eq (id_cmp put q)) place put q (sym (same_by_cmp put q)) (λ e. ap at (sym (same_is put q (sym (same_by_cmp put q) ∙ e))) ∙ none)

also_next_if : (test : Bool) (place : ℕ) → option_map suc (if test then Some place else None) ≡ (if test then Some (suc place) else None)
also_next_if true place = refl
also_next_if false place = refl

also_next : (found : Option ℕ) (put q : ObjectId) (place : ℕ) → option_map suc (also_at found put place q) ≡ also_at (option_map suc found) put (suc place) q
also_next (Some n) put q place = refl
also_next None put q place = also_next_if (same_id put q) place

pushed_if : (test : Bool) (ids : List ObjectId) (put q : ObjectId) → place_of (ids ++ put ∷ []) q ≡ also_at (place_of ids q) put (length ids) q
    → (if test then Some 0 else option_map suc (place_of (ids ++ put ∷ []) q))
    ≡ also_at (if test then Some 0 else option_map suc (place_of ids q)) put (suc (length ids)) q
pushed_if true ids put q e = refl
pushed_if false ids put q e = ap (option_map suc) e ∙ also_next (place_of ids q) put q (length ids)

-- an identifier put behind a list is found where none was found before
pub place_of-push : (ids : List ObjectId) (put q : ObjectId) → place_of (ids ++ put ∷ []) q ≡ also_at (place_of ids q) put (length ids) q
place_of-push [] put q = refl
place_of-push (p ∷ ids) put q = pushed_if (same_id p q) ids put q (place_of-push ids put q)
