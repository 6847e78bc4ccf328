-- A level from 1 to 16 has a slot.
use Rattle.std.proofs.Common.{refl, ap, ◌≡◌, ◌≤◌, ℕ, Bool, true, false, List, Option, arith}
use Rattle.std.proofs.lemmas.Bool.{lt-ltb}
use Rattle.std.specs.Prelude.{cond, ◌&&◌, nat_lt}
use Rattle.priority.specs.Slots.{put_slot}
use Rattle.primitives.specs.tags.declared.value.Value.{Value}
use Rattle.object_model.specs.Levels.{put_level}

counted_if : (a b : Bool) → a ≡ true → b ≡ true → (a && b) ≡ true
counted_if true true p q = refl
counted_if true false p q = q
counted_if false b p q = p

pub put_level_is : {A : Type 0} (slots : List (Option (Value A))) (level : ℕ) (v : Option (Value A)) → 1 ≤ level → level ≤ 16 →
    put_level slots level v ≡ put_slot slots level v
put_level_is slots level v low high =
    ap (λ (counts : Bool). cond counts (put_slot slots level v) slots)
    (counted_if (nat_lt 0 level) (nat_lt level 17) (lt-ltb 0 level (omega (arith, low))) (lt-ltb level 17 (omega (arith, high))))
