-- Lemmas on the pieces of a body.
use Rattle.std.proofs.Common.{◌≡◌, ℕ, zero, suc, ◌+◌, false, List, [], ◌∷◌, ◌++◌, length, take, sym, ap, ◌∙◌, refl, arith}
use Rattle.std.specs.Prelude.{drop, ◌*◌}
use Rattle.std.proofs.lemmas.List.{take_all}
use Rattle.std.proofs.lemmas.Bool.{ltb-false}
use Rattle.std.proofs.Math.Nat.{suc-mul}
use Rattle.history.specs.Pieces.{piece, has_more}

nothing : {X : Type 0} (c : ℕ) → take {A = X} c [] ≡ []
nothing zero = refl
nothing (suc c) = refl

-- a part of a list and the next part of it
take_then : {X : Type 0} (m c : ℕ) (xs : List X) → take m xs ++ take c (drop m xs) ≡ take (m + c) xs
take_then zero c xs = let sum : 0 + c ≡ c = omega arith in ap (λ k. take k xs) (sym sum)
take_then {X} (suc m) c [] = nothing {X = X} c ∙ sym (nothing {X = X} (suc m + c))
take_then (suc m) c (x ∷ xs) = let sum : suc m + c ≡ suc (m + c) = omega arith in ap (λ l. x ∷ l) (take_then m c xs) ∙ ap (λ k. take k (x ∷ xs)) (sym sum)

-- no pieces are the front of any body
pub gathers_none : (chunk : ℕ) (body : List ℕ) → [] ≡ take (0 * chunk) body
gathers_none chunk body = let none : 0 * chunk ≡ 0 = omega arith in ap (λ n. take n body) (sym none)

-- the first pieces of a body, with the next one
pub gathers_more : (chunk : ℕ) (body got : List ℕ) (n : ℕ) → got ≡ take (n * chunk) body → got ++ piece chunk n body ≡ take (suc n * chunk) body
gathers_more chunk body got n front = ap (λ l. l ++ piece chunk n body) front ∙ take_then (n * chunk) chunk body ∙ ap (λ k. take k body) (sym (suc-mul n chunk))

-- and with the last one all
pub gathers_all : (chunk : ℕ) (body got : List ℕ) (n : ℕ) → got ≡ take (n * chunk) body → has_more chunk n body ≡ false → got ++ piece chunk n body ≡ body
gathers_all chunk body got n front none =
    ap (λ l. l ++ piece chunk n body) front ∙ take_then (n * chunk) chunk body
    ∙ take_all (n * chunk + chunk) body (ltb-false (n * chunk + chunk) (length body) none)
