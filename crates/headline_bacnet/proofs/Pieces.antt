-- Lemmas on the pieces of a body: those that a sender cuts are those of the book.
use Rattle.std.proofs.Common.{inl, inr, ◌⊎◌, ◌≡◌, sym, ap, ◌∙◌, ℕ, suc, ◌+◌, ◌-◌, ◌*◌, ◌/◌, ◌<◌, ◌≤◌, nat_lt, List, length, arith}
use Rattle.std.proofs.lemmas.Bool.{cases_lt, lt-ltb, le-ltb}
use Rattle.std.proofs.Math.Nat.{suc-mul, lt-mul-div-succ, mul_comm, div-mul-le_self, mul-le-mul_right, mod-eq_of_lt}
use Rattle.history.specs.Pieces as book
use Rattle.segments.proofs.PieceLaws.{length-pieces}
use Rattle.segments.specs.Laws.{IsPiece}
use Rattle.segments.specs.Pieces.{PlainPiece, piece_count}

more_by : (chunk n size : ℕ) → 1 ≤ chunk → (n < (size - 1) / chunk) ⊎ ((size - 1) / chunk ≤ n) →
    nat_lt (n + 1) (piece_count chunk size) ≡ nat_lt (n * chunk + chunk) size
more_by chunk n size one (inl lt) =
    let within : suc n ≤ (size - 1) / chunk = omega (arith, lt) in
    let a : suc n * chunk ≤ (size - 1) / chunk * chunk = mul-le-mul_right chunk within in
    let b : (size - 1) / chunk * chunk ≤ size - 1 = div-mul-le_self (size - 1) chunk in
    let c : suc n * chunk ≡ chunk + n * chunk = omega (arith, suc-mul n chunk) in
    lt-ltb (n + 1) (piece_count chunk size) (omega (arith, lt)) ∙ sym (lt-ltb (n * chunk + chunk) size (omega (arith, a, b, c, one)))
more_by chunk n size one (inr le) =
    let within : suc ((size - 1) / chunk) ≤ suc n = omega (arith, le) in
    let a : suc ((size - 1) / chunk) * chunk ≤ suc n * chunk = mul-le-mul_right chunk within in
    let b = lt-mul-div-succ (size - 1) {b = chunk} one in
    let c : suc n * chunk ≡ chunk + n * chunk = omega (arith, suc-mul n chunk) in
    let d : piece_count chunk size * chunk ≡ suc ((size - 1) / chunk) * chunk = let e : piece_count chunk size ≡ suc ((size - 1) / chunk) = omega arith in
    ap (λ m. m * chunk) e in
    le-ltb (n + 1) (piece_count chunk size) (omega (arith, le))
    ∙ sym (le-ltb (n * chunk + chunk) size (omega (arith, a, b, c, d, mul_comm chunk (piece_count chunk size))))

-- more follow a piece of a body just where more of the body follows it
pub more_is : (chunk n size : ℕ) → 1 ≤ chunk → nat_lt (n + 1) (piece_count chunk size) ≡ nat_lt (n * chunk + chunk) size
more_is chunk n size one = more_by chunk n size one (cases_lt n ((size - 1) / chunk))

-- a piece that a sender says is one of the book
pub record IsPart (chunk : ℕ) (body : List ℕ) (p : PlainPiece) : Type 0 where
  pub n : ℕ
  pub number : p.number ≡ n
  pub more : p.has_more ≡ book.has_more chunk n body
  pub octets : p.octets ≡ book.piece chunk n body

pub piece_is : (chunk : ℕ) (body : List ℕ) (p : PlainPiece) → 1 ≤ chunk → piece_count chunk (length body) ≤ 256 → IsPiece chunk body p → IsPart chunk body p
piece_is chunk body p one few q =
    let count = length-pieces chunk body in
    record {
      n = q.n;
      number = ap (λ (z : PlainPiece). z.number) q.is ∙ mod-eq_of_lt (omega (arith, few, q.within, count));
      more = ap (λ (z : PlainPiece). z.has_more) q.is ∙ ap (λ m. nat_lt (q.n + 1) m) count ∙ more_is chunk q.n (length body) one;
      octets = ap (λ (z : PlainPiece). z.octets) q.is;
    }
