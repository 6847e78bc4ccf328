-- The pieces of a body: their number, their places, and their concatenation.
use Rattle.std.proofs.Common.{inl, inr, ◌⊎◌, ◌≡◌, ℕ, zero, suc, ◌+◌, ◌-◌, ◌*◌, ◌/◌, ◌<◌, ◌≤◌, min, List, ◌∷◌, ◌++◌, length, take, drop, Some, slice_get, refl}
use Rattle.std.proofs.Common.{ap, sym, subst, ◌∙◌, arith}
use Rattle.std.specs.List.{AllByRecursion, flat_map}
use Rattle.std.proofs.lemmas.Bool.{cases_lt}
use Rattle.std.proofs.Math.Nat.{zero-mul, suc-mul, lt-mul-div-succ, mul_comm, div-mul-le_self, mul-le-mul_right}
use Rattle.std.proofs.Math.Seq.{take-add}
use Rattle.std.proofs.lemmas.List.{drop-drop, length-drop, length-take, take_all}
use Rattle.segments.specs.Pieces.{PlainPiece, piece_count, piece, pieces_from, pieces}
use Rattle.segments.specs.Sender.{SenderState, window_of}
use Rattle.segments.specs.Laws.{IsFewest, IsPiece}

pub length-pieces_from : (chunk count : ℕ) (body : List ℕ) (n k : ℕ) → length (pieces_from chunk count body n k) ≡ k
length-pieces_from chunk count body n zero = refl
length-pieces_from chunk count body n (suc k) = ap suc (length-pieces_from chunk count body (suc n) k)

pub length-pieces : (chunk : ℕ) (body : List ℕ) → length (pieces chunk body) ≡ piece_count chunk (length body)
length-pieces chunk body = length-pieces_from chunk (piece_count chunk (length body)) body 0 (piece_count chunk (length body))

drop-pieces_from : (chunk count : ℕ) (body : List ℕ) (n k i : ℕ) → drop i (pieces_from chunk count body n k) ≡ pieces_from chunk count body (n + i) (k - i)
drop-pieces_from chunk count body n k zero =
    let at : n ≡ n + 0 = omega arith in
    let rest : k ≡ k - 0 = omega arith in
    ap (λ m. pieces_from chunk count body m k) at ∙ ap (λ m. pieces_from chunk count body (n + 0) m) rest
drop-pieces_from chunk count body n zero (suc i) =
    let e : 0 ≡ 0 - suc i = omega arith in ap (λ m. pieces_from chunk count body (n + suc i) m) e
drop-pieces_from chunk count body n (suc k) (suc i) =
    let a : suc n + i ≡ n + suc i = omega arith in
    let b : k - i ≡ suc k - suc i = omega arith in
    drop-pieces_from chunk count body (suc n) k i ∙ ap (λ m. pieces_from chunk count body m (k - i)) a ∙ ap (λ m. pieces_from chunk count body (n + suc i) m) b

take-pieces_from : (chunk count : ℕ) (body : List ℕ) (n k i : ℕ) → take i (pieces_from chunk count body n k) ≡ pieces_from chunk count body n (min i k)
take-pieces_from chunk count body n k zero =
    let e : 0 ≡ min 0 k = omega arith in ap (λ m. pieces_from chunk count body n m) e
take-pieces_from chunk count body n zero (suc i) =
    let e : 0 ≡ min (suc i) 0 = omega arith in ap (λ m. pieces_from chunk count body n m) e
take-pieces_from chunk count body n (suc k) (suc i) =
    let e : suc (min i k) ≡ min (suc i) (suc k) = omega arith in
    ap (λ m. piece chunk count body n ∷ m) (take-pieces_from chunk count body (suc n) k i) ∙ ap (λ m. pieces_from chunk count body n m) e

-- a window of a body
pub window_is : (body : List ℕ) (c : SenderState) (count size : ℕ) → count ≡ piece_count c.chunk (length body) →
    size ≡ min c.window (count - c.acknowledged) → pieces_from c.chunk count body c.acknowledged size ≡ window_of body c
unfolding window_of
window_is body c count size counted fits =
    let at : 0 + c.acknowledged ≡ c.acknowledged = omega arith in
    let from = drop-pieces_from c.chunk count body 0 count c.acknowledged ∙ ap (λ n. pieces_from c.chunk count body n (count - c.acknowledged)) at in
    let to = take-pieces_from c.chunk count body c.acknowledged (count - c.acknowledged) c.window in
    ap (λ n. pieces_from c.chunk count body c.acknowledged n) fits ∙ sym to ∙ ap (λ (ps : List PlainPiece). take c.window ps) (sym from)
    ∙ ap (λ n. take c.window (drop c.acknowledged (pieces_from c.chunk n body 0 n))) counted

-- so many pieces are so much of the body
joined_from : (chunk count : ℕ) (body : List ℕ) (n k : ℕ) →
    flat_map (λ (p : PlainPiece). p.octets) (pieces_from chunk count body n k) ≡ take (k * chunk) (drop (n * chunk) body)
joined_from chunk count body n zero =
    let e : 0 ≡ 0 * chunk = sym (zero-mul chunk) in ap (λ m. take m (drop (n * chunk) body)) e
joined_from chunk count body n (suc k) =
    let rest = drop (n * chunk) body in
    let next : drop chunk rest ≡ drop (suc n * chunk) body = drop-drop chunk (n * chunk) body ∙ ap (λ m. drop m body) (sym (suc-mul n chunk)) in
    let more : chunk + k * chunk ≡ suc k * chunk = omega (arith, suc-mul k chunk) in
    ap (λ os. take chunk rest ++ os) (joined_from chunk count body (suc n) k ∙ ap (λ os. take (k * chunk) os) (sym next))
    ∙ sym (take-add chunk (k * chunk) rest) ∙ ap (λ m. take m rest) more

pub holds : (chunk size : ℕ) → 1 ≤ chunk → size ≤ piece_count chunk size * chunk
holds chunk size one =
    let e = lt-mul-div-succ (size - 1) {b = chunk} one in
    omega (arith, e, mul_comm chunk (piece_count chunk size))

pub pieces_join : (chunk : ℕ) (body : List ℕ) → 1 ≤ chunk → flat_map (λ (p : PlainPiece). p.octets) (pieces chunk body) ≡ body
pieces_join chunk body one =
    let count = piece_count chunk (length body) in
    let start : drop (0 * chunk) body ≡ body = ap (λ m. drop m body) (zero-mul chunk) in
    joined_from chunk count body 0 count ∙ ap (λ os. take (count * chunk) os) start ∙ take_all (count * chunk) body (holds chunk (length body) one)

-- no fewer hold the body
fewest_if : (chunk size fewer : ℕ) → 1 ≤ chunk → 1 ≤ fewer → size ≤ fewer * chunk → ((size - 1) / chunk < fewer) ⊎ (fewer ≤ (size - 1) / chunk) →
    piece_count chunk size ≤ fewer
fewest_if chunk size fewer one some hold (inl lt) = omega (arith, lt)
fewest_if chunk size fewer one some hold (inr le) =
    let a : fewer * chunk ≤ (size - 1) / chunk * chunk = mul-le-mul_right chunk le in
    let b : (size - 1) / chunk * chunk ≤ size - 1 = div-mul-le_self (size - 1) chunk in
    let c : 1 * chunk ≤ fewer * chunk = mul-le-mul_right chunk some in
    absurd (omega (arith, a, b, c, one, hold))

pub fewest : (chunk : ℕ) (body : List ℕ) → 1 ≤ chunk → IsFewest chunk (length body) (length (pieces chunk body))
fewest chunk body one = rw (length-pieces chunk body) (record {
  one = omega arith;
  holds = holds chunk (length body) one;
  fewest = λ fewer some hold. fewest_if chunk (length body) fewer one some hold (cases_lt ((length body - 1) / chunk) fewer);
})

slice_get-pieces_from : (chunk count : ℕ) (body : List ℕ) (n k i : ℕ) → i < k →
    slice_get (pieces_from chunk count body n k) i ≡ Some (piece chunk count body (n + i))
slice_get-pieces_from chunk count body n zero i lt = absurd (omega (arith, lt))
slice_get-pieces_from chunk count body n (suc k) zero lt =
    let e : n ≡ n + 0 = omega arith in ap (λ m. Some (piece chunk count body m)) e
slice_get-pieces_from chunk count body n (suc k) (suc i) lt =
    let e : suc n + i ≡ n + suc i = omega arith in
    slice_get-pieces_from chunk count body (suc n) k i (omega (arith, lt)) ∙ ap (λ m. Some (piece chunk count body m)) e

pub in_order : (chunk : ℕ) (body : List ℕ) (n : ℕ) → n < length (pieces chunk body) →
    slice_get (pieces chunk body) n ≡ Some (piece chunk (length (pieces chunk body)) body n)
in_order chunk body n lt =
    let count = piece_count chunk (length body) in
    let e = length-pieces chunk body in
    let at : 0 + n ≡ n = omega arith in
    slice_get-pieces_from chunk count body 0 count n (omega (arith, lt, e)) ∙ ap (λ m. Some (piece chunk count body m)) at
    ∙ ap (λ m. Some (piece chunk m body n)) (sym e)

pub full : (chunk : ℕ) (body : List ℕ) (n : ℕ) → 1 ≤ chunk → n + 1 < length (pieces chunk body) → length (take chunk (drop (n * chunk) body)) ≡ chunk
full chunk body n one lt =
    let within : suc n ≤ (length body - 1) / chunk = omega (arith, lt, length-pieces chunk body) in
    let a : suc n * chunk ≤ (length body - 1) / chunk * chunk = mul-le-mul_right chunk within in
    let b : (length body - 1) / chunk * chunk ≤ length body - 1 = div-mul-le_self (length body - 1) chunk in
    length-take chunk (drop (n * chunk) body) ∙ omega (arith, a, b, suc-mul n chunk, length-drop (n * chunk) body)

-- so many pieces, the last of them included, hold all of the body
pub all_of : (chunk : ℕ) (body : List ℕ) (n : ℕ) → 1 ≤ chunk → length (pieces chunk body) ≤ n → take (n * chunk) body ≡ body
all_of chunk body n one le =
    let count : piece_count chunk (length body) ≤ n = omega (arith, le, length-pieces chunk body) in
    let a = mul-le-mul_right chunk count in
    take_all (n * chunk) body (omega (arith, a, holds chunk (length body) one))

pieces_are : (chunk : ℕ) (body : List ℕ) (n k : ℕ) → k ≤ length (pieces chunk body) - n →
    AllByRecursion (IsPiece chunk body) (pieces_from chunk (length (pieces chunk body)) body n k)
pieces_are chunk body n zero le = tt
pieces_are chunk body n (suc k) le =
    (record { n = n; within = omega (arith, le); is = refl }, pieces_are chunk body (suc n) k (omega (arith, le)))

pub window_is_pieces : (body : List ℕ) (c : SenderState) → AllByRecursion (IsPiece c.chunk body) (window_of body c)
window_is_pieces body c =
    let count = length (pieces c.chunk body) in
    let size = min c.window (count - c.acknowledged) in
    subst (λ ps. AllByRecursion (IsPiece c.chunk body) ps) (window_is body c count size (length-pieces c.chunk body) refl)
    (pieces_are c.chunk body c.acknowledged size (omega arith))
