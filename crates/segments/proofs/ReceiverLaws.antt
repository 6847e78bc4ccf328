-- What is joined: what was taken, and a front of the body whose pieces came.
use Rattle.std.proofs.Common.{◌≡◌, ℕ, suc, ◌+◌, ◌*◌, ◌==◌, ◌≤◌, nat_lt, not, Bool, true, false, List, [], ◌∷◌, ◌++◌, length, take, drop, Option, Some, refl, ap}
use Rattle.std.proofs.Common.{sym, ◌∙◌, arith}
use Rattle.std.specs.List.{AllByRecursion, flat_map}
use Rattle.std.proofs.lemmas.Bool.{eqb-true, ltb-false}
use Rattle.std.proofs.lemmas.List.{append-nil, append_assoc}
use Rattle.std.proofs.Math.Nat.{zero-mul, suc-mul, mod-eq_of_lt}
use Rattle.std.proofs.Math.Seq.{take-add}
use Rattle.segments.specs.Pieces.{PlainPiece, pieces}
use Rattle.segments.specs.Receiver.{ReceiverState, nothing_joined, step_out_of_order, may_nak, step_on, step_of, joins, joining_after, whole_if}
use Rattle.segments.specs.Laws.{Heard, step_by, after_one, after_all, taken_by, taken, AreNumberedFrom, are_ended, IsJoined, IsPiece, IsFront}
use Rattle.segments.specs.declared.step.Step.{Step}
use Rattle.segments.specs.declared.step.Step.TheVariants.{Taken, Nak, Dropped, Full}
use Rattle.segments.proofs.PieceLaws.{all_of}

octets_by : (s : Step) (h : Heard) (ps : List PlainPiece) (j : ReceiverState) (all : List ℕ) →
    all ≡ (joining_after s h.at h.says.has_more h.says.octets j).octets ++ flat_map (λ (p : PlainPiece). p.octets) ps →
    all ≡ j.octets ++ flat_map (λ (p : PlainPiece). p.octets) (taken_by s h.says ps)
octets_by (Taken ack) h ps j all e = e ∙ append_assoc j.octets h.says.octets (flat_map (λ (p : PlainPiece). p.octets) ps)
octets_by (Nak number) h ps j all e = e
octets_by Dropped h ps j all e = e
octets_by Full h ps j all e = e

octets_joined : (hs : List Heard) (j : ReceiverState) → (after_all hs j).octets ≡ j.octets ++ flat_map (λ (p : PlainPiece). p.octets) (taken hs j)
unfolding step_of joins
octets_joined [] j = sym (append-nil j.octets)
octets_joined (h ∷ hs) j = octets_by (step_by h j) h (taken hs (after_one h j)) j _ (octets_joined hs (after_one h j))

next_by : (s : Step) (h : Heard) (ps : List PlainPiece) (j : ReceiverState) (all : ℕ) →
    all ≡ (joining_after s h.at h.says.has_more h.says.octets j).next + length ps → all ≡ j.next + length (taken_by s h.says ps)
next_by (Taken ack) h ps j all e = omega (arith, e)
next_by (Nak number) h ps j all e = e
next_by Dropped h ps j all e = e
next_by Full h ps j all e = e

next_joined : (hs : List Heard) (j : ReceiverState) → (after_all hs j).next ≡ j.next + length (taken hs j)
unfolding step_of joins
next_joined [] j = omega arith
next_joined (h ∷ hs) j = next_by (step_by h j) h (taken hs (after_one h j)) j _ (next_joined hs (after_one h j))

whole_by : (s : Step) (h : Heard) (ps : List PlainPiece) (j : ReceiverState) (all : Bool) →
    all ≡ are_ended (joining_after s h.at h.says.has_more h.says.octets j).is_whole ps → all ≡ are_ended j.is_whole (taken_by s h.says ps)
whole_by (Taken ack) h ps j all e = e
whole_by (Nak number) h ps j all e = e
whole_by Dropped h ps j all e = e
whole_by Full h ps j all e = e

whole_joined : (hs : List Heard) (j : ReceiverState) → (after_all hs j).is_whole ≡ are_ended j.is_whole (taken hs j)
unfolding step_of joins
whole_joined [] j = refl
whole_joined (h ∷ hs) j = whole_by (step_by h j) h (taken hs (after_one h j)) j _ (whole_joined hs (after_one h j))

-- only the next segment is taken
not_taken : (is_begun may_nak : Bool) (j : ReceiverState) (ack : Option ℕ) → step_out_of_order is_begun may_nak j ≡ Taken ack → ⊥
not_taken false may_nak j ack e = cc
not_taken true false j ack e = cc
not_taken true true j ack e = cc

is_next_of : (is_whole is_next : Bool) (now : ℕ) (more : Bool) (octets : List ℕ) (j : ReceiverState) (ack : Option ℕ) →
    step_on is_whole is_next now more octets j ≡ Taken ack → is_next ≡ true
is_next_of true is_next now more octets j ack e = absurd (not_taken false false j ack e)
is_next_of false true now more octets j ack e = refl
is_next_of false false now more octets j ack e = absurd (not_taken (nat_lt 0 j.next) (may_nak now j.nak_at) j ack e)

taken_is_next : (h : Heard) (j : ReceiverState) (ack : Option ℕ) → step_by h j ≡ Taken ack → h.says.number ≡ j.next
unfolding step_of
taken_is_next h j ack e =
    eqb-true h.says.number j.next (is_next_of j.is_whole (h.says.number == j.next) h.at h.says.has_more h.says.octets j ack e)

numbers_by : (s : Step) (h : Heard) (ps : List PlainPiece) (j : ReceiverState) → ((ack : Option ℕ) → s ≡ Taken ack → h.says.number ≡ j.next) →
    AreNumberedFrom (joining_after s h.at h.says.has_more h.says.octets j).next ps → AreNumberedFrom j.next (taken_by s h.says ps)
numbers_by (Taken ack) h ps j next numbered = (next ack refl, numbered)
numbers_by (Nak number) h ps j next numbered = numbered
numbers_by Dropped h ps j next numbered = numbered
numbers_by Full h ps j next numbered = numbered

numbers_joined : (hs : List Heard) (j : ReceiverState) → AreNumberedFrom j.next (taken hs j)
unfolding step_of joins
numbers_joined [] j = tt
numbers_joined (h ∷ hs) j = numbers_by (step_by h j) h (taken hs (after_one h j)) j (taken_is_next h j) (numbers_joined hs (after_one h j))

pub whole_is_taken : (window : ℕ) (heard : List Heard) → IsJoined (taken heard (nothing_joined window)) (after_all heard (nothing_joined window))
whole_is_taken window heard = record {
  octets = octets_joined heard (nothing_joined window);
  numbers = numbers_joined heard (nothing_joined window);
  next = next_joined heard (nothing_joined window) ∙ omega arith;
  whole = whole_joined heard (nothing_joined window);
}

whole_of_last : (more : Bool) (octets all : List ℕ) → whole_if (not more) octets ≡ Some all → (more ≡ false) × (octets ≡ all)
whole_of_last true octets all e = cc
whole_of_last false octets all e = (refl, cc)

-- the next piece of a body behind a front of it
next_is_front : (chunk : ℕ) (body : List ℕ) (p : PlainPiece) (j : ReceiverState) → length (pieces chunk body) ≤ 256 → (q : IsPiece chunk body p) →
    p.number ≡ j.next → j.octets ≡ take (j.next * chunk) body → (j.octets ++ p.octets ≡ take (suc j.next * chunk) body) × (q.n ≡ j.next)
next_is_front chunk body p j few q next front =
    let n : q.n ≡ j.next = sym (mod-eq_of_lt (omega (arith, few, q.within))) ∙ sym (ap (λ (p : PlainPiece). p.number) q.is) ∙ next in
    let octets : p.octets ≡ take chunk (drop (j.next * chunk) body) = ap (λ (p : PlainPiece). p.octets) q.is ∙ ap (λ m. take chunk (drop (m * chunk) body)) n in
    let more : j.next * chunk + chunk ≡ suc j.next * chunk = omega (arith, suc-mul j.next chunk) in
    (rw (front, octets) (sym (take-add (j.next * chunk) chunk body) ∙ ap (λ m. take m body) more), n)

last_is_body : (chunk : ℕ) (body : List ℕ) (p : PlainPiece) (j : ReceiverState) → 1 ≤ chunk → length (pieces chunk body) ≤ 256 → (q : IsPiece chunk body p) →
    p.number ≡ j.next → j.octets ≡ take (j.next * chunk) body → p.has_more ≡ false → j.octets ++ p.octets ≡ body
last_is_body chunk body p j one few q next front last =
    let f = next_is_front chunk body p j few q next front in
    let end : length (pieces chunk body) ≤ q.n + 1 = ltb-false (q.n + 1) (length (pieces chunk body)) (sym (ap (λ (p : PlainPiece). p.has_more) q.is) ∙ last) in
    f.0 ∙ all_of chunk body (suc j.next) one (omega (arith, end, f.1))

keeps_by : (s : Step) (chunk : ℕ) (body : List ℕ) (h : Heard) (j : ReceiverState) → 1 ≤ chunk → length (pieces chunk body) ≤ 256 → IsPiece chunk body h.says →
    ((ack : Option ℕ) → s ≡ Taken ack → h.says.number ≡ j.next) → IsFront chunk body j →
    IsFront chunk body (joining_after s h.at h.says.has_more h.says.octets j)
keeps_by (Taken ack) chunk body h j one few q next front = record {
  octets = (next_is_front chunk body h.says j few q (next ack refl) front.octets).0;
  whole = λ all e. let w = whole_of_last h.says.has_more (j.octets ++ h.says.octets) all e in
      sym w.1 ∙ last_is_body chunk body h.says j one few q (next ack refl) front.octets w.0;
}
keeps_by (Nak number) chunk body h j one few q next front = record { octets = front.octets; whole = front.whole }
keeps_by Dropped chunk body h j one few q next front = front
keeps_by Full chunk body h j one few q next front = front

pub keeps_front : (chunk : ℕ) (body : List ℕ) (h : Heard) (j : ReceiverState) → 1 ≤ chunk → length (pieces chunk body) ≤ 256 → IsPiece chunk body h.says →
    IsFront chunk body j → IsFront chunk body (after_one h j)
unfolding step_of joins
keeps_front chunk body h j one few q front = keeps_by (step_by h j) chunk body h j one few q (taken_is_next h j) front

all_keep_front : (chunk : ℕ) (body : List ℕ) (hs : List Heard) (j : ReceiverState) → 1 ≤ chunk → length (pieces chunk body) ≤ 256 →
    AllByRecursion (λ h. IsPiece chunk body h.says) hs → IsFront chunk body j → IsFront chunk body (after_all hs j)
all_keep_front chunk body [] j one few qs front = front
all_keep_front chunk body (h ∷ hs) j one few qs front =
    all_keep_front chunk body hs (after_one h j) one few qs.1 (keeps_front chunk body h j one few qs.0 front)

pub nothing_is_front : (chunk window : ℕ) (body : List ℕ) → IsFront chunk body (nothing_joined window)
nothing_is_front chunk window body = record { octets = ap (λ m. take m body) (sym (zero-mul chunk)); whole = λ all e. cc }

pub whole_is_cut : (chunk window : ℕ) (body : List ℕ) (heard : List Heard) → 1 ≤ chunk → length (pieces chunk body) ≤ 256 →
    AllByRecursion (λ h. IsPiece chunk body h.says) heard → IsFront chunk body (after_all heard (nothing_joined window))
whole_is_cut chunk window body heard one few qs = all_keep_front chunk body heard (nothing_joined window) one few qs (nothing_is_front chunk window body)
