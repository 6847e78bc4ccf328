-- What a receiver of segments does on one: what that says of its number, and what it leaves.
use Rattle.std.proofs.Common.{◌≡◌, refl, sym, ap, subst, ℕ, Bool, true, false, List}
use Rattle.std.specs.Prelude.{◌==◌, nat_lt, Option}
use Rattle.std.proofs.lemmas.Bool.{eqb-true}
use Rattle.segments.specs.Receiver.{ReceiverState, is_due, is_full, joining_after, joins, may_nak, nothing_joined, step_in_order, step_of, step_on}
use Rattle.segments.specs.Receiver.{step_out_of_order}
use Rattle.segments.specs.declared.step.Step.{Step}
use Rattle.segments.specs.declared.step.Step.TheVariants.{Taken, Nak, Dropped, Full}

-- the state that a step leaves
pub joins_so : (now n : ℕ) (more : Bool) (octets : List ℕ) (j : ReceiverState) (stp : Step) → (joins now n more octets j).step ≡ stp →
    (joins now n more octets j).state ≡ joining_after stp now more octets j
unfolding joins
joins_so now n more octets j stp e = ap (λ z. joining_after z now more octets j) e

-- it takes the next segment alone
out_taken : (b m : Bool) (j : ReceiverState) (ack : Option ℕ) → step_out_of_order b m j ≡ Taken ack → ⊥
out_taken false m j ack e = absurd (cc e)
out_taken true false j ack e = absurd (cc e)
out_taken true true j ack e = absurd (cc e)

taken_on : (b c : Bool) (now n : ℕ) (more : Bool) (octets : List ℕ) (j : ReceiverState) (ack : Option ℕ) → (n == j.next) ≡ c →
    step_on b c now more octets j ≡ Taken ack → n ≡ j.next
taken_on true c now n more octets j ack t e = absurd (cc e)
taken_on false true now n more octets j ack t e = eqb-true n j.next t
taken_on false false now n more octets j ack t e = absurd (out_taken (nat_lt 0 j.next) (may_nak now j.nak_at) j ack e)

pub taken_next : (now n : ℕ) (more : Bool) (octets : List ℕ) (j : ReceiverState) (ack : Option ℕ) → (joins now n more octets j).step ≡ Taken ack → n ≡ j.next
unfolding joins step_of
taken_next now n more octets j ack e = taken_on j.is_whole (n == j.next) now n more octets j ack refl e

-- the first segment is taken, or passes a limit
abbrev pub IsInOrder : Step → Type 0
IsInOrder (Taken ack) = Unit {0}
IsInOrder (Nak number) = ⊥
IsInOrder Dropped = ⊥
IsInOrder Full = Unit {0}

in_order : (full due : Bool) (j : ReceiverState) → IsInOrder (step_in_order full due j)
in_order true due j = tt
in_order false due j = tt

pub begins_in_order : (now n window : ℕ) (more : Bool) (octets : List ℕ) → (n == 0) ≡ true → IsInOrder (joins now n more octets (nothing_joined window)).step
unfolding joins step_of
begins_in_order now n window more octets e =
    subst (λ b. IsInOrder (step_on false b now more octets (nothing_joined window))) (sym e)
    (in_order (is_full octets (nothing_joined window)) (is_due more (nothing_joined window)) (nothing_joined window))
