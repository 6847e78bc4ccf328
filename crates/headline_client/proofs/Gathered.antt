-- What gathers the segments of an answer: which it takes, and what it has then.
use Rattle.std.proofs.Common.{◌≡◌, refl, ap, ◌∙◌, ℕ, suc, nat_lt, ◌==◌, Bool, true, false, List, ◌++◌, Option, Some, None}
use Rattle.std.proofs.lemmas.Bool.{eqb-true}
use Rattle.client.specs.client_tsm.Client.{receiver_of}
use Rattle.client.specs.client_tsm.declared.gathering.Gathering.{Gathering}
use Rattle.segments.specs.Receiver.{ReceiverState, joining_after, joins, may_nak, step_of, step_on, step_out_of_order}
use Rattle.segments.specs.declared.step.Step.{Step}
use Rattle.segments.specs.declared.step.Step.TheVariants.{Taken, Nak}
use Rattle.client.specs.client_tsm.Open.{got_of}
use Rattle.headline_client.specs.Safe.{pieces_of}

not_taken : (is_begun may_nak : Bool) (j : ReceiverState) (ack : Option ℕ) → step_out_of_order is_begun may_nak j ≡ Taken ack → ⊥
not_taken false may_nak j ack e = cc e
not_taken true false j ack e = cc e
not_taken true true j ack e = cc e

next_by : (is_whole is_next : Bool) (now : ℕ) (more : Bool) (octets : List ℕ) (j : ReceiverState) (ack : Option ℕ) →
    step_on is_whole is_next now more octets j ≡ Taken ack → is_next ≡ true
next_by true is_next now more octets j ack e = absurd (cc e)
next_by false true now more octets j ack e = refl
next_by false false now more octets j ack e = absurd (not_taken (nat_lt 0 j.next) (may_nak now j.nak_at) j ack e)

-- what it takes is the next one
pub taken_is_next : (now number : ℕ) (more : Bool) (octets : List ℕ) (j : ReceiverState) (ack : Option ℕ) →
    (joins now number more octets j).step ≡ Taken ack → number ≡ j.next
unfolding joins step_of
taken_is_next now number more octets j ack e = eqb-true number j.next (next_by j.is_whole (number == j.next) now more octets j ack e)

state_is : (now number : ℕ) (more : Bool) (octets : List ℕ) (j : ReceiverState) →
    (joins now number more octets j).state ≡ joining_after (joins now number more octets j).step now more octets j
unfolding joins
state_is now number more octets j = refl

-- what it takes stands behind what it had
pub next_taken : (now number : ℕ) (more : Bool) (octets : List ℕ) (j : ReceiverState) (ack : Option ℕ) → (joins now number more octets j).step ≡ Taken ack →
    (joins now number more octets j).state.next ≡ suc j.next
next_taken now number more octets j ack e =
    ap (λ (x : ReceiverState). x.next) (state_is now number more octets j) ∙ ap (λ (x : Step). (joining_after x now more octets j).next) e

pub octets_taken : (now number : ℕ) (more : Bool) (octets : List ℕ) (j : ReceiverState) (ack : Option ℕ) → (joins now number more octets j).step ≡ Taken ack →
    (joins now number more octets j).state.octets ≡ j.octets ++ octets
octets_taken now number more octets j ack e =
    ap (λ (x : ReceiverState). x.octets) (state_is now number more octets j) ∙ ap (λ (x : Step). (joining_after x now more octets j).octets) e

-- where it says a NAK it has what it had
pub next_nak : (now number : ℕ) (more : Bool) (octets : List ℕ) (j : ReceiverState) (n : ℕ) → (joins now number more octets j).step ≡ Nak n →
    (joins now number more octets j).state.next ≡ j.next
next_nak now number more octets j n e = ap (λ (x : ReceiverState). x.next) (state_is now number more octets j)
    ∙ ap (λ (x : Step). (joining_after x now more octets j).next) e

pub octets_nak : (now number : ℕ) (more : Bool) (octets : List ℕ) (j : ReceiverState) (n : ℕ) → (joins now number more octets j).step ≡ Nak n →
    (joins now number more octets j).state.octets ≡ j.octets
octets_nak now number more octets j n e =
    ap (λ (x : ReceiverState). x.octets) (state_is now number more octets j) ∙ ap (λ (x : Step). (joining_after x now more octets j).octets) e

-- what a transaction has gathered is what safety sees of it
pub next_seen : {A : Type 0} (g : Option (Gathering A)) (window : ℕ) → (receiver_of g window).next ≡ pieces_of g
next_seen None window = refl
next_seen (Some g) window = refl

pub octets_seen : {A : Type 0} (g : Option (Gathering A)) (window : ℕ) → (receiver_of g window).octets ≡ got_of g
octets_seen None window = refl
octets_seen (Some g) window = refl
