-- What a receiver does on a segment, before it has joined it.
use Rattle.std.proofs.Common.{◌≡◌, refl, ℕ, Bool, List}
use Rattle.segments.specs.Receiver.{ReceiverState, joins, step_of}

pub step_joins : (now number : ℕ) (more : Bool) (octets : List ℕ) (j : ReceiverState) →
    step_of now number more octets j ≡ (joins now number more octets j).step
unfolding joins
step_joins now number more octets j = refl

pub ruleset step_rules = (step_joins)
