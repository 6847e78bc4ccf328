-- What the code keeps of what was said, in the words of the promise.
use Rattle.std.specs.Prelude.{ℕ, List, drop, map}
use Rattle.inside.specs.Inside.{Said}
use Rattle.world_log.specs.declared.saying.SaidMessage.{SaidMessage}

-- the octets of a message's APDU: those behind its header (6.2)
abbrev pub apdu_in : {A : Type 0} → SaidMessage A → List ℕ
apdu_in m = drop m.header m.npdu

-- what is inside a message, and when it was said (6.2)
abbrev pub said_of : {A : Type 0} → SaidMessage A → Said
said_of m = record { inside = record { source = m.source; reach = m.reach; apdu = apdu_in m }; stamp = m.stamp }

abbrev pub all_said : {A : Type 0} → List (SaidMessage A) → List Said
all_said ms = map (λ m. said_of m) ms
