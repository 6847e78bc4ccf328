-- What comes of a call of a link, and what goes out over the ports of a station (6.1).
use Rattle.std.specs.Prelude.{◌≡◌, ℕ, List, [], ◌∷◌, ◌++◌, Option, None, length, drop}
use Rattle.npdu.specs.declared.parcel.Parcel.{Parcel}
use Rattle.link.specs.declared.step.Sent.{Sent}

-- what is handed up, if anything is, and what is put out, in order
pub record LinkStep (A : Type 0) : Type 0 where
  pub up : Option (Parcel A)
  pub out : List (Sent A)

-- a datagram or a frame, and the number of the port that it goes out over
pub record PortSent (A : Type 0) : Type 0 where
  pub port : ℕ
  pub sent : Sent A

-- all of these over this port, in order
abbrev pub over_port : {A : Type 0} → ℕ → List (Sent A) → List (PortSent A)
over_port port [] = []
over_port port (s ∷ ss) = record { port = port; sent = s } ∷ over_port port ss

-- what goes out, whatever the port
abbrev pub sent_of : {A : Type 0} → List (PortSent A) → List (Sent A)
sent_of [] = []
sent_of (s ∷ ss) = s.sent ∷ sent_of ss

-- what was put out from one list to a longer one
abbrev pub put_out : {A : Type 0} → (old new : List (PortSent A)) → List (Sent A)
put_out old new = sent_of (drop (length old) new)

-- the step of a call that appended this, and handed this up
abbrev pub step_of : {A : Type 0} → (up : Option (Parcel A)) → (old new : List (PortSent A)) → LinkStep A
step_of up old new = record { up = up; out = put_out old new }

-- what is put out over a port stands behind the rest
pub record PutsOver {A : Type 0} (port : ℕ) (old new : List (PortSent A)) : Type 0 where
  pub more : List (Sent A)
  pub behind : new ≡ old ++ over_port port more

-- the rest stands in front still
pub record Extends {A : Type 0} (old new : List (PortSent A)) : Type 0 where
  pub more : List (PortSent A)
  pub behind : new ≡ old ++ more
