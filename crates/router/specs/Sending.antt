-- What goes out over a router's ports.
use Rattle.std.specs.Prelude.{ℕ, ◌+◌, ◌==◌, Bool, true, false, List, [], ◌∷◌, ◌++◌}
use Rattle.npdu.specs.declared.mac.Mac.{Mac}
use Rattle.npdu.specs.declared.mac.Station.{Station}
use Rattle.npdu.specs.declared.mac.Target.{Target}
use Rattle.router.specs.declared.plan.PortParcel.{PortParcel}

-- octets go out over a port, from the router's address there
abbrev pub sent : {A : Type 0} → (port : ℕ) → (own : Mac) → Target → (stamp : ℕ) → List ℕ → PortParcel A
sent port own to stamp npdu =
    record { port = port; parcel = record { from = own; to = to; npdu = npdu; stamp = stamp } }

-- these, where that isn't so
abbrev pub unless : {X : Type 0} → Bool → List X → List X
unless true xs = []
unless false xs = xs

-- what there is of each port but that one, in order; ports are numbered on from `first`
abbrev pub of_others_from : {X : Type 0} → (ℕ → Station → List X) → (first port : ℕ) → List Station → List X
of_others_from f first port [] = []
of_others_from f first port (s ∷ ss) = unless (first == port) (f first s) ++ of_others_from f (first + 1) port ss

abbrev pub of_others : {X : Type 0} → (ℕ → Station → List X) → ℕ → List Station → List X
of_others f port ports = of_others_from f 0 port ports
