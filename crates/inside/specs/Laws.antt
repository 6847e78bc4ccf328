-- What holds of all that is inside messages.
use Rattle.std.specs.Prelude.{◌≡◌, ℕ, ◌<◌, true, List, Some}
use Rattle.npdu.specs.Header.{Header, Spells}
use Rattle.npdu.specs.Mac.{is_address}
use Rattle.npdu.specs.declared.mac.Mac.{Mac}
use Rattle.npdu.specs.declared.mac.Target.{Target}
use Rattle.npdu.specs.declared.message.Message.{Message}
use Rattle.npdu.specs.declared.parcel.Parcel.{Parcel}
use Rattle.inside.specs.Inside.{HasInside, HasNothingInside, Inside, IsInside}
use Rattle.inside.specs.Routed.{IsRouted}

-- there is one thing inside a message (6.2)
abbrev pub OneInside : Type 0
OneInside = (net : ℕ) (from : Mac) (to : Target) (npdu : List ℕ) (i j : Inside) → HasInside net from to npdu i →
    HasInside net from to npdu j → i ≡ j

-- what is inside octets is inside the one header that they spell (6.2)
abbrev pub InsideItsHeader : Type 0
InsideItsHeader = (net : ℕ) (from : Mac) (to : Target) (npdu : List ℕ) (h : Header) (i : Inside) → Spells npdu h →
    HasInside net from to npdu i → IsInside net from to h i

-- octets that spell a network message have nothing inside (6.2.4)
abbrev pub NetworkMessageHasNothing : Type 0 → Type 0
NetworkMessageHasNothing A = (net : ℕ) (p : Parcel A) (h : Header) (m : Message) → Spells p.npdu h →
    h.message ≡ Some m → HasNothingInside net p

-- what is inside what a router passes on was inside what it heard, on a network with a number, from an address (6.5.2)
abbrev pub RoutedIsInside : Type 0 → Type 0
RoutedIsInside A = (net other : ℕ) (p q : Parcel A) (i : Inside) → is_address p.from ≡ true → 0 < net → net < 65535 →
    IsRouted net other p q → HasInside other q.from q.to q.npdu i → HasInside net p.from p.to p.npdu i
