-- What octets carry, in the words of what is on its way.
use Rattle.std.specs.Prelude.{◌≡◌, ◌↔◌, ℕ, List}
use Rattle.carry.specs.Things.{Bears, net_of}
use Rattle.npdu.specs.declared.mac.Mac.{Mac}
use Rattle.npdu.specs.declared.parcel.Parcel.{Parcel}
use Rattle.link_site.specs.Things.{Carries, thing_at}

-- octets carry a parcel exactly where what is then on its way bears it
abbrev pub CarriedIsBorne : Type 0 → Type 0
CarriedIsBorne A = (net : ℕ) (from to : Mac) (octets : List ℕ) (stamp : ℕ) (p : Parcel A) →
    Carries from to octets stamp p ↔ Bears (thing_at net from to octets stamp) p

-- .. which is on the network over which they go
abbrev pub IsOnItsNetwork : Type 0 → Type 0
IsOnItsNetwork A = (net : ℕ) (from to : Mac) (octets : List ℕ) (stamp : ℕ) →
    net_of (thing_at {A = A} net from to octets stamp) ≡ net
