-- What the built-in port hands up of a datagram (J.2).
use Rattle.std.specs.Prelude.{◌≡◌, ℕ, List, Option, Some, None}
use Rattle.link_ip.specs.Hearing.{IsHeard}
use Rattle.npdu.specs.declared.mac.Mac.{Mac}
use Rattle.npdu.specs.declared.parcel.Parcel.{Parcel}

-- octets from an address, said at the moment 0, hand this up to the station at another
abbrev pub HandsUp : {A : Type 0} → (own from : Mac) → (datagram : List ℕ) → Parcel A → Type 0
HandsUp own from datagram p = IsHeard from own datagram 0 (Some p)

-- they hand this up and nothing else
pub record OnlyHandsUp {A : Type 0} (own from : Mac) (datagram : List ℕ) (p : Parcel A) : Type 0 where
  pub only : (q : Parcel A) → HandsUp own from datagram q → p ≡ q

-- they hand up nothing
pub record HandsUpNothing (A : Type 0) (own from : Mac) (datagram : List ℕ) : Type 0 where
  pub none : (p : Parcel A) → HandsUp own from datagram p → ⊥

-- what they hand up, if they hand anything up
abbrev pub Brings : {A : Type 0} → (own from : Mac) → (datagram : List ℕ) → Option (Parcel A) → Type 0
Brings {A} own from datagram None = HandsUpNothing A own from datagram
Brings own from datagram (Some p) = HandsUp own from datagram p × OnlyHandsUp own from datagram p
