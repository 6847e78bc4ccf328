-- What a datagram of BACnet/IP carries from one address to another (J.2).
use Rattle.std.specs.Prelude.{◌≡◌, ℕ, Bool, true, false, List, [], ◌∷◌, Option, Some, None, refl}
use Rattle.bvll.specs.Address.{address_octets}
use Rattle.bvll.specs.Datagram.{Datagram, Spells, broadcast, distribute, forwarded, unicast}
use Rattle.bvll.specs.declared.address.Address.{Address}
use Rattle.npdu.specs.declared.mac.Mac.{Mac}
use Rattle.npdu.specs.declared.mac.Mac.TheVariants.{Six}
use Rattle.npdu.specs.declared.mac.Target.{Target}
use Rattle.npdu.specs.declared.mac.Target.TheVariants.{One, All}
use Rattle.npdu.specs.declared.parcel.Parcel.{Parcel}

-- the link address of a station of BACnet/IP (J.1.2)
abbrev pub mac_at : Address → Mac
mac_at a = Six (address_octets a)

-- a parcel with these fields
abbrev pub parcel : {A : Type 0} → (from : Mac) → (to : Target) → (npdu : List ℕ) → (stamp : ℕ) → Parcel A
parcel from to npdu stamp = record { from = from; to = to; npdu = npdu; stamp = stamp }

-- what a datagram carries from one address to another: to that one (J.2.11), or to all of the network, from who sent it
-- (J.2.10, J.2.12) or from its origin (J.2.5)
abbrev pub carried_by : {A : Type 0} → (from to : Mac) → (stamp : ℕ) → Datagram → Option (Parcel A)
carried_by from to stamp (unicast npdu) = Some (parcel from (One to) npdu stamp)
carried_by from to stamp (broadcast npdu) = Some (parcel from All npdu stamp)
carried_by from to stamp (distribute npdu) = Some (parcel from All npdu stamp)
carried_by from to stamp (forwarded origin npdu) = Some (parcel (mac_at origin) All npdu stamp)
carried_by from to stamp d = None

-- a datagram carries an NPDU (J.2.5, J.2.10 to J.2.12)
abbrev pub carries_npdu : Datagram → Bool
carries_npdu (unicast npdu) = true
carries_npdu (broadcast npdu) = true
carries_npdu (distribute npdu) = true
carries_npdu (forwarded origin npdu) = true
carries_npdu d = false

-- rows that a slip in a definition would break: what goes to one station, and what a manager forwards of another
row_unicast : {A : Type 0} (a b : Address) → carried_by {A = A} (mac_at a) (mac_at b) 7 (unicast (0x01 ∷ []))
    ≡ Some (parcel (mac_at a) (One (mac_at b)) (0x01 ∷ []) 7)
row_unicast a b = refl

row_forwarded : {A : Type 0} (a b c : Address) → carried_by {A = A} (mac_at a) (mac_at b) 7 (forwarded c (0x01 ∷ []))
    ≡ Some (parcel (mac_at c) All (0x01 ∷ []) 7)
row_forwarded a b c = refl

-- octets that went from one address to another spell a datagram that carries this parcel (J.2)
pub record IsDatagramOf {A : Type 0} (from to : Mac) (octets : List ℕ) (stamp : ℕ) (p : Parcel A) : Type 0 where
  pub datagram : Datagram
  pub spelled : Spells octets datagram
  pub carries : carried_by from to stamp datagram ≡ Some p
