-- Messages that a router passes on (6.2.2, 6.3, 6.5).
use Rattle.std.specs.Prelude.{ℕ, ◌&&◌, ◌||◌, nat_le, Bool, true, false, List, [], ◌∷◌, length}
use Rattle.std.specs.Prelude.{Option, Some, None, is_some}
use Rattle.npdu.specs.Dnet.{dnet_number}
use Rattle.npdu.specs.Header.{Header, PlainDestination, canonical}
use Rattle.npdu.specs.declared.mac.Mac.{Mac}
use Rattle.npdu.specs.declared.mac.Mac.TheVariants as kind
use Rattle.npdu.specs.declared.mac.Station.{Station}
use Rattle.npdu.specs.declared.mac.Target.{Target}
use Rattle.npdu.specs.declared.mac.Target.TheVariants.{All}
use Rattle.npdu.specs.declared.message.NetworkRejectReason.TheVariants.{TooLong}
use Rattle.profile.specs.LinkKind.{max_apdu, max_npdu}
use Rattle.profile.specs.declared.link_kind.LinkKind.{LinkKind}
use Rattle.profile.specs.declared.link_kind.LinkKind.TheVariants.{BacnetIp, MsTp}
use Rattle.inside.specs.Routed.{at_last, on_way}
use Rattle.router.specs.Messages.{Heard, refused}
use Rattle.router.specs.Sending.{sent}
use Rattle.router.specs.declared.plan.PortParcel.{PortParcel}

-- the kind of link where the router has this address (Table 6-2)
abbrev pub link_of : Mac → LinkKind
link_of (kind.One octet) = MsTp
link_of (kind.Six octets) = BacnetIp

-- a link carries so many octets of an NPDU, and of its APDU: a network message has none (9, J)
abbrev pub carries : LinkKind → ℕ → Header → Bool
carries link octets h = nat_le octets (max_npdu link) && (is_some h.message || nat_le (length h.body) (max_apdu link))

-- .. an NPDU with this header
abbrev pub fits : Mac → Header → Bool
fits own h = carries (link_of own) (length (canonical h)) h

-- the network that a message is for, as what goes back names it (6.4.4)
abbrev pub net_of : Option PlainDestination → ℕ
net_of None = 0
net_of (Some d) = dnet_number d.net

-- its header on the way to a further network; one without a destination isn't passed on
abbrev pub way_if : {A : Type 0} → Heard A → Option PlainDestination → Header
way_if m None = m.header
way_if m (Some d) = on_way m.at.net m.parcel.from d m.header

abbrev pub way_of : {A : Type 0} → Heard A → Header
way_of m = way_if m m.header.destination

-- its header on the last network
abbrev pub last_of : {A : Type 0} → Heard A → Header
last_of m = at_last m.at.net m.parcel.from m.header

-- it goes out over a port with this header and the stamp that it had, or its source is told that it is too long (6.4.4)
abbrev pub passed_if : {A : Type 0} → Bool → Heard A → Header → (port : ℕ) → (own : Mac) → Target → PortParcel A
passed_if true m h port own to = sent port own to m.parcel.stamp (canonical h)
passed_if false m h port own to = refused m TooLong (net_of m.header.destination)

unfoldable pub passed : {A : Type 0} → Heard A → Header → (port : ℕ) → (own : Mac) → Target → PortParcel A
passed m h port own to = passed_if (fits own h) m h port own to

-- it goes to all stations of this port's network
abbrev pub spread_there : {A : Type 0} → Heard A → ℕ → Station → List (PortParcel A)
spread_there m port s = passed m (way_of m) port s.mac All ∷ []
