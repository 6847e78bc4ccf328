-- The steps of a port of a site: those of the port that it is, which stays of its kind (6.1, 9.5.6, J.2).
use Rattle.std.specs.Prelude.{◌⊎◌, ℕ, Bool, List}
use Rattle.link.specs.Step.{LinkStep}
use Rattle.link_bus.specs.Steps as bus
use Rattle.link_ip.specs.Hearing as ip_hearing
use Rattle.link_ip.specs.Steps as ip
use Rattle.npdu.specs.declared.mac.Mac.{Mac}
use Rattle.npdu.specs.declared.parcel.Parcel.{Parcel}
use Rattle.tags.specs.declared.fault.Fault.{Fault}
use Rattle.link_site.specs.declared.port.SitePort.{SitePort}
use Rattle.link_site.specs.declared.port.SitePort.TheVariants.{Ip, Bus}

-- octets from an address are refused as one of the kinds does: those from BACnet/IP that spell no datagram (J.2), and
-- none from a bus
abbrev pub IsRefused : Fault → (from : Mac) → (octets : List ℕ) → Type 0
IsRefused fault from octets = ip_hearing.IsRefused fault from octets ⊎ bus.IsRefused fault from octets

-- a parcel is handed down: it is put out at once (J.4.5), or waits for the token (9.5.6)
abbrev pub Downs : {A : Type 0} → (now : ℕ) → Parcel A → SitePort A → LinkStep A → SitePort A → Type 0
Downs now p (Ip old) step (Ip new) = ip.Downs now p old step new
Downs now p (Bus old) step (Bus new) = bus.Downs now p old step new
Downs now p old step new = ⊥

-- octets are heard from an address: those of a datagram (J.2), or of a frame (9.5.6)
abbrev pub Hears : {A : Type 0} → (now : ℕ) → (from : Mac) → (octets : List ℕ) → (stamp : ℕ) → SitePort A →
    LinkStep A → SitePort A → Type 0
Hears now from octets stamp (Ip old) step (Ip new) = ip.Hears now from octets stamp old step new
Hears now from octets stamp (Bus old) step (Bus new) = bus.Hears now from octets stamp old step new
Hears now from octets stamp old step new = ⊥

-- it wakes: nothing comes of it on BACnet/IP, and on a bus what a tick of its node leads to (9.5.6)
abbrev pub Wakes : {A : Type 0} → (now : ℕ) → SitePort A → LinkStep A → SitePort A → Type 0
Wakes now (Ip old) step (Ip new) = ip.Idles now old step new
Wakes now (Bus old) step (Bus new) = bus.Wakes now old step new
Wakes now old step new = ⊥

-- so many octets are heard, in a frame or not: on a bus its node is told of them (9.5.2)
abbrev pub Counts : {A : Type 0} → (count now : ℕ) → SitePort A → LinkStep A → SitePort A → Type 0
Counts count now (Ip old) step (Ip new) = ip.Counts count now old step new
Counts count now (Bus old) step (Bus new) = bus.Counts count now old step new
Counts count now old step new = ⊥

-- it registers, where it is a foreign device's (J.5.2): a bus has no manager
abbrev pub Registers : {A : Type 0} → (now : ℕ) → SitePort A → LinkStep A → SitePort A → Type 0
Registers now (Ip old) step (Ip new) = ip.Registers now old step new
Registers now (Bus old) step (Bus new) = bus.Idles now old step new
Registers now old step new = ⊥

-- anything is due: on a bus where a tick of its node would lead on (9.5.6)
abbrev pub is_due : {A : Type 0} → (now : ℕ) → SitePort A → Bool
is_due now (Ip port) = ip.is_due now port
is_due now (Bus port) = bus.is_due now port
