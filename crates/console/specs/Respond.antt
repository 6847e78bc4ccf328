-- What the built-in device says to a datagram, and what it is then (5.4.5, 16.10, J.2).
use Rattle.std.specs.Prelude.{◌≡◌, ◌⊎◌, ℕ, nat_le, Bool, true, false, List, [], length, map}
use Rattle.std.specs.List.{flat_map}
use Rattle.carry.specs.Things.{SentDatagram, SentFrame, Thing, Waiting}
use Rattle.link_ip.specs.Saying.{put_out}
use Rattle.npdu.specs.declared.mac.Mac.{Mac}
use Rattle.npdu.specs.declared.parcel.Parcel.{Parcel}
use Rattle.device.specs.Device.{DeviceState}
use Rattle.device.specs.Hearing.{DeviceHears}
use Rattle.device.specs.DeviceTold.{DeviceTold}
use Rattle.profile.specs.LinkKind.{max_npdu}
use Rattle.profile.specs.declared.link_kind.LinkKind.TheVariants.{BacnetIp}
use Rattle.console.specs.Builtin.{builtin_port}
use Rattle.console.specs.Hearing.{HandsUp, HandsUpNothing, OnlyHandsUp}

-- what is said: datagrams in order
abbrev pub Said : Type 0
Said = List (List ℕ)

-- the octets of what is on its way
abbrev pub octets_of : {A : Type 0} → Thing A → List ℕ
octets_of (SentDatagram net from to octets stamp) = octets
octets_of (SentFrame net octets stamp) = octets
octets_of (Waiting net parcel) = parcel.npdu

-- the datagrams of a parcel where the link carries it, else none
abbrev pub datagrams_if : (fits : Bool) → {A : Type 0} → Parcel A → Said
datagrams_if true p = map octets_of (put_out builtin_port p)
datagrams_if false p = []

-- the datagrams of a parcel: what the built-in port puts out of it; none where its NPDU is too long for the link
abbrev pub datagrams_of : {A : Type 0} → Parcel A → Said
datagrams_of p = datagrams_if (nat_le (length p.npdu) (max_npdu BacnetIp)) p

-- the device hears a parcel at the moment 0, and says these datagrams
pub record SaysTo {A : Type 0} (p : Parcel A) (old new : DeviceState A) (said : Said) : Type 0 where
  pub told : DeviceTold A
  pub hears : DeviceHears 0 p.from p.to p.npdu old told new
  pub is : said ≡ flat_map datagrams_of told.said

-- the datagram hands up a parcel and nothing else, and this is said to it
pub record Answers {A : Type 0} (from : Mac) (datagram : List ℕ) (old new : DeviceState A) (said : Said) : Type 0 where
  pub parcel : Parcel A
  pub up : HandsUp old.mac from datagram parcel
  pub only : OnlyHandsUp old.mac from datagram parcel
  pub says : SaysTo parcel old new said

-- nothing is handed up or said, and the device stays as it is
pub record Ignores {A : Type 0} (from : Mac) (datagram : List ℕ) (old new : DeviceState A) (said : Said) : Type 0 where
  pub nothing : HandsUpNothing A old.mac from datagram
  pub silent : said ≡ []
  pub same : new ≡ old

-- what the device says to a datagram from this link address, and what it is then
abbrev pub Responds : {A : Type 0} → Mac → List ℕ → DeviceState A → DeviceState A → Said → Type 0
Responds from datagram old new said = Answers from datagram old new said ⊎ Ignores from datagram old new said
