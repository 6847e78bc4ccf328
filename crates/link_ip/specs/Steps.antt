-- The steps of a port of BACnet/IP.
use Rattle.std.specs.Prelude.{◌≡◌, ◌≤◌, ℕ, Bool, false, List, [], length, None}
use Rattle.link.specs.Carrying.{nothing}
use Rattle.link.specs.Limits.{max_npdu_at}
use Rattle.link.specs.Step.{LinkStep}
use Rattle.npdu.specs.declared.mac.Mac.{Mac}
use Rattle.npdu.specs.declared.parcel.Parcel.{Parcel}
use Rattle.link_ip.specs.Hearing.{IsHeard}
use Rattle.link_ip.specs.Port.{IpPortState, at_moment, station_of}
use Rattle.link_ip.specs.Saying.{put_out, registration, things_of}

-- a parcel is handed down: it is put out at once, and it is no longer than the network carries (J.1.3, J.4.5, J.5)
pub record Downs {A : Type 0} (now : ℕ) (p : Parcel A) (old : IpPortState A) (step : LinkStep A)
    (new : IpPortState A) : Type 0 where
  pub fits : length p.npdu ≤ max_npdu_at (station_of old).mac
  pub silent : step.up ≡ None
  pub puts : things_of (station_of old) step.out ≡ put_out old p
  pub left : new ≡ at_moment now old

-- octets are heard from an address: what they carry is handed up, and nothing is put out (J.2)
pub record Hears {A : Type 0} (now : ℕ) (from : Mac) (octets : List ℕ) (stamp : ℕ) (old : IpPortState A)
    (step : LinkStep A) (new : IpPortState A) : Type 0 where
  pub up : IsHeard from (station_of old).mac octets stamp step.up
  pub silent : step.out ≡ []
  pub left : new ≡ at_moment now old

-- nothing comes of a call but its moment
pub record Idles {A : Type 0} (now : ℕ) (old : IpPortState A) (step : LinkStep A) (new : IpPortState A) : Type 0 where
  pub nothing : step ≡ nothing
  pub left : new ≡ at_moment now old

-- .. whatever number of octets is heard: there are none but those of datagrams
abbrev pub Counts : {A : Type 0} → (count now : ℕ) → IpPortState A → LinkStep A → IpPortState A → Type 0
Counts count now old step new = Idles now old step new

-- it registers, where it is a foreign device's (J.5.2)
pub record Registers {A : Type 0} (now : ℕ) (old : IpPortState A) (step : LinkStep A) (new : IpPortState A) :
    Type 0 where
  pub silent : step.up ≡ None
  pub says : step.out ≡ registration old.reach now
  pub left : new ≡ at_moment now old

-- nothing is ever due: nothing waits
abbrev pub is_due : {A : Type 0} → (now : ℕ) → IpPortState A → Bool
is_due now port = false
