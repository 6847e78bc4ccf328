-- What a device does with a parcel that it hears: what it says, what it executes, and what it is then (5.4.5, 16.10.2).
use Rattle.std.specs.Prelude.{◌≡◌, ◌⊎◌, ℕ, not, List, [], ◌∷◌, None}
use Rattle.apdu.specs.Apdu.{PlainApdu, apdu_of, unconfirmed, HasNamedNumbers}
use Rattle.apdu.specs.declared.apdu.Apdu.{Apdu}
use Rattle.npdu.specs.declared.mac.Mac.{Mac}
use Rattle.npdu.specs.declared.mac.Target.{Target}
use Rattle.server_tsm.specs.Hearing.{heard_of}
use Rattle.server_tsm.specs.Server.{ServerTsmState}
use Rattle.server_tsm.specs.Steps.{IsStep}
use Rattle.server_tsm.specs.server_answers.declared.asked.Origin.{Origin}
use Rattle.server_tsm.specs.server_answers.ServerTold.{ServerTold}
use Rattle.unitdata.specs.Asking.{AsksOther, AsksWho}
use Rattle.unitdata.specs.Hearing.{Brings, BringsNothing, HeardContent, Heard, refuses, says}
use Rattle.device.specs.Device.{DeviceState, i_am_of}
use Rattle.device.specs.Saying.{i_am_parcel, told_of}
use Rattle.device.specs.DeviceTold.{DeviceTold}

-- where a message comes from, as its server sees it
abbrev pub origin_of : Heard → Origin
origin_of h = record { station = h.station; way = h.way; by_broadcast = not h.alone }

-- nothing is said, and nothing executed
abbrev pub silence : {A : Type 0} → DeviceTold A
silence = record { said = []; executed = None }

-- it says who it is
abbrev pub says_who : {A : Type 0} → ℕ → DeviceState A → DeviceTold A
says_who now d = record { said = i_am_parcel now d.mac (i_am_of d) ∷ []; executed = None }

-- what is said to an unconfirmed request: an I-Am to a Who-Is for this device, and nothing to all else (16.10.2)
abbrev pub AnswersWho : {A : Type 0} → ℕ → DeviceState A → (service : ℕ) → List ℕ → DeviceTold A → Type 0
AnswersWho now d service octets told =
    (AsksWho d.instance service octets × (told ≡ says_who now d)) ⊎
    (AsksOther d.instance service octets × (told ≡ silence))

-- all other APDUs are for its server, which makes one step. apdu: the APDU as the code has it, which is that one
pub record Serves {A : Type 0} (now : ℕ) (from : Origin) (plain : PlainApdu) (old : DeviceState A) (told : DeviceTold A)
    (new : DeviceState A) : Type 0 where
  pub apdu : Apdu
  pub named : HasNamedNumbers apdu
  pub is : apdu_of apdu ≡ plain
  pub server_told : ServerTold A
  pub left : ServerTsmState A
  pub step : IsStep now from (heard_of apdu) old.server server_told left
  pub told_is : told ≡ told_of now old.mac server_told
  pub new_is : new ≡ record old { server = left }

-- what it does on a message from there; that a router refused one is nothing to it
abbrev pub Does : {A : Type 0} → ℕ → Origin → HeardContent → DeviceState A → DeviceTold A → DeviceState A → Type 0
Does now from (says (unconfirmed service octets)) old told new = AnswersWho now old service octets told × (new ≡ old)
Does now from (says apdu) old told new = Serves now from apdu old told new
Does now from (refuses rejected) old told new = (told ≡ silence) × (new ≡ old)

-- what it does on the one message that an NPDU brings it
pub record Hears {A : Type 0} (now : ℕ) (from : Mac) (to : Target) (npdu : List ℕ) (old : DeviceState A)
    (told : DeviceTold A) (new : DeviceState A) : Type 0 where
  pub heard : Heard
  pub brings : Brings old.net from to npdu heard
  pub does : Does now (origin_of heard) heard.content old told new

-- an NPDU brings it nothing: nothing is said or executed, and it stays as it is
pub record Drops {A : Type 0} (from : Mac) (to : Target) (npdu : List ℕ) (old : DeviceState A) (told : DeviceTold A)
    (new : DeviceState A) : Type 0 where
  pub nothing : BringsNothing old.net from to npdu
  pub silent : told ≡ silence
  pub same : new ≡ old

-- what a device says and executes, and what it is then, where an NPDU comes at this moment from an address to a target
-- on its network
abbrev pub DeviceHears : {A : Type 0} → ℕ → Mac → Target → List ℕ → DeviceState A → DeviceTold A → DeviceState A →
    Type 0
DeviceHears now from to npdu old told new = Hears now from to npdu old told new ⊎ Drops from to npdu old told new
