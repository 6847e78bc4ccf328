-- What a client does with a parcel that it hears: what it says and tells, and what it is then (5.4.4, 6.4.4, 16.10.3).
use Rattle.std.specs.Prelude.{◌≡◌, ◌⊎◌, ℕ, true, false, List, []}
use Rattle.apdu.specs.Apdu.{PlainApdu, apdu_of, unconfirmed, HasNamedNumbers}
use Rattle.apdu.specs.Unconfirmed.{SpellsIAm, service_number}
use Rattle.apdu.specs.declared.apdu.Apdu.{Apdu}
use Rattle.apdu.specs.declared.unconfirmed.IAm.{IAm}
use Rattle.apdu.specs.declared.unconfirmed.UnconfirmedService.TheVariants as kind
use Rattle.client_tsm.specs.Client.{ClientTsmState}
use Rattle.client_tsm.specs.Hearing.{heard_of}
use Rattle.client_tsm.specs.Steps.{IsStep}
use Rattle.client_tsm.specs.declared.plan.ClientTsmTold.{ClientTsmTold}
use Rattle.npdu.specs.declared.mac.Mac.{Mac}
use Rattle.npdu.specs.declared.mac.Station.{Station}
use Rattle.npdu.specs.declared.mac.Target.{Target}
use Rattle.npdu.specs.declared.mac.Way.{Way}
use Rattle.unitdata.specs.Hearing.{Brings, BringsNothing, HeardContent, Heard, refuses, says}
use Rattle.bindings.specs.Binding.{has_place, introduced, mark_refused, put_binding}
use Rattle.client.specs.Client.{ClientState}
use Rattle.client.specs.Saying.{told_of}
use Rattle.bindings.specs.declared.binding.Binding.{Binding}
use Rattle.client.specs.ClientTold.{ClientTold}

-- nothing is said or told
abbrev pub silence : {A : Type 0} → ClientTold A
silence = record { said = []; outcomes = [] }

-- an unconfirmed request is this I-Am (16.10.3)
pub record IsIAm (service : ℕ) (octets : List ℕ) (i : IAm) : Type 0 where
  pub i_am : service ≡ service_number kind.IAm
  pub spelled : SpellsIAm octets i

-- an unconfirmed request is no I-Am (16.10.3)
pub record IsNoIAm (service : ℕ) (octets : List ℕ) : Type 0 where
  pub none : (i : IAm) → IsIAm service octets i → ⊥

-- an I-Am from this station: its device is bound there, by the way that the message came
pub record Introduces (station : Station) (way : Way) (service : ℕ) (octets : List ℕ) (old new : List Binding) :
    Type 0 where
  pub i_am : IAm
  pub is : IsIAm service octets i_am
  pub place : has_place i_am.instance old ≡ true
  pub bound : new ≡ put_binding (introduced station way i_am) old

-- another unconfirmed request leaves the bindings as they are
pub record Ignores (service : ℕ) (octets : List ℕ) (old new : List Binding) : Type 0 where
  pub other : IsNoIAm service octets
  pub same : new ≡ old

-- what an unconfirmed request from this station leaves of the bindings (16.10.3)
abbrev pub Learns : Station → Way → (service : ℕ) → List ℕ → List Binding → List Binding → Type 0
Learns station way service octets old new =
    Introduces station way service octets old new ⊎ Ignores service octets old new

-- all other APDUs are for its client of transactions, which makes one step. apdu: the APDU as the code has it, which is
-- that one
pub record Transacts {A : Type 0} (now : ℕ) (from : Station) (plain : PlainApdu) (old : ClientState A)
    (told : ClientTold A) (new : ClientState A) : Type 0 where
  pub apdu : Apdu
  pub named : HasNamedNumbers apdu
  pub is : apdu_of apdu ≡ plain
  pub tsm_told : ClientTsmTold A
  pub left : ClientTsmState A
  pub step : IsStep now from (heard_of apdu) old.machine tsm_told left
  pub told_is : told ≡ told_of now old.mac tsm_told
  pub new_is : new ≡ record old { machine = left }

-- it says and tells nothing, and has these bindings then
pub record Holds {A : Type 0} (bindings : List Binding) (old : ClientState A) (told : ClientTold A)
    (new : ClientState A) : Type 0 where
  pub silent : told ≡ silence
  pub left : new ≡ record old { bindings = bindings }

-- what an unconfirmed request teaches is all that comes of it
pub record Learnt {A : Type 0} (station : Station) (way : Way) (service : ℕ) (octets : List ℕ) (old : ClientState A)
    (told : ClientTold A) (new : ClientState A) : Type 0 where
  pub bindings : List Binding
  pub learns : Learns station way service octets old.bindings bindings
  pub holds : Holds bindings old told new

-- what it does on a message from this station
abbrev pub Does : {A : Type 0} → ℕ → Station → Way → HeardContent → ClientState A → ClientTold A → ClientState A →
    Type 0
Does now from way (says (unconfirmed service octets)) old told new = Learnt from way service octets old told new
Does now from way (says apdu) old told new = Transacts now from apdu old told new
Does now from way (refuses r) old told new = Holds (mark_refused r.reason r.net old.bindings) old told new

-- what it does on the one message that an NPDU brings it
pub record Hears {A : Type 0} (now : ℕ) (from : Mac) (to : Target) (npdu : List ℕ) (old : ClientState A)
    (told : ClientTold A) (new : ClientState A) : Type 0 where
  pub heard : Heard
  pub brings : Brings old.net from to npdu heard
  pub does : Does now heard.station heard.way heard.content old told new

-- an NPDU brings it nothing: nothing is said or told, and it stays as it is
pub record Drops {A : Type 0} (from : Mac) (to : Target) (npdu : List ℕ) (old : ClientState A) (told : ClientTold A)
    (new : ClientState A) : Type 0 where
  pub nothing : BringsNothing old.net from to npdu
  pub silent : told ≡ silence
  pub same : new ≡ old

-- what a client says and tells, and what it is then, where an NPDU comes at this moment from an address to a target on
-- its network
abbrev pub ClientHears : {A : Type 0} → ℕ → Mac → Target → List ℕ → ClientState A → ClientTold A → ClientState A →
    Type 0
ClientHears now from to npdu old told new = Hears now from to npdu old told new ⊎ Drops from to npdu old told new

-- an unconfirmed request is an I-Am for whose device there is no place (16.10.3)
pub record Overflows (service : ℕ) (octets : List ℕ) (old : List Binding) : Type 0 where
  pub i_am : IAm
  pub is : IsIAm service octets i_am
  pub full : has_place i_am.instance old ≡ false

-- this message is an I-Am for whose device there is no place (16.10.3)
abbrev pub IsTooMany : HeardContent → List Binding → Type 0
IsTooMany (says (unconfirmed service octets)) old = Overflows service octets old
IsTooMany content old = ⊥

-- the one message that an NPDU brings is an I-Am for whose device there is no place (16.10.3)
pub record BringsTooMany (net : ℕ) (from : Mac) (to : Target) (npdu : List ℕ) (old : List Binding) : Type 0 where
  pub heard : Heard
  pub brings : Brings net from to npdu heard
  pub too_many : IsTooMany heard.content old
