-- An answer that comes whole to a client is the whole one of one execution.
use Rattle.std.specs.Prelude.{◌≡◌, ℕ, List, Some, slice_get}
use Rattle.apdu.specs.Apdu.{HasNamedNumbers, apdu_of}
use Rattle.apdu.specs.declared.apdu.Apdu.{Apdu}
use Rattle.carry_world.specs.PlainWorld.{Delivers, PlainWorld, last_key}
use Rattle.carry_said.specs.client.Client.{ClientState}
use Rattle.carry_said.specs.client_tsm.Hearing.{Whole, completes, heard_of, reached}
use Rattle.carry_said.specs.headline_site.headline_bacnet.Protocol.{HasContents, bacnet}
use Rattle.carry_said.specs.headline_site.headline_client.Safe.{station_of}
use Rattle.history.specs.Lists.{Has}
use Rattle.history.specs.declared.Entry.TheVariants.{Executed, Issue}
use Rattle.npdu.specs.declared.mac.Mac.{Mac}
use Rattle.npdu.specs.declared.mac.Target.{Target}
use Rattle.npdu.specs.declared.parcel.Parcel.{Parcel}
use Rattle.primitives.specs.declared.plain_data.Reply.{Reply}
use Rattle.services.specs.Asked.{service_asked}
use Rattle.unitdata.specs.Hearing.{Brings, Heard, says}

-- an answer comes whole to a client by this NPDU, in one APDU or by its last segment, before its service data are read
-- (5.4.4.3, 5.4.4.4)
pub record AnswerComesWhole {A : Type 0} (now : ℕ) (from : Mac) (to : Target) (npdu : List ℕ) (c : ClientState A)
    (x : Whole A) : Type 0 where
  pub heard : Heard
  pub brings : Brings c.net from to npdu heard
  pub apdu : Apdu
  pub named : HasNamedNumbers apdu
  pub content : heard.content ≡ says (apdu_of apdu)
  pub whole : reached now heard.station (heard_of apdu) c.machine ≡ completes x

-- it is for a transaction of the client, which is of the last issue under its invoke ID, and has the contents of the
-- answer in which the reply of an execution of that issue goes (15, 20.1.4, 20.1.5, 20.1.7)
pub record IsOfExecution {A : Type 0} (w : PlainWorld A) (c : ClientState A) (x : Whole A) : Type 0 where
  pub there : Has c.machine.open_ones x.taking.transaction
  pub i : ℕ
  pub instance : ℕ
  pub issued : ℕ
  pub last : last_key (station_of c) x.taking.transaction.invoke_id w.keys ≡ Some i
  pub issue : Has w.history (Issue i (station_of c) instance x.taking.transaction.request issued)
  pub reply : Reply A
  pub done : ℕ
  pub executed : Has w.history (Executed i reply done)
  pub contents : HasContents (service_asked x.taking.transaction.request)
      ((bacnet A).answer x.taking.transaction.request reply) x.contents

-- so is each that comes whole by what is delivered to a client
abbrev pub WholeIsExecuted : {A : Type 0} → PlainWorld A → Type 0
WholeIsExecuted {A} w = (place : ℕ) (c : ClientState A) (p : Parcel A) (x : Whole A) →
    slice_get w.clients place ≡ Some c → Delivers w c.net c.mac p →
    AnswerComesWhole w.moment p.from p.to p.npdu c x → IsOfExecution w c x
