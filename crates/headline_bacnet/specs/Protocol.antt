-- What the promise knows of BACnet: its stations, requests, replies and tables of objects.
use Rattle.std.specs.Prelude.{◌≡◌, ℕ, List, Option, Some, None}
use Rattle.apdu.specs.ServiceError.{SpellsError}
use Rattle.headline.specs.Protocol.{Protocol}
use Rattle.history.specs.Book.{Answer, Simple, Complex, Failed}
use Rattle.npdu.specs.Mac.{same_station}
use Rattle.npdu.specs.declared.mac.Station.{Station}
use Rattle.object_model.specs.Objects.{PlainTable}
use Rattle.object_model.specs.Site.{IsSoundTable}
use Rattle.primitives.specs.Errors.{class_number, code_number, IsNamedClass, IsNamedCode}
use Rattle.primitives.specs.Sound.{IsSoundRequest}
use Rattle.primitives.specs.declared.plain_data.Reply.{Reply}
use Rattle.primitives.specs.declared.plain_data.Request.{Request}
use Rattle.server_answers.specs.Answering.{answer_apdu}
use Rattle.services.specs.Asked.{replied, left_by, request_octets, service_asked}
use Rattle.services.specs.Contents.{PlainAnswer, simple, complex, failed}
use Rattle.services.specs.Contents as meaning
use Rattle.services.specs.Request.{NoRequest, SpellsRequest}
use Rattle.headline_bacnet.specs.Bodies.{answer_in}

-- this is what service data mean: a request, or none (15)
abbrev pub MeansRequest : {A : Type 0} → ℕ → List ℕ → Option (Request A) → Type 0
MeansRequest service octets (Some request) = SpellsRequest service octets request
MeansRequest {A} service octets None = NoRequest A service octets

-- an answer to a request of this service has these contents; those of an Error go by their names (18, 20.1.4, 20.1.5,
-- 20.1.7)
abbrev pub HasContents : (service : ℕ) → Answer → PlainAnswer → Type 0
HasContents service Simple simple = Unit {0}
HasContents service (Complex octets) (complex data_octets) = octets ≡ data_octets
HasContents service (Failed octets) (failed class code first) =
    SpellsError service octets (class_number class) (code_number code) first × IsNamedClass class × IsNamedCode code
HasContents service answer contents = ⊥

-- an answer means a reply to a request: its contents do (15, 20.1)
pub record GivesReply {A : Type 0} (request : Request A) (answer : Answer) (reply : Reply A) : Type 0 where
  pub contents : PlainAnswer
  pub has : HasContents (service_asked request) answer contents
  pub means : meaning.MeansReply request contents reply

-- an answer means no reply to a request (15, 20.1)
pub record GivesNone {A : Type 0} (request : Request A) (answer : Answer) : Type 0 where
  pub none : (reply : Reply A) → GivesReply request answer reply → ⊥

-- this is what an answer means to a request: a reply, or none (15, 20.1)
abbrev pub MeansReply : {A : Type 0} → Request A → Answer → Option (Reply A) → Type 0
MeansReply request answer (Some reply) = GivesReply request answer reply
MeansReply request answer None = GivesNone request answer

-- stations are one by network and address (6.1); replies and tables are the object machine's (12, 15, 19); requests and
-- answers are spelled in their shortest octets (20.2)
abbrev pub bacnet : (A : Type 0) → Protocol Station (Request A) (Reply A) (PlainTable A)
bacnet A =
    record {
      same = same_station;
      reply = replied;
      after = left_by;
      service = service_asked;
      request_octets = request_octets;
      answer = λ request reply. answer_in (answer_apdu 0 request reply);
      MeansRequest = λ service octets found. MeansRequest service octets found;
      MeansReply = λ request answer found. MeansReply request answer found;
      IsSound = λ request. IsSoundRequest request;
      IsSoundTable = λ table. IsSoundTable table;
    }
