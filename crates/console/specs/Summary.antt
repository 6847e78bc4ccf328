-- What a datagram is, in one line, with the standard's names: what `bacsite explain --names` prints first.
use Rattle.std.specs.Prelude.{◌≡◌, ◌⊎◌, ℕ, ◌+◌, ◌*◌, ◌==◌, if◌then◌else◌, Bool, true, false, List, [], ◌∷◌, ◌++◌}
use Rattle.std.specs.Prelude.{Option, None, Some, codes, drop}
use Rattle.std.specs.Fmt.{decimal}
use Rattle.std.specs.Io.KnownBytes.{Appends}
use Rattle.apdu.specs.Apdu.{PlainApdu, confirmed, unconfirmed, simple_ack, complex_ack, segment_ack}
use Rattle.apdu.specs.Apdu.{error_pdu, reject_pdu, abort_pdu}
use Rattle.apdu.specs.Apdu as application
use Rattle.apdu.specs.declared.apdu.Segment.{Segment}
use Rattle.apdu.specs.declared.pdu_type.PduType.{PduType}
use Rattle.apdu.specs.declared.pdu_type.PduType.TheVariants as kind
use Rattle.bvll.specs.Datagram.{Datagram, function, outcome, register, forwarded, distribute, unicast, broadcast}
use Rattle.bvll.specs.Datagram as link
use Rattle.bvll.specs.Function.{number_of}
use Rattle.console.specs.Answer.{Known}
use Rattle.names.specs.Names.{name_in}
use Rattle.names.specs.Headers.{bvll_functions, bvll_results, network_messages, confirmed_services}
use Rattle.names.specs.Headers.{unconfirmed_services}
use Rattle.names.specs.Tables.{abort_reasons, reject_reasons}
use Rattle.npdu.specs.Header.{Header}
use Rattle.npdu.specs.Header as network
use Rattle.npdu.specs.Message.{message_type}
use Rattle.npdu.specs.declared.message.Message.{Message}
use Rattle.npdu.specs.declared.message.Message.TheVariants.{IAmRouterToNetwork, Other, Proprietary}
use Rattle.npdu.specs.declared.message.Message.TheVariants.{RejectMessageToNetwork, WhoIsRouterToNetwork}
use Rattle.parameters.specs.Notes.{gist}
use Rattle.parameters.specs.Position.{start}
use Rattle.parameters.specs.Productions.{production}
use Rattle.parameters.specs.declared.position.Position.{Position}
use Rattle.parameters.specs.declared.productions.Row.{Row}
use Rattle.printing.specs.Printed.{named_text}
use Rattle.printing.specs.declared.spelling.Spelling.TheVariants.{Names}
use Rattle.tags.specs.Element.{TakesTags}
use Rattle.tags.specs.Tag.{PlainTag, NoTag}

-- a name, or a word and the number
abbrev pub called : List ℕ → Option (List ℕ) → ℕ → List ℕ
called word None n = word ++ decimal n
called word (Some name) n = name

-- a confirmed service by its name, or by its number
unfoldable pub confirmed_name : ℕ → List ℕ
confirmed_name service = called (codes "service ") (name_in confirmed_services service) service

-- the same of an unconfirmed service
unfoldable pub unconfirmed_name : ℕ → List ℕ
unconfirmed_name service = called (codes "unconfirmed service ") (name_in unconfirmed_services service) service

-- what an APDU is (20.1)
unfoldable pub head : PlainApdu → List ℕ
head (confirmed segment accepted max_segments max_apdu invoke service body) = confirmed_name service
head (unconfirmed service body) = unconfirmed_name service
head (simple_ack invoke service) = codes "SimpleACK " ++ confirmed_name service
head (complex_ack segment invoke service body) = codes "ComplexACK " ++ confirmed_name service
head (segment_ack true server invoke sequence window) = codes "negative SegmentACK"
head (segment_ack false server invoke sequence window) = codes "SegmentACK"
head (error_pdu invoke service class code first_failed) = codes "Error " ++ confirmed_name service
head (reject_pdu invoke reason) = codes "Reject " ++ named_text Names reject_reasons reason
head (abort_pdu server invoke reason) = codes "Abort " ++ named_text Names abort_reasons reason

-- its data, which are tags
abbrev pub data_of : PlainApdu → List ℕ → List ℕ
data_of (confirmed segment accepted max_segments max_apdu invoke service body) octets = body
data_of (unconfirmed service body) octets = body
data_of (complex_ack segment invoke service body) octets = body
data_of (error_pdu invoke service class code first_failed) octets = drop 3 octets
data_of a octets = []

-- the parameters of data, or of those of the first segment; of the others they aren't known
unfoldable pub rows_from : Option Segment → PduType → ℕ → List Row
rows_from None type service = production type service
rows_from (Some g) type service = if g.sequence_number == 0 then production type service else []

-- the parameters of an APDU's data
abbrev pub rows_of : PlainApdu → List Row
rows_of (confirmed segment accepted max_segments max_apdu invoke service body) =
    rows_from segment kind.ConfirmedRequest service
rows_of (unconfirmed service body) = production kind.UnconfirmedRequest service
rows_of (complex_ack segment invoke service body) = rows_from segment kind.ComplexAck service
rows_of (error_pdu invoke service class code first_failed) = production kind.Error service
rows_of a = []

-- the invoke ID (20.1.2.6)
abbrev pub invoke_text : ℕ → List ℕ
invoke_text invoke = codes ", invoke " ++ decimal invoke

-- which segment it is (20.1.2.2, 20.1.2.7)
abbrev pub which_segment : Option Segment → List ℕ
which_segment None = []
which_segment (Some g) =
    codes ", segment " ++ (decimal g.sequence_number
    ++ (if g.more_follows then codes ", more follow" else codes ", the last"))

-- how an APDU is known again
unfoldable pub tail : PlainApdu → List ℕ
tail (confirmed segment accepted max_segments max_apdu invoke service body) =
    invoke_text invoke ++ which_segment segment
tail (unconfirmed service body) = []
tail (simple_ack invoke service) = invoke_text invoke
tail (complex_ack segment invoke service body) = invoke_text invoke ++ which_segment segment
tail (segment_ack negative server invoke sequence window) =
    invoke_text invoke ++ (codes ", segment " ++ (decimal sequence ++ (codes ", window " ++ decimal window)))
tail (error_pdu invoke service class code first_failed) = invoke_text invoke
tail (reject_pdu invoke reason) = invoke_text invoke
tail (abort_pdu server invoke reason) = invoke_text invoke

-- whether its sender waits for a reply (6.2.2)
abbrev pub reply_text : Bool → List ℕ
reply_text true = codes ", a reply is expected"
reply_text false = []

-- the words of the octets' tags are printed, of all up to one that is refused (20.2.1)
pub record PrintsGist (rows : List Row) (at : Position) (octets : List ℕ) (old new : Known) : Type 0 where
  pub tags : List PlainTag
  pub rest : List ℕ
  pub taken : TakesTags octets tags rest
  pub no_more : (rest ≡ []) ⊎ NoTag rest
  pub printed : Appends old new (gist rows at tags)

-- what an APDU is, is printed, and the words of its tags, and how it is known again
pub record PrintsParts (reply : Bool) (apdu : PlainApdu) (octets : List ℕ) (old new : Known) : Type 0 where
  pub at_data : Known
  pub at_tail : Known
  pub head_printed : Appends old at_data (head apdu)
  pub data_printed : PrintsGist (rows_of apdu) start (data_of apdu octets) at_data at_tail
  pub tail_printed : Appends at_tail new (tail apdu ++ reply_text reply)

-- the octets spell an APDU, and what it is, is printed (20.1)
pub record SumsUpApdu (reply : Bool) (octets : List ℕ) (old new : Known) : Type 0 where
  pub apdu : PlainApdu
  pub spelled : application.Spells octets apdu
  pub printed : PrintsParts reply apdu octets old new

-- the networks that octets number, two octets each (6.4)
abbrev pub networks : List ℕ → List ℕ
networks (high ∷ low ∷ octets) = (codes " " ++ decimal (high * 256 + low)) ++ networks octets
networks octets = []

-- what a network message is (6.2.4): a vendor's by its numbers
unfoldable pub message_name : Message → List ℕ
message_name (Proprietary kind vendor) =
    codes "network message " ++ (decimal kind ++ (codes " of vendor " ++ decimal vendor))
message_name m = called (codes "network message ") (name_in network_messages (message_type m)) (message_type m)

-- the networks that it names, and the reason of a Reject-Message-To-Network (6.4.1, 6.4.2, 6.4.4)
unfoldable pub message_networks : Message → List ℕ → List ℕ
message_networks WhoIsRouterToNetwork body = networks body
message_networks IAmRouterToNetwork body = networks body
message_networks RejectMessageToNetwork (reason ∷ body) = networks body ++ (codes ", reason " ++ decimal reason)
message_networks m body = []

-- what stands behind a header, is printed: a network message, or an APDU (6.2.4)
abbrev pub SumsUpBody : Bool → Option Message → List ℕ → Known → Known → Type 0
SumsUpBody reply (Some m) body old new = Appends old new (message_name m ++ message_networks m body)
SumsUpBody reply None body old new = SumsUpApdu reply body old new

-- the octets spell an NPDU, and what it carries, is printed (6.2)
pub record SumsUpNpdu (octets : List ℕ) (old new : Known) : Type 0 where
  pub npdu : Header
  pub spelled : network.Spells octets npdu
  pub body_printed : SumsUpBody npdu.expects_reply npdu.message npdu.body old new

-- the name of a datagram's function (J.2)
abbrev pub function_name : Datagram → List ℕ
function_name d = named_text Names bvll_functions (number_of (function d))

-- .. and behind it what its NPDU carries
pub record SumsUpCarried (d : Datagram) (npdu : List ℕ) (old new : Known) : Type 0 where
  pub at_npdu : Known
  pub function_printed : Appends old at_npdu (function_name d ++ codes ": ")
  pub npdu_printed : SumsUpNpdu npdu at_npdu new

-- what a datagram is, is printed (J.2)
abbrev pub SumsUp : Datagram → Known → Known → Type 0
SumsUp (forwarded origin npdu) old new = SumsUpCarried (forwarded origin npdu) npdu old new
SumsUp (distribute npdu) old new = SumsUpCarried (distribute npdu) npdu old new
SumsUp (unicast npdu) old new = SumsUpNpdu npdu old new
SumsUp (broadcast npdu) old new = SumsUpNpdu npdu old new
SumsUp (outcome code) old new =
    Appends old new (function_name (outcome code) ++ (codes " " ++ named_text Names bvll_results code))
SumsUp (register seconds) old new =
    Appends old new (function_name (register seconds) ++ (codes " for " ++ (decimal seconds ++ codes " s")))
SumsUp d old new = Appends old new (function_name d)

-- the octets spell a datagram, and what it is, is printed on a line
pub record PrintsLine (octets : List ℕ) (old new : Known) : Type 0 where
  pub datagram : Datagram
  pub spelled : link.Spells octets datagram
  pub at_end : Known
  pub summed_up : SumsUp datagram old at_end
  pub ended : Appends at_end new (10 ∷ [])

-- the same of an NPDU
pub record PrintsNpduLine (octets : List ℕ) (old new : Known) : Type 0 where
  pub at_end : Known
  pub summed_up : SumsUpNpdu octets old at_end
  pub ended : Appends at_end new (10 ∷ [])
