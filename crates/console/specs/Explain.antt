-- What `bacsite explain` prints of a datagram that reads whole: one that it refuses nothing of.
use Rattle.std.specs.Prelude.{ℕ, List, [], Option, None, Some, drop}
use Rattle.std.specs.Io.KnownBytes.{Appends}
use Rattle.bvll.specs.Datagram.{Datagram, forwarded, distribute, unicast, broadcast}
use Rattle.bvll.specs.Datagram as link
use Rattle.bvll.specs.Address.{address_octets}
use Rattle.npdu.specs.Header.{Header}
use Rattle.npdu.specs.Header as network
use Rattle.npdu.specs.declared.message.Message.{Message}
use Rattle.apdu.specs.Apdu.{PlainApdu, confirmed, unconfirmed, simple_ack, complex_ack, segment_ack}
use Rattle.apdu.specs.Apdu.{error_pdu, reject_pdu, abort_pdu}
use Rattle.apdu.specs.Apdu as application
use Rattle.apdu.specs.declared.apdu.Segment.{Segment}
use Rattle.apdu.specs.declared.pdu_type.PduType.TheVariants as kind
use Rattle.tags.specs.Element.{TakesTags}
use Rattle.tags.specs.Tag.{PlainTag}
use Rattle.octet_texts.specs.Says.{Says, OnlySays}
use Rattle.console.specs.Answer.{Known}
use Rattle.console.specs.Summary.{PrintsLine, PrintsNpduLine, rows_from}
use Rattle.header_lines.specs.Text.{link_text, contents_text, control_text, dnet_text, snet_text, hops_text}
use Rattle.header_lines.specs.Text.{message_text}
use Rattle.header_lines.specs.Text.{origin_text, type_text, flags_text, transaction_text, segment_ack_text, reason_text}
use Rattle.header_lines.specs.Text.{service_text, tag_lines, contents_words}
use Rattle.names.specs.Headers.{confirmed_services, unconfirmed_services}
use Rattle.names.specs.Tables.{abort_reasons, reject_reasons}
use Rattle.parameters.specs.Position.{start}
use Rattle.parameters.specs.Productions.{production}
use Rattle.parameters.specs.declared.position.Position.{Position}
use Rattle.parameters.specs.declared.productions.Row.{Row}
use Rattle.printing.specs.declared.spelling.Spelling.{Spelling}
use Rattle.printing.specs.declared.spelling.Spelling.TheVariants.{Numbers, Names}

-- the octets, all of them, are tags one after another, and a line of each is printed, by the parameters that they are
-- from there on (20.2.1)
pub record PrintsTags (s : Spelling) (rows : List Row) (at : Position) (octets : List ℕ) (old new : Known) :
    Type 0 where
  pub tags : List PlainTag
  pub taken : TakesTags octets tags []
  pub printed : Appends old new (tag_lines s rows at tags)

-- names of services, and the parameters of one
abbrev pub Service : Type 0
Service = List (ℕ × List ℕ) × List Row

-- a service's number is printed, and the octets as its tags
pub record PrintsService (s : Spelling) (of : Service) (service : ℕ) (octets : List ℕ) (old new : Known) : Type 0 where
  pub at_tags : Known
  pub service_printed : Appends old at_tags (service_text s of.0 service)
  pub tags_printed : PrintsTags s of.1 start octets at_tags new

-- an invoke ID and what a segment says of itself
abbrev pub Transaction : Type 0
Transaction = ℕ × Option Segment

-- they are printed, and then the service
pub record PrintsCall (s : Spelling) (rows : List Row) (t : Transaction) (service : ℕ) (octets : List ℕ)
    (old new : Known) : Type 0 where
  pub at_service : Known
  pub transaction_printed : Appends old at_service (transaction_text t.0 t.1)
  pub rest_printed : PrintsService s (confirmed_services, rows) service octets at_service new

-- what stands behind the flags and sizes of an APDU is printed: of a request or an answer, of a segment too, the data
-- as tags, and of an Error its contents (20.1.2 to 20.1.9)
abbrev pub PrintsFields : Spelling → PlainApdu → List ℕ → Known → Known → Type 0
PrintsFields s (confirmed segment accepted max_segments max_apdu invoke service body) octets old new =
    PrintsCall s (rows_from segment kind.ConfirmedRequest service) (invoke, segment) service body old new
PrintsFields s (unconfirmed service body) octets old new =
    PrintsService s (unconfirmed_services, production kind.UnconfirmedRequest service) service body old new
PrintsFields s (simple_ack invoke service) octets old new = PrintsCall s [] (invoke, None) service [] old new
PrintsFields s (complex_ack segment invoke service body) octets old new =
    PrintsCall s (rows_from segment kind.ComplexAck service) (invoke, segment) service body old new
PrintsFields s (segment_ack negative server invoke sequence window) octets old new =
    Appends old new (segment_ack_text invoke sequence window)
PrintsFields s (error_pdu invoke service class code first_failed) octets old new =
    PrintsCall s (production kind.Error service) (invoke, None) service (drop 3 octets) old new
PrintsFields s (reject_pdu invoke reason) octets old new =
    Appends old new (reason_text s reject_reasons invoke reason)
PrintsFields s (abort_pdu server invoke reason) octets old new =
    Appends old new (reason_text s abort_reasons invoke reason)

-- the octets spell an APDU, and it is printed field by field (20.1)
pub record ExplainsApdu (s : Spelling) (octets : List ℕ) (old new : Known) : Type 0 where
  pub apdu : PlainApdu
  pub spelled : application.Spells octets apdu
  pub at_flags : Known
  pub at_fields : Known
  pub type_printed : Appends old at_flags (type_text s apdu)
  pub flags_printed : Appends at_flags at_fields (flags_text s apdu octets)
  pub fields_printed : PrintsFields s apdu octets at_fields new

-- what stands behind a header is printed: a network message, or an APDU (6.2.4)
abbrev pub ExplainsBody : Spelling → Option Message → List ℕ → Known → Known → Type 0
ExplainsBody s (Some message) body old new = Appends old new (message_text s message body)
ExplainsBody s None body old new = ExplainsApdu s body old new

-- the addresses of a header are printed (6.2.2)
pub record PrintsAddresses (s : Spelling) (h : Header) (old new : Known) : Type 0 where
  pub at_source : Known
  pub at_hops : Known
  pub destination_printed : Appends old at_source (dnet_text s h.destination)
  pub source_printed : Appends at_source at_hops (snet_text h.source)
  pub hops_printed : Appends at_hops new (hops_text h.destination)

-- the octets spell an NPDU, and it is printed field by field (6.2)
pub record ExplainsNpdu (s : Spelling) (octets : List ℕ) (old new : Known) : Type 0 where
  pub npdu : Header
  pub spelled : network.Spells octets npdu
  pub at_addresses : Known
  pub at_body : Known
  pub control_printed : Appends old at_addresses (control_text s npdu octets)
  pub addresses_printed : PrintsAddresses s npdu at_addresses at_body
  pub body_printed : ExplainsBody s npdu.message npdu.body at_body new

-- the NPDU of a Forwarded-NPDU is printed behind its origin (J.2.5)
pub record ExplainsForwarded (s : Spelling) (origin npdu : List ℕ) (old new : Known) : Type 0 where
  pub at_npdu : Known
  pub origin_printed : Appends old at_npdu (origin_text origin)
  pub npdu_printed : ExplainsNpdu s npdu at_npdu new

-- what stands behind the header of a datagram is printed: an NPDU field by field, and else its contents as octets (J.2)
abbrev pub ExplainsRest : Spelling → Datagram → List ℕ → Known → Known → Type 0
ExplainsRest s (forwarded origin npdu) octets old new = ExplainsForwarded s (address_octets origin) npdu old new
ExplainsRest s (distribute npdu) octets old new = ExplainsNpdu s npdu old new
ExplainsRest s (unicast npdu) octets old new = ExplainsNpdu s npdu old new
ExplainsRest s (broadcast npdu) octets old new = ExplainsNpdu s npdu old new
ExplainsRest s d octets old new = Appends old new (contents_text (contents_words s d) octets)

-- the octets spell a datagram, and it is printed field by field (J.2)
pub record ExplainsDatagram (s : Spelling) (octets : List ℕ) (old new : Known) : Type 0 where
  pub datagram : Datagram
  pub spelled : link.Spells octets datagram
  pub at_carried : Known
  pub link_printed : Appends old at_carried (link_text s datagram octets)
  pub carried_printed : ExplainsRest s datagram octets at_carried new

-- what a datagram is, is printed on a line, and then it field by field (J.2)
pub record ExplainsNamed (octets : List ℕ) (old new : Known) : Type 0 where
  pub at_fields : Known
  pub line_printed : PrintsLine octets old at_fields
  pub fields_printed : ExplainsDatagram Names octets at_fields new

-- a datagram is printed field by field, and with names behind a line of what it is
abbrev pub Explains : Spelling → List ℕ → Known → Known → Type 0
Explains Numbers octets old new = ExplainsDatagram Numbers octets old new
Explains Names octets old new = ExplainsNamed octets old new

-- the same of an NPDU (6.2)
pub record ExplainsNamedNpdu (octets : List ℕ) (old new : Known) : Type 0 where
  pub at_fields : Known
  pub line_printed : PrintsNpduLine octets old at_fields
  pub fields_printed : ExplainsNpdu Names octets at_fields new

abbrev pub ExplainsCarried : Spelling → List ℕ → Known → Known → Type 0
ExplainsCarried Numbers octets old new = ExplainsNpdu Numbers octets old new
ExplainsCarried Names octets old new = ExplainsNamedNpdu octets old new

-- the text says a datagram and no other, and it is printed
pub record PrintsExplained (s : Spelling) (text : List ℕ) (old new : Known) : Type 0 where
  pub octets : List ℕ
  pub said : Says text octets
  pub only : OnlySays text octets
  pub explained : Explains s octets old new
