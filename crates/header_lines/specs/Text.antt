-- What `bacsite explain` prints of the parts of a datagram: a line for each field and each tag.
use Rattle.std.specs.Prelude.{ℕ, ◌%◌, ◌==◌, Bool, true, false, if◌then◌else◌, List, [], ◌∷◌, ◌++◌, Option, None, Some}
use Rattle.std.specs.Prelude.{codes}
use Rattle.std.specs.Prelude.{flat_map, length, is_some}
use Rattle.std.specs.Fmt.{decimal}
use Rattle.byteorder.specs.Endian.{big_bytes}
use Rattle.tags.specs.declared.tag.Class.{Class}
use Rattle.tags.specs.declared.tag.Class.TheVariants.{Application, Context}
use Rattle.tags.specs.Tag.{PlainTag, PlainContent, null, boolean, contents, opening, closing}
use Rattle.apdu.specs.Apdu.{PlainApdu, confirmed, complex_ack, segment_ack, abort_pdu, type_of}
use Rattle.apdu.specs.Sizes.{segments_code}
use Rattle.apdu.specs.declared.sizes.MaxSegments.{MaxSegments}
use Rattle.apdu.specs.PduType.{type_number}
use Rattle.apdu.specs.declared.apdu.Segment.{Segment}
use Rattle.npdu.specs.Dnet.{dnet_number}
use Rattle.npdu.specs.Header.{Header, PlainDestination, PlainSource}
use Rattle.npdu.specs.Priority.{priority_number}
use Rattle.npdu.specs.Message.{message_type}
use Rattle.npdu.specs.declared.message.Message.{Message}
use Rattle.npdu.specs.declared.message.Message.TheVariants.{Proprietary}
use Rattle.bvll.specs.Datagram.{Datagram, function, outcome}
use Rattle.bvll.specs.Function.{number_of}
use Rattle.octet_texts.specs.Pairs.{pair_of}
use Rattle.names.specs.Names.{name_in}
use Rattle.names.specs.Headers.{bvll_functions, bvll_results, network_priorities, network_messages, pdu_types}
use Rattle.names.specs.Headers.{max_apdus}
use Rattle.names.specs.Headers as names
use Rattle.printing.specs.Printed.{named_text}
use Rattle.printing.specs.declared.spelling.Spelling.{Spelling}
use Rattle.printing.specs.declared.spelling.Spelling.TheVariants.{Numbers, Names}
use Rattle.parameters.specs.Notes.{note}
use Rattle.parameters.specs.Position.{parameter_of}
use Rattle.parameters.specs.Position as position
use Rattle.parameters.specs.declared.position.Position.{Position}
use Rattle.parameters.specs.declared.productions.Parameter.{Parameter}
use Rattle.parameters.specs.declared.productions.Row.{Row}

-- octets as pairs of digits without spaces
abbrev pub pairs : List ℕ → List ℕ
pairs octets = flat_map pair_of octets

-- the same, or - where there are none
abbrev pub dashed : List ℕ → List ℕ
dashed [] = codes "-"
dashed (o ∷ os) = pairs (o ∷ os)

-- a field: its name with a space behind it, its text and a line end
abbrev pub field : List ℕ → List ℕ → List ℕ
field name text = (name ++ text) ++ 10 ∷ []

-- a field that is a number
abbrev pub number : List ℕ → ℕ → List ℕ
number name n = field name (decimal n)

-- words, where names are asked for
unfoldable pub words_of : Spelling → List ℕ → List ℕ
words_of Numbers words = []
words_of Names words = words

-- a number's name in a table behind a space, where names are asked for and it has one
abbrev pub name_words : Option (List ℕ) → List ℕ
name_words None = []
name_words (Some name) = codes " " ++ name

unfoldable pub behind : Spelling → List (ℕ × List ℕ) → ℕ → List ℕ
behind s table n = words_of s (name_words (name_in table n))

-- a field that is a number, with its name
abbrev pub named : List ℕ → Spelling → List (ℕ × List ℕ) → ℕ → List ℕ
named name s table n = field name (decimal n ++ behind s table n)

-- a word behind a space, where it holds
abbrev pub word_if : Bool → List ℕ → List ℕ
word_if true word = codes " " ++ word
word_if false word = []

-- the words of a control octet (6.2.2)
unfoldable pub control_words : Spelling → Header → List ℕ
control_words s h = words_of s (word_if (is_some h.message) (codes "network-layer-message")
    ++ (word_if (is_some h.destination) (codes "destination") ++ (word_if (is_some h.source) (codes "source")
    ++ (word_if h.expects_reply (codes "expecting-reply")
    ++ name_words (name_in network_priorities (priority_number h.priority))))))

-- whom a message is for that is for more than one station: those of all networks, or of one (6.2.2)
abbrev pub reach : (net : ℕ) → List ℕ → List ℕ
reach net [] = if net == 65535 then codes " global-broadcast" else codes " remote-broadcast"
reach net (o ∷ os) = if net == 65535 then codes " global-broadcast" else []

unfoldable pub reach_words : Spelling → PlainDestination → List ℕ
reach_words s d = words_of s (reach (dnet_number d.net) d.mac)

-- the flags that a segment sets (20.1.2.1, 20.1.2.2)
abbrev pub segment_flags : Option Segment → List ℕ
segment_flags None = []
segment_flags (Some g) = codes " segmented-message" ++ word_if g.more_follows (codes "more-follows")

-- the flags that an APDU sets (20.1.2.1 to 20.1.2.3, 20.1.6.1, 20.1.6.2, 20.1.9.1)
abbrev pub flags : PlainApdu → List ℕ
flags (confirmed segment accepted max_segments max_apdu invoke service octets) =
    segment_flags segment ++ word_if accepted (codes "segmented-response-accepted")
flags (complex_ack segment invoke service octets) = segment_flags segment
flags (segment_ack negative server invoke sequence window) =
    word_if negative (codes "negative-ack") ++ word_if server (codes "server")
flags (abort_pdu server invoke reason) = word_if server (codes "server")
flags a = []

unfoldable pub flag_words : Spelling → PlainApdu → List ℕ
flag_words s a = words_of s (flags a)

-- how many segments a requester takes, and of how many octets its APDUs are at most (20.1.2.4, 20.1.2.5)
abbrev pub taken_text : MaxSegments → ℕ → List ℕ
taken_text max_segments max_apdu =
    codes " segments " ++ (named_text Names names.max_segments (segments_code max_segments)
    ++ (codes " max-apdu " ++ named_text Names max_apdus max_apdu))

-- what a requester takes
abbrev pub sizes : PlainApdu → List ℕ
sizes (confirmed segment accepted max_segments max_apdu invoke service octets) = taken_text max_segments max_apdu
sizes a = []

unfoldable pub size_words : Spelling → PlainApdu → List ℕ
size_words s a = words_of s (sizes a)

-- the header of a datagram: its function and its length (J.2)
abbrev pub link_text : Spelling → Datagram → List ℕ → List ℕ
link_text s d octets =
    field (codes "bvll ") (pairs (number_of (function d) ∷ []) ++ (codes " " ++ (decimal (length octets)
    ++ behind s bvll_functions (number_of (function d)))))

-- what stands behind that header, where there is anything (J.2), and words behind it
abbrev pub contents_text : List ℕ → List ℕ → List ℕ
contents_text words (kind ∷ code ∷ high ∷ low ∷ o ∷ os) = field (codes "octets ") (pairs (o ∷ os) ++ words)
contents_text words octets = []

-- the words of what stands there: the code of a BVLC-Result (J.2.1)
abbrev pub contents_words : Spelling → Datagram → List ℕ
contents_words s (outcome code) = behind s bvll_results code
contents_words s d = []

-- the origin of a Forwarded-NPDU (J.2.5)
abbrev pub origin_text : List ℕ → List ℕ
origin_text octets = field (codes "origin ") (dashed octets)

-- the control octet of an NPDU (6.2.2)
abbrev pub control_text : Spelling → Header → List ℕ → List ℕ
control_text s h (version ∷ control ∷ rest) = field (codes "npdu ") (pairs (control ∷ []) ++ control_words s h)
control_text s h octets = []

-- DNET and DADR (6.2.2)
abbrev pub dnet_text : Spelling → Option PlainDestination → List ℕ
dnet_text s None = []
dnet_text s (Some d) =
    field (codes "dnet ") (decimal (dnet_number d.net) ++ (codes " " ++ (dashed d.mac ++ reach_words s d)))

-- SNET and SADR (6.2.2)
abbrev pub snet_text : Option PlainSource → List ℕ
snet_text None = []
snet_text (Some s) = field (codes "snet ") (decimal s.net ++ (codes " " ++ dashed s.mac))

-- the hop count (6.2.2.1)
abbrev pub hops_text : Option PlainDestination → List ℕ
hops_text None = []
hops_text (Some d) = number (codes "hops ") d.hops

-- octets, and those behind them
abbrev pub octets_text : List ℕ → List ℕ → List ℕ
octets_text front behind = field (codes "octets ") (pairs front ++ pairs behind)

-- a network message, a vendor's identifier at the head of its octets (6.2.4)
abbrev pub message_text : Spelling → Message → List ℕ → List ℕ
message_text s (Proprietary kind vendor) body =
    number (codes "message ") kind ++ octets_text (big_bytes 2 vendor) body
message_text s m body =
    named (codes "message ") s network_messages (message_type m) ++ field (codes "octets ") (dashed body)

-- the low bits of the first octet say something (20.1.2, 20.1.5, 20.1.6, 20.1.9)
abbrev pub has_flags : PlainApdu → Bool
has_flags (confirmed segment accepted max_segments max_apdu invoke service octets) = true
has_flags (complex_ack segment invoke service octets) = true
has_flags (segment_ack negative server invoke sequence window) = true
has_flags (abort_pdu server invoke reason) = true
has_flags a = false

-- the second octet says what the requester can take (20.1.2.4, 20.1.2.5)
abbrev pub has_sizes : PlainApdu → Bool
has_sizes (confirmed segment accepted max_segments max_apdu invoke service octets) = true
has_sizes a = false

-- the type of an APDU (20.1.2 to 20.1.9)
abbrev pub type_text : Spelling → PlainApdu → List ℕ
type_text s a = named (codes "apdu ") s pdu_types (type_number (type_of a))

-- the low bits of the first octet, and the second octet, where they say something
abbrev pub flags_text : Spelling → PlainApdu → List ℕ → List ℕ
flags_text s a (first ∷ second ∷ rest) =
    (if has_flags a then field (codes "flags ") (pairs (first % 16 ∷ []) ++ flag_words s a) else [])
    ++ (if has_sizes a then field (codes "sizes ") (pairs (second ∷ []) ++ size_words s a) else [])
flags_text s a octets = []

-- what a segment says of itself (20.1.2.7, 20.1.2.8)
abbrev pub segment_text : Option Segment → List ℕ
segment_text None = []
segment_text (Some s) = number (codes "seq ") s.sequence_number ++ number (codes "window ") s.window

-- the invoke ID, and what a segment says of itself (20.1.2.6 to 20.1.2.8)
abbrev pub transaction_text : ℕ → Option Segment → List ℕ
transaction_text invoke segment = number (codes "invoke ") invoke ++ segment_text segment

-- a SegmentACK (20.1.6)
abbrev pub segment_ack_text : ℕ → ℕ → ℕ → List ℕ
segment_ack_text invoke sequence window =
    number (codes "invoke ") invoke ++ (number (codes "seq ") sequence ++ number (codes "window ") window)

-- a Reject or an Abort, with the names of its reasons (20.1.8, 20.1.9)
abbrev pub reason_text : Spelling → List (ℕ × List ℕ) → ℕ → ℕ → List ℕ
reason_text s table invoke reason = number (codes "invoke ") invoke ++ named (codes "reason ") s table reason

-- the class of a tag (20.2.1.1)
abbrev pub class_word : Class → List ℕ
class_word Application = codes "application"
class_word Context = codes "context"

-- a tag with contents: its class, its number and what it holds
abbrev pub holding : Class → ℕ → List ℕ → List ℕ
holding class n text = field (class_word class) (codes " " ++ (decimal n ++ (codes " " ++ text)))

-- the line of a tag (20.2.1), with words behind what it holds
abbrev pub tag_text : Class → ℕ → PlainContent → List ℕ → List ℕ
tag_text class n null words = holding class n (codes "-" ++ words)
tag_text class n (boolean false) words = holding class n (codes "00" ++ words)
tag_text class n (boolean true) words = holding class n (codes "01" ++ words)
tag_text class n (contents octets) words = holding class n (dashed octets ++ words)
tag_text class n opening words = number (codes "open ") n
tag_text class n closing words = number (codes "close ") n

-- the line of a tag that stands there and is this parameter
abbrev pub tag_line : Spelling → Parameter → Position → PlainTag → List ℕ
tag_line s q at t = tag_text t.class t.number t.content (words_of s (note q at t))

-- the lines of tags from there on, by the parameters of their production
abbrev pub tag_lines : Spelling → List Row → Position → List PlainTag → List ℕ
tag_lines s rows at [] = []
tag_lines s rows at (t ∷ ts) =
    tag_line s (parameter_of rows at t) at t ++ tag_lines s rows (position.behind (parameter_of rows at t) t at) ts

-- a service's number, and its name in a table
abbrev pub service_text : Spelling → List (ℕ × List ℕ) → ℕ → List ℕ
service_text s table service = named (codes "service ") s table service
