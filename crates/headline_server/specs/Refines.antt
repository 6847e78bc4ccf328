-- What a step of a server is to the promise: what it says in the book, and what it tells in the history.
use Rattle.std.specs.Prelude.{ℕ, map, Option, Some, None}
use Rattle.apdu.specs.Numbers.{abort_number, reject_number}
use Rattle.headline.specs.Happenings.{put, tell, with_entry, with_said}
use Rattle.history.specs.Book.{Body, Book, Complex, Failed, Message, Other, Refuses, Simple, Tells, Tells_piece}
use Rattle.history.specs.Book.{Unicast, last_issue}
use Rattle.history.specs.declared.End.TheVariants.{Aborted, Rejected}
use Rattle.history.specs.declared.Entry.TheVariants.{Executed, Restarted}
use Rattle.npdu.specs.declared.mac.Station.{Station}
use Rattle.headline_bacnet.specs.Bodies.{led_to}
use Rattle.headline_bacnet.specs.Protocol.{bacnet}
use Rattle.headline_bacnet.specs.Refined.{ObjectCore}
use Rattle.primitives.specs.declared.plain_data.Reply.{Reply}
use Rattle.primitives.specs.declared.plain_data.Request.{Request}
use Rattle.server_tsm.specs.remembered.declared.record.RememberedAnswer.{RememberedAnswer}
use Rattle.server_tsm.specs.remembered.declared.record.RememberedAnswer.TheVariants as kept
use Rattle.headline_server.specs.Safe.{safe_device}
use Rattle.headline_bacnet.specs.server_answers.Said.{said_way}
use Rattle.server_tsm.specs.Server.{ServerTsmState}
use Rattle.headline_bacnet.specs.server_answers.ServerTold.{ServerTold}
use Rattle.headline_bacnet.specs.server_answers.Executed as told
use Rattle.headline_bacnet.specs.server_answers.declared.said.ServerSaid.{ServerSaid}
use Rattle.headline_bacnet.specs.server_answers.declared.said.ServerSaid.TheVariants as said

-- what an answer whole says (20.1.4, 20.1.5, 20.1.7, 20.1.9)
abbrev pub whole_body : {A : Type 0} → ℕ → RememberedAnswer A → Body
whole_body invoke kept.Simple = Tells invoke Simple
whole_body invoke (kept.Complex octets) = Tells invoke (Complex octets)
whole_body invoke (kept.Error contents) = Tells invoke (Failed contents)
whole_body invoke (kept.Abort reason) = Refuses invoke (Aborted (abort_number reason))

-- what a server says (20.1.4 to 20.1.9)
abbrev pub said_body : {A : Type 0} → ServerSaid A → Body
said_body (said.Answer way invoke service answer) = whole_body invoke answer
said_body (said.Segment way invoke service segment octets) =
    Tells_piece invoke segment.sequence_number segment.more_follows octets
said_body (said.SegmentAck way negative invoke number window) = Other
said_body (said.Reject way invoke reason) = Refuses invoke (Rejected (reject_number reason))
said_body (said.Abort way invoke reason) = Refuses invoke (Aborted (abort_number reason))

-- what a server says as a message of this station at this moment, to the one that its way leads to (6.5.2)
abbrev pub message_of : {A : Type 0} → Station → ℕ → ServerSaid A → Message Station
message_of d now x =
    record { from = d; to = Unicast (led_to d.net (said_way x)); body = said_body x; stamp = now }

-- an execution is told in the history of the issue that it is of
abbrev pub told_by : {A : Type 0} → Option (told.Executed A) → Book Station (Request A) (Reply A) →
    Book Station (Request A) (Reply A)
told_by None b = b
told_by {A} (Some x) b =
    tell (λ i. Executed i x.reply b.moment)
    (last_issue (bacnet A).same x.asker.station x.asker.invoke_id b.issues) b

-- the book after what a server at this station said and executed
abbrev pub with_told : {A : Type 0} → Station → ServerTold A → Book Station (Request A) (Reply A) →
    Book Station (Request A) (Reply A)
with_told d server_told b = with_said (map (message_of d b.moment) server_told.said) (told_by server_told.executed b)

-- all stations after a step of the server at this one, which says and executes that, and leaves it so
abbrev pub served : {A : Type 0} → Station → ServerTold A → ServerTsmState A → ObjectCore A → ObjectCore A
served {A} d server_told left w =
    record w {
      book = with_told d server_told w.book;
      devices = put (bacnet A).same w.devices d (safe_device left);
    }

-- all stations after a restart of the device with this instance at this station, which leaves its server so
abbrev pub begun_anew : {A : Type 0} → Station → (instance : ℕ) → ServerTsmState A → ObjectCore A → ObjectCore A
begun_anew {A} d n left w =
    record w {
      book = with_entry (Restarted n w.book.moment) w.book;
      devices = put (bacnet A).same w.devices d (safe_device left);
    }
