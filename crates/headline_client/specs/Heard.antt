-- What a client says of what it hears.
use Rattle.std.proofs.Common.{inl, inr}
use Rattle.std.specs.Prelude.{ℕ, List, []}
use Rattle.apdu.specs.Apdu.{confirmed, unconfirmed, simple_ack, complex_ack, segment_ack, error_pdu, reject_pdu}
use Rattle.apdu.specs.Apdu.{abort_pdu}
use Rattle.client.specs.Client.{ClientState}
use Rattle.client.specs.Hearing.{ClientHears, Does}
use Rattle.client.specs.ClientTold.{ClientTold}
use Rattle.client.specs.client_tsm.declared.said.ClientSaid.{ClientSaid}
use Rattle.npdu.specs.declared.mac.Mac.{Mac}
use Rattle.npdu.specs.declared.mac.Station.{Station}
use Rattle.npdu.specs.declared.mac.Target.{Target}
use Rattle.npdu.specs.declared.mac.Way.{Way}
use Rattle.unitdata.specs.Hearing.{HeardContent, refuses, says}

-- what a client says of a message: nothing of an unconfirmed request, or where a router refused one; else what its
-- client of transactions says (5.4.4, 6.4.4, 16.10.3)
abbrev pub said_on : {A : Type 0} (now : ℕ) (from : Station) (way : Way) (content : HeardContent) (c : ClientState A)
    (told : ClientTold A) (next : ClientState A) → Does now from way content c told next → List (ClientSaid A)
said_on now from way (says (unconfirmed service octets)) c told next does = []
said_on now from way (says (confirmed segment accepted max_segments max_apdu invoke service octets)) c told next does =
    does.tsm_told.said
said_on now from way (says (simple_ack invoke service)) c told next does = does.tsm_told.said
said_on now from way (says (complex_ack segment invoke service octets)) c told next does = does.tsm_told.said
said_on now from way (says (segment_ack negative server invoke number window)) c told next does = does.tsm_told.said
said_on now from way (says (error_pdu invoke service class code first)) c told next does = does.tsm_told.said
said_on now from way (says (reject_pdu invoke reason)) c told next does = does.tsm_told.said
said_on now from way (says (abort_pdu server invoke reason)) c told next does = does.tsm_told.said
said_on now from way (refuses rejected) c told next does = []

-- what a client says of an NPDU: what it says of the message that it brings, if it brings one (5.4.4)
abbrev pub said_in : {A : Type 0} (now : ℕ) (from : Mac) (to : Target) (npdu : List ℕ) (c : ClientState A)
    (told : ClientTold A) (next : ClientState A) → ClientHears now from to npdu c told next → List (ClientSaid A)
said_in now from to npdu c told next (inl h) =
    said_on now h.heard.station h.heard.way h.heard.content c told next h.does
said_in now from to npdu c told next (inr drops) = []
