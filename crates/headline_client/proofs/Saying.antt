-- What a client says may be said: a request or a piece of it of a transaction that it has, before its deadline; and
-- SegmentACKs at any time.
use Rattle.std.proofs.Common.{◌≡◌, refl, sym, ap, subst, ◌∙◌, ℕ, ◌+◌, ◌<◌, Bool, List, [], ◌∷◌, ◌++◌, map, Option, Some, None, arith}
use Rattle.std.specs.List.{AllByRecursion}
use Rattle.apdu.specs.Sizes.{apdu_code}
use Rattle.apdu.specs.declared.apdu.Segment.{Segment}
use Rattle.apdu.specs.declared.sizes.MaxApdu.{MaxApdu}
use Rattle.client.specs.client_tsm.Asking.{asked_by, piece_said, request_said, segment_of}
use Rattle.bindings.specs.Limits.{request_chunk}
use Rattle.client.specs.client_tsm.Open.{Open}
use Rattle.client.specs.client_tsm.declared.said.ClientSaid.{ClientSaid}
use Rattle.client.specs.client_tsm.declared.said.ClientSaid.TheVariants as said
use Rattle.headline.specs.Happenings.{Client_asks, Part, Whole, Piece, Says_other, asking}
use Rattle.history.specs.Book.{Asks_piece, Body, Head, Message, Unicast}
use Rattle.history.specs.Lists.{Has}
use Rattle.profile.specs.Times.{DEADLINE_MS}
use Rattle.history.specs.Pieces as book
use Rattle.npdu.specs.declared.mac.Station.{Station}
use Rattle.npdu.specs.declared.mac.Way.{Way}
use Rattle.headline_bacnet.proofs.Pieces.{IsPart, piece_is}
use Rattle.headline_bacnet.proofs.Refining.{CanSay, saying}
use Rattle.headline_bacnet.specs.Bodies.{head_of, led_to, limits_of, request_body}
use Rattle.headline_bacnet.specs.Protocol.{bacnet}
use Rattle.segments.proofs.PieceLaws.{window_is_pieces}
use Rattle.segments.specs.Sender.{SenderState, window_of}
use Rattle.segments.specs.Laws.{IsPiece}
use Rattle.segments.specs.Pieces.{PlainPiece}
use Rattle.headline_bacnet.specs.services.Asked.{request_octets, service_asked}
use Rattle.headline_client.specs.Kept.{CutsIn, IsKept}
use Rattle.headline_client.specs.Laws.{CanWrite}
use Rattle.headline_bacnet.specs.Refined.{ObjectSite, ObjectCore}
use Rattle.headline_client.specs.Safe.{safe_transaction}
use Rattle.headline_client.specs.Told.{message_of, message_to}

module _ {A : Type 0} (own : Station → MaxApdu) (s : ObjectSite A) (w : ObjectCore A) (c : Station) where
  -- a client has this transaction, and may ask for it
  pub record MayAskFor (o : Open A) : Type 0 where
    pub kept : IsKept c.net o
    pub there : Has (w.clients c).transactions (safe_transaction own o)
    pub early : w.book.moment < o.at + DEADLINE_MS

  -- the head of its request
  abbrev head : Open A → Head
  head o = head_of (own o.station) (limits_of o.accepts.segmented o.accepts.max_segments (apdu_code o.accepts.max_apdu)) (service_asked o.request)

  can_ask : (o : Open A) (segment : Option Segment) (octets : List ℕ) (part : Part) → MayAskFor o →
      request_body segment o.invoke_id (head o) octets ≡ asking (bacnet A) part (safe_transaction own o) →
      CanSay (bacnet A) s w (message_of own c w.book.moment (request_said segment octets o))
  can_ask o segment octets part may is = record {
    happening = Client_asks c (safe_transaction own o) part;
    honest = λ said. record { there = may.there; early = may.early };
    same = λ said. ap (λ (m : Message Station). saying (said ++ m ∷ []) w)
        (ap (λ (y : Body). record { from = c; to = Unicast o.station; body = y; stamp = w.book.moment }) (sym is)
        ∙ ap (λ (to : Station). message_to own c w.book.moment (request_said segment octets o) to) (sym may.kept.leads));
  }

  -- all that a client says may be said, and has octets
  pub record CanSayAll (says : List (ClientSaid A)) : Type 0 where
    pub can : AllByRecursion (CanSay (bacnet A) s w) (map (message_of own c w.book.moment) says)
    pub written : AllByRecursion CanWrite says

  -- nothing, and one thing
  abbrev pub silent : CanSayAll []
  silent = record { can = tt; written = tt }

  -- a client may say the request of its transaction whole
  pub can_ask_whole : (o : Open A) → MayAskFor o → CanSay (bacnet A) s w (message_of own c w.book.moment (request_said None (request_octets o.request) o))
  can_ask_whole o may = can_ask o None (request_octets o.request) Whole may refl

  piece_asks : (o : Open A) (p : PlainPiece) → (is : IsPart (request_chunk o.max_apdu) (request_octets o.request) p) →
      request_body (Some (segment_of p)) o.invoke_id (head o) p.octets ≡ asking (bacnet A) (Piece is.n) (safe_transaction own o)
  piece_asks o p is =
      ap (λ (n : ℕ). Asks_piece o.invoke_id (head o) n p.has_more p.octets) is.number
      ∙ ap (λ (more : Bool). Asks_piece o.invoke_id (head o) is.n more p.octets) is.more
      ∙ ap (λ (octets : List ℕ). Asks_piece o.invoke_id (head o) is.n (book.has_more (request_chunk o.max_apdu) is.n (request_octets o.request)) octets)
      is.octets

  -- a client may say a piece of the request of its transaction
  can_ask_piece : (o : Open A) (p : PlainPiece) → MayAskFor o → IsPiece (request_chunk o.max_apdu) (request_octets o.request) p →
      CanSay (bacnet A) s w (message_of own c w.book.moment (piece_said o p))
  can_ask_piece o p may piece =
      let is = piece_is (request_chunk o.max_apdu) (request_octets o.request) p (omega (arith, may.kept.wide)) (omega (arith, may.kept.few)) piece in
      can_ask o (Some (segment_of p)) p.octets (Piece is.n) may (piece_asks o p is)

  can_ask_pieces : (o : Open A) (ps : List PlainPiece) → MayAskFor o → AllByRecursion (IsPiece (request_chunk o.max_apdu) (request_octets o.request)) ps →
      AllByRecursion (CanSay (bacnet A) s w) (map (message_of own c w.book.moment) (map (piece_said o) ps))
  can_ask_pieces o [] may all = tt
  can_ask_pieces o (p ∷ ps) may all = (can_ask_piece o p may all.0, can_ask_pieces o ps may all.1)

  written_pieces : (o : Open A) (ps : List PlainPiece) → MayAskFor o → AllByRecursion CanWrite (map (piece_said o) ps)
  written_pieces o [] may = tt
  written_pieces o (p ∷ ps) may = (may.kept.code, written_pieces o ps may)

  -- a client may say all that it says of a request: it whole, or a window of its pieces
  pub can_ask_all : (o : Open A) (sending : Option SenderState) → MayAskFor o → CutsIn (request_chunk o.max_apdu) sending → CanSayAll (asked_by sending o)
  can_ask_all o None may cuts = record { can = (can_ask_whole o may, tt); written = (may.kept.code, tt) }
  can_ask_all o (Some cut) may cuts = record {
    can = can_ask_pieces o (window_of (request_octets o.request) cut) may
        (subst (λ n. AllByRecursion (IsPiece n (request_octets o.request)) (window_of (request_octets o.request) cut)) cuts
        (window_is_pieces (request_octets o.request) cut));
    written = written_pieces o (window_of (request_octets o.request) cut) may;
  }

  abbrev pub ack : Way → Bool → (invoke number window : ℕ) → ClientSaid A
  ack way negative invoke number window = said.SegmentAck way negative invoke number window

  -- a SegmentACK says nothing of requests and replies
  acknowledges : (way : Way) (negative : Bool) (invoke number window : ℕ) →
      CanSay (bacnet A) s w (message_of own c w.book.moment (ack way negative invoke number window))
  acknowledges way negative invoke number window = record {
    happening = Says_other c (Unicast (led_to c.net way));
    honest = λ said. tt;
    same = λ said. refl;
  }

  pub can_acknowledge : (way : Way) (negative : Bool) (invoke number window : ℕ) → CanSayAll (ack way negative invoke number window ∷ [])
  can_acknowledge way negative invoke number window = record { can = (acknowledges way negative invoke number window, tt); written = (tt, tt) }
