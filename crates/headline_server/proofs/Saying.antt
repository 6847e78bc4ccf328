-- Each thing that a server says is an honest happening, and so are all of them.
use Rattle.std.proofs.Common.{◌≡◌, ◌∙◌, refl, sym, ap, subst, ℕ, ◌+◌, ◌≤◌, List, [], ◌∷◌, map, Some, None, arith}
use Rattle.std.specs.Prelude.{Option}
use Rattle.std.specs.List.{AllByRecursion}
use Rattle.std.proofs.lemmas.List.{append-nil, append_assoc}
use Rattle.apdu.specs.Numbers.{abort_number, reject_number}
use Rattle.headline.specs.Happenings.{Happening, Device_tells, Part, Piece, Says_no, Says_other, Whole, happens, run, says, telling, with_said}
use Rattle.headline.specs.Honest.{IsHonest, IsHonestRun}
use Rattle.headline.specs.Protocol.{Site}
use Rattle.headline.specs.Stations.{Device}
use Rattle.history.specs.Book.{Body, Message, Tells_piece, Unicast}
use Rattle.history.specs.Lists.{Has}
use Rattle.history.specs.Pieces.{has_more, piece}
use Rattle.profile.specs.Times.{KEEP_MS}
use Rattle.history.specs.declared.End.TheVariants.{Aborted, Rejected}
use Rattle.npdu.specs.declared.mac.Station.{Station}
use Rattle.headline_bacnet.specs.Bodies.{led_to}
use Rattle.headline_bacnet.specs.Protocol.{bacnet}
use Rattle.object_model.specs.Objects.{PlainTable}
use Rattle.primitives.specs.declared.plain_data.Reply.{Reply}
use Rattle.primitives.specs.declared.plain_data.Request.{Request}
use Rattle.server_tsm.specs.remembered.declared.record.Record.{Record}
use Rattle.server_tsm.specs.remembered.declared.record.RememberedAnswer.{RememberedAnswer}
use Rattle.server_tsm.specs.remembered.declared.record.RememberedAnswer.TheVariants as kept
use Rattle.segments.proofs.PieceLaws.{window_is_pieces}
use Rattle.segments.specs.Sender.{SenderState, window_of}
use Rattle.segments.specs.Laws.{IsPiece}
use Rattle.segments.specs.Pieces.{PlainPiece}
use Rattle.headline_bacnet.proofs.Pieces.{IsPart, piece_is}
use Rattle.headline_server.specs.Keeping.{AreNumbered, IsSentIn}
use Rattle.headline_bacnet.specs.Refined.{ObjectCore}
use Rattle.headline_server.specs.Refines.{message_of, said_body}
use Rattle.headline_server.specs.Safe.{safe_answer, safe_record}
use Rattle.headline_bacnet.specs.server_answers.Answering.{answered_by, data_of, answer_segment}
use Rattle.headline_bacnet.specs.server_answers.Said.{said_way}
use Rattle.headline_bacnet.specs.server_answers.declared.said.ServerSaid.{ServerSaid}
use Rattle.headline_bacnet.specs.server_answers.declared.said.ServerSaid.TheVariants as said

-- what a segment with a piece says
piece_body : (id chunk : ℕ) (octets : List ℕ) (p : PlainPiece) (part : IsPart chunk octets p) →
    Tells_piece id part.n (has_more chunk part.n octets) (piece chunk part.n octets) ≡ Tells_piece id p.number p.has_more p.octets
piece_body id chunk octets p part = let number = part.number in let more = part.more in let same = part.octets in cc

module _ {A : Type 0} where
  -- what is said is a happening that is honest wherever the device at this station is so at this moment
  pub record IsHonestlySaid (s : Site Station (PlainTable A)) (d : Station) (now : ℕ) (device : Device Station (PlainTable A)) (x : ServerSaid A) : Type 0 where
    pub happening : Happening Station (Request A) (Reply A) (PlainTable A)
    pub honest : (w : ObjectCore A) → w.book.moment ≡ now → w.devices d ≡ device → IsHonest (bacnet A) s w happening
    pub is : (w : ObjectCore A) → happens (bacnet A) s w happening ≡ says d (Unicast (led_to d.net (said_way x))) (said_body x ∷ []) w

  -- all that is said are such happenings
  pub record AreHonestlySaid (s : Site Station (PlainTable A)) (d : Station) (now : ℕ) (device : Device Station (PlainTable A))
      (xs : List (ServerSaid A)) : Type 0 where
    pub happenings : List (Happening Station (Request A) (Reply A) (PlainTable A))
    pub honest : (w : ObjectCore A) → w.book.moment ≡ now → w.devices d ≡ device → IsHonestRun (bacnet A) s happenings w
    pub is : (w : ObjectCore A) → run (bacnet A) s happenings w ≡ record w { book = with_said (map (message_of d w.book.moment) xs) w.book }

  -- the same with more said
  abbrev more_said : List (Message Station) → ObjectCore A → ObjectCore A
  more_said ms w = record w { book = with_said ms w.book }

  said_list : List (Message Station) → ObjectCore A → ObjectCore A
  said_list ms w = record w { book = record w.book { said = ms } }

  pub all_said : (s : Site Station (PlainTable A)) (d : Station) (now : ℕ) (device : Device Station (PlainTable A)) (xs : List (ServerSaid A)) →
      AllByRecursion (IsHonestlySaid s d now device) xs → AreHonestlySaid s d now device xs
  all_said s d now device [] h = record {
    happenings = [];
    honest = λ w m e. tt;
    is = λ w. ap (λ (l : List (Message Station)). record w { book = record w.book { said = l } }) (sym (append-nil w.book.said));
  }
  all_said s d now device (x ∷ xs) h =
      let rest = all_said s d now device xs h.1 in
      let one = h.0 in
      record {
        happenings = one.happening ∷ rest.happenings;
        honest = λ w m e. (
          one.honest w m e,
          rest.honest (happens (bacnet A) s w one.happening)
              (ap (λ (z : ObjectCore A). z.book.moment) (one.is w) ∙ m) (ap (λ (z : ObjectCore A). z.devices d) (one.is w) ∙ e),
        );
        is = λ w. rest.is (happens (bacnet A) s w one.happening)
            ∙ ap (λ (z : ObjectCore A). more_said (map (message_of d z.book.moment) xs) z) (one.is w)
            ∙ ap (λ (l : List (Message Station)). record w { book = record w.book { said = l } })
            (append_assoc w.book.said (message_of d w.book.moment x ∷ []) (map (message_of d w.book.moment) xs));
      }

  -- what is no answer may be said at any time
  abbrev pub IsNoAnswer : ServerSaid A → Type 0
  IsNoAnswer (said.Answer way invoke service answer) = ⊥
  IsNoAnswer (said.Segment way invoke service segment octets) = ⊥
  IsNoAnswer x = Unit {0}

  pub free_said : (s : Site Station (PlainTable A)) (d : Station) (now : ℕ) (device : Device Station (PlainTable A)) (x : ServerSaid A) → IsNoAnswer x →
      IsHonestlySaid s d now device x
  free_said s d now device (said.Answer way invoke service answer) h = absurd h
  free_said s d now device (said.Segment way invoke service segment octets) h = absurd h
  free_said s d now device (said.SegmentAck way negative invoke number window) h = record {
    happening = Says_other d (Unicast (led_to d.net way));
    honest = λ w m e. tt;
    is = λ w. refl;
  }
  free_said s d now device (said.Reject way invoke reason) h = record {
    happening = Says_no d (Unicast (led_to d.net way)) invoke (Rejected (reject_number reason));
    honest = λ w m e. tt;
    is = λ w. refl;
  }
  free_said s d now device (said.Abort way invoke reason) h = record {
    happening = Says_no d (Unicast (led_to d.net way)) invoke (Aborted (abort_number reason));
    honest = λ w m e. tt;
    is = λ w. refl;
  }

  -- a device that has the record of an answer that lives
  pub record CanTell (d : Station) (now : ℕ) (device : Device Station (PlainTable A)) (r : Record A) : Type 0 where
    pub there : Has device.records (safe_record r)
    pub living : now ≤ r.at + KEEP_MS
    pub chunk : 1 ≤ r.chunk
    pub way : led_to d.net r.way ≡ r.asker.station

  -- such a device may tell a part of the answer
  part_told : (s : Site Station (PlainTable A)) (d : Station) (now : ℕ) (device : Device Station (PlainTable A)) (r : Record A) (x : ServerSaid A)
      (part : Part) → CanTell d now device r → said_way x ≡ r.way → telling part (safe_answer r.answer) (safe_record r) ≡ said_body x ∷ [] →
      IsHonestlySaid s d now device x
  part_told s d now device r x part t way body = record {
    happening = Device_tells d (safe_record r) part;
    honest = λ w m e. record {
      there = subst (λ (z : Device Station (PlainTable A)). Has z.records (safe_record r)) (sym e) t.there;
      living = omega (arith, m, t.living);
    };
    is = λ w.
        ap (λ (ys : List Body). says d (Unicast r.asker.station) ys w) body
        ∙ ap (λ (z : Station). says d (Unicast z) (said_body x ∷ []) w) (sym (ap (led_to d.net) way ∙ t.way));
  }

  -- the answer whole
  whole_told : (s : Site Station (PlainTable A)) (d : Station) (now : ℕ) (device : Device Station (PlainTable A)) (r : Record A)
      (answer : RememberedAnswer A) → CanTell d now device r → r.answer ≡ answer →
      IsHonestlySaid s d now device (said.Answer r.way r.asker.invoke_id r.service answer)
  whole_told s d now device r kept.Simple t e =
      part_told s d now device r (said.Answer r.way r.asker.invoke_id r.service kept.Simple) Whole t refl
      (ap (λ (z : RememberedAnswer A). telling Whole (safe_answer z) (safe_record r)) e)
  whole_told s d now device r (kept.Complex octets) t e =
      part_told s d now device r (said.Answer r.way r.asker.invoke_id r.service (kept.Complex octets)) Whole t refl
      (ap (λ (z : RememberedAnswer A). telling Whole (safe_answer z) (safe_record r)) e)
  whole_told s d now device r (kept.Error contents) t e =
      part_told s d now device r (said.Answer r.way r.asker.invoke_id r.service (kept.Error contents)) Whole t refl
      (ap (λ (z : RememberedAnswer A). telling Whole (safe_answer z) (safe_record r)) e)
  whole_told s d now device r (kept.Abort reason) t e = record {
    happening = Says_no d (Unicast (led_to d.net r.way)) r.asker.invoke_id (Aborted (abort_number reason));
    honest = λ w m v. tt;
    is = λ w. refl;
  }

  -- a piece of it
  piece_told : (s : Site Station (PlainTable A)) (d : Station) (now : ℕ) (device : Device Station (PlainTable A)) (r : Record A) (octets : List ℕ)
      (p : PlainPiece) → CanTell d now device r → r.answer ≡ kept.Complex octets → AreNumbered r.chunk octets → IsPiece r.chunk octets p →
      IsHonestlySaid s d now device (answer_segment r p)
  piece_told s d now device r octets p t e few is =
      let part = piece_is r.chunk octets p t.chunk few is in
      part_told s d now device r (answer_segment r p) (Piece part.n) t refl
      (ap (λ (z : RememberedAnswer A). telling (Piece part.n) (safe_answer z) (safe_record r)) e
      ∙ ap (λ (y : Body). y ∷ []) (piece_body r.asker.invoke_id r.chunk octets p part))

  pieces_told : (s : Site Station (PlainTable A)) (d : Station) (now : ℕ) (device : Device Station (PlainTable A)) (r : Record A) (octets : List ℕ)
      (ps : List PlainPiece) → CanTell d now device r → r.answer ≡ kept.Complex octets → AreNumbered r.chunk octets →
      AllByRecursion (IsPiece r.chunk octets) ps → AllByRecursion (IsHonestlySaid s d now device) (map (answer_segment r) ps)
  pieces_told s d now device r octets [] t e few all = tt
  pieces_told s d now device r octets (p ∷ ps) t e few all =
      (piece_told s d now device r octets p t e few all.0, pieces_told s d now device r octets ps t e few all.1)

  window_told : (s : Site Station (PlainTable A)) (d : Station) (now : ℕ) (device : Device Station (PlainTable A)) (r : Record A) (octets : List ℕ)
      (c : SenderState) → CanTell d now device r → r.answer ≡ kept.Complex octets → c.chunk ≡ r.chunk → AreNumbered r.chunk octets →
      AllByRecursion (IsHonestlySaid s d now device) (map (answer_segment r) (window_of (data_of r.answer) c))
  window_told s d now device r octets c t e same few =
      subst (λ (os : List ℕ). AllByRecursion (IsHonestlySaid s d now device) (map (answer_segment r) (window_of os c))) (sym (ap (data_of) e))
      (pieces_told s d now device r octets (window_of octets c) t e few
      (subst (λ k. AllByRecursion (IsPiece k octets) (window_of octets c)) same (window_is_pieces octets c)))

  -- the answer whole, or a window of its segments
  answer_told_by : (s : Site Station (PlainTable A)) (d : Station) (now : ℕ) (device : Device Station (PlainTable A)) (sending : Option SenderState)
      (r : Record A) (answer : RememberedAnswer A) → CanTell d now device r → r.answer ≡ answer → IsSentIn r.chunk answer sending →
      AllByRecursion (IsHonestlySaid s d now device) (answered_by sending r)
  answer_told_by s d now device None r answer t e h = (whole_told s d now device r r.answer t refl, tt)
  answer_told_by s d now device (Some c) r (kept.Complex octets) t e h = window_told s d now device r octets c t e h.0 h.1
  answer_told_by s d now device (Some c) r kept.Simple t e h = absurd h
  answer_told_by s d now device (Some c) r (kept.Error contents) t e h = absurd h
  answer_told_by s d now device (Some c) r (kept.Abort reason) t e h = absurd h

  pub answer_told : (s : Site Station (PlainTable A)) (d : Station) (now : ℕ) (device : Device Station (PlainTable A)) (sending : Option SenderState)
      (r : Record A) → CanTell d now device r → IsSentIn r.chunk r.answer sending → AllByRecursion (IsHonestlySaid s d now device) (answered_by sending r)
  answer_told s d now device sending r t h = answer_told_by s d now device sending r r.answer t refl h
