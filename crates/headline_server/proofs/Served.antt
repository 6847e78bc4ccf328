-- Each arm of a server's step is a list of honest happenings.
use Rattle.std.proofs.Common.{◌≡◌, ◌∙◌, inl, inr, refl, sym, ap, subst, ℕ, suc, ◌+◌, ◌≤◌, ◌<◌, Bool, true, false, List, [], ◌∷◌, ◌++◌, length, Some, None}
use Rattle.std.proofs.Common.{arith}
use Rattle.std.specs.Prelude.{Option, nat_lt, ◌==◌, cond}
use Rattle.std.specs.List.{AllByRecursion, find}
use Rattle.std.proofs.lemmas.Bool.{ltb-false, ltb-true, or_parts}
use Rattle.apdu.specs.declared.apdu.Segment.{Segment}
use Rattle.apdu.specs.declared.numbers.AbortReason.TheVariants.{BufferOverflow, OutOfResources}
use Rattle.headline.specs.Honest.{HeardPiece, IsAsked, IsBefore, IsGathered, IsHeard, IsRenewed, got_of, pieces_of}
use Rattle.headline.specs.Honest.{head_of as first_head}
use Rattle.headline.specs.Protocol.{Site}
use Rattle.headline.specs.Stations as seen
use Rattle.history.specs.Book.{Asks, Asks_piece, Head, Message}
use Rattle.history.specs.Lists.{Has}
use Rattle.profile.specs.Limits.{MAX_SERVICE_DATA_OCTETS}
use Rattle.profile.specs.Times.{GATHERING_TIMEOUT_MS}
use Rattle.history.proofs.Lists.{has, has_next}
use Rattle.npdu.specs.declared.mac.Station.{Station}
use Rattle.npdu.specs.declared.mac.Way.{Way}
use Rattle.headline_bacnet.specs.Bodies.{head_of, led_to}
use Rattle.object_model.specs.Objects.{PlainTable}
use Rattle.server_tsm.proofs.remembered.Keeping.{one_asker}
use Rattle.server_tsm.specs.remembered.Records.{remembered, said_on, some_if}
use Rattle.server_tsm.specs.remembered.declared.record.Asker.{Asker}
use Rattle.server_tsm.specs.remembered.declared.record.Record.{Record}
use Rattle.segments.specs.Sender.{SenderState, hears}
use Rattle.segments.specs.Receiver.{ReceiverState, granted_window, joining_after, joins, nothing_joined}
use Rattle.segments.specs.declared.step.Step.{Step}
use Rattle.segments.specs.declared.step.Step.TheVariants.{Taken, Nak, Dropped, Full}
use Rattle.segments.specs.declared.step.Turn.{Turn}
use Rattle.segments.specs.declared.step.Turn.TheVariants as turn
use Rattle.headline_server.proofs.Going.{IsQuiet, gathers_on, gives_up_on, says_on, stays_on}
use Rattle.headline_server.proofs.Receiving.{IsInOrder, begins_in_order, joins_so, taken_next}
use Rattle.headline_server.proofs.Keeping.{FitsSaying, one_each}
use Rattle.history.proofs.HasLaws.{all_has, has_map}
use Rattle.headline_server.proofs.Listed.{all_both, all_so}
use Rattle.headline_server.proofs.Records.{IsRemembered, remembered_is, safe_said}
use Rattle.headline_server.proofs.Saying.{CanTell, IsHonestlySaid, IsNoAnswer, answer_told, free_said}
use Rattle.headline_bacnet.proofs.Sending.{hears_cut}
use Rattle.headline_server.proofs.Sending.{begun_sent, sent_on}
use Rattle.headline_server.specs.Keeping.{IsSayable, IsSentIn}
use Rattle.headline_server.specs.Laws.{IsServed}
use Rattle.headline_bacnet.specs.Refined.{ObjectCore}
use Rattle.headline_server.specs.Safe.{safe_gathering, safe_device, safe_record}
use Rattle.headline_bacnet.specs.server_answers.Plan.{quiet, Stays, Says, GivesUp}
use Rattle.server_tsm.specs.Hearing.{Message as Input, Reached, Whole, ack_heard, ack_if, request_ack, ack_taken, acknowledges, asked_by, asked_on, asks}
use Rattle.server_tsm.specs.Hearing.{begins_if, completed, completed_if, completes, gathered, given_up, gives_up, is_crowded, is_deaf, is_sending}
use Rattle.server_tsm.specs.Hearing.{joined, joined_by, nothing, of_service, part_heard, part_joined, plans, reached_by, repeated_if, request_heard}
use Rattle.server_tsm.specs.Hearing.{answer_plan, taken_if, turned_by, unless, whole_heard}
use Rattle.headline_bacnet.specs.server_answers.Limits.{begun}
use Rattle.headline_bacnet.specs.server_answers.Gathering.{gathered_with, gathering_of, gathers_still, is_for, receiver_of, still}
use Rattle.server_tsm.specs.Server.{ServerTsmState, committed}
use Rattle.server_tsm.specs.Waking.{saying_by}
use Rattle.headline_bacnet.specs.server_answers.declared.asked.AnswerLimits.{AnswerLimits}
use Rattle.headline_bacnet.specs.server_answers.declared.asked.Asked.{Asked}
use Rattle.headline_bacnet.specs.server_answers.declared.asked.Origin.{Origin}
use Rattle.headline_bacnet.specs.server_answers.declared.gathering.RequestGathering.{RequestGathering}
use Rattle.headline_bacnet.specs.server_answers.declared.plan.Saying.{Saying}
use Rattle.headline_bacnet.specs.server_answers.declared.said.ServerSaid.{ServerSaid}
use Rattle.headline_bacnet.specs.server_answers.declared.said.ServerSaid.TheVariants as said

-- the first that passes a test stands there and passes it
find_by : {X : Type 0} (p : X → Bool) (y : X) (ys : List X) (x : X) → (find p ys ≡ Some x → Has ys x × (p x ≡ true)) → (b : Bool) → p y ≡ b →
    cond b (Some y) (find p ys) ≡ Some x → Has (y ∷ ys) x × (p x ≡ true)
find_by p y ys x ih true t e = let same : y ≡ x = cc in (has 0 e, subst (λ z. p z ≡ true) same t)
find_by p y ys x ih false t e = let found = ih e in (has_next y ys found.0, found.1)

find_is : {X : Type 0} (p : X → Bool) (xs : List X) (x : X) → find p xs ≡ Some x → Has xs x × (p x ≡ true)
find_is p [] x e = absurd (cc)
find_is p (y ∷ ys) x e = find_by p y ys x (find_is p ys x) (p y) refl e

abbrev gathering : Station → ℕ → Head → ℕ → List ℕ → ℕ → seen.Gathering Station
gathering client id head pieces got last = record { client = client; invoke_id = id; head = head; pieces = pieces; got = got; last = last }

same_gathering : (c e : Station) (i k : ℕ) (g h : Head) (p q : ℕ) (x y : List ℕ) (last : ℕ) → c ≡ e → i ≡ k → g ≡ h → p ≡ q → x ≡ y →
    gathering c i g p x last ≡ gathering e k h q y last
same_gathering c e i k g h p q x y last a b f l m = cc

module _ {A : Type 0} where
  -- what is still gathered for an asker
  record IsGatheringOf (now : ℕ) (asker : Asker) (xs : List (RequestGathering A)) (a : RequestGathering A) : Type 0 where
    there : Has xs a
    is_for : a.asked.asker ≡ asker
    young : now < a.at + GATHERING_TIMEOUT_MS

  still_by : (now : ℕ) (x a : RequestGathering A) (b : Bool) → gathers_still now x ≡ b → some_if b x ≡ Some a → (Some x ≡ Some a) × (gathers_still now a ≡ true)
  still_by now x a true t e = let same : x ≡ a = cc in (e, subst (λ z. gathers_still now z ≡ true) same t)
  still_by now x a false t e = absurd (cc)

  still_is : (now : ℕ) (o : Option (RequestGathering A)) (a : RequestGathering A) → still now o ≡ Some a → (o ≡ Some a) × (gathers_still now a ≡ true)
  still_is now None a e = absurd (cc)
  still_is now (Some x) a e = still_by now x a (gathers_still now x) refl e

  gathering_is : (now : ℕ) (asker : Asker) (xs : List (RequestGathering A)) (a : RequestGathering A) → gathering_of now asker xs ≡ Some a →
      IsGatheringOf now asker xs a
  gathering_is now asker xs a e =
      let one = still_is now (find (is_for asker) xs) a e in
      let found = find_is (is_for asker) xs a one.0 in
      let young = ltb-true now (a.at + GATHERING_TIMEOUT_MS) one.1 in
      record { there = found.0; is_for = one_asker a.asked.asker asker found.1; young = omega (arith, young) }

module _ {A : Type 0} (s : Site Station (PlainTable A)) (w : ObjectCore A) (d : Station) (st : ServerTsmState A) (v : IsServed w d st) where
  -- nothing is said, and nothing changes
  nothing_quiet : IsQuiet s w d st (quiet Stays)
  nothing_quiet = record { executed = refl; on = stays_on w.book d st; fits = tt; says = tt }

  -- what is no answer may be said
  free_all : (device : seen.Device Station (PlainTable A)) (xs : List (ServerSaid A)) → AllByRecursion IsNoAnswer xs →
      AllByRecursion (IsHonestlySaid s d w.book.moment device) xs
  free_all device xs h = all_so IsNoAnswer (IsHonestlySaid s d w.book.moment device) xs (free_said s d w.book.moment device) h

  free_gives_up : (xs : List (ServerSaid A)) (asker : Asker) → AllByRecursion IsNoAnswer xs →
      IsQuiet s w d st (record { said = xs; executed = None; change = GivesUp asker })
  free_gives_up xs asker h = record { executed = refl; on = gives_up_on w.book d st asker; fits = tt; says = free_all _ xs h }

  free_stays : (xs : List (ServerSaid A)) → AllByRecursion IsNoAnswer xs → IsQuiet s w d st (record { said = xs; executed = None; change = Stays })
  free_stays xs h = record { executed = refl; on = stays_on w.book d st; fits = tt; says = free_all _ xs h }

  -- a remembered answer is said so
  tells_on : (x : Saying) (way : Way) (sending : Option SenderState) (asker : Asker) (r : Record A) → IsRemembered w.book.moment asker st.records r →
      IsSayable d.net r → led_to d.net way ≡ asker.station → CanTell d w.book.moment (safe_device (committed w.book.moment (Says x) st)) (said_on way sending r)
  tells_on x way sending asker r m k e = record {
    there = subst (λ (l : List (seen.Record Station)). Has l (safe_record r)) (sym (safe_said x.asker x.way x.sending st.records))
        (has_map safe_record st.records r m.there);
    living = m.living;
    chunk = k.chunk;
    way = e ∙ sym (ap (λ (a : Asker). a.station) m.asker);
  }

  -- an answer that is said so stays kept well
  fits_said : (way : Way) (sending : Option SenderState) (asker : Asker) (r : Record A) → IsRemembered w.book.moment asker st.records r → IsSayable d.net r →
      led_to d.net way ≡ asker.station → IsSentIn r.chunk r.answer sending → FitsSaying d.net st.records (saying_by sending (said_on way sending r))
  fits_said way sending asker r m k e h = λ x there same.
      subst (λ (z : Record A). IsSayable d.net (said_on way sending z)) (one_each st.records r x v.well.kept.distinct m.there there (sym same))
      (record { chunk = k.chunk; way = e ∙ sym (ap (λ (a : Asker). a.station) m.asker); cut = k.cut; sent = h })

  said_quiet : (way : Way) (sending : Option SenderState) (asker : Asker) (r : Record A) → IsRemembered w.book.moment asker st.records r → IsSayable d.net r →
      led_to d.net way ≡ asker.station → IsSentIn r.chunk r.answer sending → IsQuiet s w d st (answer_plan sending way r)
  said_quiet way sending asker r m k e h =
      let x = saying_by sending (said_on way sending r) in
      record {
        executed = refl;
        on = says_on w.book d st x;
        fits = fits_said way sending asker r m k e h;
        says = answer_told s d w.book.moment (safe_device (committed w.book.moment (Says x) st)) sending (said_on way sending r)
            (tells_on x way sending asker r m k e) h;
      }

  ends_quiet : (way : Way) (asker : Asker) (r : Record A) → IsRemembered w.book.moment asker st.records r → IsSayable d.net r →
      led_to d.net way ≡ asker.station → IsQuiet s w d st (quiet (Says (saying_by None (said_on way None r))))
  ends_quiet way asker r m k e = record {
    executed = refl;
    on = says_on w.book d st (saying_by None (said_on way None r));
    fits = fits_said way None asker r m k e tt;
    says = tt;
  }

  -- a repeated request
  repeated_quiet : (b : Bool) (way : Way) (asker : Asker) (r : Record A) → IsRemembered w.book.moment asker st.records r → IsSayable d.net r →
      led_to d.net way ≡ asker.station → IsQuiet s w d st (repeated_if b w.book.moment way r)
  repeated_quiet true way asker r m k e = nothing_quiet
  repeated_quiet false way asker r m k e = said_quiet way (begun w.book.moment r.chunk r.answer) asker r m k e
      (begun_sent w.book.moment r.chunk r.answer k.chunk k.cut)

  -- a SegmentACK
  turned_quiet : (t : Turn) (c : SenderState) (way : Way) (asker : Asker) (r : Record A) → IsRemembered w.book.moment asker st.records r → IsSayable d.net r →
      led_to d.net way ≡ asker.station → IsSentIn r.chunk r.answer (Some c) → IsQuiet s w d st (turned_by t c way r)
  turned_quiet turn.Waits c way asker r m k e h = nothing_quiet
  turned_quiet turn.Sends c way asker r m k e h = said_quiet way (Some c) asker r m k e h
  turned_quiet turn.Ends c way asker r m k e h = ends_quiet way asker r m k e

  ack_quiet : (sending : Option SenderState) (number window : ℕ) (negative : Bool) (way : Way) (asker : Asker) (r : Record A) →
      IsRemembered w.book.moment asker st.records r → IsSayable d.net r → led_to d.net way ≡ asker.station → IsSentIn r.chunk r.answer sending →
      IsQuiet s w d st (ack_taken sending w.book.moment number window negative way r)
  ack_quiet None number window negative way asker r m k e h = nothing_quiet
  ack_quiet (Some c) number window negative way asker r m k e h =
      let t = hears w.book.moment number window negative c in
      turned_quiet t.turn t.state way asker r m k e (sent_on r.chunk r.answer c t.state (hears_cut w.book.moment number window negative c) h)

  -- what is remembered can be said
  sayable : (asker : Asker) (r : Record A) → IsRemembered w.book.moment asker st.records r → IsSayable d.net r
  sayable asker r m = all_has (IsSayable d.net) st.records r v.well.sayable m.there

  acks_quiet : (o : Option (Record A)) (number window : ℕ) (negative : Bool) (way : Way) (asker : Asker) → remembered w.book.moment asker st.records ≡ o →
      led_to d.net way ≡ asker.station → IsQuiet s w d st (ack_heard o w.book.moment number window negative way)
  acks_quiet None number window negative way asker is e = nothing_quiet
  acks_quiet (Some r) number window negative way asker is e =
      let m = remembered_is w.book.moment asker st.records r is in
      let k = sayable asker r m in
      ack_quiet r.sending number window negative way asker r m k e k.sent

  -- an Abort
  given_up_quiet : (o : Option (Record A)) (asker : Asker) → remembered w.book.moment asker st.records ≡ o → IsQuiet s w d st (given_up o asker)
  given_up_quiet None asker is = free_gives_up [] asker tt
  given_up_quiet (Some r) asker is =
      let m = remembered_is w.book.moment asker st.records r is in
      let k = sayable asker r m in
      ends_quiet r.way asker r m k (k.way ∙ ap (λ (a : Asker). a.station) m.asker)

  -- a request that came whole, where no answer is remembered and the device listens
  pub record IsComplete (x : Whole A) : Type 0 where
    pub listens : st.quiet_until ≤ w.book.moment
    pub none : remembered w.book.moment x.asked.asker st.records ≡ None
    pub free : AllByRecursion IsNoAnswer x.says
    pub way : led_to d.net x.asked.way ≡ x.asked.asker.station
    pub came : IsAsked w.book d (safe_device st) x.asked.asker.station x.asked.asker.invoke_id (head_of st.max_apdu x.asked.limits x.asked.service) x.octets

  -- what an input comes to before any service data are read
  abbrev pub IsReachedWell : Reached A → Type 0
  IsReachedWell (plans plan) = IsQuiet s w d st plan
  IsReachedWell (completes x) = IsComplete x

  abort_free : (xs : List (ServerSaid A)) (x : ServerSaid A) → AllByRecursion IsNoAnswer xs → IsNoAnswer x → AllByRecursion IsNoAnswer (xs ++ x ∷ [])
  abort_free xs x h e = all_both IsNoAnswer xs (x ∷ []) h (e, tt)

  completed_by : (b : Bool) (x : Whole A) → IsComplete x → IsReachedWell (completed_if b x)
  completed_by true x h = free_gives_up (x.says ++ said.Abort x.asked.way x.asked.asker.invoke_id BufferOverflow ∷ []) x.asked.asker
      (abort_free x.says _ h.free tt)
  completed_by false x h = h

  completed_well : (x : Whole A) → IsComplete x → IsReachedWell (completed x)
  completed_well x h = completed_by (nat_lt MAX_SERVICE_DATA_OCTETS (length x.octets)) x h

  -- a request in one APDU
  record WholeCame (asked : Asked) (octets : List ℕ) : Type 0 where
    listens : st.quiet_until ≤ w.book.moment
    way : led_to d.net asked.way ≡ asked.asker.station
    came : IsAsked w.book d (safe_device st) asked.asker.station asked.asker.invoke_id (head_of st.max_apdu asked.limits asked.service) octets

  whole_well : (o : Option (Record A)) (asked : Asked) (octets : List ℕ) → remembered w.book.moment asked.asker st.records ≡ o → WholeCame asked octets →
      IsReachedWell (whole_heard o w.book.moment asked octets)
  whole_well (Some r) asked octets is h =
      let m = remembered_is w.book.moment asked.asker st.records r is in
      repeated_quiet (is_sending w.book.moment r.sending) asked.way asked.asker r m (sayable asked.asker r m) h.way
  whole_well None asked octets is h = completed_well (record { asked = asked; octets = octets; says = [] })
      (record { listens = h.listens; none = is; free = tt; way = h.way; came = h.came })

  -- a segment of a request, where no answer is remembered and the device listens
  record SegmentCame (m : Message Station) (id : ℕ) (head : Head) (sg : Segment) (octets : List ℕ) : Type 0 where
    listens : st.quiet_until ≤ w.book.moment
    heard : IsHeard w.book d m
    body : m.body ≡ Asks_piece id head sg.sequence_number sg.more_follows octets

  -- what came before it: who asks so, and what it joins
  record Precedes (m : Message Station) (id : ℕ) (head : Head) (sg : Segment) (octets : List ℕ) (before : Option (seen.Gathering Station)) (asked : Asked)
      (j : ReceiverState) : Type 0 where
    is_before : IsBefore w.book.moment (safe_device st) m.from id before
    pieces : pieces_of before ≡ j.next
    got : got_of before ≡ j.octets
    head_is : first_head head before ≡ head_of st.max_apdu asked.limits asked.service
    client : asked.asker.station ≡ m.from
    key : asked.asker.invoke_id ≡ id
    way : led_to d.net asked.way ≡ asked.asker.station
    none : remembered w.book.moment asked.asker st.records ≡ None
    begins : before ≡ None → IsInOrder (joins w.book.moment sg.sequence_number sg.more_follows octets j).step
    receives : receiver_of (gathering_of w.book.moment asked.asker st.gatherings) sg ≡ j

  abbrev heard_piece : (m : Message Station) (id : ℕ) (head : Head) (sg : Segment) (octets : List ℕ) (before : Option (seen.Gathering Station))
      (asked : Asked) (j : ReceiverState) → SegmentCame m id head sg octets → Precedes m id head sg octets before asked j → HeardPiece w.book d (safe_device st)
  heard_piece m id head sg octets before asked j c p = record {
    message = m;
    id = id;
    head = head;
    n = sg.sequence_number;
    more = sg.more_follows;
    octets = octets;
    before = before;
    heard = c.heard;
    body = c.body;
    is_before = p.is_before;
  }

  gathered_quiet : (says : List (ServerSaid A)) (asked : Asked) (sg : Segment) (octets : List ℕ) (j k : ReceiverState) →
      receiver_of (gathering_of w.book.moment asked.asker st.gatherings) sg ≡ j →
      (joins w.book.moment sg.sequence_number sg.more_follows octets j).state ≡ k → AllByRecursion IsNoAnswer says →
      IsGathered w.book d (safe_device st) (safe_gathering {A = A} st.max_apdu (record { asked = asked; receiver = k; at = w.book.moment })) →
      IsQuiet s w d st (gathered says asked sg octets)
  gathered_quiet says asked sg octets j k receives left h g = record {
    executed = refl;
    on = gathers_on w.book d st asked sg octets
        (subst (λ (z : ReceiverState). IsGathered w.book d (safe_device st)
        (safe_gathering {A = A} st.max_apdu (gathered_with w.book.moment asked sg octets z)))
        (sym receives)
        (subst (λ (z : ReceiverState). IsGathered w.book d (safe_device st)
        (safe_gathering {A = A} st.max_apdu (record { asked = asked; receiver = z; at = w.book.moment }))) (sym left) g));
    fits = tt;
    says = free_all _ says h;
  }

  -- it is the next one
  record IsNext (sg : Segment) (octets : List ℕ) (j k : ReceiverState) : Type 0 where
    number : sg.sequence_number ≡ j.next
    next : k.next ≡ suc j.next
    joined : k.octets ≡ j.octets ++ octets

  taken_well : (m : Message Station) (id : ℕ) (head : Head) (sg : Segment) (octets : List ℕ) (before : Option (seen.Gathering Station)) (asked : Asked)
      (j k : ReceiverState) (says : List (ServerSaid A)) → SegmentCame m id head sg octets → Precedes m id head sg octets before asked j →
      (joins w.book.moment sg.sequence_number sg.more_follows octets j).state ≡ k → IsNext sg octets j k → AllByRecursion IsNoAnswer says → (more : Bool) →
      sg.more_follows ≡ more → IsReachedWell (taken_if more says asked sg octets k.octets)
  taken_well m id head sg octets before asked j k says c p left x h true e =
      gathered_quiet says asked sg octets j k p.receives left h (record {
        piece = heard_piece m id head sg octets before asked j c p;
        how = inl (
          x.number ∙ sym p.pieces,
          same_gathering asked.asker.station m.from asked.asker.invoke_id id _ (first_head head before) k.next (suc sg.sequence_number) k.octets
              (got_of before ++ octets) w.book.moment
              p.client p.key (sym p.head_is) (x.next ∙ ap suc (sym x.number)) (x.joined ∙ ap (λ (l : List ℕ). l ++ octets) (sym p.got)),
        );
      })
  taken_well m id head sg octets before asked j k says c p left x h false e =
      completed_well (record { asked = asked; octets = k.octets; says = says }) (record {
        listens = c.listens;
        none = p.none;
        free = h;
        way = p.way;
        came = inr (record {
          piece = heard_piece m id head sg octets before asked j c p;
          from = sym p.client;
          key = sym p.key;
          next = x.number ∙ sym p.pieces;
          last = e;
          head_is = sym p.head_is;
          whole = x.joined ∙ ap (λ (l : List ℕ). l ++ octets) (sym p.got);
        });
      })

  -- it isn't: what came so far is renewed
  renewed_by : (m : Message Station) (id : ℕ) (head : Head) (sg : Segment) (octets : List ℕ) (before : Option (seen.Gathering Station)) (asked : Asked)
      (j k : ReceiverState) → Precedes m id head sg octets before asked j → (before ≡ None → ⊥) → k.next ≡ j.next → k.octets ≡ j.octets →
      IsRenewed w.book.moment before (safe_gathering {A = A} st.max_apdu (record { asked = asked; receiver = k; at = w.book.moment }))
  renewed_by m id head sg octets None asked j k p not n o = not refl
  renewed_by m id head sg octets (Some x) asked j k p not n o =
      same_gathering asked.asker.station x.client asked.asker.invoke_id x.invoke_id _ x.head k.next x.pieces k.octets x.got w.book.moment
      (p.client ∙ sym p.is_before.client) (p.key ∙ sym p.is_before.key) (sym p.head_is) (n ∙ sym p.pieces) (o ∙ sym p.got)

  renewed_quiet : (m : Message Station) (id : ℕ) (head : Head) (sg : Segment) (octets : List ℕ) (before : Option (seen.Gathering Station)) (asked : Asked)
      (j k : ReceiverState) (says : List (ServerSaid A)) → SegmentCame m id head sg octets → Precedes m id head sg octets before asked j →
      (joins w.book.moment sg.sequence_number sg.more_follows octets j).state ≡ k → (before ≡ None → ⊥) → k.next ≡ j.next → k.octets ≡ j.octets →
      AllByRecursion IsNoAnswer says → IsQuiet s w d st (gathered says asked sg octets)
  renewed_quiet m id head sg octets before asked j k says c p left not n o h = gathered_quiet says asked sg octets j k p.receives left h (record {
    piece = heard_piece m id head sg octets before asked j c p;
    how = inr (renewed_by m id head sg octets before asked j k p not n o);
  })

  acks_free : (ack : Option ℕ) (window : ℕ) (asked : Asked) → AllByRecursion IsNoAnswer (ack_if {A = A} ack window asked)
  acks_free None window asked = tt
  acks_free (Some number) window asked = (tt, tt)

  -- by what the receiver does with it
  stepped_well : (m : Message Station) (id : ℕ) (head : Head) (sg : Segment) (octets : List ℕ) (before : Option (seen.Gathering Station)) (asked : Asked)
      (j : ReceiverState) → SegmentCame m id head sg octets → Precedes m id head sg octets before asked j → (stp : Step) →
      (joins w.book.moment sg.sequence_number sg.more_follows octets j).step ≡ stp → (k : ReceiverState) →
      (joins w.book.moment sg.sequence_number sg.more_follows octets j).state ≡ k → k ≡ joining_after stp w.book.moment sg.more_follows octets j →
      IsReachedWell (joined_by stp asked sg octets k)
  stepped_well m id head sg octets before asked j c p (Taken ack) e k left is =
      taken_well m id head sg octets before asked j k (ack_if ack k.window asked) c p left (record {
        number = taken_next w.book.moment sg.sequence_number sg.more_follows octets j ack e;
        next = ap (λ (z : ReceiverState). z.next) is;
        joined = ap (λ (z : ReceiverState). z.octets) is;
      }) (acks_free ack k.window asked) sg.more_follows refl
  stepped_well m id head sg octets before asked j c p (Nak number) e k left is =
      renewed_quiet m id head sg octets before asked j k (request_ack true number k.window asked ∷ []) c p left
      (λ n. subst (λ (z : Step). IsInOrder z) e (p.begins n)) (ap (λ (z : ReceiverState). z.next) is) (ap (λ (z : ReceiverState). z.octets) is) (tt, tt)
  stepped_well m id head sg octets before asked j c p Dropped e k left is =
      renewed_quiet m id head sg octets before asked j k [] c p left
      (λ n. subst (λ (z : Step). IsInOrder z) e (p.begins n)) (ap (λ (z : ReceiverState). z.next) is) (ap (λ (z : ReceiverState). z.octets) is) tt
  stepped_well m id head sg octets before asked j c p Full e k left is =
      free_gives_up (said.Abort asked.way asked.asker.invoke_id BufferOverflow ∷ []) asked.asker (tt, tt)

  joined_well : (m : Message Station) (id : ℕ) (head : Head) (sg : Segment) (octets : List ℕ) (before : Option (seen.Gathering Station)) (asked : Asked)
      (j : ReceiverState) → SegmentCame m id head sg octets → Precedes m id head sg octets before asked j →
      IsReachedWell (joined w.book.moment asked j sg octets)
  joined_well m id head sg octets before asked j c p =
      let x = joins w.book.moment sg.sequence_number sg.more_follows octets j in
      stepped_well m id head sg octets before asked j c p x.step refl x.state refl
      (joins_so w.book.moment sg.sequence_number sg.more_follows octets j x.step refl)

  -- the first one begins
  begins_well : (m : Message Station) (id : ℕ) (sg : Segment) (asked : Asked) (octets : List ℕ) →
      SegmentCame m id (head_of st.max_apdu asked.limits asked.service) sg octets → asked.asker.station ≡ m.from → asked.asker.invoke_id ≡ id →
      led_to d.net asked.way ≡ asked.asker.station → remembered w.book.moment asked.asker st.records ≡ None →
      gathering_of w.book.moment asked.asker st.gatherings ≡ None → (first crowded : Bool) →
      (sg.sequence_number == 0) ≡ first → IsReachedWell (begins_if first crowded w.book.moment asked sg octets)
  begins_well m id sg asked octets c client key way none is false crowded e = nothing_quiet
  begins_well m id sg asked octets c client key way none is true true e = free_stays (said.Abort asked.way asked.asker.invoke_id OutOfResources ∷ []) (tt, tt)
  begins_well m id sg asked octets c client key way none is true false e =
      joined_well m id (head_of st.max_apdu asked.limits asked.service) sg octets None asked (nothing_joined (granted_window sg.window)) c (record {
        is_before = tt;
        pieces = refl;
        got = refl;
        head_is = refl;
        client = client;
        key = key;
        way = way;
        none = none;
        begins = λ n. begins_in_order w.book.moment sg.sequence_number (granted_window sg.window) sg.more_follows octets e;
        receives = ap (λ (o : Option (RequestGathering A)). receiver_of o sg) is;
      })

  -- the others join
  service_well : (b : Bool) (r : Reached A) → IsReachedWell r → IsReachedWell (of_service b r)
  service_well true r h = h
  service_well false r h = nothing_quiet

  part_well : (m : Message Station) (id : ℕ) (sg : Segment) (asked : Asked) (octets : List ℕ) →
      SegmentCame m id (head_of st.max_apdu asked.limits asked.service) sg octets → asked.asker.station ≡ m.from → asked.asker.invoke_id ≡ id →
      led_to d.net asked.way ≡ asked.asker.station → remembered w.book.moment asked.asker st.records ≡ None → (o : Option (RequestGathering A)) →
      gathering_of w.book.moment asked.asker st.gatherings ≡ o → IsReachedWell (part_joined o w.book.moment asked sg octets st.gatherings)
  part_well m id sg asked octets c client key way none None is =
      begins_well m id sg asked octets c client key way none is (sg.sequence_number == 0) (is_crowded w.book.moment st.gatherings) refl
  part_well m id sg asked octets c client key way none (Some a) is =
      let found = gathering_is w.book.moment asked.asker st.gatherings a is in
      let from : a.asked.asker.station ≡ asked.asker.station = ap (λ (z : Asker). z.station) found.is_for in
      let by : a.asked.asker.invoke_id ≡ asked.asker.invoke_id = ap (λ (z : Asker). z.invoke_id) found.is_for in
      service_well (asked.service == a.asked.service) (joined w.book.moment (asked_on asked.way a) a.receiver sg octets)
      (joined_well m id (head_of st.max_apdu asked.limits asked.service) sg octets (Some (safe_gathering st.max_apdu a)) (asked_on asked.way a) a.receiver c
      (record {
        is_before = record {
          there = has_map (safe_gathering st.max_apdu) st.gatherings a found.there;
          client = from ∙ client;
          key = by ∙ key;
          young = found.young;
        };
        pieces = refl;
        got = refl;
        head_is = refl;
        client = from ∙ client;
        key = by ∙ key;
        way = way ∙ sym from;
        none = subst (λ (z : Asker). remembered w.book.moment z st.records ≡ None) (sym found.is_for) none;
        begins = λ n. absurd (cc n);
        receives = ap (λ (o : Option (RequestGathering A)). receiver_of o sg)
            (subst (λ (z : Asker). gathering_of w.book.moment z st.gatherings ≡ Some a) (sym found.is_for) is);
      }))

  segment_well : (m : Message Station) (id : ℕ) (sg : Segment) (asked : Asked) (octets : List ℕ) →
      SegmentCame m id (head_of st.max_apdu asked.limits asked.service) sg octets → asked.asker.station ≡ m.from → asked.asker.invoke_id ≡ id →
      led_to d.net asked.way ≡ asked.asker.station → (o : Option (Record A)) → remembered w.book.moment asked.asker st.records ≡ o →
      IsReachedWell (part_heard o w.book.moment asked sg octets st.gatherings)
  segment_well m id sg asked octets c client key way (Some r) is =
      let q = remembered_is w.book.moment asked.asker st.records r is in
      repeated_quiet (is_sending w.book.moment r.sending) asked.way asked.asker r q (sayable asked.asker r q) way
  segment_well m id sg asked octets c client key way None is =
      part_well m id sg asked octets c client key way is (gathering_of w.book.moment asked.asker st.gatherings) refl

  -- a device that is deaf does nothing
  unless_well : (b : Bool) (r : Reached A) → (b ≡ false → IsReachedWell r) → IsReachedWell (unless b r)
  unless_well true r h = nothing_quiet
  unless_well false r h = h refl

  listens : (by_broadcast : Bool) → is_deaf w.book.moment by_broadcast st ≡ false → st.quiet_until ≤ w.book.moment
  listens by_broadcast e = ltb-false w.book.moment st.quiet_until (or_parts by_broadcast (nat_lt w.book.moment st.quiet_until) e).1

  -- this was heard
  abbrev pub IsInput : Message Station → ℕ → Input → Type 0
  IsInput m id (asks None limits service octets) = m.body ≡ Asks id (head_of st.max_apdu limits service) octets
  IsInput m id (asks (Some sg) limits service octets) = m.body ≡ Asks_piece id (head_of st.max_apdu limits service) sg.sequence_number sg.more_follows octets
  IsInput m id input = Unit {0}

  request_well : (m : Message Station) (segment : Option Segment) (limits : AnswerLimits) (service : ℕ) (octets : List ℕ) (from : Origin) (asker : Asker) →
      IsHeard w.book d m → asker.station ≡ m.from → led_to d.net from.way ≡ asker.station → IsInput m asker.invoke_id (asks segment limits service octets) →
      st.quiet_until ≤ w.book.moment → IsReachedWell (request_heard segment w.book.moment (asked_by from asker limits service) octets st)
  request_well m None limits service octets from asker heard client way body l =
      whole_well (remembered w.book.moment asker st.records) (asked_by from asker limits service) octets refl (record {
        listens = l;
        way = way;
        came = inl (record { message = m; heard = heard; from = sym client; body = body });
      })
  request_well m (Some sg) limits service octets from asker heard client way body l =
      segment_well m asker.invoke_id sg (asked_by from asker limits service) octets (record { listens = l; heard = heard; body = body }) client refl way
      (remembered w.book.moment asker st.records) refl

  -- what an input comes to
  pub reached_well : (m : Message Station) (input : Input) (from : Origin) (asker : Asker) → IsHeard w.book d m → asker.station ≡ m.from →
      led_to d.net from.way ≡ asker.station → IsInput m asker.invoke_id input → IsReachedWell (reached_by input w.book.moment from asker st)
  reached_well m (asks segment limits service octets) from asker heard client way body =
      unless_well (is_deaf w.book.moment from.by_broadcast st) (request_heard segment w.book.moment (asked_by from asker limits service) octets st)
      (λ e. request_well m segment limits service octets from asker heard client way body (listens from.by_broadcast e))
  reached_well m (acknowledges negative number window) from asker heard client way body =
      acks_quiet (remembered w.book.moment asker st.records) number window negative from.way asker refl way
  reached_well m gives_up from asker heard client way body = given_up_quiet (remembered w.book.moment asker st.records) asker refl
  reached_well m nothing from asker heard client way body = nothing_quiet
