-- What holds of each plan for what is heard: one premise for each kind of plan.
use Rattle.std.proofs.Common.{◌≡◌, refl, sym, ap, subst, ℕ, Bool, true, false, List, [], ◌∷◌}
use Rattle.std.specs.Prelude.{◌==◌, cond, nat_lt, length, Option, Some, None, Result, Ok, Err}
use Rattle.std.specs.List.{AllByRecursion, find}
use Rattle.apdu.specs.declared.apdu.Segment.{Segment}
use Rattle.apdu.specs.declared.numbers.AbortReason.TheVariants.{BufferOverflow, OutOfResources}
use Rattle.apdu.specs.declared.numbers.RejectReason.{RejectReason}
use Rattle.npdu.specs.declared.mac.Way.{Way}
use Rattle.primitives.specs.declared.plain_data.Request.{Request}
use Rattle.profile.specs.Limits.{MAX_SERVICE_DATA_OCTETS}
use Rattle.server_answers.proofs.remembered.Keeping.{one_asker}
use Rattle.server_answers.specs.remembered.Records.{is_full, remembered, said_on, some_if}
use Rattle.server_answers.specs.remembered.declared.record.Asker.{Asker}
use Rattle.server_answers.specs.remembered.declared.record.Record.{Record}
use Rattle.segments.specs.Receiver.{ReceiverState, granted_window, joins, nothing_joined}
use Rattle.segments.specs.Sender.{SenderState, hears}
use Rattle.segments.specs.declared.step.Step.{Step}
use Rattle.segments.specs.declared.step.Step.TheVariants.{Taken, Nak, Dropped, Full}
use Rattle.segments.specs.declared.step.Turn.{Turn}
use Rattle.segments.specs.declared.step.Turn.TheVariants as turn
use Rattle.server_answers.specs.services.Asked.{replied}
use Rattle.server_answers.specs.Gathering.{gathering_of, gathers_still, is_for, still}
use Rattle.server_answers.specs.Limits.{begun}
use Rattle.server_answers.specs.Plan.{ServerPlan, Stays, Says, GivesUp, quiet}
use Rattle.server_answers.specs.declared.asked.Asked.{Asked}
use Rattle.server_answers.specs.declared.asked.Origin.{Origin}
use Rattle.server_answers.specs.declared.gathering.RequestGathering.{RequestGathering}
use Rattle.server_answers.specs.declared.said.ServerSaid.{ServerSaid}
use Rattle.server_answers.specs.declared.said.ServerSaid.TheVariants as said
use Rattle.server_tsm.specs.Hearing.{Heard, Message, asks, acknowledges, gives_up, nothing, Reached, Whole, plans, completes, aborting, ack_heard, ack_if}
use Rattle.server_tsm.specs.Hearing.{ack_taken, answer_plan, asked_by, asked_on, asker_of, begins_if, completed, completed_if, executing, executing_if}
use Rattle.server_tsm.specs.Hearing.{finished, finished_by, gathered, given_up, is_crowded, is_deaf, is_sending, joined, joined_by}
use Rattle.server_tsm.specs.Hearing.{of_service, part_heard, part_joined, reached, reached_by, rejecting, repeated_if, request_heard}
use Rattle.server_tsm.specs.Hearing.{taken_if, turned_by, unless, whole_heard}
use Rattle.server_tsm.specs.Server.{ServerTsmState}
use Rattle.server_tsm.specs.Steps.{IsPlan}
use Rattle.server_tsm.specs.Waking.{saying_by}

-- the first that passes a test passes it
module _ {X : Type 0} where
  passes_by : (p : X → Bool) (y x : X) (rest : Option X) → (rest ≡ Some x → p x ≡ true) → (b : Bool) → p y ≡ b → cond b (Some y) rest ≡ Some x → p x ≡ true
  passes_by p y x rest behind true t e = let same : y ≡ x = cc in subst (λ z. p z ≡ true) same t
  passes_by p y x rest behind false t e = behind e

  found_passes : (p : X → Bool) (xs : List X) (x : X) → find p xs ≡ Some x → p x ≡ true
  found_passes p [] x e = absurd (cc e)
  found_passes p (y ∷ ys) x e = passes_by p y x (find p ys) (found_passes p ys x) (p y) refl e

module _ {A : Type 0} where
  -- that segments came is said
  abbrev pub IsAck : ServerSaid A → Type 0
  IsAck (said.SegmentAck way negative id number window) = Unit {0}
  IsAck s = ⊥

  abbrev pub AreAcks : List (ServerSaid A) → Type 0
  AreAcks says = AllByRecursion IsAck says

  -- what holds of each kind of plan for what is heard of an asker
  pub record HoldsOfEach (now : ℕ) (asker : Asker) (st : ServerTsmState A) (P : ServerPlan A → Type 0) : Type 0 where
    pub dropped : P (quiet Stays)
    pub answered : (sending : Option SenderState) (way : Way) (r : Record A) → P (answer_plan sending way r)
    pub ended : (r : Record A) → P (quiet (Says (saying_by None r)))
    pub given_up : P (quiet (GivesUp asker))
    pub gathers : (says : List (ServerSaid A)) (asked : Asked) (s : Segment) (octets : List ℕ) → AreAcks says → P (gathered says asked s octets)
    pub overflows : (says : List (ServerSaid A)) (asked : Asked) → AreAcks says → P (aborting says BufferOverflow asked (GivesUp asked.asker))
    pub crowded : (asked : Asked) → is_crowded now st.gatherings ≡ true → P (aborting [] OutOfResources asked Stays)
    pub rejected : (says : List (ServerSaid A)) (asked : Asked) (reason : RejectReason) → AreAcks says → P (rejecting says reason asked)
    pub full : (says : List (ServerSaid A)) (asked : Asked) → AreAcks says → is_full now st.records ≡ true →
        P (aborting says OutOfResources asked (GivesUp asked.asker))
    pub executed : (says : List (ServerSaid A)) (asked : Asked) (request : Request A) → AreAcks says → asked.asker ≡ asker →
        remembered now asker st.records ≡ None → is_full now st.records ≡ false → P (executing now says asked request (replied st.table request) st)

  -- what is still gathered for an asker is of that asker
  still_by : (now : ℕ) (x a : RequestGathering A) (b : Bool) → some_if b x ≡ Some a → x ≡ a
  still_by now x a true e = cc e
  still_by now x a false e = absurd (cc e)

  still_is : (now : ℕ) (o : Option (RequestGathering A)) (a : RequestGathering A) → still now o ≡ Some a → o ≡ Some a
  still_is now None a e = absurd (cc e)
  still_is now (Some x) a e = ap (λ (z : RequestGathering A). Some z) (still_by now x a (gathers_still now x) e)

  gathered_for : (now : ℕ) (asker : Asker) (xs : List (RequestGathering A)) (a : RequestGathering A) → gathering_of now asker xs ≡ Some a →
      a.asked.asker ≡ asker
  gathered_for now asker xs a e = one_asker a.asked.asker asker (found_passes (is_for asker) xs a (still_is now (find (is_for asker) xs) a e))

module _ {A : Type 0} (now : ℕ) (asker : Asker) (st : ServerTsmState A) (P : ServerPlan A → Type 0) (l : HoldsOfEach now asker st P) where
  -- a request came whole, and no answer of it is remembered
  record IsComplete (w : Whole A) : Type 0 where
    acks : AreAcks w.says
    is_of : w.asked.asker ≡ asker
    none : remembered now asker st.records ≡ None

  abbrev Holds : Reached A → Type 0
  Holds (plans p) = P p
  Holds (completes w) = IsComplete w

  repeats : (b : Bool) (way : Way) (r : Record A) → P (repeated_if b now way r)
  repeats true way r = l.dropped
  repeats false way r = l.answered (begun now r.chunk r.answer) way r

  complete_if : (b : Bool) (w : Whole A) → IsComplete w → Holds (completed_if b w)
  complete_if true w c = l.overflows w.says w.asked c.acks
  complete_if false w c = c

  complete : (w : Whole A) → IsComplete w → Holds (completed w)
  complete w c = complete_if (nat_lt MAX_SERVICE_DATA_OCTETS (length w.octets)) w c

  whole : (o : Option (Record A)) (asked : Asked) (octets : List ℕ) → remembered now asker st.records ≡ o → asked.asker ≡ asker →
      Holds (whole_heard o now asked octets)
  whole (Some r) asked octets is of = repeats (is_sending now r.sending) asked.way r
  whole None asked octets is of = complete (record { asked = asked; octets = octets; says = [] }) (record { acks = tt; is_of = of; none = is })

  acks : (o : Option ℕ) (window : ℕ) (asked : Asked) → AreAcks (ack_if {A = A} o window asked)
  acks None window asked = tt
  acks (Some number) window asked = (tt, tt)

  taken : (more : Bool) (says : List (ServerSaid A)) (asked : Asked) (s : Segment) (octets all : List ℕ) → AreAcks says → asked.asker ≡ asker →
      remembered now asker st.records ≡ None → Holds (taken_if more says asked s octets all)
  taken true says asked s octets all a of none = l.gathers says asked s octets a
  taken false says asked s octets all a of none =
      complete (record { asked = asked; octets = all; says = says }) (record { acks = a; is_of = of; none = none })

  step : (stp : Step) (asked : Asked) (s : Segment) (octets : List ℕ) (j : ReceiverState) → asked.asker ≡ asker → remembered now asker st.records ≡ None →
      Holds (joined_by stp asked s octets j)
  step (Taken ack) asked s octets j of none = taken s.more_follows (ack_if ack j.window asked) asked s octets j.octets (acks ack j.window asked) of none
  step (Nak number) asked s octets j of none = l.gathers _ asked s octets (tt, tt)
  step Dropped asked s octets j of none = l.gathers [] asked s octets tt
  step Full asked s octets j of none = l.overflows [] asked tt

  joins_on : (asked : Asked) (j : ReceiverState) (s : Segment) (octets : List ℕ) → asked.asker ≡ asker → remembered now asker st.records ≡ None →
      Holds (joined now asked j s octets)
  joins_on asked j s octets of none =
      let x = joins now s.sequence_number s.more_follows octets j in
      step x.step asked s octets x.state of none

  begins : (first crowded : Bool) (asked : Asked) (s : Segment) (octets : List ℕ) → is_crowded now st.gatherings ≡ crowded → asked.asker ≡ asker →
      remembered now asker st.records ≡ None → Holds (begins_if first crowded now asked s octets)
  begins false crowded asked s octets e of none = l.dropped
  begins true true asked s octets e of none = l.crowded asked e
  begins true false asked s octets e of none = joins_on asked (nothing_joined (granted_window s.window)) s octets of none

  service : (b : Bool) (r : Reached A) → Holds r → Holds (of_service b r)
  service true r h = h
  service false r h = l.dropped

  part : (o : Option (RequestGathering A)) (asked : Asked) (s : Segment) (octets : List ℕ) → gathering_of now asker st.gatherings ≡ o → asked.asker ≡ asker →
      remembered now asker st.records ≡ None → Holds (part_joined o now asked s octets st.gatherings)
  part (Some a) asked s octets is of none =
      service (asked.service == a.asked.service) (joined now (asked_on asked.way a) a.receiver s octets)
      (joins_on (asked_on asked.way a) a.receiver s octets (gathered_for now asker st.gatherings a is) none)
  part None asked s octets is of none = begins (s.sequence_number == 0) (is_crowded now st.gatherings) asked s octets refl of none

  segment_heard : (o : Option (Record A)) (asked : Asked) (s : Segment) (octets : List ℕ) → remembered now asker st.records ≡ o →
      Holds (part_heard o now (record asked { asker = asker }) s octets st.gatherings)
  segment_heard (Some r) asked s octets is = repeats (is_sending now r.sending) asked.way r
  segment_heard None asked s octets is = part (gathering_of now asker st.gatherings) (record asked { asker = asker }) s octets refl refl is

  request : (segment : Option Segment) (asked : Asked) (octets : List ℕ) → Holds (request_heard segment now (record asked { asker = asker }) octets st)
  request None asked octets = whole (remembered now asker st.records) (record asked { asker = asker }) octets refl refl
  request (Some s) asked octets = segment_heard (remembered now asker st.records) asked s octets refl

  listens : (b : Bool) (r : Reached A) → Holds r → Holds (unless b r)
  listens true r h = l.dropped
  listens false r h = h

  turns : (t : Turn) (c : SenderState) (way : Way) (r : Record A) → P (turned_by t c way r)
  turns turn.Waits c way r = l.dropped
  turns turn.Sends c way r = l.answered (Some c) way r
  turns turn.Ends c way r = l.ended (said_on way None r)

  takes_ack : (o : Option SenderState) (number window : ℕ) (negative : Bool) (way : Way) (r : Record A) → P (ack_taken o now number window negative way r)
  takes_ack None number window negative way r = l.dropped
  takes_ack (Some c) number window negative way r =
      turns (hears now number window negative c).turn (hears now number window negative c).state way r

  hears_ack : (o : Option (Record A)) (number window : ℕ) (negative : Bool) (way : Way) → P (ack_heard o now number window negative way)
  hears_ack None number window negative way = l.dropped
  hears_ack (Some r) number window negative way = takes_ack r.sending number window negative way r

  gives : (o : Option (Record A)) → P (given_up o asker)
  gives None = l.given_up
  gives (Some r) = l.ended r

  message : (m : Message) (from : Origin) → Holds (reached_by m now from asker st)
  message (asks segment limits service octets) from =
      listens (is_deaf now from.by_broadcast st) (request_heard segment now (asked_by from asker limits service) octets st)
      (request segment (asked_by from asker limits service) octets)
  message (acknowledges negative number window) from = hears_ack (remembered now asker st.records) number window negative from.way
  message gives_up from = gives (remembered now asker st.records)
  message nothing from = l.dropped

  executes : (b : Bool) (w : Whole A) (q : Request A) → is_full now st.records ≡ b → IsComplete w → P (executing_if b now w.says w.asked q st)
  executes true w q e c = l.full w.says w.asked c.acks e
  executes false w q e c = l.executed w.says w.asked q c.acks c.is_of c.none e

  finds : (found : Result (Request A) RejectReason) (w : Whole A) → IsComplete w → P (finished_by found now w.says w.asked st)
  finds (Err reason) w c = l.rejected w.says w.asked reason c.acks
  finds (Ok q) w c = executes (is_full now st.records) w q refl c

  finishes : (r : Reached A) (found : Option (Result (Request A) RejectReason)) → Holds r → P (finished now r found st)
  finishes (plans p) found h = h
  finishes (completes w) None c = l.dropped
  finishes (completes w) (Some found) c = finds found w c

-- what holds of each kind of plan holds of the plan for what is heard
pub holds_of_plan : {A : Type 0} (now : ℕ) (from : Origin) (h : Heard) (st : ServerTsmState A) (plan : ServerPlan A) (P : ServerPlan A → Type 0) →
    HoldsOfEach now (asker_of from h) st P → IsPlan now from h st plan → P plan
holds_of_plan now from h st plan P l p =
    let asker = asker_of from h in
    subst P (sym p.is) (finishes now asker st P l (reached now from h st) p.found (message now asker st P l h.message from))
