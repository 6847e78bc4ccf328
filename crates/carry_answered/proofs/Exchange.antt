-- An exchange in which nothing is lost ends in the reply.
use Rattle.std.proofs.Common.{◌≡◌, ◌∙◌, refl, sym, ap, subst, ⊎_elim, arith, ℕ, zero, suc, ◌+◌, ◌<◌, ◌≤◌, Bool, true, false, List, [], ◌∷◌, ◌++◌, length, Option, Some, None, cond}
use Rattle.std.specs.Prelude.{◌==◌, ◌&&◌, ◌||◌, not, nat_lt, slice_get, slice_index, slice_set}
use Rattle.std.proofs.lemmas.Bool.{and_from, and_parts, eq-eqb, false_from_ne_true, le-ltb, leb-true, lt-ltb}
use Rattle.std.proofs.lemmas.List.{append-nil, append_assoc}
use Rattle.apdu.specs.Apdu.{PlainApdu, Spells}
use Rattle.apdu.proofs.CanonicalLaws.{canonical_spells}
use Rattle.apdu.specs.Sizes.{apdu_code}
use Rattle.bindings.specs.Limits as request
use Rattle.bindings.specs.declared.binding.Binding.{Binding}
use Rattle.carry_answered.proofs.Asked as asking
use Rattle.carry_answered.proofs.Asked.{asked_whole, heard_asks, limits_with}
use Rattle.carry_answered.proofs.Forgotten.{none_remembered}
use Rattle.carry_answered.proofs.Replied as replying
use Rattle.carry_answered.proofs.Replied.{answer_heard, answer_spelled, hears_answer}
use Rattle.carry_answered.proofs.Speaking.{IsSaidIn, brings_it, brings_only, heard_from, said_in}
use Rattle.carry_answered.specs.Answered.{BringsOf, Exchange, ExchangesAreAnswered, GoesWhole, IsAnswered, reply_in}
use Rattle.carry_world.specs.PlainWorld.{Key, PlainWorld, executed_told, last_key, last_key_from, outcomes_told}
use Rattle.bindings.specs.Binding.{binding_of}
use Rattle.carry.specs.Things.{Thing}
use Rattle.carry_said.proofs.headline_site.Reached.{kept_at, reached_by}
use Rattle.carry_world.proofs.Kept as world
use Rattle.carry_world.proofs.Seeing.{Seen, all_seen, fresh_seen}
use Rattle.carry_answered.proofs.Free.{IsFree, not_refused}
use Rattle.carry_world.proofs.headline_client.Places.{all_at, has_seen}
use Rattle.carry_world.specs.Laws.{IsFresh}
use Rattle.carry_world.specs.PlainSteps.{StepsTo}
use Rattle.carry_world.specs.carry_said.headline_site.AllStations.{AllStations}
use Rattle.carry_world.specs.carry_said.headline_site.headline.Happenings.{Gives, closing}
use Rattle.carry_world.specs.carry_said.headline_site.headline.Happenings as core
use Rattle.carry_world.specs.carry_said.headline_site.headline.Protocol.{IsSite}
use Rattle.carry_world.specs.carry_said.headline_site.headline.Stations.{Client, Device}
use Rattle.carry_world.specs.carry_said.headline_site.headline_device.Devices as devices
use Rattle.carry_world.specs.carry_said.headline_site.headline_device.Devices.{IsDevice}
use Rattle.carry_world.specs.headline_client.Laws.{IsClient}
use Rattle.carry_world.specs.headline_client.Safe.{station_of}
use Rattle.client.specs.Client.{ClientState}
use Rattle.client.specs.ClientTold.{ClientTold}
use Rattle.client.specs.Hearing as client_hearing
use Rattle.client.specs.Hearing.{ClientHears, Transacts}
use Rattle.client.specs.Saying as client_saying
use Rattle.client_tsm.specs.Asking.{asked_by, request_said}
use Rattle.client_tsm.specs.Client.{is_open, opens}
use Rattle.client_tsm.specs.Issuing.{opened}
use Rattle.client_tsm.specs.Open.{Open, gathers_still, goes_on, sends_still, takes}
use Rattle.client_tsm.specs.Said as client_said
use Rattle.client_tsm.specs.declared.plan.Outcome.TheVariants as outcome
use Rattle.client_tsm.specs.declared.plan.TransactionOutcome.{TransactionOutcome}
use Rattle.client_tsm.specs.declared.said.ClientSaid.{ClientSaid}
use Rattle.device.specs.Device.{DeviceState}
use Rattle.device.specs.DeviceTold.{DeviceTold}
use Rattle.device.specs.Hearing as device_hearing
use Rattle.device.specs.Hearing.{DeviceHears, Serves, origin_of}
use Rattle.device.specs.Saying as device_saying
use Rattle.headline_bacnet.specs.Protocol.{bacnet}
use Rattle.headline_bacnet.specs.Refined.{ObjectSite}
use Rattle.headline_bacnet.specs.Stations.{longest_of}
use Rattle.carry_world.specs.carry_said.headline_site.headline_server.Safe.{safe_record}
use Rattle.history.specs.Book.{Issued}
use Rattle.history.specs.declared.Entry.{Entry}
use Rattle.history.specs.declared.Entry.TheVariants.{Answered, Executed, Issue}
use Rattle.inside.specs.Inside.{Said}
use Rattle.object_model.specs.Objects.{PlainTable}
use Rattle.object_model.specs.Site.{IsSoundTable}
use Rattle.objects.proofs.RequestLaws.{reply_answers, reply_sound}
use Rattle.primitives.specs.Answers.{IsAnswerTo}
use Rattle.primitives.specs.Sound.{IsSoundReply, IsSoundRequest}
use Rattle.primitives.specs.declared.plain_data.Reply.{Reply}
use Rattle.primitives.specs.declared.plain_data.Reply.TheVariants as reply
use Rattle.primitives.specs.declared.plain_data.Request.{Request}
use Rattle.profile.specs.Ages as age
use Rattle.profile.specs.Limits.{MAX_SERVICE_DATA_OCTETS}
use Rattle.profile.specs.Times.{DEADLINE_MS, KEEP_MS, REUSE_MS}
use Rattle.remembered.proofs.Keeping.{one_asker}
use Rattle.remembered.specs.Records.{is_of, lives, remembered}
use Rattle.remembered.specs.declared.record.Asker.{Asker}
use Rattle.remembered.specs.declared.record.Record.{Record}
use Rattle.remembered.specs.declared.record.RememberedAnswer.{RememberedAnswer}
use Rattle.remembered.specs.declared.record.RememberedAnswer.TheVariants as kept
use Rattle.server_answers.specs.Answering.{answer_apdu, answer_of, answered_by, number_of, record_of, recorded, whole_answer}
use Rattle.server_answers.specs.Limits as answer
use Rattle.server_answers.specs.Said as server_said
use Rattle.server_answers.specs.ServerTold.{ServerTold}
use Rattle.server_answers.specs.declared.asked.AnswerLimits.{AnswerLimits}
use Rattle.server_answers.specs.declared.asked.Origin.{Origin}
use Rattle.server_answers.specs.declared.said.ServerSaid.{ServerSaid}
use Rattle.server_answers.specs.declared.said.ServerSaid.TheVariants as said
use Rattle.services.proofs.AskedNames.{replied_is}
use Rattle.services.specs.Asked.{replied, request_octets, service_asked}
use Rattle.services.specs.Request.{request_service}
use Rattle.unitdata.specs.Hearing.{Brings, Heard, says, way_to}
use Rattle.history.specs.Lists.{Has, first_of}
use Rattle.npdu.proofs.Stations.{one_station}
use Rattle.npdu.specs.Mac.{same_station}
use Rattle.npdu.specs.declared.mac.Mac.{Mac}
use Rattle.npdu.specs.declared.mac.Station.{Station}
use Rattle.npdu.specs.declared.mac.Target.{Target}
use Rattle.npdu.specs.declared.mac.Way.{Way}
use Rattle.npdu.specs.declared.parcel.Parcel.{Parcel}
use Rattle.unitdata.specs.Saying.{parcel_of}

-- the last key of a client under an invoke ID, where it is the last of all
itself_same : (x : Station) → same_station x x ≡ true
itself_same x = (one_station x x).one refl

last_is_last : (n : ℕ) (x : Station) (id : ℕ) (ks : List Key) → last_key_from n x id (ks ++ record { client = x; invoke_id = id } ∷ []) ≡ Some (n + length ks)
last_is_last n x id [] =
    ap (λ b. cond (b && (id == id)) (Some n) None) (itself_same x) ∙ ap (λ b. cond b (Some n) None) (eq-eqb id id refl) ∙ ap (λ m. Some m) (omega arith)
last_is_last n x id (k ∷ ks) =
    ap (λ (o : Option ℕ). first_of o (cond (same_station k.client x && (k.invoke_id == id)) (Some n) None)) (last_is_last (suc n) x id ks)
    ∙ ap (λ m. Some m) (omega arith)

pub last_new : (x : Station) (id : ℕ) (ks : List Key) → last_key x id (ks ++ record { client = x; invoke_id = id } ∷ []) ≡ Some (length ks)
last_new x id ks = last_is_last 0 x id ks ∙ ap (λ m. Some m) (omega arith)

or_front : (a b : Bool) → (a || b) ≡ false → a ≡ false
or_front true b e = absurd (cc e)
or_front false b e = refl

not_true : (b : Bool) → not b ≡ true → b ≡ false
not_true true e = absurd (cc e)
not_true false e = refl

same_some : {X : Type 0} (x y : X) → Some x ≡ Some y → x ≡ y
same_some x y e = cc e

put_at : {X : Type 0} (xs : List X) (place : ℕ) (x next : X) → slice_get xs place ≡ Some x → slice_get (slice_set xs place next) place ≡ Some next
put_at [] place x next e = absurd (cc e)
put_at (y ∷ ys) zero x next e = refl
put_at (y ∷ ys) (suc place) x next e = put_at ys place x next e

-- an answer that goes whole is remembered as it is, and goes in one APDU
fitted_same : {A : Type 0} (limits : AnswerLimits) (chunk : ℕ) (x : RememberedAnswer A) → GoesWhole chunk x → answer.fitted limits chunk x ≡ x
fitted_same limits chunk kept.Simple whole = refl
fitted_same limits chunk (kept.Complex octets) whole =
    ap (λ b. answer.fitted_if b limits.segmented (answer.is_too_long limits chunk (length octets)) octets) whole
fitted_same limits chunk (kept.Error contents) whole = refl
fitted_same limits chunk (kept.Abort reason) whole = refl

none_begun : {A : Type 0} (now chunk : ℕ) (x : RememberedAnswer A) → GoesWhole chunk x → answer.begun now chunk x ≡ None
none_begun now chunk kept.Simple whole = refl
none_begun now chunk (kept.Complex octets) whole = ap (λ b. answer.begins_if b now chunk (length octets)) whole
none_begun now chunk (kept.Error contents) whole = refl
none_begun now chunk (kept.Abort reason) whole = refl

-- an answer is for a client of transactions
transacts : {A : Type 0} (now : ℕ) (from : Station) (id : ℕ) (q : Request A) (r : Reply A) (way : Way)
    (old new : ClientState A) (told : ClientTold A) → client_hearing.Does now from way (says (answer_apdu id q r)) old told new →
    Transacts now from (answer_apdu id q r) old told new
transacts now from id q reply.Done way old new told does = does
transacts now from id q (reply.Error class code) way old new told does = does
transacts now from id q (reply.ErrorAt class code object property index) way old new told does = does
transacts now from id q (reply.Values vs) way old new told does = does
transacts now from id q (reply.Many rs) way old new told does = does

answer_said : {A : Type 0} (way : Way) (id : ℕ) (q : Request A) (r : Reply A) →
    server_said.said_octets (said.Answer way id (request_service q) (answer_of q r)) ≡ server_said.answer_octets id (number_of q) (answer_of q r)
unfolding server_said.said_octets
answer_said way id q r = refl

-- what a device does with what comes to it
device_does : {A : Type 0} (now : ℕ) (from : Mac) (to : Target) (npdu : List ℕ) (x : Heard) (d left : DeviceState A) (told : DeviceTold A) →
    Brings d.net from to npdu x → ((h : Heard) → Brings d.net from to npdu h → h ≡ x) → DeviceHears now from to npdu d told left →
    device_hearing.Does now (origin_of x) x.content d told left
device_does now from to npdu x d left told brings only h = ⊎_elim
    (λ (hears : device_hearing.Hears now from to npdu d told left).
    subst (λ (z : Heard). device_hearing.Does now (origin_of z) z.content d told left) (only hears.heard hears.brings) hears.does)
    (λ (drops : device_hearing.Drops from to npdu d told left). absurd (drops.nothing.none x brings))
    h

-- what a client does
client_does : {A : Type 0} (now : ℕ) (from : Mac) (to : Target) (npdu : List ℕ) (x : Heard) (c next : ClientState A) (told : ClientTold A) →
    Brings c.net from to npdu x → ((h : Heard) → Brings c.net from to npdu h → h ≡ x) → ClientHears now from to npdu c told next →
    client_hearing.Does now x.station x.way x.content c told next
client_does now from to npdu x c next told brings only h = ⊎_elim
    (λ (hears : client_hearing.Hears now from to npdu c told next).
    subst (λ (z : Heard). client_hearing.Does now z.station z.way z.content c told next) (only hears.heard hears.brings) hears.does)
    (λ (drops : client_hearing.Drops from to npdu c told next). absurd (drops.nothing.none x brings))
    h

module _ {A : Type 0} (w v : PlainWorld A) (e : Exchange w v) where
  abbrev c : ClientState A
  c = e.issues.c

  abbrev d : DeviceState A
  d = e.executes.d

  abbrev b : Binding
  b = e.issues.issues.binding

  abbrev q : Request A
  q = e.issues.request

  abbrev r : Reply A
  r = reply_in e

  abbrev id : ℕ
  id = c.machine.next

  abbrev i : ℕ
  i = length w.keys

  abbrev m : ℕ
  m = e.arriving.moment

  -- the transaction, and what is said of it
  abbrev o : Open A
  o = opened w.moment q b.bound c.machine

  abbrev ask : ClientSaid A
  ask = request_said None (request_octets q) o

  abbrev asked_apdu : PlainApdu
  asked_apdu = client_said.said_apdu ask

  none_sending : o.sending ≡ None
  none_sending = ap (λ x. request.begins_if x w.moment (request.apdu_limit c.machine.accepts b.bound) (length (request_octets q))) e.whole.asked

  said_is : e.issues.told.said ≡ parcel_of w.moment c.mac (client_said.spoken_of ask) ++ []
  said_is =
      e.issues.issues.said
      ∙ ap (λ (l : List (ClientSaid A)). client_saying.parcels_of w.moment c.mac l) (ap (λ x. asked_by x o) none_sending)

  asked_in : IsSaidIn w.moment c.mac (client_said.spoken_of ask) e.request
  asked_in = said_in w.moment c.mac (client_said.spoken_of ask) e.request
      (subst (λ (l : List (Parcel A)). Has l e.request) (said_is ∙ append-nil (parcel_of w.moment c.mac (client_said.spoken_of ask))) e.says)

  -- the device hears it
  abbrev there : Station
  there = station_of c

  abbrev p : Parcel A
  p = e.executes.p

  abbrev heard : Heard
  heard = heard_from d.net p.from there asked_apdu

  abbrev origin : Origin
  origin = origin_of heard

  abbrev limits : AnswerLimits
  limits = limits_with c.machine.accepts.segmented c.machine.accepts.max_segments (apdu_code c.machine.accepts.max_apdu)

  serves : apdu_code c.machine.accepts.max_apdu < 16 → Serves m origin asked_apdu d e.executes.told e.executes.left
  serves code =
      let spelled = canonical_spells asked_apdu code tt in
      device_does m p.from p.to p.npdu heard d e.executes.left e.executes.told
      (brings_it c.net w.moment c.mac (client_said.spoken_of ask) e.request p d.net asked_in e.brings asked_apdu spelled)
      (brings_only c.net w.moment c.mac (client_said.spoken_of ask) e.request p d.net asked_in e.brings asked_apdu spelled) e.executes.hears

  abbrev rec : Record A
  rec = recorded m (answer.answer_chunk d.server.max_apdu limits) (asking.asked m origin id limits q d.server) q (answer_of q r)

  abbrev tell : ServerSaid A
  tell = whole_answer rec

  free : IsFree w.moment q b.bound c.machine
  free = not_refused w.moment q c.machine (binding_of e.issues.instance c.bindings) b e.issues.issues.held e.issues.free

  record_is : record_of m d.server.max_apdu (asking.asked m origin id limits q d.server) q r ≡ rec
  record_is = ap (λ (x : RememberedAnswer A). recorded m (answer.answer_chunk d.server.max_apdu limits) (asking.asked m origin id limits q d.server) q x)
      (fitted_same limits (answer.answer_chunk d.server.max_apdu limits) (answer_of q r) e.whole.answered)

  answers_are : answered_by (record_of m d.server.max_apdu (asking.asked m origin id limits q d.server) q r).sending
      (record_of m d.server.max_apdu (asking.asked m origin id limits q d.server) q r) ≡ tell ∷ []
  answers_are =
      ap (λ (x : Record A). answered_by x.sending x) record_is
      ∙ ap (λ x. answered_by x rec) (none_begun m (answer.answer_chunk d.server.max_apdu limits) (answer_of q r) e.whole.answered)

  pub record Serving : Type 0 where
    pub executed : e.executes.told.executed ≡ Some (record { asker = record { station = there; invoke_id = id }; request = q; reply = r })
    pub said : e.executes.told.said ≡ parcel_of m d.mac (server_said.spoken_of tell)

  served_well : apdu_code c.machine.accepts.max_apdu < 16 → remembered m (record { station = there; invoke_id = id }) d.server.records ≡ None → Serving
  served_well code none =
      let k = serves code in
      let is = heard_asks k.apdu c.machine.accepts.segmented c.machine.accepts.max_segments (apdu_code c.machine.accepts.max_apdu) id (service_asked q)
      (request_octets q) k.named k.is in
      let told_is = asking.step_is m origin id limits q d.server e.issues.sound refl (le-ltb m d.server.quiet_until e.ready.listens) none
      (or_front (nat_lt MAX_SERVICE_DATA_OCTETS (length (request_octets q))) _ free.short) e.ready.place _ is k.server_told k.left k.step in
      let told_so = k.told_is ∙ ap (λ (t : ServerTold A). device_saying.told_of m d.mac t) told_is in
      record {
        executed = ap (λ (t : DeviceTold A). t.executed) told_so;
        said = ap (λ (t : DeviceTold A). t.said) told_so
            ∙ ap (λ (l : List (ServerSaid A)). device_saying.parcels_of m d.mac l) answers_are
            ∙ append-nil (parcel_of m d.mac (server_said.spoken_of tell));
      }

  -- the client hears the answer
  module _ (s : Serving) (sound : IsSoundReply r) (means : IsAnswerTo q r) where
    answered_in : IsSaidIn m d.mac (server_said.spoken_of tell) e.answer
    answered_in = said_in m d.mac (server_said.spoken_of tell) e.answer (subst (λ (l : List (Parcel A)). Has l e.answer) s.said e.answers)

    abbrev next : ClientState A
    next = record c { machine = opens w.moment o c.machine }

    client_is : e.hears.c ≡ next
    client_is =
        let clients : e.returning.clients ≡ slice_set w.clients e.issues.place e.issues.next =
        e.way_back.clients ∙ e.executes.clients ∙ e.way_there.clients ∙ e.issues.clients in
        let here : slice_get e.returning.clients e.issues.place ≡ Some e.hears.c = ap (λ n. slice_get e.returning.clients n) (sym e.same) ∙ e.hears.there in
        let put : slice_get e.returning.clients e.issues.place ≡ Some e.issues.next =
        ap (λ (l : List (ClientState A)). slice_get l e.issues.place) clients ∙ put_at w.clients e.issues.place c e.issues.next e.issues.there in
        same_some e.hears.c e.issues.next (sym here ∙ put) ∙ e.issues.issues.left

    -- in time
    abbrev n : ℕ
    n = e.returning.moment

    in_time : n < w.moment + DEADLINE_MS
    in_time =
        let first = e.executes.delivered.young in
        let stamp : p.stamp ≡ w.moment = e.brings.stamp ∙ ap (λ (x : Parcel A). x.stamp) asked_in.is in
        let second = e.hears.delivered.young in
        let back : e.hears.p.stamp ≡ m = e.returns.stamp ∙ ap (λ (x : Parcel A). x.stamp) answered_in.is in
        omega (arith, first, stamp, second, back)

    abbrev here : Station
    here = devices.station_of d

    still : goes_on n o ≡ true
    still = and_from (age.is_in_time o.at n) (gathers_still n o.gathering && sends_still n o.sending)
        (lt-ltb n (w.moment + DEADLINE_MS) in_time)
        (ap (λ x. sends_still n x) none_sending)

    takes_it : takes n here id o ≡ true
    takes_it = and_from (o.invoke_id == id) (same_station o.station here && goes_on n o) (eq-eqb id id refl)
        (and_from (same_station o.station here) (goes_on n o)
        (ap (λ (x : Station). same_station x here) e.bound ∙ itself_same here) still)

    abbrev a : Parcel A
    a = e.hears.p

    hears_so : ClientHears n a.from a.to a.npdu next e.hears.told e.hears.next
    hears_so = subst (λ (x : ClientState A). ClientHears n a.from a.to a.npdu x e.hears.told e.hears.next) client_is e.hears.hears

    returns_so : BringsOf d.net e.answer next.net a
    returns_so = subst (λ (x : ClientState A). BringsOf d.net e.answer x.net a) client_is e.returns

    closes : e.hears.told.outcomes ≡ record { invoke_id = id; outcome = outcome.Answered r } ∷ []
    closes =
        let spelled = subst (λ (l : List ℕ). Spells l (answer_apdu id q r)) (sym (answer_said rec.way id q r)) (answer_spelled id q r sound means) in
        let k = transacts n here id q r (way_to c.net a.from here) next e.hears.next e.hears.told
        (client_does n a.from a.to a.npdu (heard_from c.net a.from here (answer_apdu id q r)) next e.hears.next e.hears.told
        (brings_it d.net m d.mac (server_said.spoken_of tell) e.answer a c.net answered_in returns_so (answer_apdu id q r) spelled)
        (brings_only d.net m d.mac (server_said.spoken_of tell) e.answer a c.net answered_in returns_so (answer_apdu id q r) spelled) hears_so) in
        let may = and_parts (age.is_free (slice_index c.machine.free_from id) w.moment) (not (is_open id c.machine.open_ones)) free.may in
        let told_is = replying.step_closes n here c.machine.open_ones o r (opens w.moment o c.machine) refl
        (not_true (is_open id c.machine.open_ones) may.1) takes_it e.issues.sound sound means _ (hears_answer k.apdu id q r sound k.named k.is)
        k.tsm_told k.left k.step in
        ap (λ (t : ClientTold A). t.outcomes) (k.told_is ∙ ap (λ t. client_saying.told_of n c.mac t) told_is)

    -- the history
    abbrev WorldHistory : Type 0
    WorldHistory = List (Entry Station (Request A) (Reply A))

    keys_are : e.arriving.keys ≡ w.keys ++ record { client = station_of c; invoke_id = id } ∷ []
    keys_are = e.way_there.keys ∙ e.issues.keys ∙ ap (λ z. w.keys ++ record { client = station_of c; invoke_id = z } ∷ []) e.issues.issues.id

    last_is : last_key (station_of c) id e.arriving.keys ≡ Some i
    last_is = ap (λ (ks : List Key). last_key (station_of c) id ks) keys_are ∙ last_new (station_of c) id w.keys

    executed_is : executed_told m e.executes.told.executed e.arriving.keys e.arriving.history ≡ e.arriving.history ++ Executed i r m ∷ []
    executed_is =
        ap (λ x. executed_told m x e.arriving.keys e.arriving.history) s.executed
        ∙ ap (λ (z : Option ℕ). core.told (λ j. Executed j r m) z e.arriving.history) last_is

    answered_is : outcomes_told (station_of e.hears.c) n e.returning.keys e.hears.told.outcomes e.returning.history ≡ e.returning.history ++ Answered i r n ∷ []
    answered_is =
        ap (λ (l : List (TransactionOutcome A)). outcomes_told (station_of e.hears.c) n e.returning.keys l e.returning.history) closes
        ∙ ap (λ (x : ClientState A). core.told (closing (Gives r) n) (last_key (station_of x) id e.returning.keys) e.returning.history) client_is
        ∙ ap (λ (ks : List Key). core.told (closing (Gives r) n) (last_key (station_of c) id ks) e.returning.history) (e.way_back.keys ∙ e.executes.keys)
        ∙ ap (λ (z : Option ℕ). core.told (closing (Gives r) n) z e.returning.history) last_is

    pub answered : IsAnswered w v e
    answered =
        e.hears.history ∙ answered_is
        ∙ ap (λ (h : WorldHistory). h ++ Answered i r n ∷ [])
        (e.way_back.history ∙ e.executes.history ∙ executed_is
        ∙ ap (λ (h : WorldHistory). h ++ Executed i r m ∷ []) (e.way_there.history ∙ e.issues.history))
        ∙ ap (λ (h : WorldHistory). h ++ Answered i r n ∷ [])
        (append_assoc w.history (Issue i (station_of c) e.issues.instance q w.moment ∷ []) (Executed i r m ∷ []))
        ∙ append_assoc w.history (Issue i (station_of c) e.issues.instance q w.moment ∷ Executed i r m ∷ []) (Answered i r n ∷ [])

-- what holds of the stations, wherever steps led
module _ {A : Type 0} (s : ObjectSite A) (w : AllStations A) (ts : List (Thing A)) (l : List Said) (inv : world.Inv s w ts l) (site : IsSite (bacnet A) s) where
  -- no answer lives that was remembered under the invoke ID that is given next
  dead : (place at : ℕ) (c : ClientState A) (d : DeviceState A) → slice_get w.clients place ≡ Some c → slice_get w.devices at ≡ Some d →
      age.is_free (slice_index c.machine.free_from c.machine.next) w.core.book.moment ≡ true → (m : ℕ) → w.core.book.moment ≤ m →
      remembered m (record { station = station_of c; invoke_id = c.machine.next }) d.server.records ≡ None
  dead place at c d there here may m later = none_remembered m asker d.server.records dead_one
    where
      asker : Asker
      asker = record { station = station_of c; invoke_id = c.machine.next }

      client : IsClient longest_of w.core c
      client = all_at (λ z. IsClient longest_of w.core z) w.clients place c inv.stands.clients there

      device : IsDevice s w.core d
      device = all_at (λ z. IsDevice s w.core z) w.devices at d inv.stands.devices here

      dead_one : (x : Record A) → Has d.server.records x → is_of asker x ≡ true → lives m x ≡ false
      dead_one x has_it is =
          let kept_all = kept_at s w.core site (reached_by s w.core inv.refined) in
          let who = one_asker x.asker asker is in
          let of = (kept_all.devices_ok (devices.station_of d)).records (safe_record x)
          (subst (λ (z : Device Station (PlainTable A)). Has z.records (safe_record x)) (sym device.served.device)
          (has_seen (λ z. safe_record z) d.server.records x has_it)) in
          let timely = kept_all.good.in_time of.i of.r x.at of.was in
          let row : timely.x ≡ of.x = same_some timely.x of.x (sym timely.row ∙ of.row) in
          let issued : timely.x.moment ≡ of.x.moment = ap (λ (z : Issued Station (Request A)). z.moment) row in
          let until = timely.until in
          let mine : of.x.client ≡ station_of c = of.client ∙ ap (λ (z : Asker). z.station) who in
          let key : of.x.invoke_id ≡ c.machine.next = of.key ∙ ap (λ (z : Asker). z.invoke_id) who in
          let free = (kept_all.clients_ok (station_of c)).free of.i of.x of.row mine in
          let from : of.x.moment + REUSE_MS ≤ slice_index c.machine.free_from c.machine.next =
          subst (λ z. of.x.moment + REUSE_MS ≤ slice_index c.machine.free_from z) key
          (subst (λ (z : Client Station (Request A)). of.x.moment + REUSE_MS ≤ slice_index z.free_from of.x.invoke_id) client.seen free) in
          let given = leb-true (slice_index c.machine.free_from c.machine.next) w.core.book.moment may in
          false_from_ne_true (lives m x) (λ t. let young = leb-true m (x.at + KEEP_MS) t in omega (arith, issued, until, from, given, later, young))

  -- the objects of a device are sound, and so is each reply of theirs to a sound request
  replies_soundly : (at : ℕ) (d : DeviceState A) → slice_get w.devices at ≡ Some d → (q : Request A) → IsSoundRequest q →
      IsSoundReply (replied d.server.table q) × IsAnswerTo q (replied d.server.table q)
  replies_soundly at d here q asked =
      let device = all_at (λ z. IsDevice s w.core z) w.devices at d inv.stands.devices here in
      let kept_all = kept_at s w.core site (reached_by s w.core inv.refined) in
      let table : IsSoundTable d.server.table =
      subst (λ (z : Device Station (PlainTable A)). IsSoundTable z.table) device.served.device
      ((kept_all.devices_ok (devices.station_of d)).sound d.instance device.instance) in (
        subst (λ (z : Reply A). IsSoundReply z) (sym (replied_is d.server.table q)) (reply_sound d.server.table q table asked),
        subst (λ (z : Reply A). IsAnswerTo q z) (sym (replied_is d.server.table q)) (reply_answers d.server.table q),
      )

  code_small : (place : ℕ) (c : ClientState A) → slice_get w.clients place ≡ Some c → apdu_code c.machine.accepts.max_apdu < 16
  code_small place c there = (all_at (λ z. IsClient longest_of w.core z) w.clients place c inv.stands.clients there).kept.code

seen_of : {A : Type 0} (s : ObjectSite A) (w v : PlainWorld A) → IsFresh s w → StepsTo s w v → Seen s v
seen_of {A} s w v fresh to =
    subst (λ (z : PlainWorld A). Seen s z) (sym to.last) (all_seen s to.between w (fresh_seen s w fresh) to.steps)

pub exchanges_are_answered : {A : Type 0} → ExchangesAreAnswered A
exchanges_are_answered {A} s fresh w v site begun to e =
    let seen = seen_of s fresh w begun to in
    let c : ClientState A = e.issues.c in
    let d : DeviceState A = e.executes.d in
    let moment : w.moment ≡ seen.world.core.book.moment = ap (λ (z : PlainWorld A). z.moment) seen.is in
    let client : slice_get seen.world.clients e.issues.place ≡ Some c =
    ap (λ (z : PlainWorld A). slice_get z.clients e.issues.place) (sym seen.is) ∙ e.issues.there in
    let devices_are : e.arriving.devices ≡ seen.world.devices =
    e.way_there.devices ∙ e.issues.devices ∙ ap (λ (z : PlainWorld A). z.devices) seen.is in
    let device : slice_get seen.world.devices e.executes.place ≡ Some d =
    ap (λ (l : List (DeviceState A)). slice_get l e.executes.place) (sym devices_are) ∙ e.executes.there in
    let may = and_parts (age.is_free (slice_index c.machine.free_from c.machine.next) w.moment)
    (not (is_open c.machine.next c.machine.open_ones)) (free w v e).may in
    let later : w.moment ≤ e.arriving.moment = subst (λ z. z ≤ e.arriving.moment) e.issues.moment e.way_there.later in
    let none = dead s seen.world w.things w.said seen.inv site e.issues.place e.executes.place c d client device
    (subst (λ z. age.is_free (slice_index c.machine.free_from c.machine.next) z ≡ true) moment may.0) e.arriving.moment
    (subst (λ z. z ≤ e.arriving.moment) moment later) in
    let well = served_well w v e (code_small s seen.world w.things w.said seen.inv site e.issues.place c client) none in
    let reply_well = replies_soundly s seen.world w.things w.said seen.inv site e.executes.place d device e.issues.request e.issues.sound in
    answered w v e well reply_well.0 reply_well.1
