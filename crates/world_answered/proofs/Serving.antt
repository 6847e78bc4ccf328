-- A device that is ready executes a request that comes to it whole, and says the answer in one parcel.
use Rattle.std.proofs.Common.{◌≡◌, ◌∙◌, refl, sym, ap, subst, ⊎_elim, arith, ℕ, ◌+◌, ◌<◌, ◌≤◌, Bool, true, false, List, [], ◌∷◌, length, Some, None}
use Rattle.std.specs.Prelude.{◌||◌, not, nat_lt, slice_get, slice_index}
use Rattle.std.proofs.lemmas.Bool.{and_parts, false_from_ne_true, le-ltb, leb-true}
use Rattle.std.proofs.lemmas.List.{append-nil}
use Rattle.apdu.specs.Apdu.{PlainApdu}
use Rattle.apdu.proofs.CanonicalLaws.{canonical_spells}
use Rattle.apdu.specs.Sizes.{apdu_code}
use Rattle.bindings.specs.Binding.{binding_of}
use Rattle.bindings.specs.Limits as limit
use Rattle.bindings.specs.declared.binding.Binding.{Binding}
use Rattle.carry.specs.Things.{Thing}
use Rattle.carry_answered.proofs.Asked as asking
use Rattle.carry_answered.proofs.Asked.{heard_asks, limits_with}
use Rattle.carry_answered.proofs.Forgotten.{none_remembered}
use Rattle.carry_answered.proofs.Free.{IsFree, not_refused}
use Rattle.carry_answered.proofs.Speaking.{IsSaidIn, brings_it, brings_only, heard_from, said_in}
use Rattle.carry_answered.specs.Answered.{BringsOf, GoInOne, GoesWhole, IsReady}
use Rattle.history.specs.Book.{Issued}
use Rattle.history.specs.Lists.{Has}
use Rattle.inside.specs.Inside.{Said}
use Rattle.npdu.specs.declared.mac.Mac.{Mac}
use Rattle.npdu.specs.declared.mac.Station.{Station}
use Rattle.npdu.specs.declared.mac.Target.{Target}
use Rattle.npdu.specs.declared.parcel.Parcel.{Parcel}
use Rattle.object_model.specs.Objects.{PlainTable}
use Rattle.primitives.specs.declared.plain_data.Reply.{Reply}
use Rattle.primitives.specs.declared.plain_data.Request.{Request}
use Rattle.profile.specs.Ages as age
use Rattle.profile.specs.Limits.{MAX_SERVICE_DATA_OCTETS}
use Rattle.profile.specs.Times.{KEEP_MS, REUSE_MS}
use Rattle.remembered.proofs.Keeping.{one_asker}
use Rattle.unitdata.specs.Hearing.{Brings, Heard}
use Rattle.unitdata.specs.Saying.{parcel_of}
use Rattle.world.proofs.carry_world.Kept as world
use Rattle.world.proofs.carry_world.Seeing.{Seen, all_seen, fresh_seen}
use Rattle.world.proofs.carry_world.carry_said.headline_site.Reached.{kept_at, reached_by}
use Rattle.world.proofs.headline_client.Places.{all_at, has_seen}
use Rattle.world.specs.carry_world.Laws.{IsFresh}
use Rattle.world.specs.carry_world.PlainSteps.{ClientIssues, DeviceHearsIt, StepsTo}
use Rattle.world.specs.carry_world.PlainWorld.{PlainWorld}
use Rattle.world.specs.carry_world.carry_said.headline_site.AllStations.{AllStations}
use Rattle.world.specs.carry_world.carry_said.headline_site.headline.Protocol.{IsSite}
use Rattle.world.specs.carry_world.carry_said.headline_site.headline.Stations.{Client, Device}
use Rattle.world.specs.carry_world.carry_said.headline_site.headline_device.Devices as devices
use Rattle.world.specs.carry_world.carry_said.headline_site.headline_device.Devices.{IsDevice}
use Rattle.world.specs.carry_world.carry_said.headline_site.headline_device.headline_server.Safe.{safe_record}
use Rattle.world.specs.client.Client.{ClientState}
use Rattle.world.specs.client.Saying as client_saying
use Rattle.world.specs.client.client_tsm.Asking.{asked_by, request_said}
use Rattle.world.specs.client.client_tsm.Client.{is_open}
use Rattle.world.specs.client.client_tsm.Issuing.{opened}
use Rattle.world.specs.client.client_tsm.Open.{Open}
use Rattle.world.specs.client.client_tsm.Said as client_said
use Rattle.world.specs.client.client_tsm.declared.said.ClientSaid.{ClientSaid}
use Rattle.world.specs.device.Device.{DeviceState}
use Rattle.world.specs.device.DeviceTold.{DeviceTold}
use Rattle.world.specs.device.Hearing as device_hearing
use Rattle.world.specs.device.Hearing.{DeviceHears, Serves, origin_of}
use Rattle.world.specs.device.Saying as device_saying
use Rattle.world.specs.device.server_answers.Answering.{answer_of, answered_by, record_of, recorded, whole_answer}
use Rattle.world.specs.device.server_answers.Limits as answer
use Rattle.world.specs.device.server_answers.Said as server_said
use Rattle.world.specs.device.server_answers.ServerTold.{ServerTold}
use Rattle.world.specs.device.server_answers.declared.asked.AnswerLimits.{AnswerLimits}
use Rattle.world.specs.device.server_answers.declared.asked.Origin.{Origin}
use Rattle.world.specs.device.server_answers.declared.said.ServerSaid.{ServerSaid}
use Rattle.world.specs.device.server_answers.remembered.Records.{is_of, lives, remembered}
use Rattle.world.specs.device.server_answers.remembered.declared.record.Asker.{Asker}
use Rattle.world.specs.device.server_answers.remembered.declared.record.Record.{Record}
use Rattle.world.specs.device.server_answers.remembered.declared.record.RememberedAnswer.{RememberedAnswer}
use Rattle.world.specs.device.server_answers.remembered.declared.record.RememberedAnswer.TheVariants as kept
use Rattle.world.specs.headline_bacnet.Protocol.{bacnet}
use Rattle.world.specs.headline_bacnet.Refined.{ObjectSite}
use Rattle.world.specs.headline_bacnet.Stations.{longest_of}
use Rattle.world.specs.headline_bacnet.services.Asked.{replied, request_octets, service_asked}
use Rattle.world.specs.headline_client.Laws.{IsClient}
use Rattle.world.specs.headline_client.Safe.{station_of}
use Rattle.world_answered.proofs.Places.{some_same}

or_front : (a b : Bool) → (a || b) ≡ false → a ≡ false
or_front true b e = absurd (cc e)
or_front false b e = refl

-- an answer that goes whole is remembered as it is, and goes in one APDU
fitted_same : {A : Type 0} (limits : AnswerLimits) (chunk : ℕ) (x : RememberedAnswer A) → GoesWhole chunk x → answer.fitted limits chunk x ≡ x
fitted_same limits chunk kept.Simple whole = refl
fitted_same limits chunk (kept.Complex octets) whole =
    ap (λ b. answer.fitted_if b limits.segmented (answer.is_too_long limits chunk (length octets)) octets) whole
fitted_same limits chunk (kept.Error contents) whole = refl
fitted_same limits chunk (kept.Abort reason) whole = refl

none_begun : {A : Type 0} (now chunk : ℕ) (x : RememberedAnswer A) → GoesWhole chunk x → answer.begun now chunk x ≡ None
none_begun now chunk kept.Simple whole = refl
none_begun now chunk (kept.Complex octets) whole = ap (λ b. answer.begins_if b now chunk (length octets)) whole
none_begun now chunk (kept.Error contents) whole = refl
none_begun now chunk (kept.Abort reason) whole = refl

-- what a device does with what comes to it
device_does : {A : Type 0} (now : ℕ) (from : Mac) (to : Target) (npdu : List ℕ) (x : Heard) (d left : DeviceState A) (told : DeviceTold A) →
    Brings d.net from to npdu x → ((h : Heard) → Brings d.net from to npdu h → h ≡ x) → DeviceHears now from to npdu d told left →
    device_hearing.Does now (origin_of x) x.content d told left
device_does now from to npdu x d left told brings only h = ⊎_elim
    (λ (hears : device_hearing.Hears now from to npdu d told left).
    subst (λ (z : Heard). device_hearing.Does now (origin_of z) z.content d told left) (only hears.heard hears.brings) hears.does)
    (λ (drops : device_hearing.Drops from to npdu d told left). absurd (drops.nothing.none x brings))
    h

-- what a client says of an issue that goes whole
module _ {A : Type 0} (w asked : PlainWorld A) (issues : ClientIssues w asked) where
  abbrev c : ClientState A
  c = issues.c

  abbrev b : Binding
  b = issues.issues.binding

  abbrev q : Request A
  q = issues.request

  abbrev pub o : Open A
  o = opened w.moment q b.bound c.machine

  abbrev pub ask : ClientSaid A
  ask = request_said None (request_octets q) o

  free : IsFree w.moment q b.bound c.machine
  free = not_refused w.moment q c.machine (binding_of issues.instance c.bindings) b issues.issues.held issues.free

  module _ (whole : limit.goes_whole (limit.apdu_limit c.machine.accepts b.bound) (length (request_octets q)) ≡ true) where
    none_sending : o.sending ≡ None
    none_sending = ap (λ x. limit.begins_if x w.moment (limit.apdu_limit c.machine.accepts b.bound) (length (request_octets q))) whole

    pub said_is : issues.told.said ≡ parcel_of w.moment c.mac (client_said.spoken_of ask)
    said_is =
        issues.issues.said
        ∙ ap (λ (l : List (ClientSaid A)). client_saying.parcels_of w.moment c.mac l) (ap (λ x. asked_by x o) none_sending)
        ∙ append-nil (parcel_of w.moment c.mac (client_said.spoken_of ask))

  module _ (arriving served : PlainWorld A) (request : Parcel A) (says : Has issues.told.said request)
      (executes : DeviceHearsIt arriving served) (brings : BringsOf c.net request executes.d.net executes.p)
      (whole : GoInOne c b executes.d q) (ready : IsReady arriving.moment executes.d) where
    abbrev d : DeviceState A
    d = executes.d

    abbrev r : Reply A
    r = replied d.server.table q

    abbrev id : ℕ
    id = c.machine.next

    abbrev m : ℕ
    m = arriving.moment

    abbrev asked_apdu : PlainApdu
    asked_apdu = client_said.said_apdu ask

    asked_in : IsSaidIn w.moment c.mac (client_said.spoken_of ask) request
    asked_in = said_in w.moment c.mac (client_said.spoken_of ask) request
        (subst (λ (l : List (Parcel A)). Has l request) (said_is whole.asked) says)

    -- the device hears it
    abbrev there : Station
    there = station_of c

    abbrev p : Parcel A
    p = executes.p

    abbrev heard : Heard
    heard = heard_from d.net p.from there asked_apdu

    abbrev origin : Origin
    origin = origin_of heard

    abbrev limits : AnswerLimits
    limits = limits_with c.machine.accepts.segmented c.machine.accepts.max_segments (apdu_code c.machine.accepts.max_apdu)

    serves : apdu_code c.machine.accepts.max_apdu < 16 → Serves m origin asked_apdu d executes.told executes.left
    serves code =
        let spelled = canonical_spells asked_apdu code tt in
        device_does m p.from p.to p.npdu heard d executes.left executes.told
        (brings_it c.net w.moment c.mac (client_said.spoken_of ask) request p d.net asked_in brings asked_apdu spelled)
        (brings_only c.net w.moment c.mac (client_said.spoken_of ask) request p d.net asked_in brings asked_apdu spelled) executes.hears

    abbrev rec : Record A
    rec = recorded m (answer.answer_chunk d.server.max_apdu limits) (asking.asked m origin id limits q d.server) q (answer_of q r)

    abbrev pub tell : ServerSaid A
    tell = whole_answer rec

    record_is : record_of m d.server.max_apdu (asking.asked m origin id limits q d.server) q r ≡ rec
    record_is = ap (λ (x : RememberedAnswer A). recorded m (answer.answer_chunk d.server.max_apdu limits) (asking.asked m origin id limits q d.server) q x)
        (fitted_same limits (answer.answer_chunk d.server.max_apdu limits) (answer_of q r) whole.answered)

    answers_are : answered_by (record_of m d.server.max_apdu (asking.asked m origin id limits q d.server) q r).sending
        (record_of m d.server.max_apdu (asking.asked m origin id limits q d.server) q r) ≡ tell ∷ []
    answers_are =
        ap (λ (x : Record A). answered_by x.sending x) record_is
        ∙ ap (λ x. answered_by x rec) (none_begun m (answer.answer_chunk d.server.max_apdu limits) (answer_of q r) whole.answered)

    served_well : apdu_code c.machine.accepts.max_apdu < 16 →
        remembered m (record { station = there; invoke_id = id }) d.server.records ≡ None →
        executes.told.said ≡ parcel_of m d.mac (server_said.spoken_of tell)
    served_well code none =
        let k = serves code in
        let is = heard_asks k.apdu c.machine.accepts.segmented c.machine.accepts.max_segments (apdu_code c.machine.accepts.max_apdu) id (service_asked q)
        (request_octets q) k.named k.is in
        let told_is = asking.step_is m origin id limits q d.server issues.sound refl (le-ltb m d.server.quiet_until ready.listens) none
        (or_front (nat_lt MAX_SERVICE_DATA_OCTETS (length (request_octets q))) _ free.short) ready.place _ is k.server_told k.left k.step in
        ap (λ (t : DeviceTold A). t.said) (k.told_is ∙ ap (λ (t : ServerTold A). device_saying.told_of m d.mac t) told_is)
        ∙ ap (λ (l : List (ServerSaid A)). device_saying.parcels_of m d.mac l) answers_are
        ∙ append-nil (parcel_of m d.mac (server_said.spoken_of tell))

    -- no answer lives that was remembered under the invoke ID that was given
    module _ (s : ObjectSite A) (z : AllStations A) (ts : List (Thing A)) (l : List Said) (inv : world.Inv s z ts l)
        (site : IsSite (bacnet A) s) (client_there : slice_get z.clients issues.place ≡ Some c)
        (device_there : slice_get z.devices executes.place ≡ Some d) (at : w.moment ≡ z.core.book.moment) (later : w.moment ≤ m) where
      abbrev asker : Asker
      asker = record { station = station_of c; invoke_id = c.machine.next }

      client : IsClient longest_of z.core c
      client = all_at (λ x. IsClient longest_of z.core x) z.clients issues.place c inv.stands.clients client_there

      device : IsDevice s z.core d
      device = all_at (λ x. IsDevice s z.core x) z.devices executes.place d inv.stands.devices device_there

      dead_one : (x : Record A) → Has d.server.records x → is_of asker x ≡ true → lives m x ≡ false
      dead_one x has_it is =
          let kept_all = kept_at s z.core site (reached_by s z.core inv.refined) in
          let who = one_asker x.asker asker is in
          let of = (kept_all.devices_ok (devices.station_of d)).records (safe_record x)
          (subst (λ (y : Device Station (PlainTable A)). Has y.records (safe_record x)) (sym device.served.device)
          (has_seen (λ y. safe_record y) d.server.records x has_it)) in
          let timely = kept_all.good.in_time of.i of.r x.at of.was in
          let row : timely.x ≡ of.x = some_same timely.x of.x (sym timely.row ∙ of.row) in
          let issued : timely.x.moment ≡ of.x.moment = ap (λ (y : Issued Station (Request A)). y.moment) row in
          let until = timely.until in
          let mine : of.x.client ≡ station_of c = of.client ∙ ap (λ (y : Asker). y.station) who in
          let key : of.x.invoke_id ≡ c.machine.next = of.key ∙ ap (λ (y : Asker). y.invoke_id) who in
          let free_then = (kept_all.clients_ok (station_of c)).free of.i of.x of.row mine in
          let from : of.x.moment + REUSE_MS ≤ slice_index c.machine.free_from c.machine.next =
          subst (λ y. of.x.moment + REUSE_MS ≤ slice_index c.machine.free_from y) key
          (subst (λ (y : Client Station (Request A)). of.x.moment + REUSE_MS ≤ slice_index y.free_from of.x.invoke_id) client.seen free_then) in
          let may = and_parts (age.is_free (slice_index c.machine.free_from id) w.moment) (not (is_open id c.machine.open_ones)) free.may in
          let given = leb-true (slice_index c.machine.free_from id) w.moment may.0 in
          false_from_ne_true (lives m x) (λ t. let young = leb-true m (x.at + KEEP_MS) t in omega (arith, issued, until, from, given, later, young))

      -- the answer is all that it says
      answer_is : executes.told.said ≡ parcel_of m d.mac (server_said.spoken_of tell)
      answer_is = served_well client.kept.code (none_remembered m asker d.server.records dead_one)

    -- .. whatever came about before
    pub says_answer : (s : ObjectSite A) (fresh : PlainWorld A) → IsSite (bacnet A) s → IsFresh s fresh → StepsTo s fresh w →
        slice_get w.devices executes.place ≡ Some d → w.moment ≤ m →
        executes.told.said ≡ parcel_of m d.mac (server_said.spoken_of tell)
    says_answer s fresh site begun to here later =
        let seen : Seen s w = subst (λ (x : PlainWorld A). Seen s x) (sym to.last) (all_seen s to.between fresh (fresh_seen s fresh begun) to.steps) in
        answer_is s seen.world w.things w.said seen.inv site
        (ap (λ (x : PlainWorld A). slice_get x.clients issues.place) (sym seen.is) ∙ issues.there)
        (ap (λ (x : PlainWorld A). slice_get x.devices executes.place) (sym seen.is) ∙ here)
        (ap (λ (x : PlainWorld A). x.moment) seen.is) later
