-- How a device goes on by what changes of its server, and what that is among all stations.
use Rattle.std.proofs.Common.{◌≡◌, ◌∙◌, ◌⊎◌, inl, inr, ⊎_elim, refl, sym, ap, subst, ℕ, ◌+◌, ◌≤◌, List, [], ◌∷◌, ◌++◌, map, Some, None}
use Rattle.std.specs.Prelude.{Option}
use Rattle.std.specs.List.{AllByRecursion}
use Rattle.headline.proofs.Puts.{put_here}
use Rattle.headline.specs.Happenings.{Device_becomes, Executes, put, tell, with_said}
use Rattle.headline.specs.Honest.{DeviceGoesOn, IsExecuted, IsGathered, MayExecute}
use Rattle.headline.specs.Protocol.{Site}
use Rattle.headline.specs.Stations.{Device}
use Rattle.headline.specs.Stations as seen
use Rattle.history.specs.Book.{Book, last_issue}
use Rattle.history.specs.Lists.{Has}
use Rattle.profile.specs.Times.{KEEP_MS}
use Rattle.history.specs.declared.Entry.TheVariants.{Executed}
use Rattle.history.proofs.Lists.{filter_has, has_split}
use Rattle.apdu.specs.declared.apdu.Segment.{Segment}
use Rattle.apdu.specs.declared.sizes.MaxApdu.{MaxApdu}
use Rattle.npdu.specs.declared.mac.Station.{Station}
use Rattle.headline_bacnet.specs.Laws.{object_laws}
use Rattle.headline_bacnet.specs.Protocol.{bacnet}
use Rattle.headline_bacnet.specs.Refined.{IsRefined, ObjectCore}
use Rattle.object_model.specs.Objects.{PlainTable}
use Rattle.primitives.specs.declared.plain_data.Reply.{Reply}
use Rattle.primitives.specs.declared.plain_data.Request.{Request}
use Rattle.server_tsm.specs.remembered.Records.{forgotten}
use Rattle.server_tsm.specs.remembered.declared.record.Asker.{Asker}
use Rattle.server_tsm.specs.remembered.declared.record.Record.{Record}
use Rattle.headline_bacnet.specs.services.Asked.{replied}
use Rattle.headline_server.proofs.Keeping.{Fits}
use Rattle.history.proofs.HasLaws.{has_map, map_has}
use Rattle.headline_server.proofs.Records.{forgotten_has, kept_has, safe_all_said, safe_said, so_lives}
use Rattle.headline_server.proofs.Saying.{IsHonestlySaid, all_said}
use Rattle.headline_server.specs.Refines.{message_of, served, told_by}
use Rattle.headline_server.specs.Safe.{safe_gathering, safe_device, safe_record}
use Rattle.headline_bacnet.specs.server_answers.Plan.{ServerPlan, Stays, Says, Gathers, GivesUp, Executes as Runs, Wakes}
use Rattle.headline_bacnet.specs.server_answers.Gathering.{gathered_with, gathering_of, is_kept, receiver_of}
use Rattle.headline_bacnet.specs.server_answers.declared.asked.Asked.{Asked}
use Rattle.server_tsm.specs.Server.{ServerTsmState, committed, still_gathered}
use Rattle.server_tsm.specs.Steps.{told_of_plan}
use Rattle.headline_bacnet.specs.server_answers.declared.gathering.RequestGathering.{RequestGathering}
use Rattle.headline_bacnet.specs.server_answers.Executed as told
use Rattle.headline_bacnet.specs.server_answers.declared.plan.Saying.{Saying}
use Rattle.headline_bacnet.specs.server_answers.declared.said.ServerSaid.{ServerSaid}

-- what is still gathered was
pub gathered_had : {A : Type 0} (own : MaxApdu) (now : ℕ) (except : Option Asker) (xs : List (RequestGathering A)) (a : seen.Gathering Station) →
    Has (map (safe_gathering own) (still_gathered now except xs)) a → Has (map (safe_gathering own) xs) a
gathered_had own now except xs a h =
    let there = map_has (safe_gathering own) (still_gathered now except xs) a h in
    let old = filter_has (is_kept now except) xs there.0 there.1 in
    subst (λ (z : seen.Gathering Station). Has (map (safe_gathering own) xs) z) there.2 (has_map (safe_gathering own) xs there.0 old.0)

module _ {A : Type 0} (b : Book Station (Request A) (Reply A)) (d : Station) (st : ServerTsmState A) where
  same_records : (left : ServerTsmState A) → left.table ≡ st.table → left.quiet_until ≡ st.quiet_until →
      map safe_record left.records ≡ map safe_record st.records →
      ((a : seen.Gathering Station) → Has (safe_device left).gatherings a → Has (safe_device st).gatherings a ⊎ IsGathered b d (safe_device st) a) →
      DeviceGoesOn b d (safe_device st) (safe_device left)
  same_records left t q r a = record {
    table = t;
    deaf = q;
    records = λ k h. subst (λ (l : List (seen.Record Station)). Has l k) r h;
    living = λ k h young. subst (λ (l : List (seen.Record Station)). Has l k) (sym r) h;
    gatherings = a;
  }

  -- nothing changes
  pub stays_on : DeviceGoesOn b d (safe_device st) (safe_device (committed b.moment Stays st))
  stays_on = same_records (committed b.moment Stays st) refl refl refl (λ a h. inl h)

  -- an answer is said so
  pub says_on : (x : Saying) → DeviceGoesOn b d (safe_device st) (safe_device (committed b.moment (Says x) st))
  says_on x = same_records (committed b.moment (Says x) st) refl refl (safe_said x.asker x.way x.sending st.records) (λ a h. inl h)

  -- what came is given up
  pub gives_up_on : (asker : Asker) → DeviceGoesOn b d (safe_device st) (safe_device (committed b.moment (GivesUp asker) st))
  gives_up_on asker = same_records (committed b.moment (GivesUp asker) st) refl refl refl
      (λ a h. inl (gathered_had st.max_apdu b.moment (Some asker) st.gatherings a h))

  -- a request came so far
  gathers_split : (x : RequestGathering A) (a : seen.Gathering Station) → IsGathered b d (safe_device st) (safe_gathering st.max_apdu x) →
      (y : RequestGathering A) → Has (still_gathered b.moment (Some x.asked.asker) st.gatherings ++ x ∷ []) y → safe_gathering st.max_apdu y ≡ a →
      Has (safe_device st).gatherings a ⊎ IsGathered b d (safe_device st) a
  gathers_split x a g y there e = ⊎_elim
      (λ (old : Has (still_gathered b.moment (Some x.asked.asker) st.gatherings) y).
      inl (gathered_had st.max_apdu b.moment (Some x.asked.asker) st.gatherings a
      (subst (λ (z : seen.Gathering Station). Has (map (safe_gathering st.max_apdu) (still_gathered b.moment (Some x.asked.asker) st.gatherings)) z) e
      (has_map (safe_gathering st.max_apdu) (still_gathered b.moment (Some x.asked.asker) st.gatherings) y old))))
      (λ (new : x ≡ y). inr (subst (λ (z : seen.Gathering Station). IsGathered b d (safe_device st) z) (ap (safe_gathering st.max_apdu) new ∙ e) g))
      (has_split (still_gathered b.moment (Some x.asked.asker) st.gatherings) x there)

  -- what a segment leaves of a request
  abbrev pub left_of : Asked → Segment → List ℕ → RequestGathering A
  left_of asked segment octets = gathered_with b.moment asked segment octets (receiver_of (gathering_of b.moment asked.asker st.gatherings) segment)

  pub gathers_on : (asked : Asked) (segment : Segment) (octets : List ℕ) →
      IsGathered b d (safe_device st) (safe_gathering st.max_apdu (left_of asked segment octets)) →
      DeviceGoesOn b d (safe_device st) (safe_device (committed b.moment (Gathers asked segment octets) st))
  gathers_on asked segment octets g = same_records (committed b.moment (Gathers asked segment octets) st) refl refl refl (λ a h.
      let x = left_of asked segment octets in
      let there = map_has (safe_gathering st.max_apdu) (still_gathered b.moment (Some x.asked.asker) st.gatherings ++ x ∷ []) a h in
      gathers_split x a g there.0 there.1 there.2)

  -- the server wakes
  pub wakes_on : (xs : List Saying) → DeviceGoesOn b d (safe_device st) (safe_device (committed b.moment (Wakes xs) st))
  wakes_on xs = record {
    table = refl;
    deaf = refl;
    records = λ k h.
        let there = map_has safe_record (forgotten b.moment st.records) k
        (subst (λ (l : List (seen.Record Station)). Has l k) (safe_all_said xs (forgotten b.moment st.records)) h) in
        subst (λ (z : seen.Record Station). Has (map safe_record st.records) z) there.2
        (has_map safe_record st.records there.0 (forgotten_has b.moment st.records there.0 there.1));
    living = λ k h young.
        let there = map_has safe_record st.records k h in
        subst (λ (l : List (seen.Record Station)). Has l k) (sym (safe_all_said xs (forgotten b.moment st.records)))
        (subst (λ (z : seen.Record Station). Has (map safe_record (forgotten b.moment st.records)) z) there.2
        (has_map safe_record (forgotten b.moment st.records) there.0
        (kept_has b.moment st.records there.0 there.1
        (so_lives b.moment there.0 (subst (λ (z : seen.Record Station). b.moment ≤ z.moment + KEEP_MS) (sym there.2) young)))));
    gatherings = λ a h. inl (gathered_had st.max_apdu b.moment None st.gatherings a h);
  }

module _ {A : Type 0} (s : Site Station (PlainTable A)) (w : ObjectCore A) (d : Station) (st : ServerTsmState A) where
  -- a plan by which nothing is executed: the device goes on so, its answers stay kept well, and what is said is honest
  -- from there
  pub record IsQuiet (plan : ServerPlan A) : Type 0 where
    pub executed : plan.executed ≡ None
    pub on : DeviceGoesOn w.book d (safe_device st) (safe_device (committed w.book.moment plan.change st))
    pub fits : Fits d.net w.book.moment st plan.change
    pub says : AllByRecursion (IsHonestlySaid s d w.book.moment (safe_device (committed w.book.moment plan.change st))) plan.said

  -- such a plan is a list of honest happenings
  pub quiet_refines : (plan : ServerPlan A) → w.devices d ≡ safe_device st → IsQuiet plan →
      IsRefined (bacnet A) s w (served d (told_of_plan plan) (committed w.book.moment plan.change st) w)
  quiet_refines plan device q =
      let left = committed w.book.moment plan.change st in
      let says = all_said s d w.book.moment (safe_device left) plan.said q.says in
      let w1 : ObjectCore A = record w { devices = put (bacnet A).same w.devices d (safe_device left) } in
      record {
        happenings = Device_becomes d (safe_device left) ∷ says.happenings;
        honest = (
          subst (λ (z : Device Station (PlainTable A)). DeviceGoesOn w.book d z (safe_device left)) (sym device) q.on,
          says.honest w1 refl (put_here (object_laws A).test w.devices d (safe_device left)),
        );
        same = ap (λ (o : Option (told.Executed A)). record w1 { book = with_said (map (message_of d w.book.moment) plan.said) (told_by o w.book) }) q.executed
            ∙ sym (says.is w1);
      }

  -- an execution, with what is said of it
  pub execution_refines : (request : Request A) (r : Record A) (says : List (ServerSaid A)) → w.devices d ≡ safe_device st →
      MayExecute (bacnet A) w.book d (safe_device st) request (safe_record r) →
      IsExecuted (bacnet A) w.book.moment (safe_device st) request (safe_record r) (safe_device (committed w.book.moment (Runs request r) st)) →
      AllByRecursion (IsHonestlySaid s d w.book.moment (safe_device (committed w.book.moment (Runs request r) st))) says →
      IsRefined (bacnet A) s w (served d (record {
        said = says;
        executed =
            Some (record { asker = r.asker; request = request; reply = replied st.table request });
      }) (committed w.book.moment (Runs request r) st) w)
  execution_refines request r says device may executed honest =
      let left = committed w.book.moment (Runs request r) st in
      let all = all_said s d w.book.moment (safe_device left) says honest in
      let same = (bacnet A).same in
      let last = last_issue same r.asker.station r.asker.invoke_id w.book.issues in
      let w1 : ObjectCore A = record w {
        book = tell (λ i. Executed i (replied (w.devices d).table request) w.book.moment) last w.book;
        devices = put same w.devices d (safe_device left);
      } in
      record {
        happenings = Executes d request (safe_record r) (safe_device left) ∷ all.happenings;
        honest = (
          (
            subst (λ (z : Device Station (PlainTable A)). MayExecute (bacnet A) w.book d z request (safe_record r)) (sym device) may,
            subst (λ (z : Device Station (PlainTable A)). IsExecuted (bacnet A) w.book.moment z request (safe_record r) (safe_device left)) (sym device)
                executed,
          ),
          all.honest w1 refl (put_here (object_laws A).test w.devices d (safe_device left)),
        );
        same = ap (λ (z : Device Station (PlainTable A)). record w {
          book = with_said (map (message_of d w.book.moment) says) (tell (λ i. Executed i (replied z.table request) w.book.moment) last w.book);
          devices = put same w.devices d (safe_device left);
        }) (sym device) ∙ sym (all.is w1);
      }
