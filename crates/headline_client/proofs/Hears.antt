-- What a client does on an NPDU is honest, where what it brings was said.
use Rattle.std.proofs.Common.{inl, inr, ◌≡◌, ⊎_elim, refl, sym, ap, subst, ◌∙◌, ℕ, true, false, List, [], map, Some, None}
use Rattle.std.specs.List.{AllByRecursion}
use Rattle.apdu.specs.Apdu.{PlainApdu, apdu_of, invoke_id_of, HasNamedNumbers}
use Rattle.apdu.specs.Apdu as plain
use Rattle.apdu.specs.declared.apdu.Apdu.{Apdu}
use Rattle.apdu.specs.declared.apdu.Apdu.TheVariants as apdu
use Rattle.apdu.specs.declared.sizes.MaxApdu.{MaxApdu}
use Rattle.bindings.specs.Binding.{introduced, mark_refused}
use Rattle.client.specs.Client.{ClientState}
use Rattle.client.specs.Hearing.{ClientHears, Does, Holds, Ignores, Introduces, Learnt, Transacts}
use Rattle.client.specs.Saying.{told_of}
use Rattle.bindings.specs.declared.binding.Binding.{Binding}
use Rattle.client.specs.ClientTold.{ClientTold}
use Rattle.client.specs.client_tsm.Client.{ClientTsmState, committed}
use Rattle.client.specs.client_tsm.Hearing.{heard_of, message_of}
use Rattle.apdu.specs.Sizes.{apdu_code}
use Rattle.bindings.specs.Accepts.{PlainAccepts}
use Rattle.client.specs.client_tsm.declared.plan.ClientTsmChange.{ClientTsmChange}
use Rattle.client.specs.client_tsm.declared.plan.ClientTsmChange.TheVariants.{Stays, Opens, Sends, Gathers, Renews, Ends, Wakes}
use Rattle.std.specs.Prelude.{◌<◌, unwrap_or}
use Rattle.client.specs.client_tsm.Steps.{told_of_plan}
use Rattle.client.specs.client_tsm.declared.plan.ClientTsmTold.{ClientTsmTold}
use Rattle.history.specs.Book.{Body, Simple, Complex, Failed}
use Rattle.npdu.specs.declared.mac.Mac.{Mac}
use Rattle.npdu.specs.declared.mac.Station.{Station}
use Rattle.npdu.specs.declared.mac.Target.{Target}
use Rattle.npdu.specs.declared.mac.Way.{Way}
use Rattle.headline_bacnet.specs.Bodies.{Says, led_to}
use Rattle.unitdata.specs.Hearing.{HeardContent, refuses, says}
use Rattle.headline_client.specs.Kept.{Leads}
use Rattle.headline_bacnet.specs.Network.{BringsWhatWasSaid, WasSaid}
use Rattle.headline_client.specs.Laws.{ActsHonestly, IsClient}
use Rattle.headline_bacnet.specs.Refined.{ObjectSite, Refined, ObjectCore}
use Rattle.headline_client.specs.Safe.{safe_binding, safe_with, station_of}
use Rattle.client.specs.client_tsm.declared.said.ClientSaid.{ClientSaid}
use Rattle.headline_client.specs.Heard.{said_in, said_on}
use Rattle.headline_client.specs.Told.{acts}
use Rattle.headline_client.proofs.Acting.{IsAt}
use Rattle.headline_client.proofs.Hearing.{IsBody, plan_arm}
use Rattle.headline_client.proofs.Learning.{holds, introduces, mark_refused_leads, mark_refused_same, put_binding_leads, says_instance}
use Rattle.headline_bacnet.proofs.Places.{led_back}

-- what an APDU says to a client is what it says for the book
pub body_is : (A : Type 0) (own : MaxApdu) (a : Apdu) (body : Body) → HasNamedNumbers a → Says own (apdu_of a) body →
    IsBody {A = A} (unwrap_or (invoke_id_of (apdu_of a)) 0) (message_of a) body
body_is A own (apdu.ConfirmedRequest segment accepted max_segments max_apdu invoke service octets) body named told = tt
body_is A own (apdu.UnconfirmedRequest service octets) body named told = tt
body_is A own (apdu.SimpleAck invoke service) body named told = record { answer = Simple; is = told; has = tt }
body_is A own (apdu.ComplexAck None invoke service octets) body named told = record { answer = Complex octets.now; is = told; has = refl }
body_is A own (apdu.ComplexAck (Some segment) invoke service octets) body named told = told
body_is A own (apdu.SegmentAck negative true invoke number window) body named told = tt
body_is A own (apdu.SegmentAck negative false invoke number window) body named told = tt
body_is A own (apdu.Error invoke service e) body named told = record { answer = Failed told.octets; is = told.is; has = (told.spelled, named.0, named.1) }
body_is A own (apdu.Reject invoke reason) body named told = tt
body_is A own (apdu.Abort true invoke reason) body named told = tt
body_is A own (apdu.Abort false invoke reason) body named told = tt

-- what a client takes stays
pub accepts_stay : {A : Type 0} (now : ℕ) (change : ClientTsmChange A) (st : ClientTsmState A) → (committed now change st).accepts ≡ st.accepts
accepts_stay now Stays st = refl
accepts_stay now (Opens o) st = refl
accepts_stay now (Sends place sending) st = refl
accepts_stay now (Gathers place segment octets) st = refl
accepts_stay now (Renews place) st = refl
accepts_stay now (Ends place) st = refl
accepts_stay now Wakes st = refl

module _ {A : Type 0} (own : Station → MaxApdu) (s : ObjectSite A) (w : ObjectCore A) (c : ClientState A) (at : IsClient own w c) where
  its : IsAt own s w (station_of c) c.bindings c.machine
  its = record { seen = at.seen; kept = at.kept.transactions }

  -- it makes one step of its client of transactions
  transacts : (from : Station) (apdu : PlainApdu) (told : ClientTold A) (next : ClientState A) →
      WasSaid (own (station_of c)) w.book (station_of c) from apdu → (does : Transacts w.book.moment from apdu c told next) →
      ActsHonestly own s w c does.tsm_told.said told.said told.outcomes next
  transacts from apdu told next said does =
      let step = does.step in
      let body = body_is A (own (station_of c)) does.apdu said.message.body does.named
      (subst (λ (x : PlainApdu). Says (own (station_of c)) x said.message.body) (sym does.is) said.body) in
      let acted = plan_arm own s w (station_of c) c.bindings c.machine its said.message said.heard from (heard_of does.apdu) body step.plan step.planned in
      let told_is : told ≡ told_of w.book.moment c.mac (told_of_plan step.plan) =
      does.told_is ∙ ap (λ (x : ClientTsmTold A). told_of w.book.moment c.mac x) step.told_is in
      let next_is : next ≡ record c { machine = committed w.book.moment step.plan.change c.machine } =
      does.new_is ∙ ap (λ (x : ClientTsmState A). record c { machine = x }) step.left_is in
      subst (λ (x : List (ClientSaid A)). ActsHonestly own s w c x told.said told.outcomes next) (sym (ap (λ (x : ClientTsmTold A). x.said) step.told_is))
      (subst (λ (x : ClientState A). ActsHonestly own s w c step.plan.said told.said told.outcomes x) (sym next_is)
      (subst (λ (x : ClientTold A). ActsHonestly own s w c step.plan.said x.said x.outcomes
      (record c { machine = committed w.book.moment step.plan.change c.machine })) (sym told_is) (record {
        parcels_are = refl;
        written = acted.written;
        refined = acted.refined;
        closed = acted.closed;
        stays = refl;
        kept = record {
          transactions = acted.kept;
          bindings = at.kept.bindings;
          code =
              subst (λ (x : PlainAccepts). apdu_code x.max_apdu < 16) (sym (accepts_stay w.book.moment step.plan.change c.machine)) at.kept.code;
        };
      })))

  -- it says and tells nothing, and has other bindings
  held : (bindings : List Binding) (told : ClientTold A) (next : ClientState A) → Holds bindings c told next →
      (Refined s w (acts own (station_of c) [] [] (safe_with own bindings c.machine) w)) → AllByRecursion (Leads c.net) bindings →
      ActsHonestly own s w c [] told.said told.outcomes next
  held bindings told next does refined kept =
      subst (λ (x : ClientState A). ActsHonestly own s w c [] told.said told.outcomes x) (sym does.left)
      (subst (λ (x : ClientTold A). ActsHonestly own s w c [] x.said x.outcomes (record c { bindings = bindings })) (sym does.silent) (record {
        parcels_are = refl;
        written = tt;
        refined = refined;
        closed = tt;
        stays = refl;
        kept = record { transactions = at.kept.transactions; bindings = kept; code = at.kept.code };
      }))

  -- it learns of an unconfirmed request
  learnt : (from : Station) (way : Way) (service : ℕ) (octets : List ℕ) (told : ClientTold A) (next : ClientState A) → led_to c.net way ≡ from →
      WasSaid (own (station_of c)) w.book (station_of c) from (plain.unconfirmed service octets) → Learnt from way service octets c told next →
      ActsHonestly own s w c [] told.said told.outcomes next
  learnt from way service octets told next leads said does = ⊎_elim
      (λ (k : Introduces from way service octets c.bindings does.bindings). held does.bindings told next does.holds
      (subst (λ (l : List Binding). Refined s w (acts own (station_of c) [] [] (safe_with own l c.machine) w)) (sym k.bound)
      (introduces own s w (station_of c) c.bindings c.machine at.seen from way k.i_am said.message said.heard said.from_is
      (says_instance service octets k.i_am said.message.body k.is said.body)))
      (subst (λ (l : List Binding). AllByRecursion (Leads c.net) l) (sym k.bound)
      (put_binding_leads c.net (introduced from way k.i_am) c.bindings leads at.kept.bindings)))
      (λ (k : Ignores service octets c.bindings does.bindings). held does.bindings told next does.holds
      (holds own s w (station_of c) c.bindings c.machine at.seen does.bindings (ap (λ (l : List Binding). map safe_binding l) k.same))
      (subst (λ (l : List Binding). AllByRecursion (Leads c.net) l) (sym k.same) at.kept.bindings))
      does.learns

  -- what it does on a message
  does : (from : Station) (way : Way) (content : HeardContent) (told : ClientTold A) (next : ClientState A) → led_to c.net way ≡ from →
      ((a : PlainApdu) → content ≡ says a → WasSaid (own (station_of c)) w.book (station_of c) from a) →
      (d : Does w.book.moment from way content c told next) →
      ActsHonestly own s w c (said_on w.book.moment from way content c told next d) told.said told.outcomes next
  does from way (says (plain.unconfirmed service octets)) told next leads said d = learnt from way service octets told next leads (said _ refl) d
  does from way (says (plain.confirmed segment accepted max_segments max_apdu invoke service octets)) told next leads said d =
      transacts from _ told next (said _ refl) d
  does from way (says (plain.simple_ack invoke service)) told next leads said d = transacts from _ told next (said _ refl) d
  does from way (says (plain.complex_ack segment invoke service octets)) told next leads said d = transacts from _ told next (said _ refl) d
  does from way (says (plain.segment_ack negative server invoke number window)) told next leads said d = transacts from _ told next (said _ refl) d
  does from way (says (plain.error_pdu invoke service class code first)) told next leads said d = transacts from _ told next (said _ refl) d
  does from way (says (plain.reject_pdu invoke reason)) told next leads said d = transacts from _ told next (said _ refl) d
  does from way (says (plain.abort_pdu server invoke reason)) told next leads said d = transacts from _ told next (said _ refl) d
  does from way (refuses r) told next leads said d = held (mark_refused r.reason r.net c.bindings) told next d
      (holds own s w (station_of c) c.bindings c.machine at.seen (mark_refused r.reason r.net c.bindings) (mark_refused_same r.reason r.net c.bindings))
      (mark_refused_leads c.net r.reason r.net c.bindings at.kept.bindings)

  pub hears : (from : Mac) (to : Target) (npdu : List ℕ) (told : ClientTold A) (next : ClientState A) →
      BringsWhatWasSaid (own (station_of c)) w.book (station_of c) from to npdu → (h : ClientHears w.book.moment from to npdu c told next) →
      ActsHonestly own s w c (said_in w.book.moment from to npdu c told next h) told.said told.outcomes next
  hears from to npdu told next said (inl k) = does k.heard.station k.heard.way k.heard.content told next
      (ap (λ (x : Way). led_to c.net x) k.brings.way ∙ led_back c.net from k.heard.station) (λ a e. said k.heard a k.brings e) k.does
  hears from to npdu told next said (inr k) = held c.bindings told next (record { silent = k.silent; left = k.same })
      (holds own s w (station_of c) c.bindings c.machine at.seen c.bindings refl) at.kept.bindings
