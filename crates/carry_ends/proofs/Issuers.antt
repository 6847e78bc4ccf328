-- Each issue of a history is of a client that is there.
use Rattle.std.proofs.Common.{◌≡◌, ◌∙◌, refl, sym, ap, subst, ⊎_elim, ℕ, zero, suc, List, [], ◌∷◌, length, Option, Some, None}
use Rattle.std.specs.Prelude.{slice_get, slice_set}
use Rattle.apdu.specs.Apdu.{abort_pdu, complex_ack, confirmed, error_pdu, reject_pdu, segment_ack, simple_ack, unconfirmed}
use Rattle.carry_world.specs.carry_said.client.Client.{ClientState}
use Rattle.carry_world.specs.carry_said.client.ClientTold.{ClientTold}
use Rattle.carry_world.specs.carry_said.client.Hearing.{ClientHears, Does, Drops, Hears}
use Rattle.carry_world.specs.carry_said.client_tsm.Waking as client_waking
use Rattle.carry_world.specs.carry_said.client_tsm.declared.plan.TransactionOutcome.{TransactionOutcome}
use Rattle.carry_world.specs.carry_said.headline_site.headline.Happenings as core
use Rattle.carry_world.specs.carry_said.headline_site.headline.Happenings.{Fails, Gives, Outcome, closing}
use Rattle.carry_world.specs.carry_said.headline_site.headline_bacnet.Refined.{ObjectSite}
use Rattle.carry_world.specs.carry_said.headline_site.headline_client.Safe.{station_of}
use Rattle.carry_world.specs.carry_said.headline_site.headline_client.Told.{outcome_of}
use Rattle.carry_world.specs.carry_said.server_answers.Executed as told
use Rattle.carry_world.specs.Laws.{IsFresh}
use Rattle.carry_world.specs.PlainSteps.{ArePlainSteps, PlainStep, client_asks, client_hears, client_issues, client_wakes, device_hears, device_restarts, device_wakes, last_world}
use Rattle.carry_world.specs.PlainSteps.{something_passes, time_passes}
use Rattle.carry_world.specs.PlainWorld.{Key, PlainWorld, executed_told, last_key, outcomes_told}
use Rattle.history.proofs.Lists.{has_split, none_has}
use Rattle.history.specs.Lists.{Has}
use Rattle.history.specs.declared.Entry.{Entry}
use Rattle.history.specs.declared.Entry.TheVariants.{Executed, Issue, Restarted}
use Rattle.npdu.specs.declared.mac.Mac.{Mac}
use Rattle.npdu.specs.declared.mac.Station.{Station}
use Rattle.npdu.specs.declared.mac.Target.{Target}
use Rattle.npdu.specs.declared.mac.Way.{Way}
use Rattle.primitives.specs.declared.plain_data.Reply.{Reply}
use Rattle.primitives.specs.declared.plain_data.Request.{Request}
use Rattle.unitdata.specs.Hearing.{HeardContent, refuses, says}

-- a client of these is at this station
pub record IsThere {A : Type 0} (cs : List (ClientState A)) (x : Station) : Type 0 where
  pub place : ℕ
  pub client : ClientState A
  pub there : slice_get cs place ≡ Some client
  pub station : station_of client ≡ x

-- each issue is of one of them
abbrev pub IssuersAreThere : {A : Type 0} → PlainWorld A → Type 0
IssuersAreThere {A} w = (i : ℕ) (x : Station) (instance : ℕ) (request : Request A) (moment : ℕ) →
    Has w.history (Issue i x instance request moment) → IsThere w.clients x

abbrev WorldHistory : Type 0 → Type 0
WorldHistory A = List (Entry Station (Request A) (Reply A))

same_some : {X : Type 0} (x y : X) → Some x ≡ Some y → x ≡ y
same_some x y e = cc e

module _ {A : Type 0} where
  -- one of them is replaced at its station
  further : (y : ClientState A) (ys : List (ClientState A)) (x : Station) → IsThere ys x → IsThere (y ∷ ys) x
  further y ys x k = record { place = suc k.place; client = k.client; there = k.there; station = k.station }

  set_there : (cs : List (ClientState A)) (place : ℕ) (c next : ClientState A) → slice_get cs place ≡ Some c → station_of next ≡ station_of c →
      (x : Station) (at : ℕ) (z : ClientState A) → slice_get cs at ≡ Some z → station_of z ≡ x → IsThere (slice_set cs place next) x
  set_there [] place c next here same x at z there is = absurd (cc here)
  set_there (y ∷ ys) zero c next here same x zero z there is =
      let y_is_c = same_some y c here in
      let y_is_z = same_some y z there in
      record { place = 0; client = next; there = refl; station = same ∙ ap (λ (k : ClientState A). station_of k) (sym y_is_c ∙ y_is_z) ∙ is }
  set_there (y ∷ ys) zero c next here same x (suc at) z there is = record { place = suc at; client = z; there = there; station = is }
  set_there (y ∷ ys) (suc place) c next here same x zero z there is = record { place = 0; client = z; there = there; station = is }
  set_there (y ∷ ys) (suc place) c next here same x (suc at) z there is =
      further y (slice_set ys place next) x (set_there ys place c next here same x at z there is)

  set_all : (cs ds : List (ClientState A)) (place : ℕ) (c next : ClientState A) → ds ≡ slice_set cs place next → slice_get cs place ≡ Some c →
      station_of next ≡ station_of c → (x : Station) → IsThere cs x → IsThere ds x
  set_all cs ds place c next is here same x k =
      subst (λ (l : List (ClientState A)). IsThere l x) (sym is) (set_there cs place c next here same x k.place k.client k.there k.station)

  -- a client that hears stays where it is
  does_at : (now : ℕ) (from : Station) (way : Way) (content : HeardContent) (c next : ClientState A) (told : ClientTold A) →
      Does now from way content c told next → station_of next ≡ station_of c
  does_at now from way (says (unconfirmed service octets)) c next told d = ap (λ (z : ClientState A). station_of z) d.holds.left
  does_at now from way (says (confirmed segment accepted max_segments max_apdu invoke service octets)) c next told d =
      ap (λ (z : ClientState A). station_of z) d.new_is
  does_at now from way (says (simple_ack invoke service)) c next told d = ap (λ (z : ClientState A). station_of z) d.new_is
  does_at now from way (says (complex_ack segment invoke service octets)) c next told d = ap (λ (z : ClientState A). station_of z) d.new_is
  does_at now from way (says (segment_ack negative server invoke number window)) c next told d = ap (λ (z : ClientState A). station_of z) d.new_is
  does_at now from way (says (error_pdu invoke service class code first)) c next told d = ap (λ (z : ClientState A). station_of z) d.new_is
  does_at now from way (says (reject_pdu invoke reason)) c next told d = ap (λ (z : ClientState A). station_of z) d.new_is
  does_at now from way (says (abort_pdu server invoke reason)) c next told d = ap (λ (z : ClientState A). station_of z) d.new_is
  does_at now from way (refuses rejected) c next told d = ap (λ (z : ClientState A). station_of z) d.left

  hears_at : (now : ℕ) (from : Mac) (to : Target) (npdu : List ℕ) (c next : ClientState A) (told : ClientTold A) →
      ClientHears now from to npdu c told next → station_of next ≡ station_of c
  hears_at now from to npdu c next told h = ⊎_elim
      (λ (hears : Hears now from to npdu c told next). does_at now hears.heard.station hears.heard.way hears.heard.content c next told hears.does)
      (λ (drops : Drops from to npdu c told next). ap (λ (z : ClientState A). station_of z) drops.same)
      h

  -- what is told is no issue
  closing_other : (how : Outcome (Reply A)) (now j i : ℕ) (x : Station) (instance : ℕ) (request : Request A) (moment : ℕ) →
      closing how now j ≡ Issue i x instance request moment → ⊥
  closing_other (Gives r) now j i x instance request moment e = cc e
  closing_other (Fails why) now j i x instance request moment e = cc e

  told_was : (how : Outcome (Reply A)) (now : ℕ) (of : Option ℕ) (h : WorldHistory A) (i : ℕ) (x : Station) (instance : ℕ) (request : Request A)
      (moment : ℕ) → Has (core.told (closing how now) of h) (Issue i x instance request moment) → Has h (Issue i x instance request moment)
  told_was how now None h i x instance request moment there = there
  told_was how now (Some j) h i x instance request moment there = ⊎_elim
      (λ (was : Has h (Issue i x instance request moment)). was)
      (λ (new : closing how now j ≡ Issue i x instance request moment). absurd (closing_other how now j i x instance request moment new))
      (has_split h (closing how now j) there)

  outcomes_were : (c : Station) (now : ℕ) (keys : List Key) (ts : List (TransactionOutcome A)) (h : WorldHistory A) (i : ℕ) (x : Station) (instance : ℕ)
      (request : Request A) (moment : ℕ) → Has (outcomes_told c now keys ts h) (Issue i x instance request moment) →
      Has h (Issue i x instance request moment)
  outcomes_were c now keys [] h i x instance request moment there = there
  outcomes_were c now keys (t ∷ ts) h i x instance request moment there =
      told_was (outcome_of t.outcome) now (last_key c t.invoke_id keys) h i x instance request moment
      (outcomes_were c now keys ts (core.told (closing (outcome_of t.outcome) now) (last_key c t.invoke_id keys) h) i x instance request moment there)

  executed_of : (reply : Reply A) (now : ℕ) (of : Option ℕ) (h : WorldHistory A) (i : ℕ) (x : Station) (instance : ℕ) (request : Request A)
      (moment : ℕ) → Has (core.told (λ j. Executed j reply now) of h) (Issue i x instance request moment) → Has h (Issue i x instance request moment)
  executed_of reply now None h i x instance request moment there = there
  executed_of reply now (Some j) h i x instance request moment there = ⊎_elim
      (λ (was : Has h (Issue i x instance request moment)). was)
      (λ (new : Executed j reply now ≡ Issue i x instance request moment). absurd (cc new))
      (has_split h (Executed j reply now) there)

  executed_was : (now : ℕ) (e : Option (told.Executed A)) (keys : List Key) (h : WorldHistory A) (i : ℕ) (x : Station) (instance : ℕ)
      (request : Request A) (moment : ℕ) → Has (executed_told now e keys h) (Issue i x instance request moment) → Has h (Issue i x instance request moment)
  executed_was now None keys h i x instance request moment there = there
  executed_was now (Some e) keys h i x instance request moment there =
      executed_of e.reply now (last_key e.asker.station e.asker.invoke_id keys) h i x instance request moment there

  -- each step
  as_before : (w v : PlainWorld A) → v.clients ≡ w.clients → v.history ≡ w.history → IssuersAreThere w → IssuersAreThere v
  as_before w v clients history all i x instance request moment there =
      subst (λ (l : List (ClientState A)). IsThere l x) (sym clients)
      (all i x instance request moment (subst (λ (h : WorldHistory A). Has h (Issue i x instance request moment)) history there))

  step_there : (s : ObjectSite A) (w v : PlainWorld A) → PlainStep s w v → IssuersAreThere w → IssuersAreThere v
  step_there s w v (device_hears k) all i x instance request moment there =
      subst (λ (l : List (ClientState A)). IsThere l x) (sym k.clients)
      (all i x instance request moment (executed_was w.moment k.told.executed w.keys w.history i x instance request moment
      (subst (λ (h : WorldHistory A). Has h (Issue i x instance request moment)) k.history there)))
  step_there s w v (client_hears k) all i x instance request moment there =
      set_all w.clients v.clients k.place k.c k.next k.clients k.there (hears_at w.moment k.p.from k.p.to k.p.npdu k.c k.next k.told k.hears) x
      (all i x instance request moment (outcomes_were (station_of k.c) w.moment w.keys k.told.outcomes w.history i x instance request moment
      (subst (λ (h : WorldHistory A). Has h (Issue i x instance request moment)) k.history there)))
  step_there s w v (client_issues k) all i x instance request moment there = ⊎_elim
      (λ (was : Has w.history (Issue i x instance request moment)).
      set_all w.clients v.clients k.place k.c k.next k.clients k.there (ap (λ (z : ClientState A). station_of z) k.issues.left) x
      (all i x instance request moment was))
      (λ (new : one ≡ Issue i x instance request moment).
      set_all w.clients v.clients k.place k.c k.next k.clients k.there (ap (λ (z : ClientState A). station_of z) k.issues.left) x
      (record { place = k.place; client = k.c; there = k.there; station = client_is new }))
      (has_split w.history one (subst (λ (h : WorldHistory A). Has h (Issue i x instance request moment)) k.history there))
    where
      one : Entry Station (Request A) (Reply A)
      one = Issue (length w.keys) (station_of k.c) k.instance k.request w.moment

      client_is : one ≡ Issue i x instance request moment → station_of k.c ≡ x
      client_is new = cc new
  step_there s w v (client_asks k) all i x instance request moment there =
      as_before w v k.clients k.history all i x instance request moment there
  step_there s w v (client_wakes k) all i x instance request moment there =
      set_all w.clients v.clients k.place k.c _ k.clients k.there refl x
      (all i x instance request moment (outcomes_were (station_of k.c) w.moment w.keys (client_waking.woken w.moment k.c.machine.open_ones).told w.history
      i x instance request moment (subst (λ (h : WorldHistory A). Has h (Issue i x instance request moment)) k.history there)))
  step_there s w v (device_wakes k) all i x instance request moment there =
      as_before w v k.clients k.history all i x instance request moment there
  step_there s w v (device_restarts k) all i x instance request moment there = ⊎_elim
      (λ (was : Has w.history (Issue i x instance request moment)).
      subst (λ (l : List (ClientState A)). IsThere l x) (sym k.clients) (all i x instance request moment was))
      (λ (new : Restarted k.d.instance w.moment ≡ Issue i x instance request moment). absurd (cc new))
      (has_split w.history (Restarted k.d.instance w.moment)
      (subst (λ (h : WorldHistory A). Has h (Issue i x instance request moment)) k.history there))
  step_there s w v (time_passes k) all i x instance request moment there =
      as_before w v k.clients k.history all i x instance request moment there
  step_there s w v (something_passes k) all i x instance request moment there =
      as_before w v k.clients k.history all i x instance request moment there

  pub steps_there : (s : ObjectSite A) (between : List (PlainWorld A)) (w : PlainWorld A) → ArePlainSteps s between w → IssuersAreThere w →
      IssuersAreThere (last_world between w)
  steps_there s [] w steps all = all
  steps_there s (v ∷ vs) w steps all = steps_there s vs v steps.1 (step_there s w v steps.0 all)

  pub fresh_there : (s : ObjectSite A) (w : PlainWorld A) → IsFresh s w → IssuersAreThere w
  fresh_there s w fresh i x instance request moment there =
      absurd (none_has (subst (λ (h : WorldHistory A). Has h (Issue i x instance request moment)) fresh.history there))
