-- A wake of a server, a restart and an I-Am are lists of honest happenings.
use Rattle.std.proofs.Common.{◌≡◌, refl, sym, subst, Bool, true, false, List, [], ◌∷◌, None, arith}
use Rattle.std.specs.Prelude.{Option}
use Rattle.std.specs.List.{AllByRecursion, flat_map}
use Rattle.headline.proofs.Puts.{put_here}
use Rattle.headline.specs.Happenings.{Announces, Restarts}
use Rattle.headline.specs.Protocol.{Site}
use Rattle.headline.specs.Stations as seen
use Rattle.history.specs.Lists.{Has}
use Rattle.npdu.specs.declared.mac.Station.{Station}
use Rattle.headline_bacnet.specs.Laws.{object_laws}
use Rattle.object_model.specs.Objects.{PlainTable}
use Rattle.server_tsm.specs.remembered.Records.{forgotten, lives, said_on}
use Rattle.server_tsm.specs.remembered.declared.record.Record.{Record}
use Rattle.segments.specs.Sender.{SenderState}
use Rattle.segments.specs.declared.step.Turn.{Turn}
use Rattle.segments.specs.declared.step.Turn.TheVariants.{Waits, Sends, Ends}
use Rattle.headline_server.proofs.Going.{IsQuiet, quiet_refines, wakes_on}
use Rattle.headline_server.proofs.Keeping.{FitsSaying, one_each}
use Rattle.history.proofs.HasLaws.{all_has, has_map}
use Rattle.headline_server.proofs.Listed.{all_flat}
use Rattle.headline_server.proofs.Records.{forgotten_has, kept_has, lives_so, safe_all_said}
use Rattle.headline_server.proofs.Saying.{IsHonestlySaid, CanTell, answer_told}
use Rattle.headline_server.proofs.Sending.{again_sent}
use Rattle.headline_server.proofs.Staying.{no_site, still_served}
use Rattle.headline_server.specs.Keeping.{IsSayable, IsSentIn}
use Rattle.headline_server.specs.Laws.{AnnounceRefines, IsServed, NewIsServed, RestartKeeps, RestartRefines, SizeStays, WakeKeeps, WakeRefines}
use Rattle.headline_bacnet.specs.Refined.{ObjectCore}
use Rattle.headline_server.specs.Safe.{safe_device, safe_record}
use Rattle.server_tsm.proofs.Kept.{kept_none}
use Rattle.server_tsm.specs.Server.{ServerTsmState, committed, restarted}
use Rattle.server_tsm.specs.Steps.{on_wake, told_of_plan}
use Rattle.server_tsm.specs.Waking.{again, said_at_turn, said_on_wake, saying_at_turn, saying_by, saying_on_wake, turn_by, turn_of, turn_where, woken}
use Rattle.headline_bacnet.specs.server_answers.Plan.{Stays, Says, Gathers, GivesUp, Executes, Wakes}

module _ {A : Type 0} (s : Site Station (PlainTable A)) (w : ObjectCore A) (d : Station) (st : ServerTsmState A) (v : IsServed w d st) where
  abbrev woken_left : ServerTsmState A
  woken_left = committed w.book.moment (woken w.book.moment st.records).change st

  wakes_tells : (r : Record A) → Has st.records r → lives w.book.moment r ≡ true → CanTell d w.book.moment (safe_device woken_left) r
  wakes_tells r there living =
      let k = all_has (IsSayable d.net) st.records r v.well.sayable there in
      record {
        there = subst (λ (l : List (seen.Record Station)). Has l (safe_record r))
            (sym (safe_all_said (flat_map (saying_on_wake w.book.moment) st.records) (forgotten w.book.moment st.records)))
            (has_map safe_record (forgotten w.book.moment st.records) r (kept_has w.book.moment st.records r there living));
        living = lives_so w.book.moment r living;
        chunk = k.chunk;
        way = k.way;
      }

  turn_says : (t : Turn) (r : Record A) → Has st.records r → lives w.book.moment r ≡ true →
      AllByRecursion (IsHonestlySaid s d w.book.moment (safe_device woken_left)) (said_at_turn t w.book.moment r)
  turn_says Waits r there living = tt
  turn_says Sends r there living =
      let k = all_has (IsSayable d.net) st.records r v.well.sayable there in
      answer_told s d w.book.moment (safe_device woken_left) (again w.book.moment r.sending) r (wakes_tells r there living)
      (again_sent w.book.moment r.chunk r.answer r.sending k.sent)
  turn_says Ends r there living = tt

  wakes_says : (b : Bool) (r : Record A) → Has st.records r → lives w.book.moment r ≡ b →
      AllByRecursion (IsHonestlySaid s d w.book.moment (safe_device woken_left)) (said_at_turn (turn_where b w.book.moment r.sending) w.book.moment r)
  wakes_says true r there e = turn_says (turn_by r.sending w.book.moment) r there e
  wakes_says false r there e = tt

  -- how answers are said from now on keeps them well
  said_fits : (sending : Option SenderState) (r : Record A) → Has st.records r → IsSentIn r.chunk r.answer sending →
      FitsSaying d.net (forgotten w.book.moment st.records) (saying_by sending r)
  said_fits sending r there h = λ x living same.
      let k = all_has (IsSayable d.net) st.records r v.well.sayable there in
      subst (λ (z : Record A). IsSayable d.net (said_on r.way sending z))
      (one_each st.records r x v.well.kept.distinct there (forgotten_has w.book.moment st.records x living) (sym same))
      (record { chunk = k.chunk; way = k.way; cut = k.cut; sent = h })

  saying_fits : (t : Turn) (r : Record A) → Has st.records r →
      AllByRecursion (FitsSaying d.net (forgotten w.book.moment st.records)) (saying_at_turn t w.book.moment r)
  saying_fits Waits r there = tt
  saying_fits Sends r there =
      let k = all_has (IsSayable d.net) st.records r v.well.sayable there in
      (said_fits (again w.book.moment r.sending) r there (again_sent w.book.moment r.chunk r.answer r.sending k.sent), tt)
  saying_fits Ends r there = (said_fits None r there tt, tt)

  wake_quiet : IsQuiet s w d st (woken w.book.moment st.records)
  wake_quiet = record {
    executed = refl;
    on = wakes_on w.book d st (flat_map (saying_on_wake w.book.moment) st.records);
    fits = all_flat (FitsSaying d.net (forgotten w.book.moment st.records)) (saying_on_wake w.book.moment) st.records
        (λ r there. saying_fits (turn_of w.book.moment r) r there);
    says = all_flat (IsHonestlySaid s d w.book.moment (safe_device woken_left)) (said_on_wake w.book.moment) st.records
        (λ r there. wakes_says (lives w.book.moment r) r there refl);
  }

pub wake_refines : {A : Type 0} → WakeRefines A
wake_refines s w d st v = quiet_refines s w d st (woken w.book.moment st.records) v.device (wake_quiet s w d st v)

pub wake_keeps : {A : Type 0} → WakeKeeps A
wake_keeps w d st v =
    let plan = woken w.book.moment st.records in
    still_served w d st (committed w.book.moment plan.change st) (told_of_plan plan) plan v (on_wake refl) refl (wake_quiet (no_site st) w d st v).fits

pub restart_refines : {A : Type 0} → RestartRefines A
restart_refines s w d n st is = record { happenings = Restarts d n ∷ []; honest = (is, tt); same = refl }

pub restart_keeps : {A : Type 0} → RestartKeeps A
restart_keeps {A} w d n table st = record {
  device = put_here (object_laws A).test w.devices d (safe_device (restarted w.book.moment table st));
  well = record { sayable = tt; kept = kept_none w.book.moment };
  order = omega arith;
}

pub announce_refines : {A : Type 0} → AnnounceRefines A
announce_refines s w d n is = record { happenings = Announces d n ∷ []; honest = (is, tt); same = refl }

pub new_is_served : {A : Type 0} → NewIsServed A
new_is_served net table own = (refl, record { sayable = tt; kept = kept_none 0 })

pub size_stays : {A : Type 0} → SizeStays A
size_stays now Stays st = refl
size_stays now (Says x) st = refl
size_stays now (Gathers asked segment octets) st = refl
size_stays now (GivesUp asker) st = refl
size_stays now (Executes request r) st = refl
size_stays now (Wakes xs) st = refl
