-- How a live run goes round its site.
use Rattle.std.proofs.Common.{arith, ◌≡◌, ◌⊎◌, ◌≤◌, ◌<◌, ◌∙◌, ◌+◌, ◌-◌, ◌^◌, inl, inr, min, refl, sym, ap, subst, ℕ, List, [], Result, Ok, Err, Some, IfOk, OnOk, length}
use Rattle.std.specs.Prelude.{slice_get}
use Rattle.std.specs.Io.KnownBytes.{Appends}
use Rattle.due_times.specs.Times.{IsFirstDue}
use Rattle.due_times.specs.Until.{Until}
use Rattle.runner.specs.world.Dues.{AreAtRest}
use Rattle.runner.specs.world.World.{WorldState}
use Rattle.runner.specs.world.site_events.declared.event.Event.{Event}
use Rattle.runner.specs.world_log.site_node.Node.{NodeState}
use Rattle.site_history.specs.Printed.{Known, line, refused_text}
use Rattle.site_live.proofs.LiveLaws.{lets_go_lap, lives_none, one_missed, passed_over}
use Rattle.site_live.specs.Laps.{GoesOn, HasNameAt, IsForth, IsInTime, WakesAt, end_of, places_left, start_of}
use Rattle.site_live.specs.Running.{LetsGo, LiveState, MissesOne, PassesOver}
use Rattle.site_live.specs.declared.lap.Lap.{Lap}
use Rattle.site_live.specs.declared.lap.Lap.TheVariants.{At, Over}
use Rattle.tags.specs.declared.fault.Fault.TheVariants.{Memory}
use Rattle.words.specs.printing.declared.spelling.Spelling.{Spelling}

-- what has come, and then fits
pub from_behind : (from place now : ℕ) (moments : List ℕ) → IsFirstDue from now moments place → from ≤ place
from_behind from place now moments first = first.behind

-- a lap that comes to the next place has fewer before it
pub laps_less : (old new : Lap) (place : ℕ) → new ≡ At (place + 1) → start_of old ≤ place → place + 1 < 2 ^ 64 →
    places_left new < places_left old
laps_less old new place is behind fits =
    let at : start_of new ≡ place + 1 = ap (λ (l : Lap). start_of l) is in
    let less : 2 ^ 64 - start_of new < 2 ^ 64 - start_of old = omega (arith, at, behind, fits) in less

pub comes_behind : (from place : ℕ) (l : Lap) → from ≤ place → from ≡ start_of l → start_of l ≤ place
comes_behind from place l behind is = omega (arith, behind, is)

module _ {A : Type 0} where
  -- the name of a node is that of the station at its place
  pub named_there : {E : Type 0} (r : Result (List ℕ) E) (octets : List ℕ) (place : ℕ) (n : NodeState A)
      (ns : List (NodeState A)) (w : WorldState A) → IfOk r (λ list. list ≡ octets) → octets ≡ n.name →
      slice_get ns place ≡ Some n → ns ≡ w.nodes → IfOk r (λ name. HasNameAt place name w)
  named_there (Ok list) octets place n ns w is named there of_world = record {
    n = n;
    there = ap (λ (ms : List (NodeState A)). slice_get ms place) (sym of_world) ∙ there;
    named = is ∙ named;
  }
  named_there (Err e) octets place n ns w is named there of_world = tt

  -- a station wakes to which a run has come
  pub wakes_here : (name : List ℕ) (place : ℕ) (old : Lap) (v w : WorldState A) → HasNameAt place name v →
      old ≡ At place → v ≡ w → WakesAt name old (At (place + 1)) w
  wakes_here name place old v w named here same = record {
    place = place;
    here = here;
    named = subst (λ (u : WorldState A). HasNameAt place name u) same named;
    next = refl;
  }

  -- .. or it is told that there is no memory for that
  pub missed : (place moment : ℕ) (old new : LiveState A) (before after : Known) →
      Appends before after (line (refused_text Memory moment)) → old.lap ≡ At place →
      new ≡ record old { lap = At (place + 1) } → moment ≡ old.runner.world.moment → MissesOne old new before after
  missed place moment old new before after p here next is = record {
    place = place;
    here = here;
    next = next;
    printed = subst (λ (n : ℕ). Appends before after (line (refused_text Memory n))) is p;
  }

  -- at an event that a script asks for it stays where it has come to
  pub stays_so : (e : Event A) (old new : Lap) (w : WorldState A) → GoesOn (Some e) old old w → new ≡ old →
      GoesOn (Some e) old new w
  stays_so e old new w stays same = subst (λ (l : Lap). GoesOn (Some e) old l w) (sym same) stays

  at_rest_in : (from start end : ℕ) (v w : WorldState A) → AreAtRest from end v → v ≡ w → from ≡ start →
      AreAtRest start end w
  at_rest_in from start end v w rest same is = subst (λ (u : WorldState A). AreAtRest start end u) same
      (subst (λ (n : ℕ). AreAtRest n end v) is rest)

  -- stations are passed over, up to this one, or to the last
  pub passes_to : (old new : LiveState A) (from place : ℕ) (w : WorldState A) → AreAtRest from place w → from ≤ place →
      w ≡ old.runner.world → from ≡ start_of old.lap → new ≡ record old { lap = At place } → PassesOver old new
  passes_to old new from place w rest forth of_run is next =
      let lap : new.lap ≡ At place = ap (λ (l : LiveState A). l.lap) next in record {
        forth = subst (λ (l : Lap). IsForth old.lap l) (sym lap) (comes_behind from place old.lap forth is);
        rest = subst (λ (l : Lap). AreAtRest (start_of old.lap) (end_of l old.runner.world) old.runner.world) (sym lap)
            (at_rest_in from (start_of old.lap) place w old.runner.world rest of_run is);
        next = next ∙ ap (λ (l : Lap). record old { lap = l }) (sym lap);
      }

  pub passes_all : (old new : LiveState A) (from : ℕ) (w : WorldState A) → AreAtRest from (length w.nodes) w →
      w ≡ old.runner.world → from ≡ start_of old.lap → new ≡ record old { lap = Over } → PassesOver old new
  passes_all old new from w rest of_run is next =
      let lap : new.lap ≡ Over = ap (λ (l : LiveState A). l.lap) next in
      let count : length w.nodes ≡ length old.runner.world.nodes = ap (λ (u : WorldState A). length u.nodes) of_run in
      record {
        forth = subst (λ (l : Lap). IsForth old.lap l) (sym lap) tt;
        rest = subst (λ (l : Lap). AreAtRest (start_of old.lap) (end_of l old.runner.world) old.runner.world) (sym lap)
            (subst (λ (n : ℕ). AreAtRest (start_of old.lap) n old.runner.world) count
            (at_rest_in from (start_of old.lap) (length w.nodes) w old.runner.world rest of_run is));
        next = next ∙ ap (λ (l : Lap). record old { lap = l }) (sym lap);
      }

  -- time passes in time up to the moment before which nothing is due, or to an earlier one
  pub in_time : (n moment next floor due : ℕ) (v w : WorldState A) → (n ≡ 1) ⊎ (moment + n ≤ next) →
      next ≡ min floor due → Until floor (λ now. AreAtRest 0 (length v.nodes) (record v { moment = now })) →
      moment ≡ v.moment → v ≡ w → IsInTime n w
  in_time n moment next floor due v w (inl one) is until at same = inl one
  in_time n moment next floor due v w (inr before) is until at same = subst (λ (u : WorldState A). IsInTime n u) same
      (inr (record { holds = λ now lt. until.holds now (omega (arith, lt, before, is, at)) }))

  -- .. and for fewer milliseconds too
  pub in_time_less : (m passed n : ℕ) (w : WorldState A) → m ≡ min passed n → 0 < passed → 1 ≤ n → IsInTime n w →
      IsInTime m w
  in_time_less m passed n w is some least (inl one) = inl (omega (arith, is, some, one))
  in_time_less m passed n w is some least (inr until) =
      inr (record { holds = λ now lt. until.holds now (omega (arith, lt, is)) })

  -- there is a station
  pub is_within : (place : ℕ) (v w : WorldState A) → place < length v.nodes → v ≡ w → place < length w.nodes
  is_within place v w lt same = subst (λ (u : WorldState A). place < length u.nodes) same lt

  -- behind a turn a run stays where that has brought it
  pub lap_left : {T E : Type 0} (r : Result T E) (s : Spelling) (old new : LiveState A) (lap : Lap) → old.lap ≡ lap →
      OnOk r (LetsGo s old new) → OnOk r (new.lap ≡ lap)
  lap_left (Ok x) s old new lap is go = lets_go_lap s old new go ∙ is
  lap_left (Err e) s old new lap is go = tt

pub ruleset name_laws = (named_there)

pub ruleset lap_laws = (missed, passes_to, passes_all, is_within, comes_behind)

pub ruleset asked_laws = (lives_none, stays_so)

pub ruleset wake_laws = (wakes_here, one_missed)

pub ruleset next_laws = (passed_over, laps_less)

pub ruleset register_laws = (from_behind)

pub ruleset time_laws = (in_time)

pub ruleset pass_laws = (lives_none, in_time_less)
