-- Turns of a live run, one after another.
use Rattle.std.proofs.Common.{arith, ◌≡◌, ◌≤◌, ◌∙◌, inl, inr, refl, sym, ap, subst, append_assoc, Bool, true, ℕ, List, [], ◌∷◌, ◌++◌, Option, None, Result, Ok, Err, OnOk, drop, length}
use Rattle.std.proofs.Math.Seq.{drop-append_seam}
use Rattle.std.proofs.lemmas.Grind.{common_steps}
use Rattle.std.proofs.lemmas.List.{append-nil}
use Rattle.std.specs.List.{AllByRecursion}
use Rattle.std.specs.Io.KnownBytes.{Appends}
use Rattle.profile.specs.Times.{MAX_TICK_MS}
use Rattle.runner.specs.simulator.Laws.{IsLed}
use Rattle.runner.specs.world.Keeping.{Keeps}
use Rattle.runner.specs.world.Step.{IsSoundIfAny}
use Rattle.runner.specs.world_log.Growing.{WorldHistory}
use Rattle.runner.specs.world.World.{WorldState}
use Rattle.runner.specs.world.site_events.declared.event.Event.{Event}
use Rattle.runner.proofs.TurnLaws.{turn_goes_on, turn_leads}
use Rattle.runner.specs.Laws.{Turn}
use Rattle.runner.specs.Runner.{RunnerState}
use Rattle.runner.specs.Turns.{IsTurn}
use Rattle.runner.specs.declared.turned.Turned.{Turned}
use Rattle.site_live.specs.Printed.{turn_text}
use Rattle.site_live.proofs.CountLaws.{counted_all, counted_both, counted_none}
use Rattle.site_live.specs.Laps.{GoesOn}
use Rattle.site_live.specs.Running.{Cause, HandsOut, IsThere, IsToldOf, LetsGo, LiveState, Lives, MissesOne, Move, PassesOver, PrintsMoves, PrintsNothing, PrintsOne, PrintsTurn, asked_among, asked_for, asked_to, cause_text, handed_at, handed_by, handed_in, has_no_time, misses, passes, printed_by, printed_in, refuses, takes, turned_to, wants_memory}
use Rattle.site_live.specs.Runs.{PrintsLiveRun, begun}
use Rattle.site_live.specs.Steps.{IsNoTime, asked_at, asked_in, asked_of, refused_at}
use Rattle.site_live.specs.declared.lap.Lap.{Lap}
use Rattle.script.specs.declared.step.Step.{Step}
use Rattle.script.specs.declared.step.Step.TheVariants.{Flow}
use Rattle.site_history.specs.Asked.{Asked, refused_time_text}
use Rattle.site_history.specs.Counting.{counted_on, counts_of, none_counted}
use Rattle.site_history.specs.Printed.{Known, end_text, line, refused_text}
use Rattle.site_history.specs.declared.counting.Counts.{Counts}
use Rattle.tags.specs.declared.fault.Fault.{Fault}
use Rattle.tags.specs.declared.fault.Fault.TheVariants.{Memory, NoSuch}
use Rattle.wire.specs.Datagrams.{Datagram}
use Rattle.words.specs.printing.declared.spelling.Spelling.{Spelling}
use Rattle.words.specs.printing.declared.spelling.Spelling.TheVariants.{Names, Numbers}
use Rattle.world_kept.proofs.DeedLaws.{leads_both, leads_still}
use Rattle.world_kept.proofs.KeptLaws.{kept_is_legal}
use Rattle.world_kept.specs.Deeds.{LeadsTo}
use Rattle.world_past.proofs.KeepingLaws.{keeps_all}
use Rattle.world_past.proofs.RunningLaws.{keeps_forgotten, keeps_handed}

-- a list without an element
pub none_left : {X : Type 0} (xs : List X) → length xs ≡ 0 → xs ≡ []
none_left [] e = refl
none_left (x ∷ xs) e = absurd (omega (arith, e))

module _ {A : Type 0} where
  -- a time that doesn't pass for a step is refused, and no other
  none_refused : (n : ℕ) → IsNoTime n → refused_at {A = A} n ≡ Flow n ∷ []
  none_refused n none = elim none [
    | inl few ↦ grind (arith, common_steps)
    | inr many ↦ grind (arith, common_steps)
  ]

  time_unrefused : (n : ℕ) → 1 ≤ n → n ≤ MAX_TICK_MS → refused_at {A = A} n ≡ []
  time_unrefused n least most = grind (arith, common_steps)

  join : (spelling : Spelling) (ms ns : List (Move A)) (old mid new : LiveState A) (before at after : Known) →
      PrintsMoves spelling ms old mid before at → PrintsMoves spelling ns mid new at after →
      PrintsMoves spelling (ms ++ ns) old new before after
  join spelling [] ns old mid new before at after p q =
      subst (λ (r : LiveState A). PrintsMoves spelling ns r new before after) (p.0)
      (subst (λ (k : Known). PrintsMoves spelling ns mid new k after) (p.1) q)
  join spelling (m ∷ ms) ns old mid new before at after p q = record {
    middle = p.middle;
    at_middle = p.at_middle;
    first = p.first;
    rest = join spelling ms ns p.middle mid new p.at_middle at after p.rest q;
  }

  among_both : (ms ns : List (Move A)) → asked_among (ms ++ ns) ≡ asked_among ms ++ asked_among ns
  among_both [] ns = refl
  among_both (m ∷ ms) ns =
      ap (λ (l : List (Step A)). asked_to m ++ l) (among_both ms ns)
      ∙ sym (append_assoc (asked_to m) (asked_among ms) (asked_among ns))

  -- a refusal is printed, and nothing else
  pub nothing_printed : (fault : Fault) (moment : ℕ) (r : LiveState A) (before after : Known) →
      moment ≡ r.runner.world.moment → Appends before after (line (refused_text fault moment)) →
      PrintsNothing (refused_text fault r.runner.world.moment) r r before after
  nothing_printed fault moment r before after at p = record {
    same = refl;
    printed = subst (λ (n : ℕ). Appends before after (line (refused_text fault n))) at p;
  }

  pub no_time_printed : (s : Spelling) (l : Option ℕ) (n : ℕ) (fault : Fault) (moment : ℕ) (r : LiveState A)
      (before after : Known) → moment ≡ r.runner.world.moment →
      Appends before after (line (refused_time_text s l n fault moment)) →
      PrintsNothing (refused_time_text s l n fault r.runner.world.moment) r r before after
  no_time_printed s l n fault moment r before after at p = record {
    same = refl;
    printed = subst (λ (m : ℕ). Appends before after (line (refused_time_text s l n fault m))) at p;
  }

  -- a runner of which entries were handed out is led where it was before
  led_handed : (s : Spelling) (l h : LiveState A) → HandsOut s l h → h.runner.is_led ≡ true → l.runner.is_led ≡ true
  led_handed Names l h same led = subst (λ (x : LiveState A). x.runner.is_led ≡ true) same led
  led_handed Numbers l h (inl same) led = subst (λ (x : LiveState A). x.runner.is_led ≡ true) same led
  led_handed Numbers l h (inr all) led = subst (λ (x : LiveState A). x.runner.is_led ≡ true) all led

  -- .. and is kept still
  keeps_handed_out : (s : Spelling) (past : WorldHistory A) (w : WorldState A) (l h : LiveState A)
      (hands : HandsOut s l h) → Keeps past w l.runner.world → Keeps (past ++ handed_at s l h hands) w h.runner.world
  keeps_handed_out Names past w l h same keeps =
      subst (λ (x : WorldHistory A). Keeps x w h.runner.world) (sym (append-nil past))
      (subst (λ (x : LiveState A). Keeps past w x.runner.world) (sym same) keeps)
  keeps_handed_out Numbers past w l h (inl same) keeps =
      subst (λ (x : WorldHistory A). Keeps x w h.runner.world) (sym (append-nil past))
      (subst (λ (x : LiveState A). Keeps past w x.runner.world) (sym same) keeps)
  keeps_handed_out Numbers past w l h (inr all) keeps =
      subst (λ (x : LiveState A). Keeps (past ++ l.runner.world.history) w x.runner.world) (sym all)
      (keeps_handed past w l.runner.world keeps)

  -- what turns do to a whole world of which the runner's is kept, where these entries are handed out
  abbrev pub LeadsOn : (handed : WorldHistory A) → (old new : LiveState A) → Type 0
  LeadsOn handed old new = (old.runner.is_led ≡ true) ×
      ((past : WorldHistory A) (w : WorldState A) → IsLed w → Keeps past w old.runner.world →
      LeadsTo (past ++ handed) w new.runner.world)

  turn_on : (s : Spelling) (t : Turn A) (old new : LiveState A) (before after : Known)
      (p : PrintsTurn s t old new before after) → new.runner.is_led ≡ true →
      LeadsOn (handed_at s (turned_to p.left new.lap old) p.lets_go.handed p.lets_go.hands) old new
  turn_on s t old new before after p led =
      let go = p.lets_go in
      let left : LiveState A = turned_to p.left new.lap old in
      let was : go.handed.runner.is_led ≡ true = sym (ap (λ (l : LiveState A). l.runner.is_led) go.rest) ∙ led in
      let on = turn_leads t.next t.latest old.runner p.left t.result p.sound p.turned
      (led_handed s left go.handed go.hands was) in (
        on.0,
        λ past w is_led keeps.
            let there = on.1 past w is_led keeps in record {
              whole = there.whole;
              events = there.events;
              sound = there.sound;
              runs = there.runs;
              led = there.led;
              keeps = keeps_forgotten (past ++ handed_at s left go.handed go.hands) there.whole go.handed.runner.world
                  new.runner.world (keeps_handed_out s past there.whole left go.handed go.hands there.keeps) go.forgets;
            },
      )

  -- where the runner stays as it is, nothing is handed out
  still_on : (old new : LiveState A) → new.runner ≡ old.runner → new.runner.is_led ≡ true → LeadsOn [] old new
  still_on old new same led = (
    sym (ap (λ (r : RunnerState A). r.is_led) same) ∙ led,
    λ past w is_led keeps. subst (λ (h : WorldHistory A). LeadsTo h w new.runner.world) (sym (append-nil past))
        (leads_still past w new.runner.world is_led
        (subst (λ (r : RunnerState A). Keeps past w r.world) (sym same) keeps)),
  )

  move_on : (s : Spelling) (m : Move A) (old new : LiveState A) (before after : Known)
      (p : PrintsOne s m old new before after) → new.runner.is_led ≡ true →
      LeadsOn (handed_by s m old new before after p) old new
  move_on s (takes t) old new before after p led = turn_on s t old new before after p led
  move_on s (refuses c) old new before after p led =
      still_on old new (ap (λ (l : LiveState A). l.runner) p.printed.same) led
  move_on s misses old new before after p led = still_on old new (ap (λ (l : LiveState A). l.runner) p.next) led
  move_on s passes old new before after p led = still_on old new (ap (λ (l : LiveState A). l.runner) p.0.next) led

  -- .. all of them
  pub lives_on_past : (s : Spelling) (ms : List (Move A)) (old new : LiveState A) (before after : Known)
      (p : PrintsMoves s ms old new before after) → new.runner.is_led ≡ true →
      LeadsOn (handed_in s ms old new before after p) old new
  lives_on_past s [] old new before after p led = still_on old new (ap (λ (l : LiveState A). l.runner) p.0) led
  lives_on_past s (m ∷ ms) old new before after p led =
      let rest = lives_on_past s ms p.middle new p.at_middle after p.rest led in
      let first = move_on s m old p.middle before p.at_middle p.first (rest.0) in
      let here = handed_by s m old p.middle before p.at_middle p.first in
      let later = handed_in s ms p.middle new p.at_middle after p.rest in (
        first.0,
        λ past w is_led keeps.
            let a = first.1 past w is_led keeps in
            let b = rest.1 (past ++ here) a.whole a.led a.keeps in
            subst (λ (h : WorldHistory A). LeadsTo h w new.runner.world) (append_assoc past here later)
            (leads_both (past ++ here) ((past ++ here) ++ later) w p.middle.runner.world new.runner.world a b),
      )

  -- what was printed is what was handed out, with what is kept
  handed_splits : (s : Spelling) (l h : LiveState A) (hands : HandsOut s l h) →
      l.runner.world.history ≡ handed_at s l h hands ++ h.runner.world.history
  handed_splits Names l h same = sym (ap (λ (x : LiveState A). x.runner.world.history) same)
  handed_splits Numbers l h (inl same) = sym (ap (λ (x : LiveState A). x.runner.world.history) same)
  handed_splits Numbers l h (inr all) = sym (append-nil l.runner.world.history)
      ∙ ap (λ (x : LiveState A). l.runner.world.history ++ x.runner.world.history) (sym all)

  turn_prints : (s : Spelling) (t : Turn A) (old new : LiveState A) (before after : Known)
      (p : PrintsTurn s t old new before after) →
      old.runner.world.history ++ drop (length old.runner.world.history) p.left.world.history
      ≡ handed_at s (turned_to p.left new.lap old) p.lets_go.handed p.lets_go.hands ++ new.runner.world.history
  turn_prints s t old new before after p =
      let on = turn_goes_on t.next t.latest old.runner p.left t.result p.turned in
      let left : LiveState A = turned_to p.left new.lap old in
      let here = handed_at s left p.lets_go.handed p.lets_go.hands in
      let was = old.runner.world.history in
      ap (λ (h : WorldHistory A). was ++ h)
      (ap (λ (h : WorldHistory A). drop (length was) h) on.is ∙ drop-append_seam was on.more) ∙ sym on.is
      ∙ handed_splits s left p.lets_go.handed p.lets_go.hands
      ∙ ap (λ (h : WorldHistory A). here ++ h) p.lets_go.forgets.keeps.history

  still_prints : (old new : LiveState A) → new.runner ≡ old.runner →
      old.runner.world.history ++ [] ≡ new.runner.world.history
  still_prints old new same =
      append-nil old.runner.world.history ∙ ap (λ (r : RunnerState A). r.world.history) (sym same)

  move_prints : (s : Spelling) (m : Move A) (old new : LiveState A) (before after : Known)
      (p : PrintsOne s m old new before after) →
      old.runner.world.history ++ printed_by s m old new before after p
      ≡ handed_by s m old new before after p ++ new.runner.world.history
  move_prints s (takes t) old new before after p = turn_prints s t old new before after p
  move_prints s (refuses c) old new before after p =
      still_prints old new (ap (λ (l : LiveState A). l.runner) p.printed.same)
  move_prints s misses old new before after p = still_prints old new (ap (λ (l : LiveState A). l.runner) p.next)
  move_prints s passes old new before after p = still_prints old new (ap (λ (l : LiveState A). l.runner) p.0.next)

  pub all_printed : (s : Spelling) (ms : List (Move A)) (old new : LiveState A) (before after : Known)
      (p : PrintsMoves s ms old new before after) →
      old.runner.world.history ++ printed_in s ms old new before after p
      ≡ handed_in s ms old new before after p ++ new.runner.world.history
  all_printed s [] old new before after p = still_prints old new (ap (λ (l : LiveState A). l.runner) p.0)
  all_printed s (m ∷ ms) old new before after p =
      let was = old.runner.world.history in
      let mid = p.middle.runner.world.history in
      let more = printed_by s m old p.middle before p.at_middle p.first in
      let rest = printed_in s ms p.middle new p.at_middle after p.rest in
      let here = handed_by s m old p.middle before p.at_middle p.first in
      let later = handed_in s ms p.middle new p.at_middle after p.rest in
      sym (append_assoc was more rest)
      ∙ ap (λ (h : WorldHistory A). h ++ rest) (move_prints s m old p.middle before p.at_middle p.first)
      ∙ append_assoc here mid rest
      ∙ ap (λ (h : WorldHistory A). here ++ h) (all_printed s ms p.middle new p.at_middle after p.rest)
      ∙ sym (append_assoc here later new.runner.world.history)

  -- letting go, a run stays where it has come to
  lap_handed : (s : Spelling) (l h : LiveState A) → HandsOut s l h → h.lap ≡ l.lap
  lap_handed Names l h same = ap (λ (x : LiveState A). x.lap) same
  lap_handed Numbers l h (inl same) = ap (λ (x : LiveState A). x.lap) same
  lap_handed Numbers l h (inr all) = ap (λ (x : LiveState A). x.lap) all

  pub lets_go_lap : (s : Spelling) (old new : LiveState A) → LetsGo s old new → new.lap ≡ old.lap
  lets_go_lap s old new go = ap (λ (l : LiveState A). l.lap) go.rest ∙ lap_handed s old go.handed go.hands

  -- how many were handed out is counted
  counts_handed : (s : Spelling) (l h : LiveState A) (hands : HandsOut s l h) →
      h.counts ≡ counted_on l.counts (handed_at s l h hands)
  counts_handed Names l h same = ap (λ (x : LiveState A). x.counts) same ∙ sym (counted_none A l.counts)
  counts_handed Numbers l h (inl same) = ap (λ (x : LiveState A). x.counts) same ∙ sym (counted_none A l.counts)
  counts_handed Numbers l h (inr all) = ap (λ (x : LiveState A). x.counts) all

  counts_still : (old new : LiveState A) → new.counts ≡ old.counts → new.counts ≡ counted_on {A = A} old.counts []
  counts_still old new same = same ∙ sym (counted_none A old.counts)

  move_counts : (s : Spelling) (m : Move A) (old new : LiveState A) (before after : Known)
      (p : PrintsOne s m old new before after) →
      new.counts ≡ counted_on old.counts (handed_by s m old new before after p)
  move_counts s (takes t) old new before after p =
      ap (λ (l : LiveState A). l.counts) p.lets_go.rest
      ∙ counts_handed s (turned_to p.left new.lap old) p.lets_go.handed p.lets_go.hands
  move_counts s (refuses c) old new before after p =
      counts_still old new (ap (λ (l : LiveState A). l.counts) p.printed.same)
  move_counts s misses old new before after p = counts_still old new (ap (λ (l : LiveState A). l.counts) p.next)
  move_counts s passes old new before after p = counts_still old new (ap (λ (l : LiveState A). l.counts) p.0.next)

  pub counts_on_past : (s : Spelling) (ms : List (Move A)) (old new : LiveState A) (before after : Known)
      (p : PrintsMoves s ms old new before after) →
      new.counts ≡ counted_on old.counts (handed_in s ms old new before after p)
  counts_on_past s [] old new before after p = counts_still old new (ap (λ (l : LiveState A). l.counts) p.0)
  counts_on_past s (m ∷ ms) old new before after p =
      let here = handed_by s m old p.middle before p.at_middle p.first in
      let later = handed_in s ms p.middle new p.at_middle after p.rest in
      counts_on_past s ms p.middle new p.at_middle after p.rest
      ∙ ap (λ (c : Counts). counted_on c later) (move_counts s m old p.middle before p.at_middle p.first)
      ∙ counted_both old.counts here later

module _ {A : Type 0} {spelling : Spelling} where
  -- nothing was done
  pub lives_none : (r : LiveState A) (k : Known) → Lives spelling [] r r k k
  lives_none r k = record { moves = []; printed = (refl, refl); just_these = refl }

  -- the state stayed
  pub lives_same : (old new : LiveState A) (k : Known) → new ≡ old → Lives spelling [] old new k k
  lives_same old new k same = subst (λ (r : LiveState A). Lives spelling [] old r k k) (sym same) (lives_none old k)

  -- some turns, and others
  pub lives_both : (es fs : List (Step A)) (old mid new : LiveState A) (before at after : Known) →
      Lives spelling es old mid before at → Lives spelling fs mid new at after → Lives spelling (es ++ fs) old new before after
  lives_both es fs old mid new before at after p q = record {
    moves = p.moves ++ q.moves;
    printed = join spelling p.moves q.moves old mid new before at after p.printed q.printed;
    just_these = among_both p.moves q.moves ∙ ap (λ (l : List (Step A)). l ++ asked_among q.moves) p.just_these
        ∙ ap (λ (l : List (Step A)). es ++ l) q.just_these;
  }

  -- some turns that nobody asked for, and others
  pub lives_on : (old mid new : LiveState A) (before at after : Known) → Lives spelling [] old mid before at →
      Lives spelling [] mid new at after → Lives spelling [] old new before after
  lives_on old mid new before at after p q = lives_both [] [] old mid new before at after p q

  -- a step before others
  pub step_before : (s : Step A) (ss : List (Step A)) (old mid new : LiveState A) (before at after : Known) →
      Lives spelling (asked_at s) old mid before at → Lives spelling (asked_of ss) mid new at after →
      Lives spelling (asked_of (s ∷ ss)) old new before after
  step_before s ss old mid new before at after p q =
      lives_both (asked_at s) (asked_of ss) old mid new before at after p q

  -- one thing that was done
  one_move : (m : Move A) (old new : LiveState A) (before after : Known) → PrintsOne spelling m old new before after →
      Lives spelling (asked_to m) old new before after
  one_move m old new before after p = record {
    moves = m ∷ [];
    printed = record { middle = new; at_middle = after; first = p; rest = (refl, refl) };
    just_these = append-nil (asked_to m);
  }

  -- one turn
  pub one_turn : (next : Option (Event A)) (asked : Option Asked) (latest : Option Datagram)
      (answer : Result Turned Fault) (entries : ℕ) (left : RunnerState A) (old new : LiveState A) (before after : Known) →
      IsSoundIfAny next → GoesOn next old.lap new.lap old.runner.world → IsToldOf asked spelling next →
      IsTurn next latest old.runner left answer → entries ≡ length old.runner.world.history →
      Appends before after (turn_text spelling asked answer entries left) →
      LetsGo spelling (turned_to left new.lap old) new → Lives spelling (asked_in next) old new before after
  one_turn next asked latest answer entries left old new before after sound goes_on told turned count p go =
      one_move (takes (record { next = next; latest = latest; result = answer })) old new before after (record {
        sound = sound;
        goes_on = goes_on;
        left = left;
        turned = turned;
        asked = asked;
        told = told;
        printed = subst (λ (n : ℕ). Appends before after (turn_text spelling asked answer n left)) count p;
        lets_go = go;
      })

  -- one refusal
  pub one_refusal : (c : Cause) (l : Option ℕ) (old new : LiveState A) (before after : Known) →
      IsThere c old.runner.world → PrintsNothing (cause_text spelling l c old.runner.world.moment) old new before after →
      Lives spelling (asked_for c) old new before after
  one_refusal c l old new before after there p =
      one_move (refuses c) old new before after (record { there = there; script_line = l; printed = p })

  -- a station that is missed
  pub one_missed : (old new : LiveState A) (before after : Known) → MissesOne old new before after →
      Lives spelling [] old new before after
  one_missed old new before after p = one_move misses old new before after p

  -- stations that are passed over
  pub passed_over : (old new : LiveState A) (k : Known) → PassesOver old new → Lives spelling [] old new k k
  passed_over old new k p = one_move passes old new k k (p, refl)

  -- want of memory is one
  pub memory_refused : (old new : LiveState A) (before after : Known) →
      PrintsNothing (refused_text Memory old.runner.world.moment) old new before after → Lives spelling [] old new before after
  memory_refused old new before after p = one_refusal wants_memory None old new before after tt p

  -- .. and a time that doesn't pass for a step
  pub time_refused : (n : ℕ) (l : Option ℕ) (old new : LiveState A) (before after : Known) → IsNoTime n →
      PrintsNothing (refused_time_text spelling l n NoSuch old.runner.world.moment) old new before after →
      Lives spelling (asked_at (Flow n)) old new before after
  time_refused n l old new before after none p =
      subst (λ (l : List (Step A)). Lives spelling l old new before after) (sym (none_refused n none))
      (one_refusal (has_no_time n) l old new before after none p)

  -- another passes
  pub time_passes : (n : ℕ) (old new : LiveState A) (before after : Known) → 1 ≤ n → n ≤ MAX_TICK_MS →
      Lives spelling [] old new before after → Lives spelling (asked_at (Flow n)) old new before after
  time_passes n old new before after least most p =
      subst (λ (l : List (Step A)). Lives spelling l old new before after) (sym (time_unrefused n least most)) p

  -- some turns, those that were asked for, and some more
  pub three_times : {T E : Type 0} (r : Result T E) (es : List (Step A)) (old mid next new : LiveState A)
      (k0 k1 k2 k3 : Known) → Lives spelling [] old mid k0 k1 → Lives spelling es mid next k1 k2 → OnOk r (Lives spelling [] next new k2 k3) →
      OnOk r (Lives spelling es old new k0 k3)
  three_times (Ok x) es old mid next new k0 k1 k2 k3 p q s =
      subst (λ (l : List (Step A)). Lives spelling l old new k0 k3) (append-nil es)
      (lives_both es [] old next new k0 k2 k3 (lives_both [] es old mid next k0 k1 k2 p q) s)
  three_times (Err e) es old mid next new k0 k1 k2 k3 p q s = tt

  -- the end of a run is printed
  run_of : (is_open : Bool) (steps : List (Step A)) (fresh : WorldState A) (left : LiveState A) (before at after : Known) →
      Lives spelling (asked_of steps) (begun is_open fresh) left before at → IsLed fresh →
      Appends at after
      (line (end_text (counted_on left.counts left.runner.world.history) left.runner.world.moment)) →
      PrintsLiveRun spelling is_open steps fresh before after
  run_of is_open steps fresh left before at after lives led printed =
      let told = handed_in spelling lives.moves (begun is_open fresh) left before at lives.printed in
      let all : counted_on left.counts left.runner.world.history ≡ counts_of (told ++ left.runner.world.history) =
      ap (λ (c : Counts). counted_on c left.runner.world.history)
      (counts_on_past spelling lives.moves (begun is_open fresh) left before at lives.printed)
      ∙ counted_both none_counted told left.runner.world.history
      ∙ counted_all (told ++ left.runner.world.history) in
      let on : left.runner.is_led ≡ true → LeadsTo told fresh left.runner.world =
      λ is. (lives_on_past spelling lives.moves (begun is_open fresh) left before at lives.printed is).1 [] fresh led
      (keeps_all fresh) in record {
        left = left;
        at_end = at;
        lives = lives;
        told = told;
        are_told = refl;
        are_printed = all_printed spelling lives.moves (begun is_open fresh) left before at lives.printed;
        end_printed = subst (λ (c : Counts). Appends at after (line (end_text c left.runner.world.moment))) all printed;
        past = record {
          leads = on;
          legal = λ is. let there = on is in
              kept_is_legal told left.runner.world
              (record { whole = there.whole; led = there.led; keeps = there.keeps });
        };
      }

  pub run_printed : {T E : Type 0} (r : Result T E) (is_open : Bool) (steps : List (Step A)) (fresh : WorldState A)
      (first left : LiveState A) (runner : RunnerState A) (counts : Counts) (before at after : Known) →
      first ≡ begun is_open fresh → Lives spelling (asked_of steps) first left before at → runner ≡ left.runner →
      counts ≡ left.counts → IsLed fresh →
      OnOk r (Appends at after (line (end_text (counted_on counts runner.world.history) runner.world.moment))) →
      OnOk r (PrintsLiveRun spelling is_open steps fresh before after)
  run_printed (Ok x) is_open steps fresh first left runner counts before at after opens lives its of_it led p =
      run_of is_open steps fresh left before at after
      (subst (λ (s : LiveState A). Lives spelling (asked_of steps) s left before at) opens lives) led
      (subst (λ (r : RunnerState A). Appends at after
      (line (end_text (counted_on left.counts r.world.history) r.world.moment))) its
      (subst (λ (c : Counts). Appends at after
      (line (end_text (counted_on c runner.world.history) runner.world.moment))) of_it p))
  run_printed (Err e) is_open steps fresh first left runner counts before at after opens lives its of_it led p = tt

module _ {A : Type 0} where
  -- a run begins at a world that events alone led to
  pub led_begun : (l : LiveState A) (is_open : Bool) (w : WorldState A) → l ≡ begun is_open w → IsLed w →
      IsLed l.runner.world
  led_begun l is_open w begins led = subst (λ (x : LiveState A). IsLed x.runner.world) (sym begins) led

module _ {A : Type 0} where
  -- one turn, of which was printed what is told of its event, and behind it what was printed is let go of
  pub told_turn : {T E : Type 0} (r : Result T E) (spelling : Spelling) (next : Option (Event A)) (asked told : Option Asked)
      (latest : Option Datagram) (answer : Result Turned Fault) (entries : ℕ) (left : RunnerState A) (lap : Lap)
      (first old let_go new : LiveState A) (before after : Known) → first ≡ old → IsSoundIfAny next →
      GoesOn next old.lap lap old.runner.world → IsToldOf asked spelling next →
      IsTurn next latest old.runner left answer → entries ≡ length old.runner.world.history → told ≡ asked →
      Appends before after (turn_text spelling told answer entries left) → let_go ≡ turned_to left lap old →
      OnOk r (LetsGo spelling let_go new) → OnOk r (Lives spelling (asked_in next) first new before after)
  told_turn (Ok x) spelling next asked told latest answer entries left lap first old let_go new before after begins sound goes_on may turned count is p from go =
      let same : new.lap ≡ lap = lets_go_lap spelling let_go new go ∙ ap (λ (l : LiveState A). l.lap) from in
      subst (λ (b : LiveState A). Lives spelling (asked_in next) b new before after) (sym begins)
      (one_turn next asked latest answer entries left old new before after sound
      (subst (λ (l : Lap). GoesOn next old.lap l old.runner.world) (sym same) goes_on) may turned count
      (subst (λ (a : Option Asked). Appends before after (turn_text spelling a answer entries left)) is p)
      (subst (λ (l : LiveState A). LetsGo spelling l new) (from ∙ ap (λ (l : Lap). turned_to left l old) (sym same)) go))
  told_turn (Err e) spelling next asked told latest answer entries left lap first old let_go new before after begins sound goes_on may turned count is p from go =
      tt

pub ruleset run_laws = (run_printed, led_begun)

pub ruleset refusal_laws = (nothing_printed, no_time_printed)

pub ruleset live_laws = (lives_none, lives_on, memory_refused, one_missed, passed_over, time_passes, time_refused)

-- .. where a step may leave all as it is
pub ruleset taken_laws = (lives_none, lives_same, lives_on, memory_refused, one_missed, passed_over, time_passes, time_refused)

pub ruleset step_laws = (lives_none, step_before)
