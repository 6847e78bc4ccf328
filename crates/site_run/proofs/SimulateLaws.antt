-- What the exit status tells of a run.
use Rattle.std.proofs.Common.{◌≡◌, ◌∙◌, ap, subst, ℕ, ◌≤◌, Bool, true, false, List, Result, Ok, Err, OnOk, OnErr, arith}
use Rattle.std.specs.Prelude.{if◌then◌else◌}
use Rattle.std.specs.Io.KnownBytes.{Appends}
use Rattle.script.specs.Expecting.{ExpectNothing, HasNoExpectation}
use Rattle.script.specs.Numbers.{line_numbers}
use Rattle.script.specs.declared.step.Step.{Step}
use Rattle.site_history.specs.Counting.{counts_of}
use Rattle.site_history.specs.Printed.{end_text, line}
use Rattle.site_history.specs.simulator.Judged.{instances_of, judged_of}
use Rattle.site_history.specs.simulator.carry_world.Laws.{IsLegal}
use Rattle.site_history.specs.simulator.world.World.{WorldState}
use Rattle.site_run.proofs.JudgeLaws.{nothing_unmet}
use Rattle.site_run.specs.Running.{Known, TakesSteps}
use Rattle.site_run.specs.Simulate.{IsOpened, PrintsRun, Simulates}
use Rattle.site_run.specs.declared.running.Telling.{Telling}

module _ {A : Type 0} where
  -- steps were taken where nothing was unmet before, and what there was of all is printed
  pub run_printed : {T E : Type 0} (r : Result T E) (t : Telling) (ls : List ℕ) (ss : List (Step A)) (was unmet : Bool)
      (w u : WorldState A) (old at new : Known) → was ≡ false → TakesSteps t ls ss was unmet w u old at →
      OnOk r (Appends at new (line (end_text (counts_of u.history) u.moment))) →
      IsLegal (instances_of u.site) u.history (judged_of u) → OnOk r (PrintsRun t ls ss unmet w old new)
  run_printed (Ok x) t ls ss was unmet w u old at new fresh taken ends legal = record {
    left = u;
    at_end = at;
    taken = subst (λ (b : Bool). TakesSteps t ls ss b unmet w u old at) fresh taken;
    end_printed = ends;
    legal = legal;
  }
  run_printed (Err x) t ls ss was unmet w u old at new fresh taken ends legal = tt

  -- with status 0 no expectation is unmet
  pub all_met : {T E : Type 0} (r : Result T E) (status : ℕ) (unmet : Bool) (t : Telling) (ls : List ℕ)
      (ss : List (Step A)) (w : WorldState A) (old new : Known) → OnOk r (status ≡ (if unmet then 4 else 0)) →
      OnErr r (status ≡ 1) → OnOk r (PrintsRun t ls ss unmet w old new) → status ≡ 0 →
      PrintsRun t ls ss false w old new
  all_met (Ok x) status true t ls ss w old new is failed run zero = absurd (omega (arith, is, zero))
  all_met (Ok x) status false t ls ss w old new is failed run zero = run
  all_met (Err x) status unmet t ls ss w old new is failed run zero = absurd (omega (arith, failed, zero))

  -- with status 4 one is
  pub one_unmet : {T E : Type 0} (r : Result T E) (status : ℕ) (unmet : Bool) (t : Telling) (ls : List ℕ)
      (ss : List (Step A)) (w : WorldState A) (old new : Known) → OnOk r (status ≡ (if unmet then 4 else 0)) →
      OnErr r (status ≡ 1) → OnOk r (PrintsRun t ls ss unmet w old new) → status ≡ 4 →
      PrintsRun t ls ss true w old new
  one_unmet (Ok x) status true t ls ss w old new is failed run four = run
  one_unmet (Ok x) status false t ls ss w old new is failed run four = absurd (omega (arith, is, four))
  one_unmet (Err x) status unmet t ls ss w old new is failed run four = absurd (omega (arith, failed, four))

  -- where nothing is expected, the status is 0 or 1
  pub none_unmet : {T E : Type 0} (r : Result T E) (status : ℕ) (unmet : Bool) (t : Telling) (ls : List ℕ)
      (ss : List (Step A)) (w : WorldState A) (old new : Known) → OnOk r (status ≡ (if unmet then 4 else 0)) →
      OnErr r (status ≡ 1) → OnOk r (PrintsRun t ls ss unmet w old new) → ExpectNothing ss → status ≤ 1
  none_unmet (Ok x) status unmet t ls ss w old new is failed run none =
      let met : unmet ≡ false = nothing_unmet t ls ss false unmet w run.left old run.at_end run.taken none in
      let zero : status ≡ 0 = is ∙ ap (λ (b : Bool). if b then 4 else 0) met in
      omega (arith, zero)
  none_unmet (Err x) status unmet t ls ss w old new is failed run none = omega (arith, failed)

  -- a script that expects nothing opens with such steps
  pub nothing_expected : (site script : List ℕ) (fresh : WorldState A) (ss : List (Step A)) →
      HasNoExpectation A script → IsOpened site script fresh ss → ExpectNothing ss
  nothing_expected site script fresh ss none opened = none.none ss opened.said

  -- what was opened ran
  pub simulated : (t : Telling) (unmet : Bool) (site script ls : List ℕ) (ss : List (Step A)) (w : WorldState A)
      (old new : Known) → IsOpened site script w ss → ls ≡ line_numbers script → PrintsRun t ls ss unmet w old new →
      Simulates A t unmet site script old new
  simulated t unmet site script ls ss w old new opened same run = record {
    fresh = w;
    steps = ss;
    opened = opened;
    run = subst (λ (l : List ℕ). PrintsRun t l ss unmet w old new) same run;
  }

pub ruleset open_laws = (nothing_expected)
