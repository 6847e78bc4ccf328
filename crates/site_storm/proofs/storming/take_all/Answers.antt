use Rattle.std.proofs.Common.{ℕ, List, OnOk, Result, Ok, Err, subst}
use Rattle.script.specs.declared.step.Step.{Step}
use Rattle.site_run.specs.simulator.world.World.{WorldState}
use Rattle.site_run.specs.Running.{Known, PrintsSteps, entries_in}
use Rattle.site_run.specs.declared.running.Telling.{Telling}
use Rattle.site_storm.specs.Raging.{Rages}
use Rattle.site_storm.specs.Storming.{StormsOver}
use Rattle.words.specs.printing.declared.spelling.Spelling.{Spelling}
use Rattle.site_storm.proofs.storming.take_all.Goals as goal

-- steps that were taken, and then a storm
storms : {T E A : Type 0} (r : Result T E) (s : Spelling) (lines : List ℕ) (steps : List (Step A)) (n : ℕ)
    (w u v : WorldState A) (lines_old lines_new old at new : Known) → PrintsSteps (entries_in s) lines steps w u old at →
    OnOk r (Rages s n u v lines_old lines_new at new) → OnOk r (StormsOver s lines steps n w v lines_old lines_new old new)
storms (Ok x) s lines steps n w u v lines_old lines_new old at new taken rages =
    record { begun = u; at_storm = at; taken = taken; rages = rages }
storms (Err e) s lines steps n w u v lines_old lines_new old at new taken rages = tt

pub returns : goal.returns
returns g c =
    storms c.rage.result c.args.spelling c.args.numbers c.args.steps c.args.weather.steps c.args.world.now
    c.take_steps.new.world c.rage.new.world (g.L.Write.contents c.args.lines.now) (g.L.Write.contents c.rage.new.lines)
    (g.W.Write.contents c.args.out.now) (g.W.Write.contents c.take_steps.new.out) (g.W.Write.contents c.rage.new.out)
    (subst (λ (t : Telling). PrintsSteps t c.args.numbers c.args.steps c.args.world.now c.take_steps.new.world
    (g.W.Write.contents c.args.out.now) (g.W.Write.contents c.take_steps.new.out)) c.entries.ensures
    c.in_ok-take_steps.ensures) c.rage.ensures
