-- An expectation, judged.
use Rattle.std.proofs.Common.{◌≡◌, ◌∙◌, subst, ℕ, Bool, List, [], ◌∷◌, Option, Some, None, Result, OnOk, slice_get, drop}
use Rattle.object_model.specs.Objects.{PlainTable}
use Rattle.objects.specs.Machine.{reply}
use Rattle.primitives.specs.declared.plain_data.PropertyReference.{PropertyReference}
use Rattle.primitives.specs.declared.plain_data.Reply.{Reply}
use Rattle.primitives.specs.declared.plain_data.Request.TheVariants.{Read}
use Rattle.script.specs.declared.step.Step.{Step}
use Rattle.script.specs.declared.step.Step.TheVariants as step
use Rattle.site_history.specs.simulator.world.Tables.{HasTable}
use Rattle.site_history.specs.simulator.world.World.{WorldState}
use Rattle.site_history.specs.simulator.world_log.Growing.{WorldHistory}
use Rattle.script.specs.Expecting.{ExpectNothing}
use Rattle.site_run.specs.Judged.{IsJudged, IsReadOf, Replies}
use Rattle.site_run.specs.Running.{Known, PrintsStep, PrintsSteps, TakesStep, TakesSteps, at_line}
use Rattle.site_run.specs.declared.running.Telling.{Telling}
use Rattle.tags.specs.declared.object_id.ObjectId.{ObjectId}
use Rattle.site_verdicts.specs.Judged.{IsJudgedBy}
use Rattle.site_verdicts.specs.expectations.declared.expectation.Expectation.{Expectation}

module _ {A : Type 0} where
  pub judged : (e : Expectation A) (w : WorldState A) (h : WorldHistory A) (refused : ℕ) (read seen : Option (Reply A))
      (was now : Bool) → h ≡ w.history → seen ≡ read → IsReadOf e w read → IsJudgedBy e h refused seen was now →
      IsJudged e w was now
  judged e w h refused read seen was now same as_read is verdict = record {
    refused = refused;
    read = read;
    read_is = is;
    verdict = subst (λ (x : WorldHistory A). IsJudgedBy e x refused read was now) same
        (subst (λ (x : Option (Reply A)). IsJudgedBy e h refused x was now) as_read verdict);
  }

  -- the history that was seen is that of the world
  pub seen_judged : {T E : Type 0} (r : Result T E) (e : Expectation A) (w : WorldState A) (h : WorldHistory A)
      (refused : ℕ) (read : Option (Reply A)) (was now : Bool) → h ≡ w.history →
      OnOk r (IsJudgedBy e h refused read was now) → OnOk r (IsJudgedBy e w.history refused read was now)
  seen_judged r e w h refused read was now same verdict =
      subst (λ (x : WorldHistory A). OnOk r (IsJudgedBy e x refused read was now)) same verdict

  -- a step that was taken is printed
  takes_one : (t : Telling) (s : Step A) (was now : Bool) (w v : WorldState A) (old new : Known) →
      TakesStep t s was now w v old new → PrintsStep t s w v old new
  takes_one t (step.Happens e) was now w v old new taken = taken.0
  takes_one t (step.Flow n) was now w v old new taken = taken.0
  takes_one t (step.Disturbs f) was now w v old new taken = taken.0
  takes_one t (step.Expects e) was now w v old new taken = taken.0
  takes_one t (step.Shows name) was now w v old new taken = taken.0

  pub takes_all : (t : Telling) (ls : List ℕ) (ss : List (Step A)) (was now : Bool) (w v : WorldState A) (old new : Known) →
      TakesSteps t ls ss was now w v old new → PrintsSteps t ls ss w v old new
  takes_all t ls [] was now w v old new taken = (taken.0, taken.1)
  takes_all t ls (s ∷ ss) was now w v old new taken = record {
    middle = taken.middle;
    at_middle = taken.at_middle;
    first = takes_one (at_line (slice_get ls 0) t) s was taken.so_far w taken.middle old taken.at_middle taken.first;
    rest = takes_all t (drop 1 ls) ss taken.so_far now taken.middle v taken.at_middle new taken.rest;
  }

  nothing_one : (t : Telling) (s : Step A) (was now : Bool) (w v : WorldState A) (old new : Known) →
      TakesStep t s was now w v old new → ExpectNothing (s ∷ []) → now ≡ was
  nothing_one t (step.Happens e) was now w v old new taken none = taken.1
  nothing_one t (step.Flow n) was now w v old new taken none = taken.1
  nothing_one t (step.Disturbs f) was now w v old new taken none = taken.1
  nothing_one t (step.Shows name) was now w v old new taken none = taken.1
  nothing_one t (step.Expects e) was now w v old new taken none = absurd (none.0)

  -- where nothing is expected, nothing is unmet
  pub nothing_unmet : (t : Telling) (ls : List ℕ) (ss : List (Step A)) (was now : Bool) (w v : WorldState A)
      (old new : Known) → TakesSteps t ls ss was now w v old new → ExpectNothing ss → now ≡ was
  nothing_unmet t ls [] was now w v old new taken none = taken.2
  nothing_unmet t ls (s ∷ ss) was now w v old new taken none =
      nothing_unmet t (drop 1 ls) ss taken.so_far now taken.middle v taken.at_middle new taken.rest none.1
      ∙ nothing_one (at_line (slice_get ls 0) t) s was taken.so_far w taken.middle old taken.at_middle taken.first
      (none.0, tt)

pub ruleset judge_laws = (judged)

pub replies : {A : Type 0} (name : List ℕ) (w : WorldState A) (table : PlainTable A) (o : ObjectId)
    (p : PropertyReference) (r : Reply A) → HasTable name w table → r ≡ reply table (Read o p.property p.index) →
    Replies name w (Read o p.property p.index) r
replies name w table o p r has is = record { table = table; has = has; reply_is = is }

pub ruleset read_laws = (replies)
