-- What is planned for an input, before anything changes (5.4.5).
use Rattle.std.specs.Prelude.{ℕ, List, [], ◌++◌, Option, Some, None}
use Rattle.apdu.specs.declared.apdu.Segment.{Segment}
use Rattle.primitives.specs.declared.plain_data.Request.{Request}
use Rattle.remembered.specs.declared.record.Asker.{Asker}
use Rattle.remembered.specs.declared.record.Record.{Record}
use Rattle.server_answers.specs.Answering.{answer_if_whole}
use Rattle.server_answers.specs.declared.asked.Asked.{Asked}
use Rattle.server_answers.specs.Executed.{Executed}
use Rattle.server_answers.specs.declared.plan.Planned as held
use Rattle.server_answers.specs.declared.plan.Planned.TheVariants as planned
use Rattle.server_answers.specs.declared.plan.QuietChange.{QuietChange}
use Rattle.server_answers.specs.declared.plan.QuietChange.TheVariants as quietly
use Rattle.server_answers.specs.declared.plan.Saying.{Saying}
use Rattle.server_answers.specs.declared.said.ServerSaid.{ServerSaid}

-- what changes of a server: nothing; an answer is said so; a segment with these octets joins what came of a request;
-- what came of an asker's request is given up; a request is executed, and this remembered of it; the server wakes, and
-- answers are said so (5.4.5)
pub data ServerChange (A : Type 0) : Type 0 where
  Stays : ServerChange A
  Says : Saying → ServerChange A
  Gathers : Asked → Segment → List ℕ → ServerChange A
  GivesUp : Asker → ServerChange A
  Executes : Request A → Record A → ServerChange A
  Wakes : List Saying → ServerChange A

-- a change by which nothing is executed
abbrev pub change_of : {A : Type 0} → QuietChange A → ServerChange A
change_of quietly.Stays = Stays
change_of (quietly.Says saying) = Says saying
change_of (quietly.Gathers asked segment octets) = Gathers asked segment octets
change_of (quietly.GivesUp asker) = GivesUp asker
change_of (quietly.Wakes sayings) = Wakes sayings

-- said: what is said, in order; executed: the request that is executed, if one is; change: what changes
pub record ServerPlan (A : Type 0) : Type 0 where
  pub said : List (ServerSaid A)
  pub executed : Option (Executed A)
  pub change : ServerChange A

-- nothing is said or executed, and this changes
abbrev pub quiet : {A : Type 0} → ServerChange A → ServerPlan A
quiet change = record { said = []; executed = None; change = change }

-- what is planned says, executes and changes: an answer that goes whole is said from what is remembered of it
abbrev pub plan_with : {A : Type 0} → held.Planned A → ServerPlan A
plan_with (planned.Changes said change) = record { said = said; executed = None; change = change_of change }
plan_with (planned.Executes said executed r) =
    record {
      said = said ++ answer_if_whole r.sending r;
      executed = Some executed;
      change = Executes executed.request r;
    }

-- what a plan holds says, executes and changes: nothing where it holds nothing
abbrev pub plan_of : {A : Type 0} → Option (held.Planned A) → ServerPlan A
plan_of None = quiet Stays
plan_of (Some plan) = plan_with plan
