use Rattle.std.proofs.Common.{◌∙◌, ap, List}
use Rattle.link.specs.Step.{PortSent}
use Rattle.world_log.specs.site_node.Node.{home_of, node_places}
use Rattle.world.proofs.ActingLaws.{goes_on_equal, goes_on_from, logs_so, on_err, puts_so, still_ready}
use Rattle.world.proofs.acting.append_and_commit.Goals as goal
use Rattle.world_log.specs.Growing.{frames_at}
use Rattle.world_log.specs.Log.{log_of, put_in}

pub returns-in_err-begin-clause-on : goal.returns-in_err-begin-clause-on
returns-in_err-begin-clause-on g c = on_err c.from_residual.result
    (goes_on_equal (log_of c.args.log.now) (log_of c.begin.new.self) c.begin.ensures.same)

-- there is room still for its key
pub tell-requires-clause-ready : goal.tell-requires-clause-ready
tell-requires-clause-ready g c = still_ready c.args.cause c.begin.new.self c.grow.new.self c.grow.ensures.keys
    c.in_ok-begin.ensures.ready

-- all was put out, written down and told
pub returns-clause-logs : goal.returns-clause-logs
returns-clause-logs g c =
    let n = c.args.node.now in
    logs_so c.args.now n c.args.plan c.args.draft.now.out c.home-home.result c.in_ok-told.told c.args.cause
    (log_of c.args.log.now) (log_of c.begin.new.self) (log_of c.grow.new.self) (log_of c.tell.new.self)
    (c.home-home.ensures ∙ ap (λ p. home_of p) c.part.ensures) c.begin.ensures.same
    (c.in_ok-frames.ensures.grown
    ∙ ap (λ (o : List (PortSent _)). put_in c.args.now (node_places n) o (log_of c.begin.new.self)) c.replace-out.ensures.value)
    c.in_ok-told.ensures.told c.tell.ensures

pub returns-in_err-frames-clause-on : goal.returns-in_err-frames-clause-on
returns-in_err-frames-clause-on g c = on_err c.from_residual-in_err-frames.result
    (goes_on_from (log_of c.args.log.now) (log_of c.begin.new.self) (log_of c.grow.new.self) c.begin.ensures.same
    c.grow.ensures.on)

pub returns-in_err-puts-clause-on : goal.returns-in_err-puts-clause-on
returns-in_err-puts-clause-on g c = on_err c.from_residual-in_err-puts.result
    (goes_on_from (log_of c.args.log.now) (log_of c.begin.new.self) (log_of c.grow.new.self) c.begin.ensures.same
    c.grow.ensures.on)

pub returns-in_err-told-clause-on : goal.returns-in_err-told-clause-on
returns-in_err-told-clause-on g c = on_err c.from_residual-in_err-told.result
    (goes_on_from (log_of c.args.log.now) (log_of c.begin.new.self) (log_of c.grow.new.self) c.begin.ensures.same
    c.grow.ensures.on)

pub returns-clause-puts : goal.returns-clause-puts
returns-clause-puts g c = puts_so c.args.now _ _ _ _ _ _ _ c.in_ok-puts.ensures.same
    (c.in_ok-puts.ensures.items ∙ c.len-behind.ensures.count)
    (c.in_ok-puts.ensures.frames ∙ c.in_ok-frames.ensures.frames
    ∙ ap (λ (o : List (PortSent _)). frames_at (node_places c.args.node.now) o) c.replace-out.ensures.value)
    c.put.ensures
