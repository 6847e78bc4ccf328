use Rattle.std.proofs.Common.{◌∙◌, sym, ap, subst, arith}
use Rattle.std.proofs.lemmas.Option.{slice_get_read}
use Rattle.std.specs.Prelude.{slice_get}
use Rattle.buses.specs.Buses.{buses_of}
use Rattle.world.proofs.ActingLaws.{done_act, may_here_of, moved_not, steady_act, unchanged_act}
use Rattle.world.proofs.Dues.{due_there, dues_act}
use Rattle.world.proofs.EventLaws.{before_end, read_there}
use Rattle.world.proofs.Standing.{all_at}
use Rattle.world.proofs.internetwork.Internetwork.carry_out.Goals as goal
use Rattle.world.proofs.world_sites.StayLaws.{leads_still}
use Rattle.world.specs.Laws.{IsSteady}
use Rattle.world.specs.World.{WorldState}
use Rattle.world_log.specs.Log.{log_of}

-- there is a node at the place
pub index_mut-requires : goal.index_mut-requires
index_mut-requires g c =
    let lt = before_end c.self.inside.nodes.items c.args.place c.requires.planned.n
    (ap (λ (w : WorldState _). slice_get w.nodes c.args.place) c.self.view_is ∙ c.requires.planned.there)
    in omega (arith, lt, c.self.inside.nodes.ok.0)

pub act_at-requires-clause-stands : goal.act_at-requires-clause-stands
act_at-requires-clause-stands g c =
    let there = read_there c.self.inside.nodes.items c.args.place c.requires.planned.n c.index_mut.result.now
    (ap (λ (w : WorldState _). slice_get w.nodes c.args.place) c.self.view_is ∙ c.requires.planned.there)
    c.index_mut.ensures.value in
    let one = all_at (λ n. IsSteady c.self.inside.site c.self.inside.moment n) c.self.inside.nodes.items c.args.place
    c.index_mut.result.now c.self.invariant.0.each there in
    one.stands

pub act_at-requires-clause-planned : goal.act_at-requires-clause-planned
act_at-requires-clause-planned g c =
    let there = read_there c.self.inside.nodes.items c.args.place c.requires.planned.n c.index_mut.result.now
    (ap (λ (w : WorldState _). slice_get w.nodes c.args.place) c.self.view_is ∙ c.requires.planned.there)
    c.index_mut.ensures.value in
    may_here_of c.self.inside.site c.self.inside.moment c.self.inside.nodes.items (log_of c.self.inside.log)
    (buses_of c.self.inside.buses) c.args.place c.index_mut.result.now c.args.plan c.args.draft.now there c.args.self.now
    c.self.view_is c.requires.planned

pub act_at-requires-clause-there : goal.act_at-requires-clause-there
act_at-requires-clause-there g c =
    let there = read_there c.self.inside.nodes.items c.args.place c.requires.planned.n c.index_mut.result.now
    (ap (λ (w : WorldState _). slice_get w.nodes c.args.place) c.self.view_is ∙ c.requires.planned.there)
    c.index_mut.ensures.value in
    due_there c.self.inside.dues c.self.inside.nodes.items c.args.place c.index_mut.result.now c.self.invariant.2 there

pub invariant_of-self : goal.invariant_of-self
invariant_of-self g c =
    let there = read_there c.self.inside.nodes.items c.args.place c.requires.planned.n c.index_mut.result.now
    (ap (λ (w : WorldState _). slice_get w.nodes c.args.place) c.self.view_is ∙ c.requires.planned.there)
    c.index_mut.ensures.value in
    let may = may_here_of c.self.inside.site c.self.inside.moment c.self.inside.nodes.items (log_of c.self.inside.log)
    (buses_of c.self.inside.buses) c.args.place c.index_mut.result.now c.args.plan c.args.draft.now there c.args.self.now
    c.self.view_is c.requires.planned in
    let still = moved_not c.act_at.result c.self.inside.site c.self.inside.moment c.self.inside.nodes.items
    (log_of c.self.inside.log) (log_of c.act_at.new.log) (buses_of c.self.inside.buses) (buses_of c.act_at.new.buses)
    c.args.place c.index_mut.result.now c.act_at.new.node c.args.plan c.args.draft.now c.args.cause there c.args.self.now
    c.self.view_is may
    c.act_at.ensures.left c.act_at.ensures.unchanged in (
      steady_act c.act_at.result c.self.inside.site c.self.inside.moment c.self.inside.nodes.items
          (log_of c.self.inside.log) (log_of c.act_at.new.log) (buses_of c.self.inside.buses) (buses_of c.act_at.new.buses)
          c.args.place c.index_mut.result.now c.act_at.new.node c.args.plan c.args.draft.now c.args.cause there c.args.self.now
          c.self.view_is may
          c.act_at.ensures.left c.act_at.ensures.unchanged c.act_at.ensures.logs c.act_at.ensures.same c.self.invariant.0,
      leads_still c.self.inside.directory c.self.inside.nodes.items c.args.place c.index_mut.result.now c.act_at.new.node
          c.self.invariant.1 there still.0 still.1,
      dues_act c.act_at.result c.self.inside.dues c.act_at.new.dues c.self.inside.nodes.items c.args.place
          c.index_mut.result.now c.act_at.new.node there c.act_at.ensures.due c.act_at.ensures.unchanged
          c.act_at.ensures.kept c.self.invariant.2,
    )

pub returns-clause-done : goal.returns-clause-done
returns-clause-done g c =
    let there = read_there c.self.inside.nodes.items c.args.place c.requires.planned.n c.index_mut.result.now
    (ap (λ (w : WorldState _). slice_get w.nodes c.args.place) c.self.view_is ∙ c.requires.planned.there)
    c.index_mut.ensures.value in
    let may = may_here_of c.self.inside.site c.self.inside.moment c.self.inside.nodes.items (log_of c.self.inside.log)
    (buses_of c.self.inside.buses) c.args.place c.index_mut.result.now c.args.plan c.args.draft.now there c.args.self.now
    c.self.view_is c.requires.planned in
    done_act c.act_at.result c.self.inside.site c.self.inside.moment c.self.inside.nodes.items
    (log_of c.self.inside.log) (log_of c.act_at.new.log) (buses_of c.self.inside.buses) (buses_of c.act_at.new.buses)
    c.args.place c.index_mut.result.now c.act_at.new.node c.args.plan c.args.draft.now c.args.cause there c.args.self.now
    c.self.view_is may c.act_at.ensures.left
    c.act_at.ensures.logs c.act_at.ensures.puts

pub returns-clause-unchanged : goal.returns-clause-unchanged
returns-clause-unchanged g c =
    let there = read_there c.self.inside.nodes.items c.args.place c.requires.planned.n c.index_mut.result.now
    (ap (λ (w : WorldState _). slice_get w.nodes c.args.place) c.self.view_is ∙ c.requires.planned.there)
    c.index_mut.ensures.value in
    unchanged_act c.act_at.result c.self.inside.site c.self.inside.moment c.self.inside.nodes.items
    (log_of c.self.inside.log) (log_of c.act_at.new.log) (buses_of c.self.inside.buses) (buses_of c.act_at.new.buses)
    c.args.place c.index_mut.result.now c.act_at.new.node c.args.plan c.args.draft.now c.args.cause there c.args.self.now
    c.self.view_is
    c.act_at.ensures.unchanged c.act_at.ensures.same c.act_at.ensures.quiet
