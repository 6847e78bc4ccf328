use Rattle.std.proofs.Common.{◌∙◌, sym, ap, subst, arith}
use Rattle.std.specs.Prelude.{slice_get}
use Rattle.buses.specs.Buses.{buses_of}
use Rattle.world_log.proofs.node_laws.Staying.{stays_at_wake}
use Rattle.world_log.specs.site_node.Steps.{IsQuiet, nothing_told}
use Rattle.world.proofs.ActingLaws.{seen}
use Rattle.world.proofs.Dues.{due_there, dues_set}
use Rattle.world.proofs.EventLaws.{before_end, read_there, rested_so, the_quiet}
use Rattle.world.proofs.Standing.{all_at, steady_rested}
use Rattle.world.proofs.internetwork.Internetwork.rest.Goals as goal
use Rattle.world.proofs.world_sites.StayLaws.{leads_still}
use Rattle.world.specs.Laws.{IsSteady}
use Rattle.world.specs.World.{WorldState}
use Rattle.world_log.specs.Log.{log_of}

-- there is a node at the place
pub index_mut-requires : goal.index_mut-requires
index_mut-requires g c =
    let lt = before_end c.self.inside.nodes.items c.args.place c.requires.quiet.n
    (ap (λ (w : WorldState _). slice_get w.nodes c.args.place) c.self.view_is ∙ c.requires.quiet.there)
    in omega (arith, lt, c.self.inside.nodes.ok.0)

pub rest_at-requires-clause-before : goal.rest_at-requires-clause-before
rest_at-requires-clause-before g c =
    let there = read_there c.self.inside.nodes.items c.args.place c.requires.quiet.n c.index_mut.result.now
    (ap (λ (w : WorldState _). slice_get w.nodes c.args.place) c.self.view_is ∙ c.requires.quiet.there)
    c.index_mut.ensures.value in
    let one = all_at (λ n. IsSteady c.self.inside.site c.self.inside.moment n) c.self.inside.nodes.items c.args.place
    c.index_mut.result.now c.self.invariant.0.each there in
    one.stands.before

pub rest_at-requires-clause-quiet : goal.rest_at-requires-clause-quiet
rest_at-requires-clause-quiet g c =
    let there = read_there c.self.inside.nodes.items c.args.place c.requires.quiet.n c.index_mut.result.now
    (ap (λ (w : WorldState _). slice_get w.nodes c.args.place) c.self.view_is ∙ c.requires.quiet.there)
    c.index_mut.ensures.value in
    the_quiet c.self.inside.site c.self.inside.moment c.self.inside.nodes.items (log_of c.self.inside.log)
    (buses_of c.self.inside.buses) c.args.place c.index_mut.result.now there c.args.self.now c.self.view_is
    c.requires.quiet

pub rest_at-requires-clause-there : goal.rest_at-requires-clause-there
rest_at-requires-clause-there g c =
    let there = read_there c.self.inside.nodes.items c.args.place c.requires.quiet.n c.index_mut.result.now
    (ap (λ (w : WorldState _). slice_get w.nodes c.args.place) c.self.view_is ∙ c.requires.quiet.there)
    c.index_mut.ensures.value in
    due_there c.self.inside.dues c.self.inside.nodes.items c.args.place c.index_mut.result.now c.self.invariant.2 there

pub invariant_of-self : goal.invariant_of-self
invariant_of-self g c =
    let there = read_there c.self.inside.nodes.items c.args.place c.requires.quiet.n c.index_mut.result.now
    (ap (λ (w : WorldState _). slice_get w.nodes c.args.place) c.self.view_is ∙ c.requires.quiet.there)
    c.index_mut.ensures.value in
    let one = all_at (λ n. IsSteady c.self.inside.site c.self.inside.moment n) c.self.inside.nodes.items c.args.place
    c.index_mut.result.now c.self.invariant.0.each there in
    let stays = stays_at_wake _ c.self.inside.moment c.index_mut.result.now c.rest_at.new.node nothing_told
    one.stands c.rest_at.ensures.wakes in (
      steady_rested c.self.inside.site c.self.inside.moment c.self.inside.nodes.items
          (log_of c.self.inside.log).items c.args.place c.index_mut.result.now c.rest_at.new.node there
          c.self.invariant.0 stays,
      leads_still c.self.inside.directory c.self.inside.nodes.items c.args.place c.index_mut.result.now
          c.rest_at.new.node c.self.invariant.1 there stays.name stays.same,
      dues_set c.self.inside.dues c.rest_at.new.dues c.self.inside.nodes.items c.args.place c.rest_at.new.node
          c.rest_at.ensures.due c.self.invariant.2,
    )

pub returns : goal.returns
returns g c =
    let there = read_there c.self.inside.nodes.items c.args.place c.requires.quiet.n c.index_mut.result.now
    (ap (λ (w : WorldState _). slice_get w.nodes c.args.place) c.self.view_is ∙ c.requires.quiet.there)
    c.index_mut.ensures.value in record {
      rested = rested_so c.self.inside.site c.self.inside.moment c.self.inside.nodes.items (log_of c.self.inside.log)
          (buses_of c.self.inside.buses) c.args.place c.index_mut.result.now c.rest_at.new.node there c.args.self.now
          c.self.view_is c.rest_at.ensures.wakes;
    }
