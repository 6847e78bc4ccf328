use Rattle.std.proofs.Common.{ap, subst}
use Rattle.world.proofs.FindingLaws.{steady_there}
use Rattle.world.proofs.internetwork.Internetwork.node.Goals as goal
use Rattle.world.specs.Laws.{IsSteady}
use Rattle.world.specs.World.{WorldState}

pub returns-in-Some-clause-there : goal.returns-in-Some-clause-there
returns-in-Some-clause-there g c =
    let f = ap (λ (w : WorldState _). w.nodes) c.self.view_is in
    cc (f, c.as_slice.ensures.value, c.in-Some.ensures.there)

pub returns-in-Some-clause-steady : goal.returns-in-Some-clause-steady
returns-in-Some-clause-steady g c =
    subst (λ (w : WorldState _). IsSteady w.site w.moment c.in-Some.node.now) c.self.view_is
    (steady_there c.self.inside.site c.self.inside.moment c.self.inside.nodes.items c.self.inside.log.items.items
    c.args.place c.in-Some.node.now c.self.invariant.0 (cc (c.as_slice.ensures.value, c.in-Some.ensures.there)))

pub returns-in-None-clause-none : goal.returns-in-None-clause-none
returns-in-None-clause-none g c =
    let f = ap (λ (w : WorldState _). w.nodes) c.self.view_is in
    cc (f, c.as_slice.ensures.value, c.in-None.ensures.none)
