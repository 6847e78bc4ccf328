use Rattle.std.proofs.Common.{inl, inr, refl, None}
use Rattle.std.proofs.lemmas.Result.{on_ok_weaker}
use Rattle.link.specs.Carrying.{nothing}
use Rattle.link.specs.Step.{step_of}
use Rattle.link_site.specs.Steps as site
use Rattle.npdu.specs.declared.parcel.Parcel.{Parcel}
use Rattle.site_ports.proofs.Drafts.{goes_at, goes_before, goes_on, left_misses, put_none, put_on}
use Rattle.site_ports.proofs.PortSteps.{wakes_before}
use Rattle.site_ports.specs.Drafts.{drafted}
use Rattle.site_ports.proofs.ports.wake_one.Goals as goal

pub on_tick-requires-clause-order : goal.on_tick-requires-clause-order
on_tick-requires-clause-order g c =
    goes_before c.args.now c.args.port c.args.ports.now c.args.link.now c.args.draft.now.changes.items c.reach.new.self.changes.items c.index_mut.result.now (record {
      there = c.requires.there;
      same = c.in_ok-reach.ensures.same;
      within = c.in_ok-reach.ensures.there;
      is = c.index_mut.ensures.value;
    }) c.requires.order

pub returns-clause-wakes : goal.returns-clause-wakes
returns-clause-wakes g c = on_ok_weaker c.on_tick.result
    (λ made. goes_on (site.Wakes c.args.now) c.args.now c.args.port c.args.ports.now c.args.link.now c.args.draft.now.changes.items c.reach.new.self.changes.items c.index_mut.result.now c.on_tick.new.change (record {
      there = c.requires.there;
      same = c.in_ok-reach.ensures.same;
      within = c.in_ok-reach.ensures.there;
      is = c.index_mut.ensures.value;
    }) c.args.draft.now.out (step_of None c.reach.new.self.out c.on_tick.new.out) c.on_tick.new.out made (put_on c.args.port None c.args.draft.now.out c.reach.new.self.out c.on_tick.new.out c.in_ok-reach.ensures.out c.on_tick.ensures.over))
    c.on_tick.ensures.step

pub returns-clause-order : goal.returns-clause-order
returns-clause-order g c = on_ok_weaker c.on_tick.result
    (λ done. wakes_before c.args.now c.args.port (drafted c.args.now c.args.ports.now c.args.draft.now) _ c.requires.order done)
    (returns-clause-wakes g c)
