use Rattle.std.proofs.Common.{⊎_elim, inl, inr, refl, None}
use Rattle.std.proofs.lemmas.Result.{on_ok_weaker, IfErr-weaker}
use Rattle.link.specs.Carrying.{nothing}
use Rattle.link.specs.Step.{step_of}
use Rattle.link_site.specs.Steps as site
use Rattle.npdu.specs.declared.parcel.Parcel.{Parcel}
use Rattle.site_ports.proofs.Drafts.{goes_at, goes_before, goes_on, left_misses, put_none, put_on}
use Rattle.site_ports.proofs.PortSteps.{downs_before, downs_stay, long_one}
use Rattle.site_ports.specs.Drafts.{drafted}
use Rattle.site_ports.proofs.ports.down_one.Goals as goal

pub returns-in_default-clause-downs : goal.returns-in_default-clause-downs
returns-in_default-clause-downs g c = inr (record { missing = left_misses c.args.now c.args.ports.now c.args.draft.now.changes.items c.args.port c.in_default.ensures.none; same = refl })

pub down-requires-clause-order : goal.down-requires-clause-order
down-requires-clause-order g c =
    goes_before c.args.now c.args.port c.args.ports.now c.in-Some.link.now c.args.draft.now.changes.items c.reach.new.self.changes.items c.index_mut.result.now (record {
      there = c.in-Some.ensures.there;
      same = c.in_ok-reach.ensures.same;
      within = c.in_ok-reach.ensures.there;
      is = c.index_mut.ensures.value;
    }) c.requires.order

pub returns-clause-downs : goal.returns-clause-downs
returns-clause-downs g c = on_ok_weaker c.down.result
    (λ made. inl (goes_on (site.Downs c.args.now c.args.parcel.now) c.args.now c.args.port c.args.ports.now c.in-Some.link.now c.args.draft.now.changes.items c.reach.new.self.changes.items c.index_mut.result.now c.down.new.change (record {
      there = c.in-Some.ensures.there;
      same = c.in_ok-reach.ensures.same;
      within = c.in_ok-reach.ensures.there;
      is = c.index_mut.ensures.value;
    }) c.args.draft.now.out (step_of None c.reach.new.self.out c.down.new.out) c.down.new.out made (put_on c.args.port None c.args.draft.now.out c.reach.new.self.out c.down.new.out c.in_ok-reach.ensures.out c.down.ensures.over)))
    c.down.ensures.step

pub returns-clause-order : goal.returns-clause-order
returns-clause-order g c = on_ok_weaker c.down.result
    (λ done. downs_before c.args.now c.args.port c.args.parcel.now (drafted c.args.now c.args.ports.now c.args.draft.now) _ c.requires.order done)
    (returns-clause-downs g c)

pub returns-clause-places : goal.returns-clause-places
returns-clause-places g c = on_ok_weaker c.down.result
    (λ done. downs_stay c.args.now c.args.port c.args.parcel.now (drafted c.args.now c.args.ports.now c.args.draft.now) _ done)
    (returns-clause-downs g c)

pub returns-clause-cause : goal.returns-clause-cause
returns-clause-cause g c = IfErr-weaker c.down.result _ _
    (λ fault why. ⊎_elim (λ m. inl m) (λ long. inr (
      long.0,
      long_one _ c.args.port _ c.args.parcel.now (goes_at c.args.now c.args.port c.args.ports.now c.in-Some.link.now c.args.draft.now.changes.items c.reach.new.self.changes.items c.index_mut.result.now (record {
        there = c.in-Some.ensures.there;
        same = c.in_ok-reach.ensures.same;
        within = c.in_ok-reach.ensures.there;
        is = c.index_mut.ensures.value;
      })) (long.1),
    )) why)
    c.down.ensures.cause
