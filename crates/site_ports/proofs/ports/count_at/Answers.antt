use Rattle.std.proofs.Common.{inl, inr, refl, None}
use Rattle.std.proofs.lemmas.Result.{on_ok_weaker}
use Rattle.link.specs.Carrying.{nothing}
use Rattle.link.specs.Step.{step_of}
use Rattle.link_site.specs.Steps as site
use Rattle.npdu.specs.declared.parcel.Parcel.{Parcel}
use Rattle.site_ports.proofs.Drafts.{goes_at, goes_before, goes_on, left_misses, put_none, put_on}
use Rattle.site_ports.proofs.PortSteps.{counts_before, counts_stay}
use Rattle.site_ports.specs.Drafts.{drafted}
use Rattle.site_ports.proofs.ports.count_at.Goals as goal

pub returns-in_default-clause-counts : goal.returns-in_default-clause-counts
returns-in_default-clause-counts g c = inr (record { missing = left_misses c.args.now c.args.ports.now c.args.draft.now.changes.items c.args.port c.in_default.ensures.none; same = refl })

pub on_octets-requires-clause-order : goal.on_octets-requires-clause-order
on_octets-requires-clause-order g c =
    goes_before c.args.now c.args.port c.args.ports.now c.in-Some.link.now c.args.draft.now.changes.items c.reach.new.self.changes.items c.index_mut.result.now (record {
      there = c.in-Some.ensures.there;
      same = c.in_ok-reach.ensures.same;
      within = c.in_ok-reach.ensures.there;
      is = c.index_mut.ensures.value;
    }) c.requires.order

pub returns-clause-counts : goal.returns-clause-counts
returns-clause-counts g c = on_ok_weaker c.on_octets.result
    (λ made. inl (goes_on (site.Counts c.args.count c.args.now) c.args.now c.args.port c.args.ports.now c.in-Some.link.now c.args.draft.now.changes.items c.reach.new.self.changes.items c.index_mut.result.now c.on_octets.new.change (record {
      there = c.in-Some.ensures.there;
      same = c.in_ok-reach.ensures.same;
      within = c.in_ok-reach.ensures.there;
      is = c.index_mut.ensures.value;
    }) c.args.draft.now.out nothing c.reach.new.self.out made (put_none c.args.port c.args.draft.now.out c.reach.new.self.out c.in_ok-reach.ensures.out)))
    c.on_octets.ensures.step

pub returns-clause-order : goal.returns-clause-order
returns-clause-order g c = on_ok_weaker c.on_octets.result
    (λ done. counts_before c.args.count c.args.now c.args.port (drafted c.args.now c.args.ports.now c.args.draft.now) _ c.requires.order done)
    (returns-clause-counts g c)

pub returns-clause-places : goal.returns-clause-places
returns-clause-places g c = on_ok_weaker c.on_octets.result
    (λ done. counts_stay c.args.count c.args.now c.args.port (drafted c.args.now c.args.ports.now c.args.draft.now) _ done)
    (returns-clause-counts g c)
