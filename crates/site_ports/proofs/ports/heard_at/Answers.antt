use Rattle.std.proofs.Common.{◌≡◌, inl, inr, refl}
use Rattle.std.proofs.lemmas.Result.{IfOk-weaker}
use Rattle.link.specs.Step.{step_of}
use Rattle.link.specs.Up.{parcel_if}
use Rattle.link_site.specs.Steps as site
use Rattle.site_ports.proofs.Drafts.{goes_before, goes_on, left_misses, put_on}
use Rattle.site_ports.proofs.PortSteps.{hears_before, hears_stay}
use Rattle.site_ports.specs.Drafts.{drafted}
use Rattle.site_ports.proofs.ports.heard_at.Goals as goal

pub returns-in_default-clause-heard : goal.returns-in_default-clause-heard
returns-in_default-clause-heard g c = inr (record { missing = left_misses c.args.now c.args.ports.now c.args.draft.now.changes.items c.args.port c.in_default.ensures.none; same = refl }, refl)

pub heard-requires-clause-order : goal.heard-requires-clause-order
heard-requires-clause-order g c =
    goes_before c.args.now c.args.port c.args.ports.now c.in-Some.link.now c.args.draft.now.changes.items c.reach.new.self.changes.items c.index_mut.result.now (record {
      there = c.in-Some.ensures.there;
      same = c.in_ok-reach.ensures.same;
      within = c.in_ok-reach.ensures.there;
      is = c.index_mut.ensures.value;
    }) c.requires.order

pub returns-clause-heard : goal.returns-clause-heard
returns-clause-heard g c = IfOk-weaker c.heard.result _ _
    (λ up made. inl (goes_on (λ l s m. site.Hears c.args.now c.args.from c.args.octets.now c.args.stamp l s m × (parcel_if up ≡ s.up))
    c.args.now c.args.port c.args.ports.now c.in-Some.link.now c.args.draft.now.changes.items c.reach.new.self.changes.items c.index_mut.result.now c.heard.new.change (record {
      there = c.in-Some.ensures.there;
      same = c.in_ok-reach.ensures.same;
      within = c.in_ok-reach.ensures.there;
      is = c.index_mut.ensures.value;
    }) c.args.draft.now.out
    (step_of (parcel_if up) c.reach.new.self.out c.heard.new.out) c.heard.new.out (made, refl)
    (put_on c.args.port (parcel_if up) c.args.draft.now.out c.reach.new.self.out c.heard.new.out c.in_ok-reach.ensures.out c.heard.ensures.over)))
    c.heard.ensures.step

pub returns-clause-order : goal.returns-clause-order
returns-clause-order g c = IfOk-weaker c.heard.result _ _
    (λ up done. hears_before c.args.now c.args.port c.args.from c.args.octets.now c.args.stamp (drafted c.args.now c.args.ports.now c.args.draft.now) (parcel_if up) _ c.requires.order done)
    (returns-clause-heard g c)

pub returns-clause-places : goal.returns-clause-places
returns-clause-places g c = IfOk-weaker c.heard.result _ _
    (λ up done. hears_stay c.args.now c.args.port c.args.from c.args.octets.now c.args.stamp (drafted c.args.now c.args.ports.now c.args.draft.now) (parcel_if up) _ done)
    (returns-clause-heard g c)
