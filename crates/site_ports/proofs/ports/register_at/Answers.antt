use Rattle.std.proofs.Common.{inl, inr, refl, None}
use Rattle.std.proofs.lemmas.Result.{on_ok_weaker}
use Rattle.link.specs.Carrying.{nothing}
use Rattle.link.specs.Step.{step_of}
use Rattle.link_site.specs.Steps as site
use Rattle.npdu.specs.declared.parcel.Parcel.{Parcel}
use Rattle.site_ports.proofs.Drafts.{goes_at, goes_before, goes_on, left_misses, put_none, put_on}
use Rattle.site_ports.proofs.PortSteps.{registers_before}
use Rattle.site_ports.specs.Drafts.{drafted}
use Rattle.site_ports.proofs.ports.register_at.Goals as goal

pub returns-in_default-clause-registers : goal.returns-in_default-clause-registers
returns-in_default-clause-registers g c = inr (record { missing = left_misses c.args.now c.args.ports.now c.args.draft.now.changes.items c.args.port c.in_default.ensures.none; same = refl })

pub register-requires-clause-order : goal.register-requires-clause-order
register-requires-clause-order g c =
    goes_before c.args.now c.args.port c.args.ports.now c.in-Some.link.now c.args.draft.now.changes.items c.reach.new.self.changes.items c.index_mut.result.now (record {
      there = c.in-Some.ensures.there;
      same = c.in_ok-reach.ensures.same;
      within = c.in_ok-reach.ensures.there;
      is = c.index_mut.ensures.value;
    }) c.requires.order

pub returns-clause-registers : goal.returns-clause-registers
returns-clause-registers g c = on_ok_weaker c.register.result
    (λ made. inl (goes_on (site.Registers c.args.now) c.args.now c.args.port c.args.ports.now c.in-Some.link.now c.args.draft.now.changes.items c.reach.new.self.changes.items c.index_mut.result.now c.register.new.change (record {
      there = c.in-Some.ensures.there;
      same = c.in_ok-reach.ensures.same;
      within = c.in_ok-reach.ensures.there;
      is = c.index_mut.ensures.value;
    }) c.args.draft.now.out (step_of None c.reach.new.self.out c.register.new.out) c.register.new.out made (put_on c.args.port None c.args.draft.now.out c.reach.new.self.out c.register.new.out c.in_ok-reach.ensures.out c.register.ensures.over)))
    c.register.ensures.step

pub returns-clause-order : goal.returns-clause-order
returns-clause-order g c = on_ok_weaker c.register.result
    (λ done. registers_before c.args.now c.args.port (drafted c.args.now c.args.ports.now c.args.draft.now) _ c.requires.order done)
    (returns-clause-registers g c)
