use Rattle.std.proofs.Common.{List, map, refl, rules, subst, sym}
use Rattle.std.proofs.lemmas.List.{with_items_is}
use Rattle.bus_traffic.specs.Bus.{bus_of}
use Rattle.bus_traffic.specs.Forgetting.{ForgetsOn, KeepsEach}
use Rattle.bus_traffic.specs.declared.bus.Bus.{Bus}
use Rattle.buses.proofs.buses.Buses.forget.Goals as goal

-- each has forgotten
pub returns : goal.returns
returns g c = record {
  each = subst (λ (bs : List (Bus _)). KeepsEach (ForgetsOn c.args.now) (map (λ o. bus_of o) c.args.self.now.buses.items)
      (map (λ o. bus_of o) bs)) (sym (with_items_is c.args.self.now.buses c.forget_each.new.buses (search rules)))
      (subst (λ (bs : List (Bus _)). KeepsEach (ForgetsOn c.args.now) (map (λ o. bus_of o) bs)
      (map (λ o. bus_of o) c.forget_each.new.buses)) c.deref_mut.ensures.value c.forget_each.ensures.left);
  frames = refl;
}
