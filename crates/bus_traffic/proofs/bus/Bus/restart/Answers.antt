use Rattle.std.proofs.Common.{◌≡◌, ap, subst}
use Rattle.std.specs.Prelude.{Some, slice_get}
use Rattle.bus_traffic.specs.declared.ear.Ear.{Ear}
use Rattle.bus_traffic.proofs.SettlingLaws.{settled_still}
use Rattle.bus_traffic.proofs.bus.Bus.restart.Goals as goal

-- the ear has the address that it had
pub invariant_of-self : goal.invariant_of-self
invariant_of-self g c = record {
  turns = c.args.self.now.turns;
  once = c.args.self.now.once;
  done = settled_still c.args.self.now.ears.items c.args.self.now.recent.items c.args.self.now.settled c.args.place
      c.ear_of.result.now c.new.result c.args.self.now.done
      (subst (λ xs. slice_get xs c.args.place ≡ Some c.ear_of.result.now) c.deref.ensures.value c.ear_of.ensures)
      (ap (λ (e : Ear). e.address) c.new.ensures);
}
