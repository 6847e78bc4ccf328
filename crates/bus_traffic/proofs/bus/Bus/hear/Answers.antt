use Rattle.std.proofs.Common.{◌≡◌, ◌∙◌, ap, get_or, rules, subst, sym}
use Rattle.std.specs.Prelude.{Some, slice_get}
use Rattle.bus_traffic.specs.Sendings.{AreInTurn, delivered}
use Rattle.bus_traffic.specs.Settling.{AreSettled}
use Rattle.bus_traffic.specs.declared.ear.Ear.{Ear}
use Rattle.bus_traffic.proofs.Places.{one_there}
use Rattle.bus_traffic.proofs.SettlingLaws.{are_passed, settled_delivered, settled_still}
use Rattle.bus_traffic.proofs.TurnLaws.{turns_delivered}
use Rattle.bus_traffic.proofs.bus.Bus.hear.Goals as goal

pub deliver-requires-clause-passed : goal.deliver-requires-clause-passed
deliver-requires-clause-passed g c = are_passed c.args.now c.args.octets.now c.args.self.now.ears.items c.args.place
    c.ear_of.result.now c.args.self.now.recent.items c.args.self.now.settled
    (subst (λ xs. slice_get xs c.args.place ≡ Some c.ear_of.result.now) c.deref.ensures.value c.ear_of.ensures)
    c.args.self.now.done

-- the ear has the address that it had
pub count_done-self-requires : goal.count_done-self-requires
count_done-self-requires g c =
    let there =
    subst (λ xs. slice_get xs c.args.place ≡ Some c.ear_of.result.now) c.deref.ensures.value c.ear_of.ensures in
    let at : c.index_mut.result.now ≡ get_or c.args.self.now.ears.items c.args.place c.index_mut.result.now =
    search rules in
    rw (c.as_slice.ensures.value, c.as_slice-2.ensures.value, c.deliver.ensures.recent) (settled_still
    c.args.self.now.ears.items
    (delivered c.args.now c.ear_of.result.now.address c.args.octets.now c.args.self.now.recent.items)
    c.args.self.now.settled c.args.place c.ear_of.result.now c.hear.new.self
    (settled_delivered c.args.now c.ear_of.result.now.address c.args.octets.now c.args.self.now.ears.items
    c.args.self.now.recent.items c.args.self.now.settled c.args.self.now.done
    (are_passed c.args.now c.args.octets.now c.args.self.now.ears.items c.args.place c.ear_of.result.now
    c.args.self.now.recent.items c.args.self.now.settled there c.args.self.now.done))
    there (ap (λ (e : Ear). e.address) c.hear.ensures
    ∙ ap (λ (e : Ear). e.address) (one_there c.args.self.now.ears.items c.args.place c.index_mut.result.now
    c.ear_of.result.now at there)))

pub invariant_of-self : goal.invariant_of-self
invariant_of-self g c = record {
  turns = λ is. subst (λ xs. AreInTurn xs) (sym c.deliver.ensures.recent)
      (turns_delivered c.args.now c.ear_of.result.now.address c.args.octets.now c.args.self.now.recent.items
      (c.args.self.now.turns is));
  once = c.args.self.now.once;
  done = subst (λ es. AreSettled es c.deliver.new.recent.items c.count_done-self.result) c.as_slice.ensures.value
      (subst (λ xs. AreSettled c.as_slice.result.now xs c.count_done-self.result) c.as_slice-2.ensures.value
      c.count_done-self.ensures);
}
