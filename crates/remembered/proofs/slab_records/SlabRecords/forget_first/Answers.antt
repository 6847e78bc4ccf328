use Rattle.std.proofs.Common.{◌≡◌, ◌∙◌, sym, ap, arith, ◌∷◌}
use Rattle.std.specs.Prelude.{drop}
use Rattle.std.proofs.lemmas.Grind.{common_steps}
use Rattle.remembered.proofs.Keeping.{kept_forgotten, listed_popped}
use Rattle.remembered.proofs.Ordering.{forgotten_pair}
use Rattle.remembered.specs.Keeping.{IsKept, listed}
use Rattle.remembered.proofs.slab_records.SlabRecords.forget_first.Goals as goal

pub invariant_of-self-2 : goal.invariant_of-self-2
invariant_of-self-2 g c =
    let order : c.self.inside.order.items ≡ c.in-Some.key ∷ c.pop_front.new.self.items = grind (arith, common_steps) in
    let kept : IsKept c.self.inside.held.slots c.self.inside.keys (c.in-Some.key ∷ c.pop_front.new.self.items) = rw (← order) c.self.invariant in
    kept_forgotten c.self.inside.held.slots c.try_remove.new.self.slots c.self.inside.keys c.remove_pair.new.self c.in-Some.key c.pop_front.new.self.items
    c.in-Some-try_remove.record kept
    (grind (arith, common_steps))
    (record { changed = c.try_remove.ensures.updates.changed; others = c.try_remove.ensures.updates.others })
    (forgotten_pair c.in-Some-try_remove.record.asker c.in-Some.key c.self.inside.keys c.remove_pair.new.self c.remove_pair.ensures.entries
    c.remove_pair.ensures.values)

pub returns : goal.returns
returns g c =
    let order : c.self.inside.order.items ≡ c.in-Some.key ∷ c.pop_front.new.self.items = grind (arith, common_steps) in
    let kept : IsKept c.self.inside.held.slots c.self.inside.keys (c.in-Some.key ∷ c.pop_front.new.self.items) = rw (← order) c.self.invariant in
    listed_popped c.self.inside.held.slots c.try_remove.new.self.slots c.in-Some.key c.pop_front.new.self.items kept.apart
    (record { changed = c.try_remove.ensures.updates.changed; others = c.try_remove.ensures.updates.others }) kept.filled.0
    ∙ ap (λ ks. drop 1 (listed c.self.inside.held.slots ks)) (sym order) ∙ ap (drop 1) c.self.view_is
