use Rattle.std.proofs.Common.{◌-◌, ◌∙◌, ap, length}
use Rattle.bus_traffic.proofs.ForgettingLaws.{known_after}
use Rattle.bus_traffic.proofs.SettlingLaws.{settled_put}
use Rattle.bus_traffic.proofs.bus.Bus.put_out.Goals as goal

-- each frame is known once still
pub invariant_of-self-clause-once : goal.invariant_of-self-clause-once
invariant_of-self-clause-once g c =
    known_after _ c.args.self.now.known.items _ c.learn.ensures.known c.args.self.now.once

pub invariant_of-self-clause-done : goal.invariant_of-self-clause-done
invariant_of-self-clause-done g c = settled_put c.args.now _ c.args.self.now.ears.items c.args.self.now.recent.items
    _ _ _ _ _ c.args.self.now.done c.follow-self.ensures.recent (ap (λ xs. length xs) c.as_slice-before.ensures.value)
    (c.saturating_sub-kept.ensures ∙ ap (λ xs. length xs - 1) c.as_slice.ensures.value) c.still_settled-self.ensures
