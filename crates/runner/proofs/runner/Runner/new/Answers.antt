use Rattle.std.proofs.Common.{[], drop, subst, sym}
use Rattle.runner.proofs.SenderLaws.{none_seen}
use Rattle.runner.proofs.runner.Runner.new.Goals as goal
use Rattle.senders.specs.Senders.{AreKnown, SendersState, senders_of}
use Rattle.world_kept.proofs.KeptLaws.{led_is_kept}

-- events led to it, and nobody was seen so far
pub invariant_of-result : goal.invariant_of-result
invariant_of-result g c =
    let w = c.into_internetwork-world.result in (
      λ led. record { past = []; behind = led_is_kept w c.into_internetwork-world.ensures.led },
      λ led whole. c.into_internetwork-world.ensures.led,
      subst (λ (s : SendersState). AreKnown s (senders_of (drop w.first_item w.items))) (sym c.new-senders.ensures)
          (none_seen (senders_of (drop w.first_item w.items))),
    )
