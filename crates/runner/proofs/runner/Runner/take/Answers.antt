use Rattle.std.proofs.Common.{sym, subst, List}
use Rattle.runner.proofs.SenderLaws.{known_after_stray}
use Rattle.runner.proofs.runner.Runner.take.Goals as goal
use Rattle.senders.specs.Senders.{AreKnown, senders_of}
use Rattle.traffic.specs.declared.item.Item.{Item}
use Rattle.wire.specs.Datagrams.{datagram_of}

-- who sent the items before it is still known
pub see-requires : goal.see-requires
see-requires g c = record {
  known = subst (λ (is : List (Item _)). AreKnown c.self.inside.senders (senders_of is)) (sym c.items.ensures.kept)
      (known_after_stray c.self.inside.senders (datagram_of c.args.got.now) c.self.inside.world c.take_stray.new.world
      (c.self.invariant.2) c.in_ok-take_stray.ensures.takes);
}

-- whoever sent items then is known
pub invariant_of-self-2 : goal.invariant_of-self-2
invariant_of-self-2 g c = (
  λ led. absurd (cc led),
  λ led whole. absurd (cc led),
  subst (λ (is : List (Item _)). AreKnown c.see.new.self (senders_of is)) c.items.ensures.kept c.see.ensures.known,
)
