use Rattle.std.proofs.Common.{arith, subst}
use Rattle.site_node.specs.Steps.{IsQuiet}
use Rattle.site_ports.specs.Ports.{NothingIsDue}
use Rattle.site_node.proofs.node.SiteNode.next_due.Goals as goal

-- a node is quiet where its part is and nothing is due at its ports
pub returns : goal.returns
returns g c = record {
  holds = λ now lt. subst (λ n. IsQuiet now n) c.self.view_is (record {
    part = c.next_due.ensures.holds now (omega (arith, lt, c.min.ensures));
    ports = subst (λ ls. NothingIsDue now ls) c.as_slice.ensures.value
        (c.next_due-2.ensures.holds now (omega (arith, lt, c.min.ensures)));
  });
}
