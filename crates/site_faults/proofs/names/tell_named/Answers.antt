use Rattle.site_faults.proofs.names.tell_named.Goals as goal

pub returns-then-each : goal.returns-then-each
returns-then-each g c = (
  λ apart. record { each = c.in_ok-each.ensures.0 c.if-each.true; apart = c.in_ok-apart.ensures.0 apart },
  λ named. c.in_ok-apart.ensures.1 named.apart,
)
