use Rattle.site_faults.proofs.devices.tell_devices.Goals as goal

pub returns-then-few : goal.returns-then-few
returns-then-few g c = (
  λ each. record { few = c.in_ok-few.ensures.0 c.if-few.true; each = c.in_ok-each.ensures.0 each },
  λ have. c.in_ok-each.ensures.1 have.each,
)
