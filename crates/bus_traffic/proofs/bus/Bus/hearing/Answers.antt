use Rattle.std.proofs.Common.{subst}
use Rattle.std.specs.Prelude.{IfOk}
use Rattle.bus_traffic.specs.Ears.{kept_at}
use Rattle.bus_traffic.specs.Hearing.{Hears}
use Rattle.bus_traffic.specs.Sendings.{judged_by, known_of}
use Rattle.bus_traffic.proofs.bus.Bus.hearing.Goals as goal

pub returns : goal.returns
returns g c =
    subst (λ ks. IfOk c.hear.result (λ h. Hears _ (λ whole. judged_by c.args.now (known_of whole ks))
    (kept_at c.args.now c.args.octets.now c.args.ear.now) c.args.octets.now h.frames h.ending))
    c.as_slice.ensures.value
    (subst (λ k. IfOk c.hear.result (λ h. Hears _ (λ whole. judged_by c.args.now (known_of whole c.as_slice.result.now)) k
    c.args.octets.now h.frames h.ending))
    c.listening-deframer.ensures c.hear.ensures)
