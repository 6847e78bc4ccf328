use Rattle.std.proofs.Common.{inr, map, subst}
use Rattle.std.proofs.lemmas.Result.{err_from_is_err_and}
use Rattle.bus_traffic.specs.Bus.{bus_of}
use Rattle.buses.proofs.FindingLaws.{has_ear_of, is_ear_of}
use Rattle.buses.specs.Finding.{HasEarOf, IsEarOf}
use Rattle.buses.proofs.buses.Buses.hearing.Goals as goal

pub returns-in_err-hearing-clause-cause : goal.returns-in_err-hearing-clause-cause
returns-in_err-hearing-clause-cause g c =
    let p = err_from_is_err_and c.from_residual-in_err-hearing.result c.from_residual-in_err-hearing.ensures.1 in
    rw (p.1) (inr (
      p.2,
      subst (λ xs. HasEarOf c.args.net c.args.address (map (λ o. bus_of o) xs)) c.deref.ensures.value
          (has_ear_of c.args.net c.args.address c.deref.result.now c.in_ok-found.found.bus_place
          c.in_ok-found.found.bus.now c.in_ok-found.found.ear_place c.in_ok-found.found.ear.now c.in_ok-found.ensures.ear),
    ))

pub returns-clause-heard : goal.returns-clause-heard
returns-clause-heard g c = record {
  bus = bus_of c.in_ok-found.found.bus.now;
  ear = c.in_ok-found.found.ear.now;
  found = subst (λ xs. IsEarOf c.args.net c.args.address (map (λ o. bus_of o) xs) c.in_ok-found.found.bus_place
      (bus_of c.in_ok-found.found.bus.now) c.in_ok-found.found.ear_place c.in_ok-found.found.ear.now)
      c.deref.ensures.value (is_ear_of c.args.net c.args.address c.deref.result.now c.in_ok-found.found.bus_place
      c.in_ok-found.found.bus.now c.in_ok-found.found.ear_place c.in_ok-found.found.ear.now
      c.in_ok-found.ensures.ear);
  hears = c.in_ok-hearing.ensures;
}
