use Rattle.std.proofs.Common.{refl, length}
use Rattle.std.proofs.lemmas.Option.{slice_get_past, slice_get_read}
use Rattle.site_ports.proofs.ports.port_at.Goals as goal

pub returns-in-Some-clause-there : goal.returns-in-Some-clause-there
returns-in-Some-clause-there g c = slice_get_read c.args.ports.now (length c.args.ports.now) c.args.port
    c.in-Some.link.now refl c.in-Some.ensures.lookup.3.0 c.in-Some.ensures.lookup.1

pub returns-in-None-clause-none : goal.returns-in-None-clause-none
returns-in-None-clause-none g c = slice_get_past c.args.ports.now c.args.port c.in-None.ensures.lookup.3
