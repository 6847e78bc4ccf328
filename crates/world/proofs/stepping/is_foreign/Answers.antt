use Rattle.std.proofs.Common.{◌∙◌, refl, sym, ap, length, List}
use Rattle.std.proofs.lemmas.Option.{slice_get_past, slice_get_read}
use Rattle.std.specs.Prelude.{slice_get}
use Rattle.world_log.specs.link_site.declared.port.SitePort.{SitePort}
use Rattle.world.proofs.Foreign.{has_no_port, is_not_foreign}
use Rattle.world.proofs.stepping.is_foreign.Goals as goal

-- its port says nothing
pub returns-in-Some-clause-other : goal.returns-in-Some-clause-other
returns-in-Some-clause-other g c = λ no. is_not_foreign c.args.now c.args.node.now c.in-Some.port.now
    (ap (λ (ls : List (SitePort _)). slice_get ls 0) (sym c.ports.ensures)
    ∙ slice_get_read c.ports.result.now (length c.ports.result.now) 0 c.in-Some.port.now refl
    c.in-Some.ensures.lookup.3.0 c.in-Some.ensures.lookup.1) (sym c.is_foreign.ensures ∙ no)

-- .. or it has none
pub returns-in-None-clause-other : goal.returns-in-None-clause-other
returns-in-None-clause-other g c = λ no. has_no_port c.args.now c.args.node.now
    (ap (λ (ls : List (SitePort _)). slice_get ls 0) (sym c.ports.ensures)
    ∙ slice_get_past c.ports.result.now 0 c.in-None.ensures.lookup.3)
