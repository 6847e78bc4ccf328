use Rattle.std.specs.Prelude.{Some}
use Rattle.bvll.specs.Datagram.{datagram_of}
use Rattle.bbmd_manager.proofs.manager.Bbmd.on_datagram.Goals as goal

pub returns-clause-heard : goal.returns-clause-heard
returns-clause-heard g c = record {
  found = Some (datagram_of c.in-Ok.heard);
  means = c.in-Ok.ensures.read;
  fits = c.in_ok-said.ensures.fits;
  says = c.in_ok-said.ensures.says;
  leaves = c.in_ok-change.ensures.left;
}
