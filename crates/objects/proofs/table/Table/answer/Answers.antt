use Rattle.std.proofs.Common.{refl}
use Rattle.objects.proofs.FailureLaws.{place_reply}
use Rattle.objects.proofs.ShapeLaws.{write_all_reply}
use Rattle.objects.proofs.table.Table.answer.Goals as goal

pub returns-in-Write : goal.returns-in-Write
returns-in-Write g c = (rw (
  c.in-Write.is,
  place_reply c.args.self.now c.in-Write.object _ _,
  c.written.ensures,
  c.refusal.ensures.refused,
  c.as_slice-in-Write.ensures,
) refl)

pub returns-in-WriteMany : goal.returns-in-WriteMany
returns-in-WriteMany g c = (rw (c.in-WriteMany.is, write_all_reply c.args.self.now _, c.first_failure.ensures, c.as_slice-in-WriteMany.ensures) refl)
