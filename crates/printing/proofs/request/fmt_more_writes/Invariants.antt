use Rattle.std.proofs.Common.{◌++◌, codes, flat_map, take}
use Rattle.std.specs.Fmt.{HasWritten, IsPlainFormatter}
use Rattle.printing.specs.Printed.{write_text}
use Rattle.printing.proofs.request.fmt_more_writes.Given as goal

abbrev pub invariant-loop-write : goal.invariant-loop-write
invariant-loop-write g l = IsPlainFormatter l.initial.f →
    HasWritten g.W.Write.write_str_gives l.initial.f (flat_map (λ w. codes "; " ++ write_text l.spelling l.object w) (take l.write-index l.writes)) l.f
