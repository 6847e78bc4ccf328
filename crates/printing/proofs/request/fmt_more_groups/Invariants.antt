use Rattle.std.proofs.Common.{◌++◌, codes, flat_map, take}
use Rattle.std.specs.Fmt.{HasWritten, IsPlainFormatter}
use Rattle.printing.specs.Printed.{writes_text}
use Rattle.printing.proofs.request.fmt_more_groups.Given as goal

abbrev pub invariant-loop-group : goal.invariant-loop-group
invariant-loop-group g l = IsPlainFormatter l.initial.f →
    HasWritten g.W.Write.write_str_gives l.initial.f (flat_map (λ g. codes "; " ++ writes_text l.spelling g.object g.writes) (take l.group-index l.groups)) l.f
