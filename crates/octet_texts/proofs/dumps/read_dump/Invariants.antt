use Rattle.std.proofs.Common.{drop, length}
use Rattle.std.specs.Str.Lines.{lines}
use Rattle.octet_texts.proofs.DumpLaws.{IsReadTo}
use Rattle.octet_texts.proofs.dumps.read_dump.Given as goal

abbrev pub invariant-loop-line : goal.invariant-loop-line
invariant-loop-line g l = IsReadTo (lines l.text) (drop (length l.yielded) (lines l.text)) l.octets.items
