use denote.Shadow.{shadow}
use denote.Text.{Utf8}
use Rattle.rows_command_line.proofs.lines.fits.Given as goal

abbrev pub invariant-loop-part : goal.invariant-loop-part
invariant-loop-part l = shadow (Utf8 l.rest) × shadow (Utf8 l.last)
