use denote.Shadow.{shadow}
use denote.Text.{Utf8}
use Rattle.site_gathering.proofs.part.fmt_names.Given as goal

-- what stands before the next name is text
abbrev pub invariant-loop-name : goal.invariant-loop-name
invariant-loop-name g l =
    (goal.iterator-loop-name g).can_next l.name-iterator
    × (goal.iterator-loop-name g).is_finite l.name-iterator
    × shadow (Utf8 l.before)
