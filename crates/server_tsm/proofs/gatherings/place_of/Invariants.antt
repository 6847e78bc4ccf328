use Rattle.std.proofs.Common.{◌≡◌, drop}
use Rattle.std.specs.List.{find}
use Rattle.server_answers.specs.Gathering.{is_for}
use Rattle.server_tsm.proofs.gatherings.place_of.Given as goal

-- what is found in the rest is found in all
abbrev pub invariant-loop-place : goal.invariant-loop-place
invariant-loop-place g l = find (is_for l.asker) (drop l.place l.gatherings) ≡ find (is_for l.asker) l.gatherings
