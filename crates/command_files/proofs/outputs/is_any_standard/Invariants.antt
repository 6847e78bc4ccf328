use Rattle.std.proofs.Common.{map, length}
use Rattle.std.specs.Prelude.{option_map}
use Rattle.command_files.specs.Outputs as spec
use Rattle.command_files.proofs.outputs.is_any_standard.Given as goal

abbrev pub decreases-loop-left : goal.decreases-loop-left
decreases-loop-left l = length l.left

abbrev pub invariant-loop-left : goal.invariant-loop-left
invariant-loop-left l =
    (spec.AreNotStandard (map (λ o. option_map (λ n. n.now) o) l.names)
    → spec.AreNotStandard (map (λ o. option_map (λ n. n.now) o) l.left))
    × (spec.AreNotStandard (map (λ o. option_map (λ n. n.now) o) l.left)
    → spec.AreNotStandard (map (λ o. option_map (λ n. n.now) o) l.names))
