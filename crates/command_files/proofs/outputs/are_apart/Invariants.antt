use Rattle.std.proofs.Common.{map, length}
use Rattle.std.specs.Prelude.{option_map}
use Rattle.command_files.specs.Outputs as spec
use Rattle.command_files.proofs.outputs.are_apart.Given as goal

abbrev pub decreases-loop-left : goal.decreases-loop-left
decreases-loop-left g l = length l.left

abbrev pub invariant-loop-left : goal.invariant-loop-left
invariant-loop-left g l =
    (spec.Clash (g.F.Files.same l.files) (map (λ o. option_map (λ n. n.now) o) l.inputs)
    (map (λ o. option_map (λ n. n.now) o) l.left)
    → spec.Clash (g.F.Files.same l.files) (map (λ o. option_map (λ n. n.now) o) l.inputs)
    (map (λ o. option_map (λ n. n.now) o) l.outputs))
    × (spec.AreApart (g.F.Files.apart l.files) (map (λ o. option_map (λ n. n.now) o) l.inputs)
    (map (λ o. option_map (λ n. n.now) o) l.left)
    → spec.AreApart (g.F.Files.apart l.files) (map (λ o. option_map (λ n. n.now) o) l.inputs)
    (map (λ o. option_map (λ n. n.now) o) l.outputs))
