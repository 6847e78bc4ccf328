use Rattle.std.proofs.Common.{map, length}
use Rattle.std.specs.Prelude.{option_map}
use Rattle.command_files.specs.Outputs as spec
use Rattle.command_files.proofs.outputs.met.Given as goal

abbrev pub decreases-loop-left : goal.decreases-loop-left
decreases-loop-left g l = length l.left

abbrev pub invariant-loop-left : goal.invariant-loop-left
invariant-loop-left g l =
    (spec.MeetsOne (g.F.Files.same l.files) (option_map (λ n. n.now) l.output)
    (map (λ o. option_map (λ n. n.now) o) l.left)
    → spec.MeetsOne (g.F.Files.same l.files) (option_map (λ n. n.now) l.output)
    (map (λ o. option_map (λ n. n.now) o) l.others))
    × (spec.MeetsNone (g.F.Files.apart l.files) (option_map (λ n. n.now) l.output)
    (map (λ o. option_map (λ n. n.now) o) l.left)
    → spec.MeetsNone (g.F.Files.apart l.files) (option_map (λ n. n.now) l.output)
    (map (λ o. option_map (λ n. n.now) o) l.others))
