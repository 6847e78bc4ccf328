use Rattle.std.proofs.Common.{◌≡◌, drop}
use Rattle.std.specs.List.{find}
use Rattle.bindings.specs.Binding.{is_of}
use Rattle.bindings.proofs.binding.binding_of.Given as goal

-- what is found in the rest is found in all
abbrev pub invariant-loop-binding : goal.invariant-loop-binding
invariant-loop-binding l = find (is_of l.instance) (drop l.binding-index l.bindings) ≡ find (is_of l.instance) l.bindings
