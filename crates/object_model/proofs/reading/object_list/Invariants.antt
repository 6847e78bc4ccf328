use Rattle.std.proofs.Common.{◌≡◌, ◌++◌}
use Rattle.std.specs.Prelude.{drop}
use Rattle.object_model.specs.Objects.{object_list}
use Rattle.object_model.proofs.reading.object_list.Given as goal

-- the identifiers so far, and those of the objects that are left
abbrev pub invariant-loop-object : goal.invariant-loop-object
invariant-loop-object g l = l.values ++ object_list (drop l.object-index l.objects) ≡ object_list l.objects
