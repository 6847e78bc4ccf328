use Rattle.std.proofs.Common.{◌≡◌, ◌++◌}
use Rattle.std.specs.Prelude.{drop, map}
use Rattle.object_model.specs.Objects.{identifier}
use Rattle.objects.proofs.opening.places_of.Given as goal

-- the identifiers so far, and those of the objects that are left
abbrev pub invariant-loop-object : goal.invariant-loop-object
invariant-loop-object g l = l.places ++ map identifier (drop l.object-index l.objects) ≡ map identifier l.objects
