use Rattle.std.proofs.Common.{◌∙◌, arith}
use Rattle.std.proofs.lemmas.Grind.{common_steps}
use Rattle.std.specs.BTreeMap as tree
use Rattle.object_model.specs.Places.{id_cmp}
use Rattle.object_model.proofs.PlaceLaws.{noted, is_none}
use Rattle.object_model.proofs.places.note_place.Goals as goal

-- src/places.rt:67:1
pub returns-in_ok-insert-clause-noted : goal.returns-in_ok-insert-clause-noted
returns-in_ok-insert-clause-noted g c =
    λ q. c.in_ok-insert.ensures.updates.0 q ∙ noted (tree.get id_cmp c.args.places.now) c.args.id q c.args.place (is_none _ (grind (arith, common_steps)))
