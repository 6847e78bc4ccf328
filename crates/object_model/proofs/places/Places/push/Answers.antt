use Rattle.std.proofs.Common.{arith}
use Rattle.std.proofs.lemmas.Grind.{common_steps}
use Rattle.object_model.proofs.PlaceLaws.{place_of-push}
use Rattle.object_model.proofs.places.Places.push.Goals as goal

-- src/places.rt:55:5
pub invariant_of-self-2 : goal.invariant_of-self-2
invariant_of-self-2 g c = λ q. grind (
  arith,
  common_steps,
  c.in_ok-note_place.ensures.noted q,
  c.self.invariant q,
  place_of-push c.self.inside.identifiers.items c.args.id q,
)
