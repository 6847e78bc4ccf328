use Rattle.std.proofs.Common.{◌∷◌, []}
use Rattle.std.proofs.lemmas.List.{map-append, append_assoc}
use Rattle.object_model.specs.Site.{opening_value}
use Rattle.objects.proofs.opening.open_values.Goals as goal

pub loop-object-preserved : goal.loop-object-preserved
loop-object-preserved g c = rw (
  map-append opening_value c.loop-object.yielded (c.in-Some.object ∷ []),
  ← append_assoc c.args.opened.now.items _ _,
  ← c.loop-object.invariant,
  ← c.in_ok-open_value.ensures,
) c.in_ok-push.ensures.items
