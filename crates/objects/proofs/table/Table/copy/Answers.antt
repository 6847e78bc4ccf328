use Rattle.std.proofs.Common.{◌∙◌, ap}
use Rattle.std.specs.Prelude.{map}
use Rattle.object_model.specs.Objects.{PlainTable, identifier}
use Rattle.objects.proofs.table.Table.copy.Goals as goal

pub invariant_of-result : goal.invariant_of-result
invariant_of-result g c = (
  c.in_ok-places.ensures ∙ ap (λ (t : PlainTable _). map identifier t) c.deref-2.ensures.value,
  rw (c.into_vec-objects.ensures ∙ c.in_ok-copy_all.ensures, c.deref.ensures.value) c.self.invariant.1,
)
