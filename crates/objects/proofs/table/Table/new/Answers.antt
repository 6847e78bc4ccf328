use Rattle.std.proofs.Common.{◌∙◌, ap, rules}
use Rattle.std.specs.Prelude.{map}
use Rattle.object_model.specs.Objects.{PlainTable, identifier}
use Rattle.objects.proofs.table.Table.new.Goals as goal

pub invariant_of-result : goal.invariant_of-result
invariant_of-result g c = (
  c.in_ok-places.ensures ∙ ap (λ (t : PlainTable _). map identifier t) c.deref.ensures.value,
  rw c.in_ok-objects.ensures (c.is_site.ensures.0 (search rules)),
)

pub returns-clause-sound : goal.returns-clause-sound
returns-clause-sound g c = c.is_site.ensures.0 (search rules)
