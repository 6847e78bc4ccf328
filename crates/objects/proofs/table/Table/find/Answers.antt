use Rattle.std.proofs.Common.{◌∙◌, sym, ap, List}
use Rattle.object_model.specs.tags.declared.object_id.ObjectId.{ObjectId}
use Rattle.object_model.specs.Places.{place_of}
use Rattle.object_model.proofs.ObjectPlaceLaws.{object_at-place, stands_at}
use Rattle.objects.proofs.table.Table.find.Goals as goal

pub returns-in-Some : goal.returns-in-Some
returns-in-Some g c =
    let t = c.self.inside.objects.items in
    let at = ap (λ (ids : List ObjectId). place_of ids c.args.id) (sym c.self.invariant.0) ∙ sym c.in-Some.ensures in
    rw (← c.self.view_is) (rw (← c.deref.ensures.value) c.object_at.ensures ∙ sym (object_at-place t c.args.id ∙ ap (stands_at t) at))

pub returns-in-None : goal.returns-in-None
returns-in-None g c =
    let t = c.self.inside.objects.items in
    let at = ap (λ (ids : List ObjectId). place_of ids c.args.id) (sym c.self.invariant.0) ∙ sym c.in-None.ensures in
    rw (← c.self.view_is) (sym (object_at-place t c.args.id ∙ ap (stands_at t) at))
