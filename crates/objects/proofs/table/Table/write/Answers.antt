use Rattle.std.proofs.Common.{◌∙◌, sym, ap, List}
use Rattle.object_model.specs.tags.declared.object_id.ObjectId.{ObjectId}
use Rattle.object_model.specs.Places.{place_of}
use Rattle.object_model.proofs.LocateLaws.{IsSoundTable-write}
use Rattle.objects.proofs.WriteLaws.{is_refused, is_written, has_place, identifiers_write, place_within}
use Rattle.objects.proofs.table.Table.write.Goals as goal

pub returns-in-Some-clause-refused : goal.returns-in-Some-clause-refused
returns-in-Some-clause-refused g c = is_refused c.args.self.now c.args.id c.args.asked c.in-Some.refusal
    (rw (← c.as_slice.ensures) (sym c.refusal.ensures.refused ∙ c.in-Some.is))

pub put_at-requires : goal.put_at-requires
put_at-requires g c =
    place_within c.self.inside.objects.items c.args.id c.in-Some-find.place (ap (λ (ids : List ObjectId). place_of ids c.args.id) (sym c.self.invariant.0)
    ∙ sym c.in-Some-find.ensures)

pub invariant_of-self : goal.invariant_of-self
invariant_of-self g c =
    let t = c.self.inside.objects.items in
    let at = ap (λ (ids : List ObjectId). place_of ids c.args.id) (sym c.self.invariant.0) ∙ sym c.in-Some-find.ensures in
    let done = is_written t c.args.id c.args.asked c.in-Some-find.place c.put_at.new.objects.items at
    (rw (c.self.view_is, ← c.as_slice.ensures) (sym c.refusal.ensures.refused ∙ c.in_default.is))
    (λ o p here named. rw (← c.level_of.ensures) (c.put_at.ensures o p here named)) in (
      c.self.invariant.0 ∙ identifiers_write t c.args.id c.args.asked _ done,
      IsSoundTable-write t c.args.id c.args.asked _ c.self.invariant.1 (rw (← c.as_slice.ensures) (c.refusal.ensures.sound c.in_default.is)) done,
    )

pub returns-in-Some-find-clause-done : goal.returns-in-Some-find-clause-done
returns-in-Some-find-clause-done g c =
    let t = c.self.inside.objects.items in
    let at = ap (λ (ids : List ObjectId). place_of ids c.args.id) (sym c.self.invariant.0) ∙ sym c.in-Some-find.ensures in
    rw (← c.self.view_is) (is_written t c.args.id c.args.asked c.in-Some-find.place c.put_at.new.objects.items at
    (rw (c.self.view_is, ← c.as_slice.ensures) (sym c.refusal.ensures.refused ∙ c.in_default.is))
    (λ o p here named. rw (← c.level_of.ensures) (c.put_at.ensures o p here named)))

pub returns-in_default-find-clause-done : goal.returns-in_default-find-clause-done
returns-in_default-find-clause-done g c =
    let t = c.self.inside.objects.items in
    let at = ap (λ (ids : List ObjectId). place_of ids c.args.id) (sym c.self.invariant.0) ∙ sym c.find.ensures ∙ c.in_default-find.is in
    absurd (has_place t c.args.id c.args.asked at (rw (c.self.view_is, ← c.as_slice.ensures) (sym c.refusal.ensures.refused ∙ c.in_default.is)))
