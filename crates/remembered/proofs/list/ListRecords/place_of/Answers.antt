use Rattle.std.proofs.Common.{◌≡◌, ◌∙◌, sym, ap, length, arith, refl, ℕ, Bool}
use Rattle.std.proofs.lemmas.Option.{slice_get_read}
use Rattle.std.specs.Prelude.{Option, Some, slice_get}
use Rattle.remembered.specs.Records.{is_of, later_or, some_if}
use Rattle.remembered.proofs.Places.{place_next}
use Rattle.remembered.proofs.list.ListRecords.place_of.Goals as goal

pub loop-place-preserved : goal.loop-place-preserved
loop-place-preserved g c =
    let items = c.args.self.now.list.items in
    let place = c.loop-place.place in
    let here = c.index.result.now in
    let there : slice_get items place ≡ Some here =
    slice_get_read items (length items) place here refl (omega (arith, c.loop-place-test.true, c.len-place-end.ensures)) c.index.ensures in
    c.later-newest.ensures ∙ ap (λ (b : Bool). later_or (some_if b place) c.loop-place.newest) c.is_same-is_of.ensures
    ∙ ap (λ (o : Option ℕ). later_or (some_if (is_of c.args.asker here) place) o) c.loop-place.invariant ∙ sym (place_next c.args.asker items place here there)
