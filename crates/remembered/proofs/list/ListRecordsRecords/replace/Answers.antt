use Rattle.std.proofs.Common.{◌≡◌, ◌∙◌, sym, refl, length}
use Rattle.std.proofs.lemmas.Option.{slice_get_read}
use Rattle.std.specs.Prelude.{Some, slice_get}
use Rattle.remembered.specs.Keeping.{newest_place}
use Rattle.remembered.proofs.Places.{place_within, said_there}
use Rattle.remembered.proofs.list.ListRecordsRecords.replace.Goals as goal

pub returns-in-Some : goal.returns-in-Some
returns-in-Some g c =
    let items = c.args.self.now.list.items in
    let entry = c.index_mut-entry.result.now in
    let at : newest_place c.args.asker items ≡ Some c.in-Some.place = sym c.place_of.ensures ∙ c.in-Some.is in
    let there : slice_get items c.in-Some.place ≡ Some entry =
    slice_get_read items (length items) c.in-Some.place entry refl (place_within c.args.asker items c.in-Some.place at) c.index_mut-entry.ensures.value in
    record { replaced = sym (said_there c.args.asker c.args.way c.args.sending items c.in-Some.place entry at there) }
