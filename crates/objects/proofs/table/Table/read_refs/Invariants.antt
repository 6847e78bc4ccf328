use Rattle.std.proofs.Common.{◌≡◌, ◌++◌}
use Rattle.std.specs.Prelude.{drop, flat_map}
use Rattle.object_model.specs.Reading.{object_at, entries_in}
use Rattle.objects.proofs.table.Table.read_refs.Given as goal

-- the entries so far, and those of the references that are left
abbrev pub invariant-loop-reference : goal.invariant-loop-reference
invariant-loop-reference g l =
    l.results ++ flat_map (entries_in l.self l.asked.object (object_at l.self l.asked.object)) (drop l.reference-index l.reference-items)
    ≡ flat_map (entries_in l.self l.asked.object (object_at l.self l.asked.object)) l.asked.refs
