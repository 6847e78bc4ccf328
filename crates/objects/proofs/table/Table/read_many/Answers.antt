use Rattle.std.proofs.Common.{◌∙◌, sym, ap, List, ◌++◌}
use Rattle.std.specs.Prelude.{map}
use Rattle.std.proofs.lemmas.List.{append_assoc}
use Rattle.primitives.specs.declared.plain_data.ObjectRefs.{ObjectRefs}
use Rattle.object_model.specs.Reading.{results_of}
use Rattle.objects.proofs.OpeningLaws.{drop_item}
use Rattle.objects.proofs.table.Table.read_many.Goals as goal

pub loop-refs-preserved : goal.loop-refs-preserved
loop-refs-preserved g c =
    rw (c.in_ok-push.ensures.pushed, append_assoc c.loop-refs.results, c.in_ok-read_refs.ensures)
    (ap (λ (xs : List (ObjectRefs _)). c.loop-refs.results ++ map (results_of c.args.self.now) xs)
    (sym (drop_item c.args.asked.now c.loop-refs.refs-index c.refs-item.result c.loop-refs-test.true c.refs-item.is)) ∙ c.loop-refs.invariant)
