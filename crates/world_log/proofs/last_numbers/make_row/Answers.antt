use Rattle.std.proofs.Common.{◌∙◌, ◌++◌, ◌∷◌, [], ap}
use Rattle.world_log.proofs.NumberLaws.{same_more}
use Rattle.world_log.proofs.last_numbers.make_row.Goals as goal
use Rattle.world_log.specs.Issues.{ClientNumbers}

-- nobody is known under one more
pub loop-alloc-preserved : goal.loop-alloc-preserved
loop-alloc-preserved g c = same_more _ _ _ c.loop-alloc.invariant
    (c.in_ok-push.ensures.items ∙ ap (λ (row : ClientNumbers). c.loop-alloc.last.items ++ row ∷ []) c.new.ensures)
