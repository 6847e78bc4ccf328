use Rattle.std.proofs.Common.{◌∙◌, ap, arith, refl, ◌+◌, slice_index_or, Option, ℕ}
use Rattle.npdu.specs.declared.mac.Mac.TheVariants.{One}
use Rattle.world_log.proofs.IssueLaws.{gap_within, number_next, one_folded, within}
use Rattle.world_log.proofs.last_issues.last_runs.Goals as goal
use Rattle.world_log.specs.Issues.{is_number}
use Rattle.world_log.specs.declared.key.Run.{Run}

-- its number is one of theirs
pub overflow_add-own : goal.overflow_add-own
overflow_add-own g c =
    let d : Run = record { key = record { client = record { net = 0; mac = One 0 }; invoke_id = 0 }; before = 0 } in
    let lt = within c.args.last.now.items c.args.runs.now c.requires.leads c.loop-run.run-index
    (slice_index_or c.args.runs.now c.loop-run.run-index d) d c.loop-run-test.true refl c.loop-run.number
    c.loop-run.invariant.0 in omega (arith, lt, c.requires.fits)

pub overflow_add-number : goal.overflow_add-number
overflow_add-number g c =
    let d : Run = record { key = record { client = record { net = 0; mac = One 0 }; invoke_id = 0 }; before = 0 } in
    let lt = within c.args.last.now.items c.args.runs.now c.requires.leads c.loop-run.run-index
    (slice_index_or c.args.runs.now c.loop-run.run-index d) d c.loop-run-test.true refl c.loop-run.number
    c.loop-run.invariant.0 in omega (arith, lt, c.requires.fits)

-- one more is taken over, or forgotten
pub loop-run-preserved : goal.loop-run-preserved
loop-run-preserved g c =
    let d : Run = record { key = record { client = record { net = 0; mac = One 0 }; invoke_id = 0 }; before = 0 } in
    let r = slice_index_or c.args.runs.now c.loop-run.run-index d in
    let own = c.loop-run.number + r.before in (
      number_next c.args.last.now.items c.args.runs.now c.requires.leads c.loop-run.run-index r d c.loop-run-test.true refl
          c.loop-run.number own c.loop-run.invariant.0 refl,
      gap_within c.is_number-is_last.result c.loop-run.gap c.loop-run.number own r c.in_ok-gap.gap
          c.loop-run.invariant.1 refl c.in_ok-gap.ensures.gap,
      one_folded c.args.last.now.items c.args.runs.now c.requires.leads c.loop-run.run-index r d c.loop-run-test.true refl
          c.loop-run.kept.items c.fold.new.kept.items c.loop-run.gap c.in_ok-gap.gap c.loop-run.number own
          c.is_number-is_last.result c.loop-run.invariant.0 refl
          (c.is_number-is_last.ensures ∙ ap (λ (o : Option ℕ). is_number own o) c.number_in.ensures)
          c.in_ok-gap.ensures.kept c.in_ok-gap.ensures.gap c.loop-run.invariant.2,
    )
