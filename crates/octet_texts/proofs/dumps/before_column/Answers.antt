use Rattle.std.proofs.Common.{◌+◌, ap, sym, ◌∙◌, arith}
use Rattle.octet_texts.proofs.DumpLaws.{column_here, column_later, no_column, slice_from}
use Rattle.octet_texts.specs.Dumps.{begins_column}
use Rattle.octet_texts.proofs.dumps.before_column.Goals.{then-loop-length-test+else-not-begins_column, else-loop-length-test}
use Rattle.octet_texts.proofs.dumps.before_column.Goals as goal

pub loop-length-preserved : goal.loop-length-preserved
loop-length-preserved c =
    let lt = c.loop-length-test.true in let is_before = ap begins_column (sym (slice_from c.loop-length.length c.args.text.now)) ∙ sym c.begins_column.ensures ∙ c.if-not-begins_column.true in (
      sym (column_later c.loop-length.length (c.loop-length.length + 1) c.args.text.now (omega (arith)) lt is_before) ∙ c.loop-length.invariant.0,
      omega (arith, lt),
    )

pub returns : goal.returns
returns c =
    let so_far = c.loop-length.invariant.0 in elim c.loop-length-test.branch [
      | then-loop-length-test+else-not-begins_column w ↦
          sym (column_here c.loop-length.length c.args.text.now (ap begins_column (sym (slice_from c.loop-length.length c.args.text.now)) ∙ sym w.begins_column.ensures ∙ w.if-not-begins_column.false)) ∙ so_far
      | else-loop-length-test w ↦ sym (no_column c.loop-length.length c.args.text.now w.loop-length-test.false) ∙ so_far
    ]
