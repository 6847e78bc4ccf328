use Rattle.services.proofs.Exits.{exit_reason}
use Rattle.services.proofs.MultipleLaws.{one_more_reference, reference_rejected, reference}
use Rattle.primitives.specs.declared.plain_data.PropertyReference.{PropertyReference}
use Rattle.services.proofs.Lists.{all_more}
use Rattle.primitives.specs.Sound.{IsSoundReference}
use Rattle.std.proofs.Common.{subst}
use Rattle.services.proofs.multiple.read_references.Goals as goal

pub returns-in_err-index-clause-rejected : goal.returns-in_err-index-clause-rejected
returns-in_err-index-clause-rejected g c =
    exit_reason _ c.from_residual-in_err-index.result _ c.from_residual-in_err-index.ensures.1
    (reference_rejected _ c.args.reader.now c.loop-next.references c.in-Some.property c.loop-next.reader (rw c.in-Some.is at c.loop-next.invariant).0
    c.in_err-index.ensures.rejected)

pub loop-next-preserved : goal.loop-next-preserved
loop-next-preserved g c =
    let invariant = rw c.in-Some.is at c.loop-next.invariant in
    rw (c.in_ok-push.ensures.pushed, c.reference_to.ensures.value) (
      one_more_reference c.args.reader.now c.loop-next.references c.in-Some.property c.in_ok-index.index c.in_ok-index.behind c.loop-next.reader
          c.read_index_and_next.new.reader invariant.0 c.in_ok-index.ensures.read,
      all_more IsSoundReference c.loop-next.references (reference c.in-Some.property c.in_ok-index.index) invariant.1
          (subst (λ (r : PropertyReference). IsSoundReference r) c.reference_to.ensures.value c.reference_to.ensures.sound),
    )
