use Rattle.services.proofs.Exits.{exit_same}
use Rattle.tags.specs.Tag.{plain_tag}
use Rattle.services.proofs.MultipleLaws.{tag_rejects_going, going_rejected_without, goes_on_without}
use Rattle.services.specs.MultipleSteps.{in_next}
use Rattle.services.proofs.FieldLaws.{number_taken}
use Rattle.std.proofs.Common.{Some}
use Rattle.services.proofs.multiple.read_index_and_next.Goals as goal

pub returns-in_err-tag-clause-rejected : goal.returns-in_err-tag-clause-rejected
returns-in_err-tag-clause-rejected c =
    exit_same _ c.from_residual.result _ c.from_residual.ensures.1 (tag_rejects_going _ c.args.reader.now c.args.number c.in_err-tag.ensures.rejected)

pub returns-in_err-next-clause-rejected : goal.returns-in_err-next-clause-rejected
returns-in_err-next-clause-rejected c =
    exit_same _ c.from_residual-in_err-next.result _ c.from_residual-in_err-next.ensures.1
    (going_rejected_without _ c.args.reader.now (plain_tag c.in_ok-tag.tag) c.read_inner_tag.new.reader c.args.number c.in_ok-tag.ensures.read
    c.in_default.ensures.other c.in_err-next.ensures.rejected)

pub returns-in_default-clause-read : goal.returns-in_default-clause-read
returns-in_default-clause-read c = goes_on_without c.args.reader.now (plain_tag c.in_ok-tag.tag) c.read_inner_tag.new.reader c.args.number c.in_ok-next.next
    c.in_ok-tag.ensures.read c.in_default.ensures.other c.in_ok-next.ensures.read

pub returns-in_err-next-2-clause-rejected : goal.returns-in_err-next-2-clause-rejected
returns-in_err-next-2-clause-rejected c =
    exit_same _ c.from_residual-in_err-next-2.result _ c.from_residual-in_err-next-2.ensures.1
    (in_next (Some c.in_ok-index.index) c.read_inner_tag.new.reader
    (number_taken c.args.reader.now (plain_tag c.in_ok-tag.tag) c.read_inner_tag.new.reader c.args.number c.in-Some.octets.now c.in_ok-index.index
    c.in_ok-tag.ensures.read c.in-Some.ensures.read c.in_ok-index.ensures.read) c.in_err-next-2.ensures.rejected)
