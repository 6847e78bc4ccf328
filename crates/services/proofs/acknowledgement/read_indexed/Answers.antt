use Rattle.services.proofs.Exits.{exit_reason, exit_stop}
use Rattle.services.proofs.FieldLaws.{no_tag_of_reason, number_taken}
use Rattle.tags.specs.Tag.{plain_tag}
use Rattle.services.proofs.NoReply.{no_indexed_of_none, no_indexed_without, no_indexed_cut, no_indexed_with}
use Rattle.services.proofs.acknowledgement.read_indexed.Goals as goal

pub returns-in_err-tag-clause-none : goal.returns-in_err-tag-clause-none
returns-in_err-tag-clause-none g c = exit_reason _ c.from_residual.result _ c.from_residual.ensures.1
    (no_indexed_of_none _ c.args.reader.now (no_tag_of_reason _ c.args.reader.now c.in_err-tag.ensures.rejected))

pub returns-in_err-reading-clause-none : goal.returns-in_err-reading-clause-none
returns-in_err-reading-clause-none g c =
    exit_stop _ _ c.from_residual-in_err-reading.result _ c.from_residual-in_err-reading.ensures.1 c.in_err-reading.ensures.none
    (λ reason h. no_indexed_without _ c.args.reader.now (plain_tag c.in_ok-tag.tag) c.read_tag.new.reader c.in_ok-tag.ensures.read
    c.in_default.ensures.other h)

pub returns-in_err-tag-2-clause-none : goal.returns-in_err-tag-2-clause-none
returns-in_err-tag-2-clause-none g c =
    exit_reason _ c.from_residual-in_err-tag-2.result _ c.from_residual-in_err-tag-2.ensures.1
    (no_indexed_cut _ c.args.reader.now c.in_ok-index.index c.read_tag.new.reader
    (number_taken c.args.reader.now (plain_tag c.in_ok-tag.tag) c.read_tag.new.reader 3 c.in-Some.octets.now c.in_ok-index.index c.in_ok-tag.ensures.read
    c.in-Some.ensures.read c.in_ok-index.ensures.read) (no_tag_of_reason _ c.read_tag.new.reader c.in_err-tag-2.ensures.rejected))

pub returns-in_err-reading-2-clause-none : goal.returns-in_err-reading-2-clause-none
returns-in_err-reading-2-clause-none g c =
    exit_stop _ _ c.from_residual-in_err-reading-2.result _ c.from_residual-in_err-reading-2.ensures.1 c.in_err-reading-2.ensures.none
    (λ reason h. no_indexed_with _ c.args.reader.now c.in_ok-index.index c.read_tag.new.reader (plain_tag c.in_ok-tag-2.tag) c.read_tag-2.new.reader
    (number_taken c.args.reader.now (plain_tag c.in_ok-tag.tag) c.read_tag.new.reader 3 c.in-Some.octets.now c.in_ok-index.index c.in_ok-tag.ensures.read
    c.in-Some.ensures.read c.in_ok-index.ensures.read) c.in_ok-tag-2.ensures.read h)
