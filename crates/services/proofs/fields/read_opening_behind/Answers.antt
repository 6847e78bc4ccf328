use Rattle.std.proofs.Common.{Some}
use Rattle.std.proofs.lemmas.Result.{err_from_is_err_and}
use Rattle.tags.specs.Tag.{plain_tag}
use Rattle.services.specs.Fields.{opening_tag}
use Rattle.services.proofs.FieldLaws.{false_is_not_true, tag_rejects_behind, other_behind, number_taken}
use Rattle.services.proofs.fields.read_opening_behind.Goals as goal

pub returns-in_err-tag-clause-rejected : goal.returns-in_err-tag-clause-rejected
returns-in_err-tag-clause-rejected c =
    let p = err_from_is_err_and c.from_residual.result c.from_residual.ensures.1 in
    rw (p.1) (tag_rejects_behind _ c.args.reader.now c.args.number c.args.list (rw (p.2) c.in_err-tag.ensures.rejected))

pub returns-then-not-is_opening-clause-rejected : goal.returns-then-not-is_opening-clause-rejected
returns-then-not-is_opening-clause-rejected c =
    other_behind c.args.reader.now (plain_tag c.in_ok-tag.tag) c.read_tag.new.reader c.args.number c.args.list c.in_ok-tag.ensures.read
    c.in_default.ensures.other (λ e. false_is_not_true (c.if-not-is_opening.ensures.1 e))

pub returns-in_err-read_opening-clause-rejected : goal.returns-in_err-read_opening-clause-rejected
returns-in_err-read_opening-clause-rejected c =
    let p = err_from_is_err_and c.from_residual-in_err-read_opening.result c.from_residual-in_err-read_opening.ensures.1 in
    rw (p.1) (opening_tag (Some c.in_ok-n.n) c.read_tag.new.reader
    (number_taken c.args.reader.now (plain_tag c.in_ok-tag.tag) c.read_tag.new.reader c.args.number c.in-Some.octets.now c.in_ok-n.n
    c.in_ok-tag.ensures.read c.in-Some.ensures.read c.in_ok-n.ensures.read) (rw (p.2) c.in_err-read_opening.ensures.rejected))
