use Rattle.services.proofs.RequestOctets.{on_err}
use Rattle.services.proofs.FieldLaws.{no_tag_of_reason, false_is_not_true}
use Rattle.tags.specs.Tag.{plain_tag}
use Rattle.services.proofs.NoReply.{no_next_of_none, no_next_of_other}
use Rattle.services.proofs.acknowledgement.next_property.Goals as goal

pub returns-in_err-tag-clause-none : goal.returns-in_err-tag-clause-none
returns-in_err-tag-clause-none c = on_err c.from_residual.result _
    (no_next_of_none c.args.reader.now (no_tag_of_reason _ c.args.reader.now c.in_err-tag.ensures.rejected))

pub returns-in_default-clause-none : goal.returns-in_default-clause-none
returns-in_default-clause-none c = no_next_of_other c.args.reader.now (plain_tag c.in_ok-tag.tag) c.read_tag.new.reader c.in_ok-tag.ensures.read
    (λ e. false_is_not_true (c.if-is_closing.ensures.1 e)) c.in_default.ensures.other
