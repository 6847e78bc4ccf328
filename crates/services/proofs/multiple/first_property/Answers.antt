use Rattle.tags.specs.Tag.{plain_tag}
use Rattle.services.proofs.MultipleLaws.{first_rejected}
use Rattle.services.proofs.FieldLaws.{false_is_not_true}
use Rattle.services.proofs.multiple.first_property.Goals as goal

pub returns-in_default-clause-rejected : goal.returns-in_default-clause-rejected
returns-in_default-clause-rejected c = first_rejected c.args.reader.now (plain_tag c.in_ok-tag.tag) c.read_tag.new.reader c.in_ok-tag.ensures.read
    (λ e. false_is_not_true (c.if-is_closing.ensures.1 e)) c.in_default.ensures.other
