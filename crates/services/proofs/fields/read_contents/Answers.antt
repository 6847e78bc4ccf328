use Rattle.tags.specs.Tag.{plain_tag}
use Rattle.services.proofs.FieldLaws.{other_contents}
use Rattle.services.proofs.fields.read_contents.Goals as goal

pub returns-in-None-clause-rejected : goal.returns-in-None-clause-rejected
returns-in-None-clause-rejected c = other_contents c.args.reader.now (plain_tag c.in_ok-tag.tag) c.read_tag.new.reader c.args.number c.in_ok-tag.ensures.read
    c.in-None.ensures.other
