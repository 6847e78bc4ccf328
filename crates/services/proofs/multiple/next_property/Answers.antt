use Rattle.tags.specs.Tag.{plain_tag}
use Rattle.services.proofs.MultipleLaws.{next_rejected}
use Rattle.services.proofs.Exits.{err_shows}
use Rattle.services.proofs.multiple.next_property.Goals as goal

pub returns-clause-rejected : goal.returns-clause-rejected
returns-clause-rejected c = err_shows _ _ c.property_under.result c.property_under.ensures.rejected
    (λ reason h. next_rejected reason c.args.reader.now (plain_tag c.in_ok-tag.tag) c.read_inner_tag.new.reader c.in_ok-tag.ensures.read h)
