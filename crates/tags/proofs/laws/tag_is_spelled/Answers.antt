use Rattle.tags.proofs.CanonicalLaws.{canonical_tag_spells}
use Rattle.tags.proofs.laws.tag_is_spelled.Goals as goal

pub returns : goal.returns
returns c = λ t sound. canonical_tag_spells t.class t.number t.content sound
