use Rattle.tags.proofs.ShortestLaws.{tag_shortest}
use Rattle.tags.proofs.laws.tag_is_shortest.Goals as goal

pub returns : goal.returns
returns c = λ octets t s. tag_shortest octets t.class t.number t.content s
