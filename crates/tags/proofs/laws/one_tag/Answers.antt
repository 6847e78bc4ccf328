use Rattle.tags.proofs.OneTag.{one_tag}
use Rattle.tags.proofs.laws.one_tag.Goals as goal

pub returns : goal.returns
returns c = λ a b x y t u s r e. let one = one_tag a b x y t u s r e in (one.front, one.tag)
