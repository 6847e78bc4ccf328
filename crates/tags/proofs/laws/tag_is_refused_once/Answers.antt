use Rattle.tags.proofs.RefusalLaws.{one_tag_refusal, refused_is_no_tag}
use Rattle.tags.proofs.laws.tag_is_refused_once.Goals as goal

pub returns : goal.returns
returns c = λ octets f g r s. (one_tag_refusal f g octets r s, refused_is_no_tag f octets r)
