use Rattle.tags.proofs.RefusalLaws.{one_refusal, refused_is_no_value}
use Rattle.tags.proofs.laws.value_is_refused_once.Goals as goal

pub returns : goal.returns
returns g c = λ octets f h r s. (one_refusal f h octets r s, refused_is_no_value _ f octets r)
