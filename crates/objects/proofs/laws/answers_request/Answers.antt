use Rattle.objects.proofs.RequestLaws.{reply_answers}
use Rattle.objects.proofs.laws.answers_request.Goals as goal

pub returns : goal.returns
returns g c = reply_answers
