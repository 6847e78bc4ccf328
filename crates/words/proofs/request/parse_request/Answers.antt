use Rattle.std.proofs.Common.{inr, refl}
use Rattle.std.proofs.lemmas.Bool.{iff_false}
use Rattle.words.proofs.request.parse_request.Goals as goal

pub returns-then-not-is_sound-clause-refused : goal.returns-then-not-is_sound-clause-refused
returns-then-not-is_sound-clause-refused g c = inr (inr (inr (
  refl,
  record {
    request = c.in_ok-request.request;
    said = c.in_ok-request.ensures.read;
    unsound = iff_false c.is_sound.ensures c.if-not-is_sound.true;
  },
)))
