use Rattle.std.proofs.Common.{arith}
use Rattle.std.proofs.lemmas.Grind.{common_steps}
use Rattle.words.proofs.HexLaws.{last_pair, one_less, spelled_by_one}
use Rattle.words.proofs.hex_text.octets_of.Goals as goal

pub returns-then-is_empty-clause-only : goal.returns-then-is_empty-clause-only
returns-then-is_empty-clause-only g c =
    rw (c.in_ok-push.ensures.items) (last_pair c.args.text.now c.loop-octet.octets.items c.loop-octet.rest.now c.in-Some.octet c.in-Some.after.now
    c.loop-octet.invariant.1 c.in-Some.ensures.taken (grind (arith, common_steps)))

pub loop-octet-preserved : goal.loop-octet-preserved
loop-octet-preserved g c = (
  rw (c.in_ok-push.ensures.items) (spelled_by_one c.args.text.now c.loop-octet.octets.items c.loop-octet.rest.now c.in-Some.octet c.in-Some.after.now
      c.without_spaces-rest.result.now c.loop-octet.invariant.0 c.in-Some.ensures.taken c.without_spaces-rest.ensures.spaces),
  rw (c.in_ok-push.ensures.items) (one_less c.args.text.now c.loop-octet.octets.items c.loop-octet.rest.now c.in-Some.octet c.in-Some.after.now
      c.without_spaces-rest.result.now c.loop-octet.invariant.1 c.in-Some.ensures.taken (λ e. grind (arith, common_steps, e))
      c.without_spaces-rest.ensures.spaces c.without_spaces-rest.ensures.all),
)
