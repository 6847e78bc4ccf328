use Rattle.std.proofs.Common.{arith}
use Rattle.std.proofs.lemmas.Grind.{common_steps}
use Rattle.words.proofs.HexLaws.{another_space}
use Rattle.words.proofs.hex_text.without_spaces.Goals as goal

pub loop-rest-preserved : goal.loop-rest-preserved
loop-rest-preserved c = another_space c.args.text.now c.loop-rest.rest.now _ c.loop-rest.invariant (grind (arith, common_steps))
