use Rattle.std.proofs.Common.{[], sym, arith}
use Rattle.std.proofs.lemmas.Grind.{common_steps}
use Rattle.std.proofs.lemmas.List.{append-nil}
use Rattle.tags.proofs.ElementLaws.{element_alone}
use Rattle.tags.proofs.element.is_element.Goals as goal

pub returns-in-Ok : goal.returns-in-Ok
returns-in-Ok c =
    let alone = element_alone c.args.octets.now c.in-Ok.field-0-0.now c.in-Ok.rest.now c.in-Ok.ensures.read.0 c.in-Ok.ensures.read.1 in (
      λ empty. alone.0 (grind (arith, common_steps)),
      λ is. let none = alone.1 is in grind (arith, common_steps),
    )

pub returns-in-Err : goal.returns-in-Err
returns-in-Err c = (λ no. absurd cc, λ is. absurd (c.in-Err.ensures.refused.none c.args.octets.now [] is (sym (append-nil c.args.octets.now))))
