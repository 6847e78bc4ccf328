use Rattle.std.proofs.Common.{arith}
use Rattle.std.proofs.lemmas.Grind.{common_steps}
use Rattle.octet_texts.proofs.ListLaws.{goes_on, goes_on_prefixed, listed_whole}
use Rattle.octet_texts.proofs.lists.plain.Goals as goal

pub loop-left-preserved-in-Some : goal.loop-left-preserved-in-Some
loop-left-preserved-in-Some g c =
    goes_on_prefixed c.loop-left.may_begin c.loop-left.pairs.items c.loop-left.left.now c.in-Some.octet.now _
    c.loop-left.invariant c.in-Some.ensures.some.0 c.in-Some.ensures.some.1

pub loop-left-preserved : goal.loop-left-preserved
loop-left-preserved g c =
    rw (c.in_ok-push-in-None.ensures.items, c.spaced.ensures, c.is_between-may_begin.ensures)
    (goes_on c.loop-left.may_begin _ c.loop-left.pairs.items c.loop-left.left.now _ _ c.loop-left.invariant
    c.in-None.ensures.none (grind (arith, common_steps)))

pub returns : goal.returns
returns g c =
    listed_whole c.loop-left.may_begin c.loop-left.pairs.items c.loop-left.left.now _ c.loop-left.invariant
    c.in_default.len_below
