use Rattle.services.proofs.ValueLists.{list_goes_on}
use Rattle.services.proofs.values.read_values.Goals as goal

pub loop-values-preserved : goal.loop-values-preserved
loop-values-preserved g c =
    let taken = rw c.in-Some.is at c.in_ok-value.ensures.read in
    let sound = rw c.in-Some.is at c.in_ok-value.ensures.sound in
    rw (c.in_ok-push.ensures.pushed) (list_goes_on c.args.reader.now c.loop-values.reader c.next_value.new.reader c.loop-values.values c.in-Some.value
    c.loop-values.invariant taken sound)
