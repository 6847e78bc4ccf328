use Rattle.services.proofs.Exits.{exit_stop}
use Rattle.services.proofs.MultipleLaws.{many_goes_on, many_stops}
use Rattle.services.proofs.Shortens.{refs_shortens}
use Rattle.services.proofs.multiple.read_many.Goals as goal

pub returns-in_err-read_refs-clause-rejected : goal.returns-in_err-read_refs-clause-rejected
returns-in_err-read_refs-clause-rejected g c =
    exit_stop _ _ c.from_residual.result _ c.from_residual.ensures.1 c.in_err-read_refs.ensures.rejected
    (λ reason h. many_stops reason c.args.reader.now c.loop-alloc.reader c.loop-alloc.asked c.loop-alloc.invariant
    (c.must_stand.ensures.0 c.loop-alloc-test.true) h)

pub loop-alloc-smaller : goal.loop-alloc-smaller
loop-alloc-smaller g c = refs_shortens c.loop-alloc.reader c.in_ok-read_refs.field-0 c.read_refs.new.reader c.in_ok-read_refs.ensures.read

pub loop-alloc-preserved : goal.loop-alloc-preserved
loop-alloc-preserved g c = rw (c.in_ok-push.ensures.pushed)
    (many_goes_on c.args.reader.now c.loop-alloc.reader c.read_refs.new.reader c.loop-alloc.asked c.in_ok-read_refs.field-0 c.loop-alloc.invariant
    c.in_ok-read_refs.ensures.read c.in_ok-read_refs.ensures.sound)
