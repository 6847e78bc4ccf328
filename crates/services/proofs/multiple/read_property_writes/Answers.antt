use Rattle.services.proofs.Exits.{exit_reason, exit_stop}
use Rattle.services.proofs.WriteLaws.{Progress, values_rejected, priority_rejected, write_smaller, writes_go_on}
use Rattle.std.proofs.Common.{subst, Option, ℕ}
use Rattle.primitives.specs.declared.plain_data.PropertyWrite.{PropertyWrite}
use Rattle.primitives.specs.Sound.{IsSoundWrite}
use Rattle.services.proofs.multiple.read_property_writes.Goals as goal

pub returns-in_err-index-clause-rejected : goal.returns-in_err-index-clause-rejected
returns-in_err-index-clause-rejected g c =
    exit_stop _ _ c.from_residual-in_err-index.result _ c.from_residual-in_err-index.ensures.1 c.in_err-index.ensures.rejected
    (λ reason h. values_rejected reason c.args.reader.now c.loop-next.writes c.in-Some.property c.loop-next.reader
    (subst (λ (n : Option ℕ). Progress c.args.reader.now c.loop-next.writes n c.loop-next.reader) c.in-Some.is c.loop-next.invariant) h)

pub returns-in_err-priority-clause-rejected : goal.returns-in_err-priority-clause-rejected
returns-in_err-priority-clause-rejected g c =
    exit_reason _ c.from_residual-in_err-priority.result _ c.from_residual-in_err-priority.ensures.1
    (priority_rejected _ c.args.reader.now c.loop-next.writes c.in-Some.property c.loop-next.reader c.in_ok-index.index c.in_ok-index.values
    c.read_values_behind.new.reader (subst (λ (n : Option ℕ). Progress c.args.reader.now c.loop-next.writes n c.loop-next.reader) c.in-Some.is
    c.loop-next.invariant) c.in_ok-index.ensures.read c.in_err-priority.ensures.rejected)

pub loop-next-smaller : goal.loop-next-smaller
loop-next-smaller g c = rw (c.in-Some.is)
    (write_smaller c.loop-next.reader c.in_ok-index.index c.in_ok-index.values c.in_ok-priority.priority c.in_ok-priority.behind
    c.read_values_behind.new.reader c.read_priority_and_next.new.reader c.in_ok-index.ensures.read c.in_ok-priority.ensures.read)

pub loop-next-preserved : goal.loop-next-preserved
loop-next-preserved g c =
    rw (c.in_ok-push.ensures.pushed, c.property_write.ensures.value) (
    writes_go_on c.loop-next.reader c.args.reader.now c.loop-next.writes c.in-Some.property c.in_ok-index.index c.in_ok-index.values c.in_ok-priority.priority
    c.in_ok-priority.behind c.read_values_behind.new.reader c.read_priority_and_next.new.reader
    (subst (λ (n : Option ℕ). Progress c.args.reader.now c.loop-next.writes n c.loop-next.reader) c.in-Some.is c.loop-next.invariant)
    c.in_ok-index.ensures.read c.in_ok-index.ensures.sound c.in_ok-priority.ensures.sound
    (λ s. subst (λ (w : PropertyWrite g.row.A.Denot). IsSoundWrite w) c.property_write.ensures.value (c.property_write.ensures.sound s))
    c.in_ok-priority.ensures.read
    )
