use Rattle.services.proofs.Exits.{exit_reason, exit_stop}
use Rattle.services.proofs.NoReply.{ack_is_no_write, ack_goes_on, other_ack, ack_taken}
use Rattle.services.proofs.FieldLaws.{false_is_not_true}
use Rattle.std.proofs.Common.{refl}
use Rattle.services.proofs.acknowledgement.read_ack.Goals as goal

pub returns-in_err-read-clause-none : goal.returns-in_err-read-clause-none
returns-in_err-read-clause-none g c =
    exit_stop _ _ c.from_residual.result _ c.from_residual.ensures.1 c.in_err-read.ensures.rejected
    (λ reason h. ack_is_no_write _ reason c.args.reader.now c.args.object c.args.property c.args.index h)

pub returns-then-not-is_about-clause-none : goal.returns-then-not-is_about-clause-none
returns-then-not-is_about-clause-none g c =
    other_ack c.args.reader.now c.args.object c.args.property c.args.index c.in_ok-read.read.values c.parameters_to_write.new.reader c.in_ok-read.read.object
    c.in_ok-read.read.property c.in_ok-read.read.index c.in_ok-read.ensures.read (λ e f h. false_is_not_true (c.if-not-is_about.ensures.1 (e, f, h)))

pub returns-in_err-read_end-clause-none : goal.returns-in_err-read_end-clause-none
returns-in_err-read_end-clause-none g c =
    exit_reason _ c.from_residual-in_err-read_end.result _ c.from_residual-in_err-read_end.ensures.1
    (ack_goes_on _ c.args.reader.now c.args.object c.args.property c.args.index c.in_ok-read.read.values c.parameters_to_write.new.reader
    c.in_ok-read.read.object c.in_ok-read.read.property c.in_ok-read.read.index c.in_ok-read.ensures.read c.in_err-read_end.ensures.rejected)

pub returns-clause-read : goal.returns-clause-read
returns-clause-read g c =
    let is = c.if-not-is_about.ensures.0 refl in
    ack_taken c.args.reader.now c.args.object c.args.property c.args.index c.in_ok-read.read.values c.parameters_to_write.new.reader c.in_ok-read.read.object
    c.in_ok-read.read.property c.in_ok-read.read.index c.in_ok-read.ensures.read is.0 is.1 is.2 c.in_ok-read_end.ensures.read
