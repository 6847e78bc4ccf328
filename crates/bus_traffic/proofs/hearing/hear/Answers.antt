use Rattle.std.proofs.Common.{◌∙◌, sym, ap, subst}
use Rattle.bus_traffic.specs.Hearing.{Ends}
use Rattle.bus_traffic.specs.Sendings.{judged_by, known_of}
use Rattle.bus_traffic.proofs.HearingLaws.{goes_on, is_over, is_refused}
use Rattle.bus_traffic.proofs.hearing.hear.Goals as goal

pub loop-frames-preserved : goal.loop-frames-preserved
loop-frames-preserved g c = rw (c.in_ok-push-in-Ok.ensures.pushed, c.split_at.ensures.back) (goes_on _ _ _ _ _ _ _ c.loop-frames.invariant
    (subst (λ x. Ends c.loop-frames.deframer c.loop-frames.left.now x c.next_completed.new.deframer) c.in-Some.is
    c.in_ok-frame.ensures.ends)
    (ap (λ w. judged_by c.args.now (known_of w c.args.known.now)) (sym c.as_slice.ensures) ∙ sym c.judge.ensures
    ∙ c.in-Ok.is))

pub returns-in-Err : goal.returns-in-Err
returns-in-Err g c = is_refused _ _ _ _ _ _ _ _ _ c.loop-frames.invariant
    (subst (λ x. Ends c.loop-frames.deframer c.loop-frames.left.now x c.next_completed.new.deframer) c.in-Some.is
    c.in_ok-frame.ensures.ends)
    (ap (λ w. judged_by c.args.now (known_of w c.args.known.now)) (sym c.as_slice.ensures) ∙ sym c.judge.ensures
    ∙ c.in-Err.is)

pub returns : goal.returns
returns g c = rw (c.in_ok-of.ensures) (is_over _ _ _ _ _ _ c.loop-frames.invariant
    (subst (λ x. Ends c.loop-frames.deframer c.loop-frames.left.now x c.next_completed.new.deframer) c.in_default.is
    c.in_ok-frame.ensures.ends))
