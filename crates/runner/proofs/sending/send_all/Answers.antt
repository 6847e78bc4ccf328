use Rattle.std.proofs.Common.{◌≡◌, ◌∙◌, sym, ap, subst, ℕ, ◌≤◌, ◌<◌, ◌^◌, ◌-◌, length, true, false, arith, rules}
use Rattle.runner.proofs.SendingLaws.{fault_more, most_raised, raised_more}
use Rattle.wire.specs.Counts.{IsRisen, raised}
use Rattle.runner.proofs.sending.send_all.Goals.{then-not-send_one, else-not-send_one}
use Rattle.runner.proofs.sending.send_all.Goals as goal

-- one more was sent, or couldn't be
pub loop-number-preserved : goal.loop-number-preserved
loop-number-preserved g c =
    let below : c.loop-number.number < length c.args.world.now.items = search rules in
    let le = c.loop-number.invariant.0 in
    let sends = c.send_one.ensures.sends ∙ ap (λ (n : ℕ). raised n 1) (c.loop-number.invariant.2)
    ∙ raised_more (g.W.Wire.sends c.args.wire.now) c.args.sent c.loop-number.number le in
    let recvs = c.send_one.ensures.recvs ∙ c.loop-number.invariant.3 in
    let latest = c.send_one.ensures.latest ∙ c.loop-number.invariant.4 in
    elim c.if-not-send_one.branch [
      | then-not-send_one w ↦
          let bad : c.send_one.result ≡ false = search rules in
          let more = c.send_one.ensures.failed bad in (
            omega (arith, le),
            omega (arith, below),
            sends,
            recvs,
            latest,
            most_raised (g.W.Wire.faults c.loop-number.wire) (g.W.Wire.faults c.send_one.new.wire) more,
            λ none. absurd (cc (sym w.failed-is ∙ none)),
            λ some. fault_more (g.W.Wire.faults c.args.wire.now) (g.W.Wire.faults c.loop-number.wire)
                (g.W.Wire.faults c.send_one.new.wire) c.loop-number.failed (c.loop-number.invariant.5) more
                (c.loop-number.invariant.6) (c.loop-number.invariant.7),
          )
      | else-not-send_one w ↦
          let good : c.send_one.result ≡ true = search rules in
          let same = c.send_one.ensures.sound good in (
            omega (arith, le),
            omega (arith, below),
            sends,
            recvs,
            latest,
            subst (λ (n : ℕ). n ≤ 2 ^ 64 - 1) (sym same) (c.loop-number.invariant.5),
            λ none. same ∙ c.loop-number.invariant.6 (sym w.failed-is ∙ none),
            λ some. subst (λ (n : ℕ). IsRisen (g.W.Wire.faults c.args.wire.now) n) (sym same)
                (c.loop-number.invariant.7 (sym w.failed-is ∙ some)),
          )
    ]
