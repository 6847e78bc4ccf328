use Rattle.std.proofs.Common.{◌≡◌, ◌∙◌, sym, subst, ℕ, ◌<◌, true, false, arith, rules}
use Rattle.runner.proofs.SeekingLaws.{passed_at, stray_behind}
use Rattle.runner.specs.Seeking.{IsStray}
use Rattle.wire.specs.Datagrams.{datagram_of}
use Rattle.runner.proofs.seeking.last_match.Goals as goal

-- the item before isn't recent
pub returns-then-not-is_recent-clause-stray : goal.returns-then-not-is_recent-clause-stray
returns-then-not-is_recent-clause-stray g c =
    let some : 0 < c.loop-number.number = search rules in
    let late : c.is_recent.result ≡ false = search rules in
    subst (λ (t : ℕ). IsStray t (datagram_of c.args.got.now) c.args.world.now.items) (c.loop-number.invariant.0)
    (stray_behind c.moment-now.result (datagram_of c.args.got.now) c.args.world.now.items c.loop-number.number
    c.item_at-item.result.now some c.item_at-item.ensures (sym c.is_recent.ensures ∙ late) (c.loop-number.invariant.2))

-- it is recent, and another
pub loop-number-preserved : goal.loop-number-preserved
loop-number-preserved g c =
    let some : 0 < c.loop-number.number = search rules in
    let recent : c.is_recent.result ≡ true = search rules in
    let other : c.is_match.result ≡ false = search rules in
    let most = c.loop-number.invariant.1 in (
      c.loop-number.invariant.0,
      omega (arith, most),
      passed_at c.moment-now.result (datagram_of c.args.got.now) c.args.world.now.items c.loop-number.number
          c.item_at-item.result.now some c.item_at-item.ensures (sym c.is_recent.ensures ∙ recent)
          (λ same. absurd (cc (sym other ∙ c.is_match.ensures.1 same))) (c.loop-number.invariant.2),
    )
