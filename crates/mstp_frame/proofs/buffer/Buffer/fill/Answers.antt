use Rattle.std.proofs.Common.{◌≡◌, ℕ, ◌≤◌, ◌-◌, ◌<◌, ◌++◌, length, ap, ◌∙◌, arith, nat_cmp}
use Rattle.std.specs.Ordering.{ord_min}
use Rattle.std.proofs.lemmas.Bool.Decides.{nat_tests}
use Rattle.mstp_frame.specs.Front.{octets_in}
use Rattle.mstp_frame.proofs.Taking.{appended, fill_ready}
use Rattle.mstp_frame.proofs.buffer.Buffer.fill.Goals as goal

min_fits : (a b n : ℕ) → n ≡ ord_min nat_cmp a b → 0 < a → 0 < b → (n ≤ a) × (n ≤ b) × (0 < n)
min_fits a b n e some more = (grind (arith, nat_tests), grind (arith, nat_tests), grind (arith, nat_tests))

pub returns-else-self-goal : goal.returns-else-self-goal
returns-else-self-goal c =
    let old = c.args.self.now in
    let goal = c.goal-goal.ensures in
    let few = min_fits (c.goal-goal.result - old.len) (length c.args.piece.now) c.min-count.result c.min-count.ensures
    (omega (arith, goal.more, c.requires.ready.len)) c.requires.some in
    let less : c.append.new.self.len < c.goal-goal.result =
    omega (arith, few, c.append.ensures.len, c.split_at.ensures.front_len, c.if-self-goal.false, goal.more, c.requires.ready.len) in
    appended old c.append.new.self c.args.piece.now c.min-count.result c.requires.kept c.append.ensures.is_whole
    (c.append.ensures.octets ∙ ap (λ o. octets_in old ++ o) c.split_at.ensures.front) few.2 few.1
    (fill_ready old c.append.new.self _ c.goal-goal.result c.requires.ready c.requires.kept c.requires.begun goal.goal goal.most c.append.ensures.octets
    c.append.ensures.is_whole c.append.ensures.len less)
