use Rattle.std.proofs.Common.{◌≡◌, arith, subst, ℕ}
use Rattle.std.proofs.lemmas.Result.{err_from_is_err_and}
use Rattle.tags.specs.Tag.{plain_tag}
use Rattle.tags.proofs.ElementWalk.{Progress, walk_goes_on, walk_ends, walk_is_stuck, walk_is_refused}
use Rattle.tags.proofs.element.after_closing.Goals as goal

pub returns-in_err-tag-clause-refused : goal.returns-in_err-tag-clause-refused
returns-in_err-tag-clause-refused c =
    let p = err_from_is_err_and c.from_residual.result c.from_residual.ensures.1 in
    rw (p.1) (walk_is_stuck c.args.octets.now c.loop-depth.depth c.loop-depth.rest.now c.loop-depth.invariant c.loop-depth-test.true
    c.in_err-tag.ensures.refused)

pub returns-in_err-tag-clause-fault : goal.returns-in_err-tag-clause-fault
returns-in_err-tag-clause-fault c =
    let p = err_from_is_err_and c.from_residual.result c.from_residual.ensures.1 in
    rw (p.1) (walk_is_refused _ c.args.octets.now c.loop-depth.depth c.loop-depth.rest.now c.loop-depth.invariant c.loop-depth-test.true
    (rw (p.2) c.in_err-tag.ensures.fault))

pub loop-depth-preserved : goal.loop-depth-preserved
loop-depth-preserved c =
    walk_goes_on c.args.octets.now c.loop-depth.depth c.loop-depth.rest.now (plain_tag c.in_ok-tag.tag) c.in_ok-tag.next.now c.waiting_after-depth.result
    c.loop-depth.invariant c.loop-depth-test.true c.in_ok-tag.ensures.read c.waiting_after-depth.ensures

pub returns-clause-read : goal.returns-clause-read
returns-clause-read c =
    let zero-is : c.loop-depth.depth ≡ 0 = omega arith in
    walk_ends c.args.octets.now c.loop-depth.rest.now (subst (λ (d : ℕ). Progress c.args.octets.now d c.loop-depth.rest.now) zero-is c.loop-depth.invariant)
