use Rattle.std.proofs.Common.{◌≡◌, inl, inr, rules, Some}
use Rattle.std.specs.Prelude.{slice_get}
use Rattle.npdu.specs.Header.{Spells, header_of}
use Rattle.router.specs.Plan.{left_by, parcel_of}
use Rattle.router.proofs.HearLaws.{hears_if, if_err, if_ok, on_err, overfull_if, taken_if, teaches_if}
use Rattle.router.proofs.router.Router.plan_npdu.Goals as goal

-- what comes of a message is what comes of a parcel that is met on a port
pub returns-clause-step : goal.returns-clause-step
returns-clause-step g c =
    let st = c.args.self.now in
    let there : slice_get st.ports c.args.port ≡ Some c.in-Some.at = search rules in
    let spelled : Spells c.args.npdu.now (header_of c.in-Ok.view) = search rules in
    if_ok c.plan_heard.result (λ plan comes.
    hears_if c.args.port (parcel_of c.args.from c.args.to c.args.npdu.now c.args.stamp) st c.in-Some.at (header_of c.in-Ok.view) there spelled c.args.now plan.out (left_by c.args.now plan st) comes)
    c.plan_heard.ensures.comes

pub returns-clause-copied : goal.returns-clause-copied
returns-clause-copied g c =
    let st = c.args.self.now in
    let there : slice_get st.ports c.args.port ≡ Some c.in-Some.at = search rules in
    let spelled : Spells c.args.npdu.now (header_of c.in-Ok.view) = search rules in
    if_ok c.plan_heard.result (λ plan copied has.
    teaches_if c.args.port (parcel_of c.args.from c.args.to c.args.npdu.now c.args.stamp) st c.in-Some.at (header_of c.in-Ok.view) there spelled (copied has).0 (copied has).1)
    c.plan_heard.ensures.copied

pub returns-clause-cause : goal.returns-clause-cause
returns-clause-cause g c =
    let st = c.args.self.now in
    let there : slice_get st.ports c.args.port ≡ Some c.in-Some.at = search rules in
    let spelled : Spells c.args.npdu.now (header_of c.in-Ok.view) = search rules in
    if_err c.plan_heard.result (λ fault cause. elim cause [
      | inl memory ↦ inl memory
      | inr full ↦ inr (full.0, overfull_if c.args.port (parcel_of c.args.from c.args.to c.args.npdu.now c.args.stamp) st c.in-Some.at (header_of c.in-Ok.view) there spelled full.1)
    ]) c.plan_heard.ensures.cause

pub returns-clause-taken : goal.returns-clause-taken
returns-clause-taken g c =
    let st = c.args.self.now in
    let there : slice_get st.ports c.args.port ≡ Some c.in-Some.at = search rules in
    let spelled : Spells c.args.npdu.now (header_of c.in-Ok.view) = search rules in
    on_err c.plan_heard.result (taken_if c.args.port (parcel_of c.args.from c.args.to c.args.npdu.now c.args.stamp) st c.in-Some.at (header_of c.in-Ok.view) there spelled)
    c.plan_heard.ensures.taken
