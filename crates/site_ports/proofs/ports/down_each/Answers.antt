use Rattle.std.proofs.lemmas.Grind.{common_steps}
use Rattle.std.proofs.lemmas.Result.{err_from_is_err_and}
use Rattle.std.proofs.Common.{arith, ap, refl, subst, sym, ◌≡◌, ◌∙◌, ◌+◌, List, [], ◌∷◌, drop}
use Rattle.site_ports.proofs.PortSteps.{down_step, refused_of_all, rest_of_all}
use Rattle.site_ports.specs.Drafts.{drafted}
use Rattle.site_ports.specs.Ports.{DownsEach, over, places_of}
use Rattle.site_ports.proofs.ports.down_each.Goals as goal

pub returns-in_err-down_one-clause-cause : goal.returns-in_err-down_one-clause-cause
returns-in_err-down_one-clause-cause g c =
    let p = err_from_is_err_and c.from_residual.result c.from_residual.ensures.1 in
    let e : drop c.loop-one.one-index c.args.said.now ≡ c.one-item.result ∷ drop (c.loop-one.one-index + 1) c.args.said.now = grind (arith, common_steps) in
    let r = refused_of_all (places_of (drafted c.args.now c.args.ports.now c.args.draft.now).ports)
    (places_of (drafted c.args.now c.args.ports.now c.loop-one.draft).ports) c.args.said.now (drop c.loop-one.one-index c.args.said.now) (drop (c.loop-one.one-index + 1) c.args.said.now) c.one-item.result
    c.in_err-down_one.field-0.0 e (c.loop-one.invariant.2) (c.loop-one.invariant.1) c.in_err-down_one.ensures.cause in
    rw (p.1) (rw (p.2) r)

pub loop-one-preserved : goal.loop-one-preserved
loop-one-preserved g c =
    let e : drop c.loop-one.one-index c.args.said.now ≡ c.one-item.result ∷ drop (c.loop-one.one-index + 1) c.args.said.now = grind (arith, common_steps) in (
      c.in_ok-down_one.ensures.order,
      c.in_ok-down_one.ensures.places ∙ c.loop-one.invariant.1,
      rest_of_all c.args.said.now (drop c.loop-one.one-index c.args.said.now) (drop (c.loop-one.one-index + 1) c.args.said.now) c.one-item.result e (c.loop-one.invariant.2),
      down_step c.args.now c.args.said.now (drop c.loop-one.one-index c.args.said.now) (drop (c.loop-one.one-index + 1) c.args.said.now) c.one-item.result (drafted c.args.now c.args.ports.now c.args.draft.now)
          (drafted c.args.now c.args.ports.now c.loop-one.draft) (drafted c.args.now c.args.ports.now c.down_one.new.draft)
          e (c.loop-one.invariant.3) c.in_ok-down_one.ensures.downs,
    )

pub returns-clause-downs : goal.returns-clause-downs
returns-clause-downs g c =
    let none : drop c.loop-one.one-index c.args.said.now ≡ [] = grind (arith, common_steps) in
    c.loop-one.invariant.3 (drafted c.args.now c.args.ports.now c.loop-one.draft)
    (subst (λ (b : List _). DownsEach c.args.now b (drafted c.args.now c.args.ports.now c.loop-one.draft)
    (drafted c.args.now c.args.ports.now c.loop-one.draft)) (sym (none)) refl)
