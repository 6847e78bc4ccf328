use Rattle.std.proofs.Common.{rules, ◌≡◌, ◌∙◌, sym, ap, subst, length, List, ℕ, refl}
use Rattle.std.proofs.lemmas.Option.{slice_get_past, slice_get_read}
use Rattle.std.specs.Prelude.{IfOk, Option, Some, None, slice_get, unwrap_or}
use Rattle.client_tsm.proofs.Apart.{heard_is_planned}
use Rattle.client_tsm.proofs.Telling.{reached_is, reached_none}
use Rattle.client_tsm.specs.Client.{ClientTsmState}
use Rattle.client_tsm.specs.Hearing.{Reached, heard_of, place_of}
use Rattle.client_tsm.specs.Open.{Open}
use Rattle.client_tsm.specs.Planned.{for_heard}
use Rattle.client_tsm.specs.Steps.{IsFinished, IsPlan}
use Rattle.client_tsm.proofs.client.ClientTsm.plan.Goals as goal

pub returns-in_default-get-clause-is : goal.returns-in_default-get-clause-is
returns-in_default-get-clause-is g c =
    let place = c.in-Some.place in
    let items : c.deref.result.now ≡ c.args.self.now.open_ones =
    ◌∙◌ {b = c.self.inside.open_ones.items} c.deref.ensures.value (ap (λ (s : ClientTsmState _). s.open_ones) c.self.view_is) in
    let found = sym (c.in-Some.ensures ∙ ap (λ (id : ℕ). place_of c.args.now c.args.from id c.args.self.now.open_ones)
    (c.unwrap_or.ensures ∙ ap (λ (o : Option ℕ). unwrap_or o 0) c.invoke_id.ensures)) in
    let none : slice_get c.args.self.now.open_ones place ≡ None =
    ap (λ (os : List (Open _)). slice_get os place) (sym items) ∙ slice_get_past c.deref.result.now place c.in_default-get.ensures.lookup.3 in
    subst (λ (r : Reached _). IsFinished r c.quiet-in_default-get.result)
    (sym (reached_none c.args.now c.args.from (heard_of c.args.apdu.now) c.args.self.now place found none))
    (record { found = None; means = refl; is = c.quiet-in_default-get.ensures })

pub returns-clause-is : goal.returns-clause-is
returns-clause-is g c =
    let place = c.in-Some.place in
    let here = c.in-Some-get.transaction.now in
    let items : c.deref.result.now ≡ c.args.self.now.open_ones =
    ◌∙◌ {b = c.self.inside.open_ones.items} c.deref.ensures.value (ap (λ (s : ClientTsmState _). s.open_ones) c.self.view_is) in
    let found = sym (c.in-Some.ensures ∙ ap (λ (id : ℕ). place_of c.args.now c.args.from id c.args.self.now.open_ones)
    (c.unwrap_or.ensures ∙ ap (λ (o : Option ℕ). unwrap_or o 0) c.invoke_id.ensures)) in
    let there : slice_get c.args.self.now.open_ones place ≡ Some here =
    ap (λ (os : List (Open _)). slice_get os place) (sym items)
    ∙ slice_get_read c.deref.result.now (length c.deref.result.now) place here refl c.in-Some-get.ensures.lookup.3.0 c.in-Some-get.ensures.lookup.1 in
    subst (λ (r : Reached _). IfOk c.told_open.result (IsFinished r))
    (sym (reached_is c.args.now c.args.from (heard_of c.args.apdu.now) c.args.self.now place here found there)) c.told_open.ensures

pub returns-in_default-get-clause-planned : goal.returns-in_default-get-clause-planned
returns-in_default-get-clause-planned g c =
    for_heard c.args.from (heard_of c.args.apdu.now) c.quiet-in_default-get.result (returns-in_default-get-clause-is g c) refl

pub returns-clause-planned : goal.returns-clause-planned
returns-clause-planned g c =
    heard_is_planned c.args.now c.args.from (heard_of c.args.apdu.now) c.args.self.now c.told_open.result (returns-clause-is g c)

pub returns-in_default-clause-planned : goal.returns-in_default-clause-planned
returns-in_default-clause-planned g c =
    let is : IsPlan c.args.now c.args.from (heard_of c.args.apdu.now) c.args.self.now c.quiet.result = search rules in
    for_heard c.args.from (heard_of c.args.apdu.now) c.quiet.result is refl
