use Rattle.std.proofs.Common.{◌∙◌, ap, arith, ◌++◌, ◌∷◌, []}
use Rattle.world_log.proofs.IssueLaws.{one_behind, one_issued, was_ready}
use Rattle.world_log.proofs.last_issues.LastIssues.push.Goals as goal
use Rattle.world_log.specs.Issues.{IssuesState, key_of}

-- room was made for it
pub put_number-requires : goal.put_number-requires
put_number-requires g c = (was_ready c.self.inside.issued c.self.inside.runs c.self.inside.last.items c.self.inside.ready
    c.args.key c.self.invariant (ap (λ (s : IssuesState). s.ready) c.self.view_is ∙ c.requires.ready)).known

pub push_reserved-requires : goal.push_reserved-requires
push_reserved-requires g c = (was_ready c.self.inside.issued c.self.inside.runs c.self.inside.last.items c.self.inside.ready
    c.args.key c.self.invariant (ap (λ (s : IssuesState). s.ready) c.self.view_is ∙ c.requires.ready)).room

pub overflow_add-self : goal.overflow_add-self
overflow_add-self g c =
    let lt = (was_ready c.self.inside.issued c.self.inside.runs c.self.inside.last.items c.self.inside.ready
    c.args.key c.self.invariant (ap (λ (s : IssuesState). s.ready) c.self.view_is ∙ c.requires.ready)).fits in
    omega (arith, lt)

-- it was issued
pub invariant_of-self : goal.invariant_of-self
invariant_of-self g c = one_issued c.self.inside.issued c.self.inside.runs c.push_reserved.new.list c.self.inside.last.items
    c.put_number.new.last.items c.self.inside.ready c.args.key c.self.invariant c.put_number.ensures
    c.push_reserved.ensures.items

pub returns : goal.returns
returns g c = one_behind c.self.inside.runs.items c.push_reserved.new.list.items c.args.key c.push_reserved.ensures.items
    ∙ ap (λ (s : IssuesState). s.keys ++ key_of c.args.key ∷ []) c.self.view_is
