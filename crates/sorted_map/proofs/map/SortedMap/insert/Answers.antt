use Rattle.std.proofs.Common.{◌∙◌, sym, ap, subst, Result, Ok, Err, OnErr}
use Rattle.std.specs.BTreeMap.{is_at}
use Rattle.std.specs.Map.{lookup}
use Rattle.sorted_map.specs.Entries.{AreSorted}
use Rattle.sorted_map.proofs.Sorted.{has_now, inserted_there, set_there, sorted_insert, value_absent, value_there}
use Rattle.sorted_map.proofs.map.SortedMap.insert.Goals as goal

on_err : {X Y P : Type 0} (result : Result X Y) → P → OnErr result P
on_err (Ok x) p = tt
on_err (Err y) p = p

-- the key was there, and has another value
pub invariant_of-self : goal.invariant_of-self
invariant_of-self g c =
    let es = c.self.inside.entries.items in
    subst (λ (l : _). AreSorted g.K.Ord.cmp l)
    (sym (set_there g.met.K.Ord.total es c.args.key c.in-Ok.place c.index-had.result.now c.args.value c.self.invariant (rw c.self.view_is c.in-Ok.ensures.found) c.index-had.ensures))
    (sorted_insert g.met.K.Ord.total es c.args.key c.args.value c.self.invariant)

pub returns-in-Ok-clause-had : goal.returns-in-Ok-clause-had
returns-in-Ok-clause-had g c =
    let es = c.self.inside.entries.items in
    sym (value_there g.met.K.Ord.total es c.args.key c.in-Ok.place c.index-had.result.now c.self.invariant (rw c.self.view_is c.in-Ok.ensures.found) c.index-had.ensures)
    ∙ ap (λ (l : _). lookup (is_at (g.K.Ord.cmp c.args.key)) l) c.self.view_is

pub returns-in-Ok-clause-entries : goal.returns-in-Ok-clause-entries
returns-in-Ok-clause-entries g c =
    rw (← c.self.view_is)
    (set_there g.met.K.Ord.total c.self.inside.entries.items c.args.key c.in-Ok.place c.index-had.result.now c.args.value c.self.invariant
    (rw c.self.view_is c.in-Ok.ensures.found) c.index-had.ensures)

pub returns-in-Ok-clause-set : goal.returns-in-Ok-clause-set
returns-in-Ok-clause-set g c =
    has_now g.met.K.Ord.total c.args.self.now _ c.args.key c.args.value (returns-in-Ok-clause-entries g c)

-- it is added in the gap
pub invariant_of-self-in-Err : goal.invariant_of-self-in-Err
invariant_of-self-in-Err g c =
    let es = c.self.inside.entries.items in
    rw c.in_ok-insert-in-Err.ensures.items (subst (λ (l : _). AreSorted g.K.Ord.cmp l)
    (sym (inserted_there g.met.K.Ord.total es c.args.key c.in-Err.place c.args.value (rw c.self.view_is c.in-Err.ensures.absent)))
    (sorted_insert g.met.K.Ord.total es c.args.key c.args.value c.self.invariant))

pub returns-in_ok-insert-in-Err-clause-had : goal.returns-in_ok-insert-in-Err-clause-had
returns-in_ok-insert-in-Err-clause-had g c = sym (value_absent g.met.K.Ord.total c.args.self.now c.args.key c.in-Err.place c.in-Err.ensures.absent)

pub returns-in_ok-insert-in-Err-clause-entries : goal.returns-in_ok-insert-in-Err-clause-entries
returns-in_ok-insert-in-Err-clause-entries g c =
    rw (c.in_ok-insert-in-Err.ensures.items, ← c.self.view_is)
    (inserted_there g.met.K.Ord.total c.self.inside.entries.items c.args.key c.in-Err.place c.args.value (rw c.self.view_is c.in-Err.ensures.absent))

pub returns-in_ok-insert-in-Err-clause-set : goal.returns-in_ok-insert-in-Err-clause-set
returns-in_ok-insert-in-Err-clause-set g c =
    has_now g.met.K.Ord.total c.args.self.now _ c.args.key c.args.value (returns-in_ok-insert-in-Err-clause-entries g c)

-- memory fails only for a key that was not there
pub returns-in_err-insert-in-Err-clause-absent : goal.returns-in_err-insert-in-Err-clause-absent
returns-in_err-insert-in-Err-clause-absent g c =
    on_err c.from_residual.result (value_absent g.met.K.Ord.total c.args.self.now c.args.key c.in-Err.place c.in-Err.ensures.absent)
