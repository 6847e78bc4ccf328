use Rattle.std.proofs.Common.{◌∙◌, sym, ap}
use Rattle.std.specs.BTreeMap.{is_at}
use Rattle.std.specs.Map.{lookup}
use Rattle.sorted_map.proofs.Sorted.{insert_same, value_absent, value_there}
use Rattle.sorted_map.proofs.map.SortedMap.get.Goals as goal

-- the key is at its place, and its value there is the one that was read
pub returns-in-Ok-clause-value : goal.returns-in-Ok-clause-value
returns-in-Ok-clause-value g c =
    let es = c.self.inside.entries.items in
    sym (value_there g.met.K.Ord.total es c.args.key c.in-Ok.place c.index.result.now c.self.invariant (rw c.self.view_is c.in-Ok.ensures.found) c.index.ensures)
    ∙ ap (λ (l : _). lookup (is_at (g.K.Ord.cmp c.args.key)) l) c.self.view_is

pub returns-in-Ok-clause-kept : goal.returns-in-Ok-clause-kept
returns-in-Ok-clause-kept g c =
    let es = c.self.inside.entries.items in
    let known = value_there g.met.K.Ord.total es c.args.key c.in-Ok.place c.index.result.now c.self.invariant (rw c.self.view_is c.in-Ok.ensures.found) c.index.ensures in
    rw (← c.self.view_is) (insert_same g.met.K.Ord.total es c.args.key c.index.result.now.1 c.self.invariant known)

pub returns-in-Err-clause-value : goal.returns-in-Err-clause-value
returns-in-Err-clause-value g c = sym (value_absent g.met.K.Ord.total c.args.self.now c.args.key c.in-Err.field-0 c.in-Err.ensures.absent)
