use Rattle.std.proofs.Common.{◌≡◌, ◌<◌, length, subst, arith, true, false}
use Rattle.std.proofs.lemmas.Grind.{common_steps}
use Rattle.std.proofs.lemmas.Option.{slice_get_within}
use Rattle.sorted_map.specs.Entries.{AreSorted}
use Rattle.sorted_map.proofs.Sorted.{left_absent, left_other, sorted_removed, taken_there, updated}
use Rattle.sorted_map.proofs.map.SortedMap.remove_pair.Goals as goal

-- the key isn't there
pub returns-in_default-clause-entries : goal.returns-in_default-clause-entries
returns-in_default-clause-entries g c =
    left_absent g.met.K.Ord.total g.V.PartialEq.eq c.args.self.now c.args.key c.args.value c.in_default.field-0 c.in_default.ensures.absent

pub returns-in_default-clause-values : goal.returns-in_default-clause-values
returns-in_default-clause-values g c =
    updated g.met.K.Ord.total g.V.PartialEq.eq c.args.self.now c.args.key c.args.value c.args.self.now
    (subst (λ (l : _). AreSorted g.K.Ord.cmp l) c.self.view_is c.self.invariant)
    (left_absent g.met.K.Ord.total g.V.PartialEq.eq c.args.self.now c.args.key c.args.value c.in_default.field-0 c.in_default.ensures.absent)

pub index-requires : goal.index-requires
index-requires g c =
    let within : c.in-Ok.place < length c.self.inside.entries.items =
    slice_get_within c.self.inside.entries.items c.in-Ok.place c.in-Ok.ensures.found.entry (rw c.self.view_is c.in-Ok.ensures.found.is) in
    grind (arith, common_steps, within)

pub remove-requires : goal.remove-requires
remove-requires g c =
    let within : c.in-Ok.place < length c.self.inside.entries.items =
    slice_get_within c.self.inside.entries.items c.in-Ok.place c.in-Ok.ensures.found.entry (rw c.self.view_is c.in-Ok.ensures.found.is) in
    grind (arith, common_steps, within)

-- it has this value
pub invariant_of-self : goal.invariant_of-self
invariant_of-self g c = rw c.remove.ensures.items (sorted_removed g.met.K.Ord.total c.self.inside.entries.items c.in-Ok.place c.self.invariant)

pub returns-then-eq-clause-entries : goal.returns-then-eq-clause-entries
returns-then-eq-clause-entries g c =
    let same : g.V.PartialEq.eq c.index.result.now.1 c.args.value ≡ true = grind (arith, common_steps) in
    rw (c.remove.ensures.items, ← c.self.view_is)
    (taken_there g.met.K.Ord.total g.V.PartialEq.eq c.self.inside.entries.items c.args.key c.args.value c.in-Ok.place c.index.result.now c.self.invariant
    (rw c.self.view_is c.in-Ok.ensures.found) c.index.ensures same)

pub returns-then-eq-clause-values : goal.returns-then-eq-clause-values
returns-then-eq-clause-values g c =
    updated g.met.K.Ord.total g.V.PartialEq.eq c.args.self.now c.args.key c.args.value _
    (subst (λ (l : _). AreSorted g.K.Ord.cmp l) c.self.view_is c.self.invariant) (returns-then-eq-clause-entries g c)

-- it has another
pub returns-else-eq-clause-entries : goal.returns-else-eq-clause-entries
returns-else-eq-clause-entries g c =
    let other : g.V.PartialEq.eq c.index.result.now.1 c.args.value ≡ false = grind (arith, common_steps) in
    rw (← c.self.view_is)
    (left_other g.met.K.Ord.total g.V.PartialEq.eq c.self.inside.entries.items c.args.key c.args.value c.in-Ok.place c.index.result.now c.self.invariant
    (rw c.self.view_is c.in-Ok.ensures.found) c.index.ensures other)

pub returns-else-eq-clause-values : goal.returns-else-eq-clause-values
returns-else-eq-clause-values g c =
    updated g.met.K.Ord.total g.V.PartialEq.eq c.args.self.now c.args.key c.args.value _
    (subst (λ (l : _). AreSorted g.K.Ord.cmp l) c.self.view_is c.self.invariant) (returns-else-eq-clause-entries g c)
