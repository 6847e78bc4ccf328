use Rattle.std.proofs.Common.{◌∙◌, ap, length, map, rules, subst, sym}
use Rattle.std.proofs.lemmas.List.{with_items_is}
use Rattle.std.specs.List.{AllByRecursion}
use Rattle.bus_traffic.specs.Bus.{HasRoom, bus_of}
use Rattle.buses.proofs.Places.{same_buses}
use Rattle.buses.proofs.buses.Buses.prepare.Goals as goal

pub returns-in_err-reserve_each-clause-same : goal.returns-in_err-reserve_each-clause-same
returns-in_err-reserve_each-clause-same g c = same_buses c.args.self.now.frames _ _
    (ap (λ xs. map (λ o. bus_of o) xs) (with_items_is c.args.self.now.buses c.reserve_each.new.buses (search rules))
    ∙ c.reserve_each.ensures.same ∙ ap (λ xs. map (λ o. bus_of o) xs) c.deref_mut.ensures.value)

pub returns-clause-same : goal.returns-clause-same
returns-clause-same g c = same_buses c.args.self.now.frames _ _
    (ap (λ xs. map (λ o. bus_of o) xs) (with_items_is c.args.self.now.buses c.reserve_each.new.buses (search rules))
    ∙ c.reserve_each.ensures.same ∙ ap (λ xs. map (λ o. bus_of o) xs) c.deref_mut.ensures.value)

pub returns-clause-room : goal.returns-clause-room
returns-clause-room g c = subst (λ xs. AllByRecursion (λ o. HasRoom (length c.in_ok-puts.puts.frames) o) xs)
    (sym (with_items_is c.args.self.now.buses c.reserve_each.new.buses (search rules)))
    (subst (λ n. AllByRecursion (λ o. HasRoom n o) c.reserve_each.new.buses) c.len.ensures
    c.in_ok-reserve_each.ensures.room)
