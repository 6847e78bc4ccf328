use Rattle.std.proofs.Common.{rules, subst, sym}
use Rattle.std.proofs.lemmas.List.{with_items_is}
use Rattle.std.specs.List.{AllByRecursion}
use Rattle.bus_traffic.specs.Bus.{HasRoom}
use Rattle.buses.proofs.buses.Buses.restart.Goals as goal

pub returns-clause-room : goal.returns-clause-room
returns-clause-room g c = λ n h. subst (λ xs. AllByRecursion (λ o. HasRoom n o) xs)
    (sym (with_items_is c.args.self.now.buses c.restart_each.new.buses (search rules)))
    (c.restart_each.ensures.room n (subst (λ xs. AllByRecursion (λ o. HasRoom n o) xs) (sym c.deref_mut.ensures.value) h))
