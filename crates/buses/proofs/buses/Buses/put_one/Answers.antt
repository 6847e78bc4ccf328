use Rattle.std.proofs.Common.{◌+◌, rules, subst, sym}
use Rattle.std.proofs.lemmas.List.{with_items_is}
use Rattle.std.specs.List.{AllByRecursion}
use Rattle.bus_traffic.specs.Bus.{HasRoom}
use Rattle.buses.proofs.buses.Buses.put_one.Goals as goal

pub returns-clause-room : goal.returns-clause-room
returns-clause-room g c = λ n h. subst (λ xs. AllByRecursion (λ o. HasRoom n o) xs)
    (sym (with_items_is c.args.self.now.buses c.put_at.new.buses (search rules)))
    (c.put_at.ensures.room n (subst (λ xs. AllByRecursion (λ o. HasRoom (n + 1) o) xs) (sym c.deref_mut.ensures.value) h))
