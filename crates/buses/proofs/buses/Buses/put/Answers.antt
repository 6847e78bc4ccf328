use Rattle.std.proofs.Common.{◌≡◌, ◌≤◌, ◌+◌, ◌∷◌, ◌∙◌, ap, length, rules, sym}
use Rattle.buses.proofs.Places.{fewer_room}
use Rattle.buses.specs.Buses.{buses_of}
use Rattle.buses.specs.Puts.{put_on}
use Rattle.buses.proofs.buses.Buses.put.Goals as goal

pub put_one-requires : goal.put_one-requires
put_one-requires g c = fewer_room 1 (length c.loop-put.put-iterator.rest.items) c.loop-put.self.buses.items (search rules)
    c.loop-put.invariant.1

pub loop-put-preserved : goal.loop-put-preserved
loop-put-preserved g c =
    let e : c.loop-put.put-iterator.rest.items ≡ c.in-Some.put ∷ c.next.new.self.rest.items = search rules in
    let le : length c.next.new.self.rest.items + 1 ≤ length c.loop-put.put-iterator.rest.items = search rules in (
      ap (λ b. put_on c.args.now c.puts.inside.items c.next.new.self.rest.items b) c.put_one.ensures.put
          ∙ sym (ap (λ xs. put_on c.args.now c.puts.inside.items xs (buses_of c.loop-put.self)) e)
          ∙ c.loop-put.invariant.0,
      c.put_one.ensures.room (length c.next.new.self.rest.items)
          (fewer_room (length c.next.new.self.rest.items + 1) (length c.loop-put.put-iterator.rest.items)
          c.loop-put.self.buses.items le c.loop-put.invariant.1),
    )
