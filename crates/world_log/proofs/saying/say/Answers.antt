use Rattle.std.proofs.Common.{◌≡◌, ap, arith, length, suc, List, ◌∷◌}
use Rattle.npdu.specs.declared.parcel.Parcel.{Parcel}
use Rattle.world_log.proofs.SaidLaws.{all_are_said, none_left, one_more, rest_has}
use Rattle.world_log.proofs.saying.say.Goals as goal

-- one more is said
pub loop-parcel-preserved : goal.loop-parcel-preserved
loop-parcel-preserved g c =
    let left = c.loop-parcel.parcel-iterator.rest.items in
    let rest = c.next.new.self.rest.items in
    let e : left ≡ c.in-Some.parcel ∷ rest = c.in-Some.ensures.steps.0 in
    let long : length left ≡ suc (length rest) = ap (λ (ps : List (Parcel _)). length ps) e in (
      omega (arith, long, c.push_reserved.ensures.len, c.push_reserved.ensures.room, c.loop-parcel.invariant.0),
      rest_has c.args.net left c.in-Some.parcel rest c.loop-parcel.invariant.1 e,
      one_more c.args.net left c.in-Some.parcel rest c.loop-parcel.list.items c.push_reserved.new.list.items
          c.message_in.result c.args.parcels c.args.list.now.items c.loop-parcel.invariant.2 e
          c.push_reserved.ensures.items c.message_in.ensures.inside,
    )

-- all are said
pub returns : goal.returns
returns g c =
    let left = c.loop-parcel.parcel-iterator.rest.items in
    let none = none_left left (omega (arith, c.loop-parcel.parcel-iterator.rest.ok.0, c.in-None.ensures.steps.0)) in
    all_are_said c.args.net left c.loop-parcel.list.items c.args.parcels c.args.list.now.items c.loop-parcel.invariant.2 none
