-- What is put out and passed on: by ports, nodes, routers and broadcast managers.
use Rattle.std.specs.Prelude.{◌≡◌, ℕ, List}
use Rattle.history.specs.Lists.{Has}
use Rattle.inside.specs.Inside.{HasInside, Inside}
use Rattle.npdu.specs.declared.parcel.Parcel.{Parcel}
use Rattle.carry.specs.Things.{Bears, Thing, net_of}

-- this is inside what one of these things bears, and was said at this moment
pub record IsInsideOne {A : Type 0} (ts : List (Thing A)) (i : Inside) (stamp : ℕ) : Type 0 where
  pub thing : Thing A
  pub there : Has ts thing
  pub parcel : Parcel A
  pub bears : Bears thing parcel
  pub has : HasInside (net_of thing) parcel.from parcel.to parcel.npdu i
  pub same : parcel.stamp ≡ stamp

-- whatever is inside what a thing bears is inside what one of these bears, and was said at the same moment: of what has
-- nothing inside nothing is asked
pub record PassesOn {A : Type 0} (ts : List (Thing A)) (t : Thing A) : Type 0 where
  pub passes : (p : Parcel A) (i : Inside) → Bears t p → HasInside (net_of t) p.from p.to p.npdu i →
      IsInsideOne ts i p.stamp

-- a thing bears no parcel but these, on this network
pub record PutsOut {A : Type 0} (net : ℕ) (ps : List (Parcel A)) (t : Thing A) : Type 0 where
  pub net_is : net_of t ≡ net
  pub bears : (p : Parcel A) → Bears t p → Has ps p
