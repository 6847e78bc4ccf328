use Rattle.std.proofs.Common.{◌≡◌, ◌++◌, drop, flat_map}
use Rattle.unitdata.specs.Saying.{parcel_of}
use Rattle.unitdata.proofs.parcels.parcels_of.Given as goal

-- the parcels so far, with those of the rest, are those of all
abbrev pub invariant-loop-said : goal.invariant-loop-said
invariant-loop-said g l =
    l.parcels ++ flat_map (λ s. parcel_of l.now l.mac (g.S.Say.spoken s)) (drop l.said-index l.says) ≡
    flat_map (λ s. parcel_of l.now l.mac (g.S.Say.spoken s)) l.says
