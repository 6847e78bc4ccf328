use Rattle.std.proofs.Common.{◌≡◌, ◌++◌, drop, flat_map}
use Rattle.console.specs.Respond.{datagrams_of}
use Rattle.console.proofs.builtin.datagrams.Given as goal

-- the datagrams so far, with those of the rest, are those of all
abbrev pub invariant-loop-parcel : goal.invariant-loop-parcel
invariant-loop-parcel g l =
    l.said ++ flat_map datagrams_of (drop l.parcel-index l.parcels) ≡ flat_map datagrams_of l.parcels
