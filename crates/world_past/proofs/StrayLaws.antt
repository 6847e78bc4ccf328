-- A datagram from outside.
use Rattle.std.proofs.Common.{inl, inr, subst}
use Rattle.tags.specs.declared.fault.Fault.{Fault}
use Rattle.traffic.specs.declared.item.Item.{Item}
use Rattle.world.specs.Straying.{StrayIsRefused, Strays}
use Rattle.world.specs.World.{WorldState}
use Rattle.world.specs.site_ports.Ports.{Then}
use Rattle.world.specs.world_log.Growing.{WorldHistory}
use Rattle.world_past.proofs.KeepingLaws.{acts_keep, over, over_is}
use Rattle.world.specs.Keeping.{Keeps}
use Rattle.world_past.specs.Strays.{StrayIsRefusedInAll, StraysInAll}

stray_over : {A : Type 0} (i : Item A) (past : WorldHistory A) (w k l : WorldState A) → Keeps past w k →
    Strays i (over w k) l → Then (Strays i w) (λ v. Keeps past v l)
stray_over i past w k l p s = let a = acts_keep past w k p l s.place s.n s.next s.told s.acts in record {
  middle = a.middle;
  first = record {
    place = s.place;
    at = s.at;
    n = s.n;
    next = s.next;
    told = s.told;
    addressee = s.addressee;
    hears = s.hears;
    acts = a.first;
  };
  rest = a.rest;
}

pub keeps_strays : {A : Type 0} → StraysInAll A
keeps_strays i past w k l p s =
    stray_over i past w k l p (subst (λ (x : WorldState _). Strays i x l) (over_is past w k p) s)

not_over : {A : Type 0} (i : Item A) (w k : WorldState A) (fault : Fault) → StrayIsRefused i (over w k) fault →
    StrayIsRefused i w fault
not_over i w k fault (inl memory) = inl memory
not_over i w k fault (inr (inl nobody)) = inr (inl nobody)
not_over i w k fault (inr (inr r)) =
    inr (inr (record { place = r.place; at = r.at; n = r.n; addressee = r.addressee; refuses = r.refuses }))

pub keeps_stray_refused : {A : Type 0} → StrayIsRefusedInAll A
keeps_stray_refused i past w k fault p r =
    not_over i w k fault (subst (λ (x : WorldState _). StrayIsRefused i x fault) (over_is past w k p) r)
