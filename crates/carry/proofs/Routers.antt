-- What a router passes on.
use Rattle.std.proofs.Common.{◌≡◌, ⊎_elim, sym, ℕ, ◌<◌, true, List}
use Rattle.history.specs.Lists.{Has}
use Rattle.inside.proofs.Routing.{routed_is_inside}
use Rattle.inside.specs.Inside.{HasInside, HasNothingInside, Inside}
use Rattle.inside.specs.Routed.{IsRouted}
use Rattle.npdu.specs.Mac.{is_address}
use Rattle.npdu.specs.declared.parcel.Parcel.{Parcel}
use Rattle.carry.proofs.Passed.{put_out_passes_on}
use Rattle.carry.specs.Laws.{RoutedIsPassedOn, RouterPassesOn}
use Rattle.carry.specs.Passing.{IsInsideOne}
use Rattle.carry.specs.Things.{Bears, Thing, net_of}

module _ {A : Type 0} where
  -- what is inside what a router makes of a parcel is inside that, or there is nothing
  routed_inside : (ts : List (Thing A)) (u : Thing A) (p q : Parcel A) (other : ℕ) (i : Inside) → Has ts u → Bears u p → is_address p.from ≡ true →
      0 < net_of u → net_of u < 65535 → HasInside other q.from q.to q.npdu i → (r : IsRouted (net_of u) other p q) → IsInsideOne ts i q.stamp
  routed_inside ts u p q other i there bears address low high has r = record {
    thing = u;
    there = there;
    parcel = p;
    bears = bears;
    has = routed_is_inside (net_of u) other p q i address low high r has;
    same = sym r.stamp;
  }

  pub routed_is_passed_on : RoutedIsPassedOn A
  routed_is_passed_on ts u t p there bears address low high made = record {
    passes = λ q i b has. ⊎_elim
        (λ (r : IsRouted (net_of u) (net_of t) p q). routed_inside ts u p q (net_of t) i there bears address low high has r)
        (λ (nothing : HasNothingInside (net_of t) q). absurd (nothing.none i has))
        (made q b);
  }

  pub router_passes_on : RouterPassesOn A
  router_passes_on ts u t p q other there bears address low high made out = put_out_passes_on ts other q t out (λ i has. ⊎_elim
      (λ (r : IsRouted (net_of u) other p q). routed_inside ts u p q other i there bears address low high has r)
      (λ (nothing : HasNothingInside other q). absurd (nothing.none i has))
      made)
