-- What a port of BACnet/IP puts out.
use Rattle.std.proofs.Common.{◌≡◌, ◌∙◌, ⊎_elim, refl, sym, ap, subst, ℕ, ◌≤◌, List, [], ◌∷◌, length, Some, arith}
use Rattle.bvll.specs.Datagram.{Datagram, IsSound, broadcast, distribute, unicast}
use Rattle.history.proofs.HasLaws.{map_has}
use Rattle.history.proofs.Lists.{has_cons, none_has}
use Rattle.history.specs.Lists.{Has}
use Rattle.inside.proofs.Insides.{some_same}
use Rattle.npdu.specs.declared.mac.Mac.{Mac}
use Rattle.npdu.specs.declared.mac.Target.{Target}
use Rattle.npdu.specs.declared.mac.Target.TheVariants.{One, All}
use Rattle.npdu.specs.declared.parcel.Parcel.{Parcel}
use Rattle.carry.proofs.Datagrams.{borne_by}
use Rattle.carry.specs.Datagrams.{carried_by, parcel}
use Rattle.carry.specs.Laws.{PortPutsOut}
use Rattle.carry.specs.Passing.{PutsOut}
use Rattle.carry.specs.Ports.{Foreign, Member, Port, datagram_to, down_to}
use Rattle.carry.specs.Things.{Thing}

short_unicast : (npdu : List ℕ) → length npdu ≤ 1497 → IsSound (unicast npdu)
short_unicast npdu l = record { fields = tt; fits = omega (arith, l) }

short_broadcast : (npdu : List ℕ) → length npdu ≤ 1497 → IsSound (broadcast npdu)
short_broadcast npdu l = record { fields = tt; fits = omega (arith, l) }

short_distribute : (npdu : List ℕ) → length npdu ≤ 1497 → IsSound (distribute npdu)
short_distribute npdu l = record { fields = tt; fits = omega (arith, l) }

module _ {A : Type 0} where
  -- a datagram of a parcel bears that parcel
  puts_it : (net : ℕ) (p : Parcel A) (to : Mac) (d : Datagram) (ps : List (Parcel A)) → Has ps p → IsSound d → carried_by p.from to p.stamp d ≡ Some p →
      PutsOut net ps (datagram_to net p to d)
  puts_it net p to d ps there sound is = record {
    net_is = refl;
    bears = λ q b. subst (λ (z : Parcel A). Has ps z) (some_same p q (sym is ∙ borne_by net p.stamp p.from to d q sound b)) there;
  }

  targeted : (p : Parcel A) (to : Target) → p.to ≡ to → Some (parcel p.from to p.npdu p.stamp) ≡ Some p
  targeted p to e = ap (λ (z : Target). Some (parcel p.from z p.npdu p.stamp)) (sym e)

  only : (net : ℕ) (ps : List (Parcel A)) (u t : Thing A) → PutsOut net ps u → Has (u ∷ []) t → PutsOut net ps t
  only net ps u t puts at = ⊎_elim
      (λ (same : u ≡ t). subst (λ (z : Thing A). PutsOut net ps z) same puts)
      (λ (more : Has [] t). absurd (none_has more))
      (has_cons u [] at)

  puts_out : (net : ℕ) (port : Port) (ps : List (Parcel A)) (p : Parcel A) (t : Thing A) (to : Target) → p.to ≡ to → Has ps p → length p.npdu ≤ 1497 →
      Has (down_to net port to p) t → PutsOut net ps t
  puts_out net port ps p t (One to) e there l at = only net ps (datagram_to net p to (unicast p.npdu)) t
      (puts_it net p to (unicast p.npdu) ps there (short_unicast p.npdu l) (targeted p (One to) e)) at
  puts_out net (Member others) ps p t All e there l at =
      let found = map_has (λ (to : Mac). datagram_to net p to (broadcast p.npdu)) others t at in
      subst (λ (z : Thing A). PutsOut net ps z) found.2
      (puts_it net p found.0 (broadcast p.npdu) ps there (short_broadcast p.npdu l) (targeted p All e))
  puts_out net (Foreign manager) ps p t All e there l at = only net ps (datagram_to net p manager (distribute p.npdu)) t
      (puts_it net p manager (distribute p.npdu) ps there (short_distribute p.npdu l) (targeted p All e)) at

  pub port_puts_out : PortPutsOut A
  port_puts_out net port ps p t there l at = puts_out net port ps p t p.to refl there l at
