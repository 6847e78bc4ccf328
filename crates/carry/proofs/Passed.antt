-- What is put out and passed on is carried.
use Rattle.std.proofs.Common.{◌≡◌, ◌∙◌, ⊎_elim, refl, sym, ap, subst, ℕ, List, [], ◌∷◌, Some, None}
use Rattle.history.proofs.Lists.{has, has_back, has_cons, has_front, has_next, none_has}
use Rattle.history.specs.Lists.{Has}
use Rattle.inside.proofs.Insides.{network_message_has_nothing, one_inside}
use Rattle.inside.specs.Inside.{AreInside, HasInside, Inside, IsInsideOf, Said}
use Rattle.npdu.specs.declared.parcel.Parcel.{Parcel}
use Rattle.carry.specs.Laws.{CarriedStill, NetworkMessagePassesOn, PassedOnIsCarried, PutOutIsCarried, PutOutPassesOn, WaitingPutsOut}
use Rattle.carry.specs.Passing.{IsInsideOne}

pub none_some : {X : Type 0} (x : X) → None ≡ Some x → ⊥
none_some x e = cc e

said_is : (s : Said) (i : Inside) (stamp : ℕ) → s.inside ≡ i → s.stamp ≡ stamp → s ≡ record { inside = i; stamp = stamp }
said_is s i stamp e f = ap (λ (x : Inside). record { inside = x; stamp = s.stamp }) e ∙ ap (λ n. record { inside = i; stamp = n }) f

pub passed_on_is_carried : {A : Type 0} → PassedOnIsCarried A
passed_on_is_carried said ts t all on = record {
  carries = λ p i bears has.
      let one = on.passes p i bears has in
      subst (λ stamp. Has said (record { inside = i; stamp = stamp })) one.same
      ((all one.thing one.there).carries one.parcel i one.bears one.has);
}

-- what one of the parcels says stands among what they say
inside_has : {A : Type 0} (net : ℕ) (ps : List (Parcel A)) (ss : List Said) (p : Parcel A) → AreInside net ps ss → Has ps p →
    (s : Said) × Has ss s × IsInsideOf net p s
inside_has net [] ss p all there = absurd (none_has there)
inside_has net (q ∷ ps) [] p all there = absurd all
inside_has {A} net (q ∷ ps) (s ∷ ss) p all there = ⊎_elim
    (λ (same : q ≡ p). (s, has 0 refl, subst (λ (z : Parcel A). IsInsideOf net z s) same all.0))
    (λ (more : Has ps p). let found = inside_has net ps ss p all.1 more in (found.0, has_next s ss found.1, found.2))
    (has_cons q ps there)

pub put_out_is_carried : {A : Type 0} → PutOutIsCarried A
put_out_is_carried {A} said fresh net ps t all out = record {
  carries = λ p i bears has.
      let found = inside_has net ps fresh p all (out.bears p bears) in
      let here : HasInside net p.from p.to p.npdu i = subst (λ n. HasInside n p.from p.to p.npdu i) out.net_is has in
      let one = one_inside net p.from p.to p.npdu found.0.inside i found.2.inside here in
      has_back said fresh (subst (λ (z : Said). Has fresh z) (said_is found.0 i p.stamp one found.2.stamp) found.1);
}

pub carried_still : {A : Type 0} → CarriedStill A
carried_still said more t is = record { carries = λ p i bears has. has_front said more (is.carries p i bears has) }

pub waiting_puts_out : {A : Type 0} → WaitingPutsOut A
waiting_puts_out {A} net ps p there = record { net_is = refl; bears = λ q same. subst (λ (z : Parcel A). Has ps z) (sym same) there }

only_one : {X : Type 0} (x y : X) → Has (x ∷ []) y → x ≡ y
only_one {X} x y h = ⊎_elim (λ (same : x ≡ y). same) (λ (more : Has [] y). absurd (none_has more)) (has_cons x [] h)

pub put_out_passes_on : {A : Type 0} → PutOutPassesOn A
put_out_passes_on {A} ts net q t out on = record {
  passes = λ p i bears has.
      let same : q ≡ p = only_one q p (out.bears p bears) in
      let here : HasInside net p.from p.to p.npdu i = subst (λ n. HasInside n p.from p.to p.npdu i) out.net_is has in
      subst (λ (z : Parcel A). IsInsideOne ts i z.stamp) same
      (on i (subst (λ (z : Parcel A). HasInside net z.from z.to z.npdu i) (sym same) here));
}

pub network_message_passes_on : {A : Type 0} → NetworkMessagePassesOn A
network_message_passes_on ts net q h m t spelled is out = put_out_passes_on ts net q t out
    (λ i has. absurd ((network_message_has_nothing net q h m spelled is).none i has))
