-- Each refusal of what is kept is one of the whole.
use Rattle.std.proofs.Common.{◌≡◌, ◌⊎◌, inl, inr, refl, subst, ℕ, List}
use Rattle.tags.specs.declared.fault.Fault.{Fault}
use Rattle.world.specs.Refusals.{HappeningIsRefused, Of, RefusesAt, RefusesNamed}
use Rattle.world.specs.World.{WorldState}
use Rattle.world.specs.site_events.declared.event.Event.TheVariants as event
use Rattle.world.specs.declared.happening.Happening.{Happening}
use Rattle.world.specs.declared.happening.Happening.TheVariants as happening
use Rattle.world.specs.site_node.Node.{NodeState}
use Rattle.world.specs.world_log.Growing.{WorldHistory}
use Rattle.world.specs.world_sites.Finding.{IsNobody}
use Rattle.world_past.proofs.KeepingLaws.{over, over_is}
use Rattle.world_past.proofs.NotHearing.{listener_over, none_over, octets_over}
use Rattle.world_past.proofs.RefusingLaws.{heard_over, item_over}
use Rattle.world_past.proofs.SteppingLaws.{name_over}
use Rattle.world.specs.Keeping.{Keeps}
use Rattle.world_past.specs.Refusing.{HappeningIsRefusedInAll, IsForgottenFrame, IsRefusedInAll, RefusesIt}

of_over : {A : Type 0} (w k : WorldState A) (place : ℕ) (Is : NodeState A → Type 0) → Of place (over w k) Is →
    Of place w Is
of_over w k place Is o = record { n = o.n; there = o.there; is = o.is }

at_over : {A : Type 0} (w k : WorldState A) (place : ℕ) (fault : Fault) (Says : NodeState A → Type 0) →
    RefusesAt place (over w k) fault Says → RefusesAt place w fault Says
at_over w k place fault Says (inl none) = inl none
at_over w k place fault Says (inr o) = inr (of_over w k place Says o)

refused_over : {A : Type 0} (h : Happening A) (past : WorldHistory A) (w k : WorldState A) (fault : Fault) →
    Keeps past w k → HappeningIsRefused h (over w k) fault → RefusesIt h w fault
refused_over (happening.Issue client instance request) past w k fault p (inl m) =
    record { whole = fault; refused = inl (m.0, of_over w k client _ m.1); named = refl }
refused_over (happening.Issue client instance request) past w k fault p (inr r) =
    record { whole = fault; refused = inr (at_over w k client fault _ r); named = refl }
refused_over (happening.WhoIs client limits) past w k fault p (inl m) =
    record { whole = fault; refused = inl (m.0, of_over w k client _ m.1); named = refl }
refused_over (happening.WhoIs client limits) past w k fault p (inr r) =
    record { whole = fault; refused = inr (at_over w k client fault _ r); named = refl }
refused_over (happening.Tick n) past w k fault p (inl m) = absurd m.1
refused_over (happening.Tick n) past w k fault p (inr r) = record { whole = fault; refused = inr r; named = refl }
refused_over (happening.Wake node) past w k fault p (inl m) =
    record { whole = fault; refused = inl (m.0, of_over w k node _ m.1); named = refl }
refused_over (happening.Wake node) past w k fault p (inr r) =
    record { whole = fault; refused = inr (at_over w k node fault _ r); named = refl }
refused_over (happening.Deliver number) past w k fault p (inl m) =
    record { whole = fault; refused = inl (m.0, heard_over past w k p number m.1); named = inl refl }
refused_over (happening.Deliver number) past w k fault p (inr r) = item_over past w k p number fault r
refused_over (happening.Restart node) past w k fault p (inl m) =
    record { whole = fault; refused = inl (m.0, of_over w k node _ m.1); named = refl }
refused_over (happening.Restart node) past w k fault p (inr r) =
    record { whole = fault; refused = inr (at_over w k node fault _ r); named = refl }
refused_over (happening.Hear network node octets) past w k fault p (inl m) =
    record { whole = fault; refused = inl (m.0, listener_over past w k p network node m.1); named = inl refl }
refused_over (happening.Hear network node octets) past w k fault p (inr (inl n)) =
    record { whole = fault; refused = inr (inl (n.0, none_over past w k p network node n.1)); named = inl refl }
refused_over (happening.Hear network node octets) past w k fault p (inr (inr r)) =
    octets_over past w k p network node octets fault r
refused_over (happening.Register node) past w k fault p (inl m) =
    record { whole = fault; refused = inl (m.0, of_over w k node _ m.1); named = refl }
refused_over (happening.Register node) past w k fault p (inr r) =
    record { whole = fault; refused = inr (at_over w k node fault _ r); named = refl }

pub keeps_happening_refused : {A : Type 0} → HappeningIsRefusedInAll A
keeps_happening_refused h past w k fault p r = refused_over h past w k fault p
    (subst (λ (x : WorldState _). HappeningIsRefused h x fault) (over_is past w k p) r)

-- no node has the name, or what happens at its place is refused
pub record RefusesNamedSo {A : Type 0} (name : List ℕ) (at : ℕ → Happening A) (w : WorldState A) (fault : Fault)
    (Named : Fault → Type 0) : Type 0 where
  pub whole : Fault
  pub refused : RefusesNamed name at w whole
  pub named : Named whole

named_refused : {A : Type 0} (name : List ℕ) (at : ℕ → Happening A) (past : WorldHistory A) (w k : WorldState A)
    (fault : Fault) (Named : Fault → Type 0) → Keeps past w k → Named fault →
    ((place : ℕ) (r : RefusesIt (at place) w fault) → Named r.whole) → RefusesNamed name at k fault →
    RefusesNamedSo name at w fault Named
named_refused name at past w k fault Named p same other (inl n) = record {
  whole = fault;
  refused = inl (n.0, subst (λ (x : WorldState _). IsNobody name x.nodes) (over_is past w k p) n.1);
  named = same;
}
named_refused name at past w k fault Named p same other (inr s) =
    let r = keeps_happening_refused (at s.place) past w k fault p s.holds in record {
      whole = r.whole;
      refused = inr (record { place = s.place; named = name_over name past w k s.place p s.named; holds = r.refused });
      named = other s.place r;
    }

-- .. with the same fault
named_same : {A : Type 0} (name : List ℕ) (at : ℕ → Happening A) (past : WorldHistory A) (w k : WorldState A)
    (fault : Fault) → Keeps past w k → ((place : ℕ) (r : RefusesIt (at place) w fault) → r.whole ≡ fault) →
    RefusesNamed name at k fault → RefusesNamedSo name at w fault (λ f. f ≡ fault)
named_same name at past w k fault p same r = named_refused name at past w k fault (λ f. f ≡ fault) p refl same r

pub keeps_refused : {A : Type 0} → IsRefusedInAll A
keeps_refused (event.Issue client instance request) past w k fault p r =
    let s = named_same client (λ place. happening.Issue place instance request) past w k fault p (λ _ q. q.named) r in
    record { whole = s.whole; refused = s.refused; named = s.named }
keeps_refused (event.WhoIs client limits) past w k fault p r =
    let s = named_same client (λ place. happening.WhoIs place limits) past w k fault p (λ _ q. q.named) r in
    record { whole = s.whole; refused = s.refused; named = s.named }
keeps_refused (event.Tick n) past w k fault p r =
    let s = keeps_happening_refused (happening.Tick n) past w k fault p r in
    record { whole = s.whole; refused = s.refused; named = s.named }
keeps_refused (event.Wake station) past w k fault p r =
    let s = named_same station (λ place. happening.Wake place) past w k fault p (λ _ q. q.named) r in
    record { whole = s.whole; refused = s.refused; named = s.named }
keeps_refused (event.Deliver number) past w k fault p r =
    let s = keeps_happening_refused (happening.Deliver number) past w k fault p r in
    record { whole = s.whole; refused = s.refused; named = s.named }
keeps_refused (event.Restart station) past w k fault p r =
    let s = named_same station (λ place. happening.Restart place) past w k fault p (λ _ q. q.named) r in
    record { whole = s.whole; refused = s.refused; named = s.named }
keeps_refused (event.Hear network station octets) past w k fault p r =
    let s = named_refused station (λ place. happening.Hear network place octets) past w k fault
    (λ f. (f ≡ fault) ⊎ IsForgottenFrame fault f) p (inl refl) (λ place q. q.named) r in
    record { whole = s.whole; refused = s.refused; named = s.named }
keeps_refused (event.Register station) past w k fault p r =
    let s = named_same station (λ place. happening.Register place) past w k fault p (λ _ q. q.named) r in
    record { whole = s.whole; refused = s.refused; named = s.named }
