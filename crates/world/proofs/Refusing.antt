-- Why an event is refused, put together of the node that was found and of why it refuses.
use Rattle.std.proofs.Common.{◌≡◌, ◌⊎◌, inl, inr, subst, ℕ, false, List, Option, Some, None}
use Rattle.std.specs.Prelude.{slice_get}
use Rattle.apdu.specs.declared.unconfirmed.Limits.{Limits}
use Rattle.primitives.specs.declared.plain_data.Request.{Request}
use Rattle.world_log.specs.site_node.Node.{NodeState}
use Rattle.world_log.specs.site_node.Part.{IsClient, IsDevice, IsNoDevice}
use Rattle.world_log.specs.site_node.Refusals.{AskingIsRefused, HearingIsRefused, IssueIsRefused, WakeIsRefused}
use Rattle.world_log.specs.site_node.Steps.{IsNotForeign, IsQuiet}
use Rattle.tags.specs.declared.fault.Fault.{Fault}
use Rattle.tags.specs.declared.fault.Fault.TheVariants.{Memory, NoSuch}
use Rattle.traffic.specs.declared.item.Item.{Item}
use Rattle.world.specs.Refusals.{HappeningIsRefused, HasDue, IsForeign, IsRefused, Of, RefusesAt, RefusesNamed}
use Rattle.world.specs.Step.{AtName, HasName, addressee_of}
use Rattle.world.specs.Straying.{StrayIsRefused}
use Rattle.world.specs.World.{WorldState}
use Rattle.world.specs.declared.happening.Happening.{Happening}
use Rattle.world.specs.declared.happening.Happening.TheVariants as happening
use Rattle.world_sites.specs.Finding.{IsNobody, IsNobodyAt, IsNodeAt}

-- no node is at the place
pub nobody_there : {A : Type 0} (w : WorldState A) (place : ℕ) (fault : Fault) (Says : NodeState A → Type 0) →
    fault ≡ NoSuch → slice_get w.nodes place ≡ None → RefusesAt place w fault Says
nobody_there w place fault Says e none = inl (e, none)

module _ {A : Type 0} (w : WorldState A) (place now : ℕ) (e : now ≡ w.moment) (n : NodeState A)
    (there : slice_get w.nodes place ≡ Some n) (fault : Fault) where
  -- .. or it refuses so
  pub wake_refused : (IsQuiet now n → ⊥) → (fault ≡ Memory) ⊎ WakeIsRefused now n fault →
      HappeningIsRefused (happening.Wake place) w fault
  wake_refused due (inl m) = inl (
    m,
    record { n = n; there = there; is = record { due = subst (λ (k : ℕ). IsQuiet k n → ⊥) e due } },
  )
  wake_refused due (inr r) = inr (inr (record {
    n = n;
    there = there;
    is = subst (λ (k : ℕ). WakeIsRefused k n fault) e r;
  }))

  pub asking_refused : (limits : Option Limits) →
      ((fault ≡ Memory) × IsClient n.part) ⊎ AskingIsRefused now limits n fault →
      HappeningIsRefused (happening.WhoIs place limits) w fault
  asking_refused limits (inl m) = inl (m.0, record { n = n; there = there; is = m.1 })
  asking_refused limits (inr r) = inr (inr (record {
    n = n;
    there = there;
    is = subst (λ (k : ℕ). AskingIsRefused k limits n fault) e r;
  }))

  pub issue_refused : (instance : ℕ) (request : Request A) →
      ((fault ≡ Memory) × IsClient n.part) ⊎ IssueIsRefused now instance request n fault →
      HappeningIsRefused (happening.Issue place instance request) w fault
  issue_refused instance request (inl m) = inl (m.0, record { n = n; there = there; is = m.1 })
  issue_refused instance request (inr r) = inr (inr (record {
    n = n;
    there = there;
    is = subst (λ (k : ℕ). IssueIsRefused k instance request n fault) e r;
  }))

  pub registering_refused : IsForeign n → (fault ≡ Memory) ⊎ ((fault ≡ NoSuch) × IsNotForeign now n) →
      HappeningIsRefused (happening.Register place) w fault
  registering_refused foreign (inl m) = inl (m, record { n = n; there = there; is = foreign })
  registering_refused foreign (inr r) = inr (inr (record {
    n = n;
    there = there;
    is = subst (λ (k : ℕ). (fault ≡ NoSuch) × IsNotForeign k n) e r;
  }))

  pub not_foreign_refused : fault ≡ NoSuch → IsNotForeign now n → HappeningIsRefused (happening.Register place) w fault
  not_foreign_refused is not = inr (inr (record {
    n = n;
    there = there;
    is = (is, subst (λ (k : ℕ). IsNotForeign k n) e not);
  }))

  pub restart_refused : (fault ≡ NoSuch) × IsNoDevice n.part → HappeningIsRefused (happening.Restart place) w fault
  restart_refused r = inr (inr (record { n = n; there = there; is = r }))

  pub restart_wants_memory : IsDevice n.part → fault ≡ Memory → HappeningIsRefused (happening.Restart place) w fault
  restart_wants_memory device m = inl (m, record { n = n; there = there; is = device })

-- a stray datagram is refused
pub stray_for_nobody : {A : Type 0} (w : WorldState A) (i : Item A) (fault : Fault) → fault ≡ NoSuch →
    IsNobodyAt (addressee_of i) w.nodes → StrayIsRefused i w fault
stray_for_nobody w i fault e none = inr (inl (e, none))

pub stray_refused : {A : Type 0} (w : WorldState A) (i : Item A) (place port now : ℕ) → now ≡ w.moment →
    (n : NodeState A) (fault : Fault) → IsNodeAt (addressee_of i) w.nodes place port n →
    (fault ≡ Memory) ⊎ HearingIsRefused now port i.from i.octets i.stamp n fault → StrayIsRefused i w fault
stray_refused w i place port now e n fault at (inl m) = inl m
stray_refused w i place port now e n fault at (inr r) = inr (inr (record {
  place = place;
  at = port;
  n = n;
  addressee = at;
  refuses = subst (λ (k : ℕ). HearingIsRefused k port i.from i.octets i.stamp n fault) e r;
}))

module _ {A : Type 0} (w : WorldState A) (name : List ℕ) (at : ℕ → Happening A) (fault : Fault) where
  -- nobody has the name
  pub nobody_named : fault ≡ NoSuch → IsNobody name w.nodes → RefusesNamed name at w fault
  nobody_named e none = inl (e, none)

  -- .. or what happens at its place is refused
  pub named_refuses : (place : ℕ) → HasName name w place → HappeningIsRefused (at place) w fault →
      RefusesNamed name at w fault
  named_refuses place named why = inr (record { place = place; named = named; holds = why })
