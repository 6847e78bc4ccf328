-- The next turn to hear a frame.
use Rattle.std.proofs.Common.{◌≡◌, ◌≢◌, inl, inr, refl, sym, subst, ap, ℕ, ◌<◌, ◌^◌, None, Err}
use Rattle.bus_traffic.specs.Telling.{IsNext, NoneWaits}
use Rattle.bus_traffic.specs.declared.bus.Bus.{Bus}
use Rattle.bus_traffic.specs.declared.ear.Ear.{Ear}
use Rattle.bus_traffic.specs.declared.sending.Recent.{Recent}
use Rattle.buses.specs.Buses.{buses_of}
use Rattle.buses.specs.Puts.{BusesState}
use Rattle.buses.specs.declared.buses.Buses.{Buses}
use Rattle.simulator.specs.world.World.{WorldState}
use Rattle.simulator.specs.world.site_events.declared.event.Event.{Event}
use Rattle.runner.specs.Hearing.{HearsNext, HearsThem, IsNextHear, IsNextTurn, IsOver, MeetsNobody, left_to_hear, station_at, turn_after}
use Rattle.runner.specs.declared.hearing.Heard.{Heard}
use Rattle.simulator.proofs.FlowLaws.{told_less}
use Rattle.tags.specs.declared.fault.Fault.{Fault}
use Rattle.tags.specs.declared.fault.Fault.TheVariants.{Memory}

module _ {A : Type 0} (b : Buses A) (w : WorldState A) (now : ℕ) where
  -- nobody has a turn
  pub is_over : (old : Heard) → buses_of b ≡ w.buses → now ≡ w.moment →
      NoneWaits now old.turn old.before b.buses.items → IsOver w old old
  is_over old are at over = record {
    buses = b.buses.items;
    are = ap (λ (s : BusesState A). s.buses) are;
    over = subst (λ (n : ℕ). NoneWaits n old.turn old.before b.buses.items) at over;
    same = refl;
  }

  -- this is the next turn
  abbrev is_turn : (old new : Heard) (bus : Bus A) (recent : Recent A) (place : ℕ) (ear : Ear) → buses_of b ≡ w.buses →
      now ≡ w.moment → IsNext now old.turn old.before b.buses.items bus recent place ear → place < 2 ^ 64 →
      new ≡ record old { turn = turn_after recent place } → IsNextTurn w old new
  is_turn old new bus recent place ear are at next fits is = record {
    buses = b.buses.items;
    bus = bus;
    recent = recent;
    place = place;
    ear = ear;
    are = ap (λ (s : BusesState A). s.buses) are;
    next = subst (λ (n : ℕ). IsNext n old.turn old.before b.buses.items bus recent place ear) at next;
    turn = is;
    less = subst (λ (h : Heard). left_to_hear h < left_to_hear old) (sym is)
        (told_less old.turn old.before recent.sending.place.frames place next.waits.due.behind next.waits.due.ahead
        fits);
  }

  -- the station at its ear hears the frame
  pub hears_next : (old new : Heard) (bus : Bus A) (recent : Recent A) (place : ℕ) (ear : Ear) (e : Event A) →
      buses_of b ≡ w.buses → now ≡ w.moment →
      IsNext now old.turn old.before b.buses.items bus recent place ear → place < 2 ^ 64 →
      new ≡ record old { turn = turn_after recent place } →
      HearsThem w bus.net ear.address recent.sending.octets e → HearsNext e w old new
  hears_next old new bus recent place ear e are at next fits is hears = record {
    turn = is_turn old new bus recent place ear are at next fits is;
    hears = hears;
  }

  -- the site has no station there
  pub meets_nobody : (old new : Heard) (bus : Bus A) (recent : Recent A) (place : ℕ) (ear : Ear) →
      buses_of b ≡ w.buses → now ≡ w.moment →
      IsNext now old.turn old.before b.buses.items bus recent place ear → place < 2 ^ 64 →
      new ≡ record old { turn = turn_after recent place } →
      station_at w bus.net ear.address ≡ None → MeetsNobody w old new
  meets_nobody old new bus recent place ear are at next fits is nobody = record {
    turn = is_turn old new bus recent place ear are at next fits is;
    nobody = nobody;
  }

-- less is left once a frame was heard
pub next_less : {A : Type 0} (e : Event A) (w : WorldState A) (old new : Heard) → HearsNext e w old new →
    left_to_hear new < left_to_hear old
next_less e w old new heard = heard.turn.less

-- .. or passed
pub passed_less : {A : Type 0} (w : WorldState A) (old new : Heard) (fault : Fault) →
    IsNextHear w old new (Err fault) → fault ≢ Memory → left_to_hear new < left_to_hear old
passed_less w old new fault (inl same) other = absurd (other (same.0))
passed_less w old new fault (inr passed) other = passed.1.turn.less

pub ruleset hear_rules = (is_over)
