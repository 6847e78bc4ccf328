-- A storm in a world that forgets: what is counted of it is all that there was in the whole world.
use Rattle.std.proofs.Common.{◌≡◌, ◌∙◌, ◌⊎◌, inl, inr, refl, sym, ap, subst, arith, append_assoc, append-nil, ℕ, zero, suc, ◌+◌, ◌-◌, ◌≤◌, List, [], ◌∷◌, ◌++◌, None, Result, Ok, Err, OnOk, drop, length, take}
use Rattle.std.proofs.lemmas.List.{length-append, map-append, take-append-drop, take-append-le, take_all}
use Rattle.std.specs.Io.KnownBytes.{Appends}
use Rattle.std.specs.List.{AllByRecursion}
use Rattle.inside.specs.Inside.{Said}
use Rattle.script.specs.declared.step.Step.{Step}
use Rattle.simulator.proofs.LedLaws.{as_whole, led_on, legal_of}
use Rattle.site_run.specs.Running.{PrintsEvent, PrintsEvents, PrintsSteps, entries_in}
use Rattle.site_run.specs.simulator.Laws.{IsLed}
use Rattle.site_run.specs.simulator.world.Keeping.{Forgets, Keeps, handed_out}
use Rattle.site_run.specs.simulator.world.Old.{KeepsItem}
use Rattle.site_run.specs.simulator.world.Refusals.{Comes}
use Rattle.site_run.specs.simulator.world.Step.{IsSoundEvent}
use Rattle.site_run.specs.simulator.world.World.{WorldState}
use Rattle.site_run.specs.simulator.world.site_events.declared.event.Event.{Event}
use Rattle.site_run.specs.simulator.world.site_ports.Ports as ports
use Rattle.site_storm.proofs.RageLaws.{longer}
use Rattle.site_storm.proofs.SumLaws.{messages_both, outcomes_both}
use Rattle.site_storm.proofs.WaitLaws.{AreWaitsOf, IsGood, all_waits_on, good_of, none_waits}
use Rattle.site_storm.specs.Counted.{CountedState, CountsMessages, ForgetsIn, HasCounts, LetsGo, Makes, MakesAll, MakesOne, PrintsCounted, RagesCounted, RagesOnceCounted, begun, entries_counted}
use Rattle.site_storm.specs.Counting.{AreCounts, messages_in, messages_with, outcomes_in, outcomes_with}
use Rattle.site_storm.specs.Lines.{Known, event_text, events_text, line}
use Rattle.site_storm.specs.Storming.{PrintsCounts, PrintsCountsFrom}
use Rattle.site_storm.specs.Waits.{WaitsState, all_waits, greatest_wait}
use Rattle.site_storm.specs.declared.counts.Counts.{Counts}
use Rattle.site_storm.specs.declared.counts.MessageCounts.{MessageCounts}
use Rattle.site_storm.specs.declared.counts.OutcomeCounts.{OutcomeCounts}
use Rattle.site_trace.proofs.TraceLaws.{appends_more, appends_nothing}
use Rattle.storm.specs.world_log.Growing.{WorldHistory}
use Rattle.storm.specs.world_log.Kept.{all_said, said_of}
use Rattle.storm.specs.world_log.declared.saying.SaidMessage.{SaidMessage}
use Rattle.words.specs.printing.declared.spelling.Spelling.TheVariants.{Numbers}
use Rattle.world_kept.proofs.HistoryLaws.{events_go_on}
use Rattle.world_past.proofs.EachLaws.{each_length}
use Rattle.world_past.proofs.KeepingLaws.{keeps_all}
use Rattle.world_past.proofs.RefusedLaws.{keeps_refused}
use Rattle.world_past.proofs.RunningLaws.{keeps_forgotten, keeps_handed}
use Rattle.world_past.proofs.SteppingLaws.{keeps_stands, keeps_steps}

-- so many of a list, up to some behind another
take_behind : {X : Type 0} (xs ys : List X) (n : ℕ) → take (length xs + n) (xs ++ ys) ≡ xs ++ take n ys
take_behind {X} [] ys n = ap (λ (m : ℕ). take m ys) (let none : 0 + n ≡ n = omega arith in none)
take_behind {X} (x ∷ xs) ys n =
    ap (λ (m : ℕ). take m (x ∷ (xs ++ ys))) (let one : suc (length xs) + n ≡ suc (length xs + n) = omega arith in one)
    ∙ ap (λ (l : List X). x ∷ l) (take_behind xs ys n)

none_taken : {X : Type 0} (xs : List X) → take 0 xs ≡ []
none_taken [] = refl
none_taken (x ∷ xs) = refl

-- ---- what the calls do
module _ {A : Type 0} where
  pub entries_so : (old waits handed new : CountedState A) (more : OutcomeCounts) →
      more ≡ outcomes_in old.world.history →
      waits ≡ record old { waits = all_waits old.world.history old.waits } →
      handed ≡ record waits { world = handed_out waits.world } →
      new ≡ record handed { outcomes = outcomes_with handed.outcomes more } → new ≡ entries_counted old
  entries_so old waits handed new more many counted out is =
      is
      ∙ ap (λ (c : CountedState A). record c { outcomes = outcomes_with c.outcomes more }) out
      ∙ ap (λ (c : CountedState A). record c {
        world = handed_out c.world;
        outcomes = outcomes_with c.outcomes more;
      }) counted
      ∙ ap (λ (n : OutcomeCounts). record (entries_counted old) { outcomes = outcomes_with old.outcomes n }) many

  pub messages_so : (old new : CountedState A) (more : MessageCounts) (count : ℕ) (messages : List (SaidMessage A)) →
      all_said messages ≡ drop old.seen old.world.said → more ≡ messages_in messages → count ≡ length old.world.said →
      new ≡ record old { messages = messages_with old.messages more; seen = count } → CountsMessages old new
  messages_so old new more count messages said many all is = record {
    messages = messages;
    said = said;
    is = is
        ∙ ap (λ (n : MessageCounts). record old { messages = messages_with old.messages n; seen = count }) many
        ∙ ap (λ (n : ℕ). record old { messages = messages_with old.messages (messages_in messages); seen = n }) all;
  }

  pub forgets_so : (old mid new : CountedState A) (before after gone : ℕ) → Forgets old.world mid.world →
      mid ≡ record old { world = mid.world } → before ≡ old.world.first_said → after ≡ mid.world.first_said →
      gone ≡ after - before → new ≡ record mid { seen = mid.seen - gone } → ForgetsIn old new
  forgets_so old mid new before after gone f rest at_before at_after by is =
      let world : new.world ≡ mid.world = ap (λ (c : CountedState A). c.world) is in record {
        forgets = subst (λ (v : WorldState A). Forgets old.world v) (sym world) f;
        is = is
            ∙ ap (λ (c : CountedState A). record c { seen = c.seen - gone }) rest
            ∙ ap (λ (n : ℕ). record old { world = mid.world; seen = old.seen - n }) by
            ∙ ap (λ (n : ℕ). record old { world = mid.world; seen = old.seen - (n - before) }) at_after
            ∙ ap (λ (n : ℕ). record old {
              world = mid.world;
              seen = old.seen - (mid.world.first_said - n);
            }) at_before
            ∙ ap (λ (v : WorldState A). record old {
              world = v;
              seen = old.seen - (v.first_said - old.world.first_said);
            }) (sym world);
      }

  -- what so many more events lead to, all lead to
  abbrev pub LeadsOn : (steps left : ℕ) (c d : CountedState A) (lines_old lines_at : Known) → Type 0
  LeadsOn steps left c d lines_old lines_at =
      (events : List (Event A)) (e : CountedState A) (lines_new : Known) → length events ≡ left →
      MakesAll events d e → Appends lines_at lines_new (events_text Numbers events) →
      RagesCounted steps c e lines_old lines_new

  pub all_lead : (steps : ℕ) (c : CountedState A) (lines_old : Known) → LeadsOn steps steps c c lines_old lines_old
  all_lead steps c lines_old events e lines_new many makes put_down =
      record { events = events; many = many; makes = makes; put_down = put_down }

  -- one event, and then the rest
  pub one_leads : (steps left rest : ℕ) (c d next : CountedState A) (lines_old lines_at lines_next : Known) →
      left ≡ rest + 1 → LeadsOn steps left c d lines_old lines_at → RagesOnceCounted d next lines_at lines_next →
      LeadsOn steps rest c next lines_old lines_next
  one_leads steps left rest c d next lines_old lines_at lines_next one leads once events e lines_new many makes put_down =
      leads (once.event ∷ events) e lines_new (longer once.event events left rest one many)
      (record { middle = next; first = once.one; rest = makes })
      (appends_more lines_at lines_next lines_new (line (event_text Numbers once.event)) (events_text Numbers events)
      once.put_down put_down)

  -- no event leads nowhere
  pub none_leads : (steps left : ℕ) (c d : CountedState A) (lines_old lines_at : Known) → left ≡ 0 →
      LeadsOn steps left c d lines_old lines_at → RagesCounted steps c d lines_old lines_at
  none_leads steps left c d lines_old lines_at none leads = leads [] d lines_at (sym none) refl (appends_nothing lines_at)

  -- ---- the whole world
  -- of a whole world to which events alone led this is kept, and what is gone of it is counted: the entries that were
  -- handed out, and the messages that are forgotten, with the first so many that are kept
  pub record IsCounted (w : WorldState A) (c : CountedState A) : Type 0 where
    pub led : IsLed w
    pub past : WorldHistory A
    pub keeps : Keeps past w c.world
    pub outcomes : c.outcomes ≡ outcomes_in past
    pub waits : AreWaitsOf past c.waits
    pub messages : List (SaidMessage A)
    pub said : all_said messages ≡ take (c.world.first_said + c.seen) w.said
    pub types : c.messages ≡ messages_in messages
    pub most : c.seen ≤ length c.world.said

  -- nothing is counted yet
  pub begins : (w : WorldState A) → IsLed w → IsCounted w (begun w)
  begins w led = record {
    led = led;
    past = [];
    keeps = keeps_all w;
    outcomes = refl;
    waits = none_waits;
    messages = [];
    said = sym (ap (λ (n : ℕ). take n w.said)
        (let first = led.whole.first_said in let none : w.first_said + 0 ≡ 0 = omega (arith, first) in none)
        ∙ none_taken w.said);
    types = refl;
    most = omega arith;
  }

  -- so many messages there were in the whole
  all_messages : (past : WorldHistory A) (w k : WorldState A) → IsLed w → Keeps past w k →
      length w.said ≡ k.first_said + length k.said
  all_messages past w k led p =
      let first = led.whole.first_said in
      let all : length w.said ≡ length p.gone + length k.said =
      ap (λ (l : List Said). length l) p.said ∙ length-append p.gone k.said in
      omega (arith, first, all, p.first_said)

  -- the messages that were counted are the first of the whole still where more is said
  still_said : (w v : WorldState A) (more : List Said) (n : ℕ) → v.said ≡ w.said ++ more → n ≤ length w.said →
      take n w.said ≡ take n v.said
  still_said w v more n is le =
      sym (ap (λ (l : List Said). take n l) is ∙ take-append-le n w.said more le)

  -- what an event leaves of a world in which nothing is printed
  abbrev pub Prints : (e : Event A) → (w v : WorldState A) → Type 0
  Prints e w v = PrintsEvent (entries_in Numbers) e w v None None

  -- an event is made in the whole, or refused there
  pub makes_on : (e : Event A) (w : WorldState A) (c d : CountedState A) → IsSoundEvent e → IsCounted w c → Makes e c d →
      ports.Then (λ (v : WorldState A). Prints e w v) (λ v. IsCounted v d)
  makes_on e w c d sound p m = by_comes m.comes
    where
      by_comes : Comes e c.world d.world → ports.Then (λ (v : WorldState A). Prints e w v) (λ v. IsCounted v d)
      by_comes (inl s) =
          let on = keeps_steps e p.past w c.world d.world p.keeps s in
          let v = on.middle in
          let firsts = as_whole e c.world d.world s in
          let grows = events_go_on e c.world d.world s in
          let same : c.seen ≡ d.seen = sym (ap (λ (x : CountedState A). x.seen) m.is) in
          let all = all_messages p.past w c.world p.led p.keeps in
          let count : c.world.first_said + c.seen ≡ d.world.first_said + d.seen =
          let first = firsts.first_said in omega (arith, first, same) in
          let grown : length d.world.said ≡ length c.world.said + length grows.said.more =
          ap (λ (l : List Said). length l) grows.said.is ∙ length-append c.world.said grows.said.more in record {
            middle = v;
            first = inl (record {
              made = on.first;
              growth = record { at_entries = None; trace_printed = tt; entries_printed = tt };
            });
            rest = record {
              led = led_on e w v (keeps_stands p.past w c.world p.keeps m.stands) sound on.first p.led;
              past = p.past;
              keeps = on.rest;
              outcomes = ap (λ (x : CountedState A). x.outcomes) m.is ∙ p.outcomes;
              waits = subst (λ (x : WaitsState). AreWaitsOf p.past x)
                  (sym (ap (λ (x : CountedState A). x.waits) m.is)) p.waits;
              messages = p.messages;
              said = p.said
                  ∙ still_said w v (events_go_on e w v on.first).said.more (c.world.first_said + c.seen)
                  (events_go_on e w v on.first).said.is (let most = p.most in omega (arith, all, most))
                  ∙ ap (λ (n : ℕ). take n v.said) count;
              types = ap (λ (x : CountedState A). x.messages) m.is ∙ p.types;
              most = let most = p.most in omega (arith, same, most, grown);
            };
          }
      by_comes (inr r) =
          let refused = keeps_refused e p.past w c.world r.fault p.keeps r.refused in
          let same : d ≡ c = m.is ∙ ap (λ (x : WorldState A). record c { world = x }) r.same in record {
            middle = w;
            first = inr (record {
              fault = refused.whole;
              refused = refused.refused;
              same = refl;
              printed = tt;
            });
            rest = subst (λ (x : CountedState A). IsCounted w x) (sym same) p;
          }

  -- all messages of the whole, where the first so many were counted, and those behind them are
  all_counted : (past : WorldHistory A) (w k : WorldState A) (seen : ℕ) → IsLed w → Keeps past w k →
      take (k.first_said + seen) w.said ++ drop seen k.said ≡ w.said
  all_counted past w k seen led p =
      let first = led.whole.first_said in
      let gone = p.first_said in
      let count : k.first_said + seen ≡ length p.gone + seen = omega (arith, first, gone) in
      ap (λ (n : ℕ). take n w.said ++ drop seen k.said) count
      ∙ ap (λ (l : List Said). take (length p.gone + seen) l ++ drop seen k.said) p.said
      ∙ ap (λ (l : List Said). l ++ drop seen k.said) (take_behind p.gone k.said seen)
      ∙ append_assoc p.gone (take seen k.said) (drop seen k.said)
      ∙ ap (λ (l : List Said). p.gone ++ l) (take-append-drop seen k.said)
      ∙ sym p.said

  -- all is counted
  pub record IsAllCounted (c : CountedState A) : Type 0 where
    pub history : c.world.history ≡ []
    pub seen : c.seen ≡ length c.world.said

  module _ (c d : CountedState A) (g : LetsGo c d) where
    -- the world as it was where its messages were counted
    counted_world : g.counted.world ≡ handed_out c.world
    counted_world = ap (λ (x : CountedState A). x.world) g.messages.is

    forgets_there : Forgets (handed_out c.world) d.world
    forgets_there = subst (λ (x : WorldState A). Forgets x d.world) counted_world g.forgets.forgets

    its_seen : d.seen ≡ length c.world.said - (d.world.first_said - c.world.first_said)
    its_seen = ap (λ (x : CountedState A). x.seen) g.forgets.is
        ∙ ap (λ (n : ℕ). n - (d.world.first_said - g.counted.world.first_said))
        (ap (λ (x : CountedState A). x.seen) g.messages.is)
        ∙ ap (λ (x : WorldState A). length c.world.said - (d.world.first_said - x.first_said)) counted_world

    pub lets_all_go : IsAllCounted d
    lets_all_go =
        let f = forgets_there in
        let all : length c.world.said ≡ length f.keeps.gone + length d.world.said =
        ap (λ (l : List Said). length l) f.keeps.said ∙ length-append f.keeps.gone d.world.said in
        let first : d.world.first_said ≡ c.world.first_said + length f.keeps.gone = f.keeps.first_said in
        let seen = its_seen in record {
          history = sym f.keeps.history;
          seen = omega (arith, all, first, seen);
        }

    -- what is gone then was counted
    pub lets_go_on : (w : WorldState A) → IsCounted w c → IsCounted w d
    lets_go_on w p =
        let f = forgets_there in
        let h = c.world.history in
        let kept = keeps_forgotten (p.past ++ h) w (handed_out c.world) d.world
        (keeps_handed p.past w c.world p.keeps) f in
        let all = all_messages (p.past ++ h) w d.world p.led kept in
        let seen = lets_all_go.seen in
        let ms = g.messages.messages in record {
          led = p.led;
          past = p.past ++ h;
          keeps = kept;
          outcomes = ap (λ (x : CountedState A). x.outcomes) g.forgets.is
              ∙ ap (λ (x : CountedState A). x.outcomes) g.messages.is
              ∙ ap (λ (n : OutcomeCounts). outcomes_with n (outcomes_in h)) p.outcomes
              ∙ sym (outcomes_both p.past h);
          waits = subst (λ (x : WaitsState). AreWaitsOf (p.past ++ h) x)
              (sym (ap (λ (x : CountedState A). x.waits) g.forgets.is
              ∙ ap (λ (x : CountedState A). x.waits) g.messages.is))
              (all_waits_on p.past h c.waits
              (subst (λ (l : WorldHistory A). IsGood l) p.keeps.history (good_of _ w.history _ (legal_of w p.led)))
              p.waits);
          messages = p.messages ++ ms;
          said = map-append (λ m. said_of m) p.messages ms
              ∙ ap (λ (l : List Said). l ++ all_said ms) p.said
              ∙ ap (λ (l : List Said). take (c.world.first_said + c.seen) w.said ++ l) g.messages.said
              ∙ all_counted p.past w c.world c.seen p.led p.keeps
              ∙ sym (take_all (d.world.first_said + d.seen) w.said (omega (arith, all, seen)));
          types = ap (λ (x : CountedState A). x.messages) g.forgets.is
              ∙ ap (λ (x : CountedState A). x.messages) g.messages.is
              ∙ ap (λ (n : MessageCounts). messages_with n (messages_in ms)) p.types
              ∙ sym (messages_both p.messages ms);
          most = omega (arith, seen);
        }

  -- one event, behind which all is counted, or not yet
  one_on : (e : Event A) (w : WorldState A) (c d : CountedState A) → IsCounted w c → MakesOne e c d →
      ports.Then (λ (v : WorldState A). Prints e w v) (λ v. IsCounted v d)
  one_on e w c d p m =
      let on = makes_on e w c m.made m.sound p m.makes in record {
        middle = on.middle;
        first = on.first;
        rest = by_going on.middle on.rest m.lets_go;
      }
    where
      by_going : (v : WorldState A) → IsCounted v m.made → (d ≡ m.made) ⊎ LetsGo m.made d → IsCounted v d
      by_going v q (inl same) = subst (λ (x : CountedState A). IsCounted v x) (sym same) q
      by_going v q (inr g) = lets_go_on m.made d g v q

  -- all of them
  all_on : (es : List (Event A)) (w : WorldState A) (c d : CountedState A) → IsCounted w c → MakesAll es c d →
      ports.Then (λ (v : WorldState A). PrintsEvents (entries_in Numbers) es w v None None) (λ v. IsCounted v d)
  all_on [] w c d p same = record {
    middle = w;
    first = (refl, refl);
    rest = subst (λ (x : CountedState A). IsCounted w x) (sym same) p;
  }
  all_on (e ∷ es) w c d p m =
      let one = one_on e w c m.middle p m.first in
      let rest = all_on es one.middle m.middle d one.rest m.rest in record {
        middle = rest.middle;
        first = record { middle = one.middle; at_middle = None; first = one.first; rest = rest.first };
        rest = rest.rest;
      }

  all_sound : (es : List (Event A)) (c d : CountedState A) → MakesAll es c d → AllByRecursion IsSoundEvent es
  all_sound [] c d same = tt
  all_sound (e ∷ es) c d m = (m.first.sound, all_sound es m.middle d m.rest)

  -- the counts are those of the whole
  counts_are : (w : WorldState A) (c : CountedState A) (n : Counts) → IsCounted w c → IsAllCounted c → HasCounts c n →
      AreCounts w n
  counts_are w c n p all has =
      let whole : w.history ≡ p.past = p.keeps.history
      ∙ ap (λ (h : WorldHistory A). p.past ++ h) all.history ∙ append-nil p.past in
      let many = all_messages p.past w c.world p.led p.keeps in
      let seen = all.seen in record {
        messages = p.messages;
        said = p.said ∙ take_all (c.world.first_said + c.seen) w.said (omega (arith, many, seen));
        outcomes = has.outcomes ∙ p.outcomes ∙ sym (ap (λ (h : WorldHistory A). outcomes_in h) whole);
        types = has.messages ∙ p.types;
        datagrams = has.datagrams
            ∙ each_length (KeepsItem w.moment) w.items c.world.items p.keeps.items;
        frames = has.frames ∙ p.keeps.buses.frames;
        moment = has.moment ∙ p.keeps.moment;
        wait = has.wait ∙ p.waits.greatest ∙ sym (ap (λ (h : WorldHistory A). greatest_wait h) whole);
      }

  -- a storm from a world on
  pub whole_counted : (n : ℕ) (w : WorldState A) (c : CountedState A) (lines_old lines_new before after : Known) →
      IsLed w → c ≡ begun w → PrintsCounted n c lines_old lines_new before after →
      PrintsCountsFrom n w lines_old lines_new before after
  whole_counted n w c lines_old lines_new before after led is p =
      let r = p.rages in
      let on = all_on r.events w c p.at_end (subst (λ (x : CountedState A). IsCounted w x) (sym is) (begins w led))
      r.makes in
      let left = lets_go_on p.at_end p.left p.lets_go on.middle on.rest in record {
        left = on.middle;
        rages = record {
          events = r.events;
          many = r.many;
          sound = all_sound r.events c p.at_end r.makes;
          printed = on.first;
          put_down = r.put_down;
        };
        printed = record {
          counts = p.counts;
          are_counts = counts_are on.middle p.left p.counts left (lets_all_go p.at_end p.left p.lets_go) p.has;
          printed = p.printed;
        };
        legal = legal_of on.middle left.led;
      }

  -- .. behind a script
  pub counts_behind : {T E : Type 0} (r : Result T E) (lines : List ℕ) (steps : List (Step A)) (n : ℕ)
      (fresh left start : WorldState A) (lines_old lines_new before after : Known) →
      OnOk r (PrintsCountsFrom n start lines_old lines_new before after) → start ≡ left →
      PrintsSteps (entries_in Numbers) lines steps fresh left None None →
      OnOk r (PrintsCounts lines steps n fresh lines_old lines_new before after)
  counts_behind (Ok x) lines steps n fresh left start lines_old lines_new before after p same taken = record {
    left = p.left;
    storms = record {
      begun = start;
      at_storm = None;
      taken = subst (λ (v : WorldState A). PrintsSteps (entries_in Numbers) lines steps fresh v None None) (sym same)
          taken;
      rages = p.rages;
    };
    printed = p.printed;
    legal = p.legal;
  }
  counts_behind (Err e) lines steps n fresh left start lines_old lines_new before after p same taken = tt

pub ruleset counted_rules = (counts_behind)
