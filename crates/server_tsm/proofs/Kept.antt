-- A planned change keeps what a server promises of its records.
use Rattle.std.proofs.Common.{◌≡◌, ◌≢◌, ◌∙◌, refl, sym, ap, subst, ℕ, ◌+◌, ◌≤◌, Bool, true, false, List, [], ◌∷◌, ◌++◌, arith}
use Rattle.std.specs.Prelude.{◌&&◌, length, nat_le, not, Option, Some, None, if◌then◌else◌}
use Rattle.std.specs.List.{AllByRecursion}
use Rattle.std.proofs.lemmas.Bool.{le-leb, leb-false}
use Rattle.std.proofs.lemmas.List.{length-append, length-map, map-append}
use Rattle.npdu.specs.declared.mac.Way.{Way}
use Rattle.profile.specs.Limits.{MAX_REMEMBERED}
use Rattle.profile.specs.Times.{KEEP_MS}
use Rattle.server_answers.proofs.remembered.Keeping.{distinct_more}
use Rattle.server_answers.proofs.remembered.Living.{forgotten_are_dead, newest_lives}
use Rattle.server_answers.proofs.remembered.Ordering.{itself}
use Rattle.server_answers.specs.remembered.Records.{AreAscending, AreDistinct, asker_cmp, askers, forgotten, is_full, is_of, later_or, lives, newest, remembered, said_again}
use Rattle.server_answers.specs.remembered.Records.{said_by, some_if}
use Rattle.server_answers.specs.remembered.declared.record.Asker.{Asker}
use Rattle.server_answers.specs.remembered.declared.record.Record.{Record}
use Rattle.segments.specs.Sender.{SenderState}
use Rattle.std.specs.Ordering.{is_eq}
use Rattle.server_answers.specs.Plan.{ServerChange, ServerPlan, Stays, Says, Gathers, GivesUp, Executes, Wakes, plan_of, plan_with}
use Rattle.server_answers.specs.Executed.{Executed}
use Rattle.server_answers.specs.declared.plan.Planned.TheVariants as held
use Rattle.server_answers.specs.declared.said.ServerSaid.{ServerSaid}
use Rattle.server_answers.specs.declared.asked.Origin.{Origin}
use Rattle.server_answers.specs.declared.plan.Saying.{Saying}
use Rattle.server_tsm.proofs.Arms.{holds_of_plan}
use Rattle.server_tsm.proofs.Timely.{timely_executed, timely_forgotten, timely_later, timely_none, timely_said, timely_woken}
use Rattle.server_tsm.specs.Hearing.{Heard}
use Rattle.server_tsm.specs.Laws.{PlannedStaysKept}
use Rattle.server_tsm.specs.Server.{AreKept, AreTimely, HasPlace, ServerTsmState, committed, stamped}
use Rattle.server_tsm.specs.Steps.{IsPlan, IsPlanned, on_heard, on_wake}
use Rattle.server_tsm.specs.Waking.{after_sayings, after_saying}

module _ {A : Type 0} where
  -- who asked stays, however answers are said
  askers_said_by : (o : Option (Record A)) (b : Bool) (way : Way) (sending : Option SenderState) (r : Record A) (rs rest : List (Record A)) →
      askers rest ≡ askers rs → askers (said_by o b way sending r rs rest) ≡ r.asker ∷ askers rs
  askers_said_by (Some x) b way sending r rs rest e = ap (λ l. r.asker ∷ l) e
  askers_said_by None true way sending r rs rest e = refl
  askers_said_by None false way sending r rs rest e = refl

  pub askers_said : (a : Asker) (way : Way) (sending : Option SenderState) (rs : List (Record A)) → askers (said_again a way sending rs) ≡ askers rs
  askers_said a way sending [] = refl
  askers_said a way sending (r ∷ rs) = askers_said_by (newest a rs) (is_of a r) way sending r rs (said_again a way sending rs) (askers_said a way sending rs)

  askers_all_said : (xs : List Saying) (rs : List (Record A)) → askers (after_sayings xs rs) ≡ askers rs
  askers_all_said [] rs = refl
  askers_all_said (x ∷ xs) rs = askers_all_said xs (after_saying x rs) ∙ askers_said x.asker x.way x.sending rs

  same_length : (rs ss : List (Record A)) → askers rs ≡ askers ss → length rs ≡ length ss
  same_length rs ss e =
      sym (length-map rs (λ (r : Record A). r.asker)) ∙ ap (λ (l : List Asker). length l) e ∙ length-map ss (λ (r : Record A). r.asker)

  -- what is forgotten leaves fewer, and none twice
  fewer_if : (n : ℕ) (b : Bool) (r : Record A) (rs rest : List (Record A)) → length (r ∷ rs) ≤ n → length rest ≤ n → length (if b then r ∷ rs else rest) ≤ n
  fewer_if n true r rs rest l m = l
  fewer_if n false r rs rest l m = m

  few_forgotten : (n now : ℕ) (rs : List (Record A)) → length rs ≤ n → length (forgotten now rs) ≤ n
  few_forgotten n now [] l = l
  few_forgotten n now (r ∷ rs) l = fewer_if n (lives now r) r rs (forgotten now rs) l (few_forgotten n now rs (omega (arith, l)))

  distinct_if : (b : Bool) (r : Record A) (rs rest : List (Record A)) → AreDistinct (askers (r ∷ rs)) → AreDistinct (askers rest) →
      AreDistinct (askers (if b then r ∷ rs else rest))
  distinct_if true r rs rest h g = h
  distinct_if false r rs rest h g = g

  distinct_forgotten : (now : ℕ) (rs : List (Record A)) → AreDistinct (askers rs) → AreDistinct (askers (forgotten now rs))
  distinct_forgotten now [] h = tt
  distinct_forgotten now (r ∷ rs) h = distinct_if (lives now r) r rs (forgotten now rs) h (distinct_forgotten now rs h.1)

  -- where there is a place for one more, there is after it was put there
  room_by : (now : ℕ) (x r : Record A) (rs : List (Record A)) (b : Bool) → lives now x ≡ b → length (x ∷ rs) ≤ MAX_REMEMBERED →
      (nat_le MAX_REMEMBERED (length (x ∷ rs)) && not (not b)) ≡ false →
      length (if b then x ∷ (rs ++ r ∷ []) else forgotten now (rs ++ r ∷ [])) ≤ MAX_REMEMBERED
  room_by now x r rs true t few e = by_test (nat_le MAX_REMEMBERED (length (x ∷ rs))) refl e
    where
      by_test : (c : Bool) → nat_le MAX_REMEMBERED (length (x ∷ rs)) ≡ c → (c && true) ≡ false → length (x ∷ (rs ++ r ∷ [])) ≤ MAX_REMEMBERED
      by_test true u f = absurd (cc f)
      by_test false u f =
          let less = leb-false MAX_REMEMBERED (length (x ∷ rs)) u in
          let more = length-append rs (r ∷ []) in
          omega (arith, less, more)
  room_by now x r rs false t few e =
      let more = length-append rs (r ∷ []) in
      few_forgotten MAX_REMEMBERED now (rs ++ r ∷ []) (omega (arith, more, few))

  few_executed : (now : ℕ) (rs : List (Record A)) (r : Record A) → length rs ≤ MAX_REMEMBERED → is_full now rs ≡ false →
      length (forgotten now (rs ++ r ∷ [])) ≤ MAX_REMEMBERED
  few_executed now [] r few e = few_forgotten MAX_REMEMBERED now (r ∷ []) (omega arith)
  few_executed now (x ∷ rs) r few e = room_by now x r rs (lives now x) refl few e

  -- of an asker of whom nothing is remembered, no record lives
  none_by : (a : Asker) (r : Record A) (o : Option (Record A)) (b : Bool) → is_of a r ≡ b → later_or o (some_if b r) ≡ None → (o ≡ None) × (r.asker ≢ a)
  none_by a r (Some x) b t e = absurd (cc e)
  none_by a r None true t e = absurd (cc e)
  none_by a r None false t e = (refl, λ same. absurd (cc (sym (ap (λ z. is_eq (asker_cmp z a)) same ∙ itself a) ∙ t)))

  none_newest : (a : Asker) (rs : List (Record A)) → newest a rs ≡ None → AllByRecursion (λ z. z ≢ a) (askers rs)
  none_newest a [] e = tt
  none_newest a (r ∷ rs) e =
      let p = none_by a r (newest a rs) (is_of a r) refl e in
      (p.1, none_newest a rs p.0)

  none_lives : (now : ℕ) (a : Asker) (rs : List (Record A)) → AreAscending rs → remembered now a rs ≡ None →
      AllByRecursion (λ z. z ≢ a) (askers (forgotten now rs))
  none_lives now a rs up none =
      none_newest a (forgotten now rs) (ap (λ (l : List (Record A)). newest a l) (forgotten_are_dead now rs up) ∙ sym (newest_lives now a rs up) ∙ none)

  -- one more that lives
  added_if : (b : Bool) (x r : Record A) (rs rest more : List (Record A)) → more ≡ rest ++ r ∷ [] →
      (if b then x ∷ (rs ++ r ∷ []) else more) ≡ (if b then x ∷ rs else rest) ++ r ∷ []
  added_if true x r rs rest more e = refl
  added_if false x r rs rest more e = e

  added_one : (now : ℕ) (r : Record A) → lives now r ≡ true → forgotten now (r ∷ []) ≡ r ∷ []
  added_one now r t = rw t refl

  forgotten_added : (now : ℕ) (rs : List (Record A)) (r : Record A) → lives now r ≡ true → forgotten now (rs ++ r ∷ []) ≡ forgotten now rs ++ r ∷ []
  forgotten_added now [] r t = added_one now r t
  forgotten_added now (x ∷ rs) r t = added_if (lives now x) x r rs (forgotten now rs) (forgotten now (rs ++ r ∷ [])) (forgotten_added now rs r t)

  distinct_executed : (now : ℕ) (rs : List (Record A)) (r : Record A) → AreAscending rs → AreDistinct (askers rs) → remembered now r.asker rs ≡ None →
      lives now r ≡ true → AreDistinct (askers (forgotten now (rs ++ r ∷ [])))
  distinct_executed now rs r up distinct none t =
      subst (λ (l : List Asker). AreDistinct l)
      (sym (ap (λ (l : List (Record A)). askers l) (forgotten_added now rs r t) ∙ map-append (λ (x : Record A). x.asker) (forgotten now rs) (r ∷ [])))
      (distinct_more (askers (forgotten now rs)) r.asker (distinct_forgotten now rs distinct) (none_lives now r.asker rs up none))

  -- ---- what is kept stays kept
  pub kept_none : (m : ℕ) → AreKept {A = A} m []
  kept_none m = record { few = omega arith; distinct = tt; timely = timely_none m }

  -- time goes on
  pub kept_later : (m n : ℕ) (rs : List (Record A)) → m ≤ n → AreKept m rs → AreKept n rs
  kept_later m n rs l k = record { few = k.few; distinct = k.distinct; timely = timely_later m n rs l k.timely }

  kept_same : (m n : ℕ) (rs ss : List (Record A)) → askers ss ≡ askers rs → AreKept m rs → AreTimely n ss → AreKept n ss
  kept_same m n rs ss e k t =
      let same = same_length ss rs e in
      record { few = omega (arith, same, k.few); distinct = subst (λ (l : List Asker). AreDistinct l) (sym e) k.distinct; timely = t }

  -- another sending
  pub kept_said : (m n : ℕ) (a : Asker) (way : Way) (sending : Option SenderState) (rs : List (Record A)) → m ≤ n → AreKept m rs →
      AreKept n (said_again a way sending rs)
  kept_said m n a way sending rs l k =
      kept_same m n rs (said_again a way sending rs) (askers_said a way sending rs) k (timely_said m n a way sending rs l k.timely)

  -- a wake
  pub kept_woken : (m now : ℕ) (xs : List Saying) (rs : List (Record A)) → m ≤ now → AreKept m rs → AreKept now (after_sayings xs (forgotten now rs))
  kept_woken m now xs rs l k =
      kept_same m now (forgotten now rs) (after_sayings xs (forgotten now rs)) (askers_all_said xs (forgotten now rs)) (kept_forgotten m now rs k)
      (timely_woken m now xs rs l k.timely)
    where
      kept_forgotten : (m now : ℕ) (rs : List (Record A)) → AreKept m rs → AreKept m (forgotten now rs)
      kept_forgotten m now rs k = record {
        few = few_forgotten MAX_REMEMBERED now rs k.few;
        distinct = distinct_forgotten now rs k.distinct;
        timely = timely_forgotten m now rs k.timely;
      }

  -- one more, executed now
  pub kept_executed : (m now : ℕ) (rs : List (Record A)) (r : Record A) → m ≤ now → AreKept m rs → HasPlace now r.asker rs →
      AreKept now (forgotten now (rs ++ stamped now r ∷ []))
  kept_executed m now rs r l k place =
      let living : lives now (stamped now r) ≡ true = le-leb now (now + KEEP_MS) (omega arith) in
      record {
        few = few_executed now rs (stamped now r) k.few place.room;
        distinct = distinct_executed now rs (stamped now r) k.timely.ascending k.distinct place.none living;
        timely = timely_executed m now rs r l k.timely;
      }

  -- for what is executed there is a place
  abbrev HasRoom : ℕ → ServerTsmState A → ServerChange A → Type 0
  HasRoom now st (Executes request r) = HasPlace now r.asker st.records
  HasRoom now st change = Unit {0}

  has_room : (now : ℕ) (from : Origin) (h : Heard) (st : ServerTsmState A) (plan : ServerPlan A) → IsPlan now from h st plan → HasRoom now st plan.change
  has_room now from h st plan p = holds_of_plan now from h st plan (λ x. HasRoom now st x.change) (record {
    dropped = tt;
    answered = λ sending way r. tt;
    ended = λ r. tt;
    given_up = tt;
    gathers = λ says asked s octets a. tt;
    overflows = λ says asked a. tt;
    crowded = λ asked e. tt;
    rejected = λ says asked reason a. tt;
    full = λ says asked a e. tt;
    executed = λ says asked q a of none room. record { none = ap (λ (z : Asker). remembered now z st.records) of ∙ none; room = room };
  }) p

  planned_room : (now : ℕ) (st : ServerTsmState A) (plan : ServerPlan A) → IsPlanned now st plan → HasRoom now st plan.change
  planned_room now st plan (on_heard from h p) = has_room now from h st plan p
  planned_room now st plan (on_wake e) = subst (λ (x : ServerPlan A). HasRoom now st x.change) (sym e) tt

  changed_kept : (now : ℕ) (change : ServerChange A) (st : ServerTsmState A) → st.moment ≤ now → AreKept st.moment st.records → HasRoom now st change →
      AreKept (committed now change st).moment (committed now change st).records
  changed_kept now Stays st l k h = kept_later st.moment now st.records l k
  changed_kept now (Says x) st l k h = kept_said st.moment now x.asker x.way x.sending st.records l k
  changed_kept now (Gathers asked segment octets) st l k h = kept_later st.moment now st.records l k
  changed_kept now (GivesUp asker) st l k h = kept_later st.moment now st.records l k
  changed_kept now (Executes request r) st l k h = kept_executed st.moment now st.records r l k h
  changed_kept now (Wakes xs) st l k h = kept_woken st.moment now xs st.records l k

  pub planned_kept : PlannedStaysKept A
  planned_kept now st plan p l k = changed_kept now plan.change st l k (planned_room now st plan p)

  -- what is planned, taken from its memory
  pub planned_place : (now : ℕ) (st : ServerTsmState A) (plan : ServerPlan A) (says : List (ServerSaid A)) (x : Executed A) (r : Record A) →
      plan_of (Some (held.Executes says x r)) ≡ plan → IsPlanned now st plan → HasPlace now r.asker st.records
  planned_place now st plan says x r e p = planned_room now st (plan_with (held.Executes says x r)) (subst (λ (z : ServerPlan A). IsPlanned now st z) (sym e) p)

pub ruleset kept_rules = (kept_later, kept_said, kept_none)
