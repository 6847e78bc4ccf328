-- Until when a client has nothing to do where it wakes.
use Rattle.std.proofs.Common.{arith, ◌≡◌, ◌∙◌, refl, sym, ap, ℕ, ◌<◌, ◌≤◌, ◌+◌, ◌-◌, Bool, true, false, List, [], ◌∷◌, length}
use Rattle.std.proofs.lemmas.Bool.{lt-leb, lt-ltb}
use Rattle.std.specs.Prelude.{◌&&◌, nat_lt, min, not, Option, Some, None}
use Rattle.due_times.specs.Until.{Until}
use Rattle.profile.specs.Ages as age
use Rattle.profile.specs.Limits.{NUMBER_OF_APDU_RETRIES}
use Rattle.profile.specs.Times.{APDU_TIMEOUT_MS, DEADLINE_MS, GATHERING_TIMEOUT_MS}
use Rattle.segments.specs.Sender.{SenderState, has_ended, waits, wakes}
use Rattle.client_tsm.specs.Open.{Open, gathers_still, sends_still}
use Rattle.client_tsm.specs.Waking.{is_quiet, turn_by, turn_if, turn_of, turn_where}
use Rattle.client_tsm.specs.declared.gathering.Gathering.{Gathering}

-- a request whose window was not repeated in vain, or that has none
pub sends_window : (end : ℕ) (s : Option SenderState) (c : SenderState) → Until end (λ now. has_ended now c ≡ false) →
    s ≡ Some c → Until end (λ now. sends_still now s ≡ true)
sends_window end s c on is = record {
  holds = λ now lt. ap (λ (x : Option SenderState). sends_still now x) is ∙ ap not (on.holds now lt);
}

pub sends_none : (end : ℕ) (s : Option SenderState) → s ≡ None → Until end (λ now. sends_still now s ≡ true)
sends_none end s none = record { holds = λ now lt. ap (λ (x : Option SenderState). sends_still now x) none }

all_three : (a b c : Bool) → a ≡ true → b ≡ true → c ≡ true → (a && (b && c)) ≡ true
all_three a b c p q r = ap (λ (x : Bool). x && (b && c)) p ∙ ap (λ (x : Bool). x && c) q ∙ r

module _ {A : Type 0} where
  -- an answer that isn't too old, or of which nothing is gathered
  pub gathers_some : (end : ℕ) (g : Option (Gathering A)) (x : Gathering A) → g ≡ Some x →
      end ≤ x.at + GATHERING_TIMEOUT_MS → Until end (λ now. gathers_still now g ≡ true)
  gathers_some end g x is le = record {
    holds = λ now lt. ap (λ (y : Option (Gathering A)). gathers_still now y) is
        ∙ lt-ltb now (x.at + GATHERING_TIMEOUT_MS) (omega (arith, lt, le));
  }

  pub gathers_none : (end : ℕ) (g : Option (Gathering A)) → g ≡ None → Until end (λ now. gathers_still now g ≡ true)
  gathers_none end g none =
      record { holds = λ now lt. ap (λ (y : Option (Gathering A)). gathers_still now y) none }

  -- its window waits, or it is not yet overdue from its beginning
  pub unsaid_window : (end : ℕ) (s : Option SenderState) (c : SenderState) (o : Open A) →
      Until end (λ now. waits (wakes now c).turn ≡ true) → s ≡ Some c →
      Until end (λ now. waits (turn_by None s now o) ≡ true)
  unsaid_window end s c o until is = record {
    holds = λ now lt. ap (λ (x : Option SenderState). waits (turn_by {A = A} None x now o)) is ∙ until.holds now lt;
  }

  pub unsaid_whole : (end : ℕ) (s : Option SenderState) (o : Open A) → s ≡ None → end ≤ o.sent + APDU_TIMEOUT_MS →
      Until end (λ now. waits (turn_by None s now o) ≡ true)
  unsaid_whole end s o none le = record {
    holds = λ now lt.
        let some : APDU_TIMEOUT_MS ≡ 3000 = refl in
        let early : now - o.sent < APDU_TIMEOUT_MS = omega (arith, lt, le, some) in
        ap (λ (x : Option SenderState). waits (turn_by {A = A} None x now o)) none
        ∙ ap (λ (b : Bool). waits (turn_if (b && nat_lt o.repeats NUMBER_OF_APDU_RETRIES)))
        (lt-leb APDU_TIMEOUT_MS (now - o.sent) early);
  }

  -- nothing is said again while an answer is gathered
  pub silent_gathering : (end : ℕ) (g : Option (Gathering A)) (x : Gathering A) (s : Option SenderState) (o : Open A) →
      g ≡ Some x → Until end (λ now. waits (turn_by g s now o) ≡ true)
  silent_gathering end g x s o is =
      record { holds = λ now lt. ap (λ (y : Option (Gathering A)). waits (turn_by y s now o)) is }

  pub silent_else : (end : ℕ) (g : Option (Gathering A)) (s : Option SenderState) (o : Open A) →
      Until end (λ now. waits (turn_by None s now o) ≡ true) → g ≡ None →
      Until end (λ now. waits (turn_by g s now o) ≡ true)
  silent_else end g s o until none = record {
    holds = λ now lt. ap (λ (y : Option (Gathering A)). waits (turn_by y s now o)) none ∙ until.holds now lt;
  }

  -- a transaction waits as long as it goes on and isn't said again
  pub waits_until : (end gathers sends silent : ℕ) (o : Open A) →
      Until gathers (λ now. gathers_still now o.gathering ≡ true) →
      Until sends (λ now. sends_still now o.sending ≡ true) →
      Until silent (λ now. waits (turn_by o.gathering o.sending now o) ≡ true) → end ≤ o.at + DEADLINE_MS →
      Until (min end (min (min gathers sends) silent)) (λ now. waits (turn_of now o) ≡ true)
  waits_until end gathers sends silent o g s t le = record {
    holds = λ now lt.
        let on = all_three (age.is_in_time o.at now) (gathers_still now o.gathering) (sends_still now o.sending)
        (lt-ltb now (o.at + DEADLINE_MS) (omega (arith, lt, le))) (g.holds now (omega (arith, lt)))
        (s.holds now (omega (arith, lt))) in
        ap (λ (b : Bool). waits (turn_where b now o)) on ∙ t.holds now (omega (arith, lt));
  }

  -- of none that was passed anything is due
  pub quiet_first : (due : ℕ) (os : List (Open A)) → Until due (λ now. is_quiet now os ≡ is_quiet now os)
  quiet_first due os = record { holds = λ now lt. refl }

  pub quiet_next : (next due here : ℕ) (all left rest : List (Open A)) (o : Open A) → left ≡ o ∷ rest →
      Until due (λ now. is_quiet now left ≡ is_quiet now all) → Until here (λ now. waits (turn_of now o) ≡ true) →
      next ≡ min due here → Until next (λ now. is_quiet now rest ≡ is_quiet now all)
  quiet_next next due here all left rest o is so_far one least = record {
    holds = λ now lt.
        ap (λ (b : Bool). b && is_quiet now rest) (sym (one.holds now (omega (arith, lt, least))))
        ∙ ap (λ (os : List (Open A)). is_quiet now os) (sym is) ∙ so_far.holds now (omega (arith, lt, least));
  }

  pub quiet_all : (due : ℕ) (all left : List (Open A)) →
      Until due (λ now. is_quiet now left ≡ is_quiet now all) → length left < 1 →
      Until due (λ now. is_quiet now all ≡ true)
  quiet_all due all [] so_far none = record { holds = λ now lt. sym (so_far.holds now lt) }
  quiet_all due all (o ∷ left) so_far none = absurd (omega (arith, none))

pub ruleset ending_rules = (sends_window, sends_none, gathers_some, gathers_none)

pub ruleset silence_rules = (unsaid_window, unsaid_whole, silent_gathering, silent_else)

pub ruleset waiting_rules = (waits_until)

pub ruleset quiet_rules = (quiet_first, quiet_all)
