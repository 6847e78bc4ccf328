-- Until when a server has nothing to do where it wakes.
use Rattle.std.proofs.Common.{◌≡◌, sym, ◌∙◌, refl, ap, ℕ, ◌<◌, ◌≤◌, ◌+◌, Bool, true, false, List, [], drop, length, arith}
use Rattle.std.proofs.lemmas.List.{drop_all}
use Rattle.std.specs.Prelude.{Option, None, Some, min, slice_get}
use Rattle.due_times.specs.Until.{Until}
use Rattle.segments.specs.Sender.{SenderState, waits, wakes}
use Rattle.server_answers.specs.remembered.Records.{lives}
use Rattle.server_answers.specs.remembered.declared.record.Record.{Record}
use Rattle.server_tsm.proofs.Quiet.{quiet_none, quiet_step}
use Rattle.server_tsm.specs.Waking.{is_quiet, turn_of, turn_where}

-- a record that lives or not waits, where nothing goes on sending its answer or that waits
waits_none : (is_living : Bool) (now : ℕ) → waits (turn_where is_living now None) ≡ true
waits_none true now = refl
waits_none false now = refl

waits_still : (is_living : Bool) (now : ℕ) (c : SenderState) → waits (wakes now c).turn ≡ true →
    waits (turn_where is_living now (Some c)) ≡ true
waits_still true now c e = e
waits_still false now c e = refl

module _ {A : Type 0} where
  pub due_none : (due : ℕ) (r : Record A) → r.sending ≡ None → Until due (λ now. waits (turn_of now r) ≡ true)
  due_none due r none = record {
    holds = λ now lt. ap (λ (s : Option SenderState). waits (turn_where (lives now r) now s)) none
        ∙ waits_none (lives now r) now;
  }

  pub due_window : (due : ℕ) (r : Record A) (c : SenderState) → Until due (λ now. waits (wakes now c).turn ≡ true) →
      r.sending ≡ Some c → Until due (λ now. waits (turn_of now r) ≡ true)
  due_window due r c until is = record {
    holds = λ now lt. ap (λ (s : Option SenderState). waits (turn_where (lives now r) now s)) is
        ∙ waits_still (lives now r) now c (until.holds now lt);
  }

  -- where nothing is due of one before a moment, all is due that is due behind it
  pub due_here : (due : ℕ) (rs : List (Record A)) (i : ℕ) (r : Record A) → slice_get rs i ≡ Some r →
      Until due (λ now. waits (turn_of now r) ≡ true) →
      Until due (λ now. is_quiet now (drop (i + 1) rs) ≡ is_quiet now (drop i rs))
  due_here due rs i r there until =
      record { holds = λ now lt. quiet_step now rs i r true there (sym (until.holds now lt)) }

  pub due_nowhere : (due : ℕ) (rs : List (Record A)) (i : ℕ) → slice_get rs i ≡ None →
      Until due (λ now. is_quiet now (drop (i + 1) rs) ≡ is_quiet now (drop i rs))
  due_nowhere due rs i none = record { holds = λ now lt. quiet_none now rs i none }

  -- at the beginning nothing was passed, and before any moment
  pub due_first : (due : ℕ) (rs : List (Record A)) →
      Until due (λ now. is_quiet now (drop 0 rs) ≡ is_quiet now rs)
  due_first due rs = record { holds = λ now lt. refl }

  -- .. and the next one is passed, before the lesser of two moments
  pub due_next : (due here : ℕ) (rs : List (Record A)) (i : ℕ) →
      Until due (λ now. is_quiet now (drop i rs) ≡ is_quiet now rs) →
      Until here (λ now. is_quiet now (drop (i + 1) rs) ≡ is_quiet now (drop i rs)) →
      Until (min due here) (λ now. is_quiet now (drop (i + 1) rs) ≡ is_quiet now rs)
  due_next due here rs i so_far until = record {
    holds = λ now lt. until.holds now (omega (arith, lt)) ∙ so_far.holds now (omega (arith, lt));
  }

  none_left : (now : ℕ) (rs : List (Record A)) (i : ℕ) → length rs ≤ i → is_quiet now (drop i rs) ≡ true
  none_left now rs i le = ap (λ (zs : List (Record A)). is_quiet now zs) (drop_all i rs le)

  -- .. and at the end all were passed
  pub due_last : (due : ℕ) (rs : List (Record A)) (i : ℕ) → length rs ≤ i →
      Until due (λ now. is_quiet now (drop i rs) ≡ is_quiet now rs) → Until due (λ now. is_quiet now rs ≡ true)
  due_last due rs i le so_far = record { holds = λ now lt. sym (so_far.holds now lt) ∙ none_left now rs i le }

pub ruleset sending_rules = (due_none, due_window)

pub ruleset until_rules = (due_first, due_next, due_last)
