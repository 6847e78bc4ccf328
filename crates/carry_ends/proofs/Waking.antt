-- What a wake leaves is before its deadline.
use Rattle.std.proofs.Common.{◌≡◌, ◌∙◌, refl, sym, ap, subst, ⊎_elim, ℕ, Bool, true, false, List, [], ◌∷◌, Option, Some, None}
use Rattle.std.specs.Prelude.{◌+◌, ◌<◌, ◌&&◌}
use Rattle.std.proofs.lemmas.Bool.{and_parts, ltb-true}
use Rattle.carry_world.specs.carry_said.client_tsm.Open.{Open, gathers_still, goes_on, sends_still}
use Rattle.carry_world.specs.carry_said.client_tsm.Waking.{again, again_by, all_left, left_by, left_of, turn_by, turn_where}
use Rattle.carry_world.specs.carry_said.headline_site.headline_client.segments.Sender.{SenderState}
use Rattle.carry_world.specs.carry_said.headline_site.headline_client.segments.declared.step.Turn.{Turn}
use Rattle.carry_world.specs.carry_said.headline_site.headline_client.segments.declared.step.Turn.TheVariants.{Ends, Sends, Waits}
use Rattle.history.proofs.Lists.{has_cons, has_either, none_has}
use Rattle.history.specs.Lists.{Has}
use Rattle.profile.specs.Ages as age
use Rattle.profile.specs.Times.{DEADLINE_MS}

module _ {A : Type 0} where
  again_at : (sending : Option SenderState) (now : ℕ) (x : Open A) → (again_by sending now x).at ≡ x.at
  again_at (Some c) now x = refl
  again_at None now x = refl

  single : (x o : Open A) → Has (x ∷ []) o → x ≡ o
  single x o there = ⊎_elim (λ (here : x ≡ o). here) (λ (none : Has [] o). absurd (none_has none)) (has_cons x [] there)

  -- what a turn leaves was issued when the transaction was
  turned : (t : Turn) (now : ℕ) (x o : Open A) → Has (left_by t now x) o → o.at ≡ x.at
  turned Waits now x o there = ap (λ (z : Open A). z.at) (sym (single x o there))
  turned Sends now x o there = ap (λ (z : Open A). z.at) (sym (single (again now x) o there)) ∙ again_at x.sending now x
  turned Ends now x o there = absurd (none_has there)

  -- it leaves nothing of one that has its end
  left_where : (b : Bool) (now : ℕ) (x o : Open A) → goes_on now x ≡ b → Has (left_by (turn_where b now x) now x) o → now < o.at + DEADLINE_MS
  left_where false now x o is there = absurd (none_has there)
  left_where true now x o is there =
      let parts = and_parts (age.is_in_time x.at now) (gathers_still now x.gathering && sends_still now x.sending) is in
      subst (λ n. now < n + DEADLINE_MS) (sym (turned (turn_by x.gathering x.sending now x) now x o there))
      (ltb-true now (x.at + DEADLINE_MS) parts.0)

  pub left_in_time : (now : ℕ) (os : List (Open A)) (o : Open A) → Has (all_left now os) o → now < o.at + DEADLINE_MS
  left_in_time now [] o there = absurd (none_has there)
  left_in_time now (x ∷ xs) o there = ⊎_elim
      (λ (here : Has (left_of now x) o). left_where (goes_on now x) now x o refl here)
      (λ (later : Has (all_left now xs) o). left_in_time now xs o later)
      (has_either (left_of now x) (all_left now xs) there)
