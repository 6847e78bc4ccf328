-- Where nothing is due, a client that wakes says and tells nothing, and all its transactions go on.
use Rattle.std.proofs.Common.{◌≡◌, ap, ℕ, Bool, true, List, [], ◌∷◌, ◌++◌, refl}
use Rattle.std.specs.List.{flat_map}
use Rattle.std.specs.Prelude.{◌&&◌}
use Rattle.segments.specs.Sender.{waits}
use Rattle.segments.specs.declared.step.Turn.{Turn}
use Rattle.segments.specs.declared.step.Turn.TheVariants.{Waits, Sends, Ends}
use Rattle.client_tsm.specs.Open.{Open}
use Rattle.client_tsm.specs.Waking.{all_left, is_quiet, left_by, said_by, said_of, told_by, told_of, turn_of}
use Rattle.client_tsm.specs.declared.plan.TransactionOutcome.{TransactionOutcome}
use Rattle.client_tsm.specs.declared.said.ClientSaid.{ClientSaid}

module _ {A : Type 0} where
  says_nothing : (t : Turn) (now : ℕ) (o : Open A) (b : Bool) (rest : List (ClientSaid A)) → (waits t && b) ≡ true →
      (b ≡ true → rest ≡ []) → said_by t now o ++ rest ≡ []
  says_nothing Waits now o b rest e h = h e
  says_nothing Sends now o b rest e h = absurd (cc e)
  says_nothing Ends now o b rest e h = absurd (cc e)

  -- nothing is said
  pub said_quietly : (now : ℕ) (os : List (Open A)) → is_quiet now os ≡ true → flat_map (said_of now) os ≡ []
  said_quietly now [] e = refl
  said_quietly now (o ∷ os) e =
      says_nothing (turn_of now o) now o (is_quiet now os) (flat_map (said_of now) os) e (said_quietly now os)

  tells_nothing : (t : Turn) (o : Open A) (b : Bool) (rest : List (TransactionOutcome A)) → (waits t && b) ≡ true →
      (b ≡ true → rest ≡ []) → told_by t o ++ rest ≡ []
  tells_nothing Waits o b rest e h = h e
  tells_nothing Sends o b rest e h = absurd (cc e)
  tells_nothing Ends o b rest e h = absurd (cc e)

  -- nothing is told
  pub told_quietly : (now : ℕ) (os : List (Open A)) → is_quiet now os ≡ true → flat_map (told_of now) os ≡ []
  told_quietly now [] e = refl
  told_quietly now (o ∷ os) e =
      tells_nothing (turn_of now o) o (is_quiet now os) (flat_map (told_of now) os) e (told_quietly now os)

  goes_on_so : (t : Turn) (now : ℕ) (o : Open A) (b : Bool) (os rest : List (Open A)) → (waits t && b) ≡ true →
      (b ≡ true → rest ≡ os) → left_by t now o ++ rest ≡ o ∷ os
  goes_on_so Waits now o b os rest e h = ap (λ (xs : List (Open A)). o ∷ xs) (h e)
  goes_on_so Sends now o b os rest e h = absurd (cc e)
  goes_on_so Ends now o b os rest e h = absurd (cc e)

  -- and all go on
  pub left_quietly : (now : ℕ) (os : List (Open A)) → is_quiet now os ≡ true → all_left now os ≡ os
  left_quietly now [] e = refl
  left_quietly now (o ∷ os) e =
      goes_on_so (turn_of now o) now o (is_quiet now os) os (all_left now os) e (left_quietly now os)

pub ruleset quiet_rules = (said_quietly, told_quietly, left_quietly)
