-- Where nothing is due, a server that wakes says nothing, and nothing goes on being sent otherwise.
use Rattle.std.proofs.Common.{◌≡◌, ◌∙◌, refl, sym, ap, ℕ, ◌+◌, Bool, true, List, [], ◌∷◌, ◌++◌, drop, arith}
use Rattle.std.specs.List.{flat_map}
use Rattle.std.specs.Prelude.{◌&&◌, None, Some, slice_get, suc}
use Rattle.segments.specs.Sender.{waits}
use Rattle.segments.specs.declared.step.Turn.{Turn}
use Rattle.segments.specs.declared.step.Turn.TheVariants.{Waits, Sends, Ends}
use Rattle.server_answers.specs.declared.plan.Saying.{Saying}
use Rattle.server_answers.specs.declared.said.ServerSaid.{ServerSaid}
use Rattle.server_answers.specs.remembered.declared.record.Record.{Record}
use Rattle.server_tsm.proofs.Places.{drop_more, drop_none, drop_one}
use Rattle.server_tsm.specs.Waking.{is_quiet, said_at_turn, said_on_wake, saying_at_turn, saying_on_wake, turn_of}

module _ {A : Type 0} where
  says_nothing : (t : Turn) (now : ℕ) (r : Record A) (b : Bool) (rest : List (ServerSaid A)) → (waits t && b) ≡ true →
      (b ≡ true → rest ≡ []) → said_at_turn t now r ++ rest ≡ []
  says_nothing Waits now r b rest e h = h e
  says_nothing Sends now r b rest e h = absurd (cc e)
  says_nothing Ends now r b rest e h = absurd (cc e)

  -- nothing is said
  pub said_quietly : (now : ℕ) (rs : List (Record A)) → is_quiet now rs ≡ true → flat_map (said_on_wake now) rs ≡ []
  said_quietly now [] e = refl
  said_quietly now (r ∷ rs) e = says_nothing (turn_of now r) now r (is_quiet now rs) (flat_map (said_on_wake now) rs) e
      (said_quietly now rs)

  changes_nothing : (t : Turn) (now : ℕ) (r : Record A) (b : Bool) (rest : List Saying) → (waits t && b) ≡ true →
      (b ≡ true → rest ≡ []) → saying_at_turn t now r ++ rest ≡ []
  changes_nothing Waits now r b rest e h = h e
  changes_nothing Sends now r b rest e h = absurd (cc e)
  changes_nothing Ends now r b rest e h = absurd (cc e)

  -- and nothing goes on being sent otherwise
  pub saying_quietly : (now : ℕ) (rs : List (Record A)) → is_quiet now rs ≡ true → flat_map (saying_on_wake now) rs ≡ []
  saying_quietly now [] e = refl
  saying_quietly now (r ∷ rs) e = changes_nothing (turn_of now r) now r (is_quiet now rs)
      (flat_map (saying_on_wake now) rs) e (saying_quietly now rs)

  -- nothing is due of the next one and of those behind it
  pub quiet_step : (now : ℕ) (rs : List (Record A)) (i : ℕ) (r : Record A) (b : Bool) → slice_get rs i ≡ Some r →
      b ≡ waits (turn_of now r) → (b && is_quiet now (drop (i + 1) rs)) ≡ is_quiet now (drop i rs)
  quiet_step now rs i r b there e =
      let next : suc i ≡ i + 1 = omega arith in
      rw (← next) (ap (λ (c : Bool). c && is_quiet now (drop (suc i) rs)) e
      ∙ ap (λ (zs : List (Record A)). is_quiet now zs) (sym (drop_one rs i r there)))

  pub quiet_none : (now : ℕ) (rs : List (Record A)) (i : ℕ) → slice_get rs i ≡ None →
      is_quiet now (drop (i + 1) rs) ≡ is_quiet now (drop i rs)
  quiet_none now rs i none =
      let next : suc i ≡ i + 1 = omega arith in
      rw (← next) (ap (λ (zs : List (Record A)). is_quiet now zs) (drop_more rs i none ∙ sym (drop_none rs i none)))

pub ruleset quiet_rules = (said_quietly, saying_quietly)
