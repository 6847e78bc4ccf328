-- No Abort but of two reasons is remembered in place of an answer.
use Rattle.std.proofs.Common.{refl, ℕ, Bool, true, false, List, inl, inr}
use Rattle.std.specs.Prelude.{length}
use Rattle.primitives.specs.declared.plain_data.Request.{Request}
use Rattle.primitives.specs.declared.plain_data.Reply.{Reply}
use Rattle.primitives.specs.declared.plain_data.Reply.TheVariants.{Values, Many, Done, Error, ErrorAt}
use Rattle.server_answers.specs.remembered.declared.record.RememberedAnswer.{RememberedAnswer}
use Rattle.server_answers.specs.remembered.declared.record.RememberedAnswer.TheVariants as kept
use Rattle.server_answers.specs.Answering.{answer_of}
use Rattle.server_answers.specs.Limits.{fitted, fitted_if, goes_whole, is_too_long}
use Rattle.server_answers.specs.declared.asked.AnswerLimits.{AnswerLimits}
use Rattle.server_tsm.proofs.Arms.{holds_of_plan}
use Rattle.server_tsm.specs.Laws.{ExecutedIsFitted, IsFitted, RemembersFitted}

fitted_by : (A : Type 0) (whole segmented long : Bool) (octets : List ℕ) → IsFitted (fitted_if {A = A} whole segmented long octets)
fitted_by A true segmented long octets = tt
fitted_by A false false long octets = inr refl
fitted_by A false true true octets = inl refl
fitted_by A false true false octets = tt

module _ {A : Type 0} where
  -- an answer that is no Abort
  abbrev IsNoAbort : RememberedAnswer A → Type 0
  IsNoAbort (kept.Abort reason) = ⊥
  IsNoAbort answer = Unit {0}

  no_abort : (request : Request A) (reply : Reply A) → IsNoAbort (answer_of request reply)
  unfolding answer_of
  no_abort request Done = tt
  no_abort request (Error class code) = tt
  no_abort request (ErrorAt class code object property index) = tt
  no_abort request (Values values) = tt
  no_abort request (Many results) = tt

  is_fitted : (limits : AnswerLimits) (chunk : ℕ) (answer : RememberedAnswer A) → IsNoAbort answer → IsFitted (fitted limits chunk answer)
  is_fitted limits chunk (kept.Complex octets) e =
      fitted_by A (goes_whole chunk (length octets)) limits.segmented (is_too_long limits chunk (length octets)) octets
  is_fitted limits chunk (kept.Abort reason) e = absurd e
  is_fitted limits chunk kept.Simple e = tt
  is_fitted limits chunk (kept.Error contents) e = tt

  pub executed_is_fitted : ExecutedIsFitted A
  executed_is_fitted now from h st plan p = holds_of_plan now from h st plan (λ x. RemembersFitted x.change) (record {
    dropped = tt;
    answered = λ sending way r. tt;
    ended = λ r. tt;
    given_up = tt;
    gathers = λ says asked s octets a. tt;
    overflows = λ says asked a. tt;
    crowded = λ asked e. tt;
    rejected = λ says asked reason a. tt;
    full = λ says asked a e. tt;
    executed = λ says asked q a of none room. is_fitted asked.limits _ _ (no_abort q _);
  }) p
