-- An issue that isn't refused is short enough, and has an invoke ID that may be given.
use Rattle.std.proofs.Common.{◌≡◌, refl, subst, ℕ, Bool, true, false, length, Option, Some, None}
use Rattle.bindings.specs.Limits.{apdu_limit, is_too_long}
use Rattle.bindings.specs.declared.binding.Binding.{Binding}
use Rattle.bindings.specs.declared.bound.Bound.{Bound}
use Rattle.client.specs.Issuing.{refusal_by, refusal_if}
use Rattle.client_tsm.specs.Client.{ClientTsmState, may_issue}
use Rattle.client_tsm.specs.Issuing as tsm
use Rattle.primitives.specs.declared.plain_data.Request.{Request}
use Rattle.services.specs.Asked.{request_octets}

pub record IsFree {A : Type 0} (now : ℕ) (request : Request A) (to : Bound) (st : ClientTsmState A) : Type 0 where
  pub short : is_too_long st.accepts.segmented (apdu_limit st.accepts to) (length (request_octets request)) ≡ false
  pub may : may_issue now st ≡ true

module _ {A : Type 0} (now : ℕ) (request : Request A) (st : ClientTsmState A) where
  free_by : (to : Bound) (long may : Bool) → is_too_long st.accepts.segmented (apdu_limit st.accepts to) (length (request_octets request)) ≡ long →
      may_issue now st ≡ may → tsm.refusal_if long may ≡ None → IsFree now request to st
  free_by to true may l m e = absurd (cc e)
  free_by to false false l m e = absurd (cc e)
  free_by to false true l m e = record { short = l; may = m }

  free_if : (to : Bound) (refused : Bool) → refusal_if refused now request to st ≡ None → IsFree now request to st
  free_if to true e = absurd (cc e)
  free_if to false e = free_by to _ _ refl refl e

  pub not_refused : (o : Option Binding) (b : Binding) → o ≡ Some b → refusal_by o now request st ≡ None → IsFree now request b.bound st
  not_refused o b is e = free_if b.bound b.refused (subst (λ (x : Option Binding). refusal_by x now request st ≡ None) is e)
