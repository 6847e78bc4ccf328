use Rattle.std.proofs.Common.{◌≡◌, ◌⊎◌, refl, ap, inl, inr}
use Rattle.std.proofs.lemmas.Result.{err_from_is_err_and}
use Rattle.tags.specs.declared.tag.Class.TheVariants.{Application}
use Rattle.tags.specs.Tag.{plain_tag, plain_content, opening, closing}
use Rattle.tags.proofs.ElementLaws.{bracket_class, simple_class, context_tag, constructed_taken, no_element_never_closed, no_element_without_tag}
use Rattle.tags.proofs.ElementLaws.{no_element_otherwise}
use Rattle.tags.proofs.element.after_element.Goals as goal

pub returns-in_err-tag-clause-refused : goal.returns-in_err-tag-clause-refused
returns-in_err-tag-clause-refused c =
    let p = err_from_is_err_and c.from_residual.result c.from_residual.ensures.1 in
    rw (p.1) (no_element_without_tag _ c.in_err-tag.ensures.refused)

pub returns-in_ok-rest-in-Opening-clause-read : goal.returns-in_ok-rest-in-Opening-clause-read
returns-in_ok-rest-in-Opening-clause-read c =
    let tag = plain_tag c.in_ok-tag.tag in
    let taken = c.in_ok-tag.ensures.read in
    let is = ap plain_content c.in-Opening.is in
    constructed_taken _ tag.number _ _ (context_tag _ tag _ opening taken (bracket_class _ tag _ taken (inl is)) is) c.in_ok-rest-in-Opening.ensures.read

pub returns-in_err-rest-in-Opening-clause-refused : goal.returns-in_err-rest-in-Opening-clause-refused
returns-in_err-rest-in-Opening-clause-refused c =
    let tag = plain_tag c.in_ok-tag.tag in
    let taken = c.in_ok-tag.ensures.read in
    let is = ap plain_content c.in-Opening.is in
    let p = err_from_is_err_and c.from_residual-in_err-rest-in-Opening.result c.from_residual-in_err-rest-in-Opening.ensures.1 in
    rw (p.1) (no_element_never_closed _ tag.number _ (context_tag _ tag _ opening taken (bracket_class _ tag _ taken (inl is)) is)
    c.in_err-rest-in-Opening.ensures.refused)

pub returns-in-Application-clause-fault : goal.returns-in-Application-clause-fault
returns-in-Application-clause-fault c = inr
    (refl, record { tag = plain_tag c.in_ok-tag.tag; rest = _; taken = c.in_ok-tag.ensures.read; other = inl c.in-Application.is })

pub returns-in-Null : goal.returns-in-Null
returns-in-Null c =
    let tag = plain_tag c.in_ok-tag.tag in
    let taken = c.in_ok-tag.ensures.read in
    let other : (tag.class ≡ Application) ⊎ (tag.content ≡ closing) = elim c.in-Null.is [
      | inl is ↦ inl (simple_class _ tag _ taken (inl (ap plain_content is)))
      | inr more ↦ elim more [
        | inl is ↦ inl (simple_class _ tag _ taken (inr (is.0, ap plain_content is.1)))
        | inr is ↦ inr (ap plain_content is)
      ]
    ] in
    record { read = tt; refused = no_element_otherwise _ tag _ taken other; fault = inr (refl, record { tag = tag; rest = _; taken = taken; other = other }) }
