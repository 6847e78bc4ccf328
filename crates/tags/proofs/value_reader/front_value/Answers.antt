use Rattle.std.proofs.Common.{◌∙◌, refl, ap, inl, inr}
use Rattle.std.proofs.lemmas.Result.{err_from_is_err_and}
use Rattle.tags.specs.Tag.{plain_tag, plain_content, contents}
use Rattle.tags.proofs.ElementLaws.{bracket_class, application_tag}
use Rattle.tags.proofs.ValueLaws.{carried_taken, no_value_without_tag, no_value_of_contents, refused_as_element}
use Rattle.tags.proofs.value_reader.front_value.Goals as goal

pub returns-in_err-tag-clause-refused : goal.returns-in_err-tag-clause-refused
returns-in_err-tag-clause-refused g c =
    let p = err_from_is_err_and c.from_residual.result c.from_residual.ensures.1 in
    rw (p.1) (inr (no_value_without_tag _ c.in_err-tag.ensures.refused))

pub returns-in_err-value-in-Application-clause-refused : goal.returns-in_err-value-in-Application-clause-refused
returns-in_err-value-in-Application-clause-refused g c =
    let tag = plain_tag c.in_ok-tag.tag in
    let p = err_from_is_err_and c.from_residual-in_err-value-in-Application.result c.from_residual-in_err-value-in-Application.ensures.1 in
    let taken = application_tag _ tag _ (contents c.in-Octets.contents.now) c.in_ok-tag.ensures.read c.in-Application.is (ap plain_content c.in-Octets.is) in
    rw (p.1) (elim c.in_err-value-in-Application.ensures.refused [
      | inl memory ↦ inl (p.2 ∙ memory)
      | inr bad ↦ inr (no_value_of_contents _ _ _ _ taken bad.1)
    ])

pub returns-in-Null-clause-read : goal.returns-in-Null-clause-read
returns-in-Null-clause-read g c = carried_taken _ (plain_tag c.in_ok-tag.tag) _ _ c.in_ok-tag.ensures.read (rw c.in-Null.is refl)

pub returns-in-Boolean-clause-read : goal.returns-in-Boolean-clause-read
returns-in-Boolean-clause-read g c = carried_taken _ (plain_tag c.in_ok-tag.tag) _ _ c.in_ok-tag.ensures.read (rw c.in-Boolean.is refl)

pub returns-in_ok-value-in-Application-clause-read : goal.returns-in_ok-value-in-Application-clause-read
returns-in_ok-value-in-Application-clause-read g c =
    carried_taken _ (plain_tag c.in_ok-tag.tag) _ _ c.in_ok-tag.ensures.read
    (rw c.in-Octets.is (c.in-Application.is, c.in_ok-value-in-Application.ensures.read))

pub returns-in-Opening-clause-refused : goal.returns-in-Opening-clause-refused
returns-in-Opening-clause-refused g c =
    let tag = plain_tag c.in_ok-tag.tag in
    let taken = c.in_ok-tag.ensures.read in
    refused_as_element _ c.front_built-in-Opening.result _ tag _ taken (bracket_class _ tag _ taken (inl (ap plain_content c.in-Opening.is)))
    c.front_built-in-Opening.ensures.refused
