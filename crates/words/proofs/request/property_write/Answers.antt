use Rattle.std.proofs.Common.{inr, sym, ap, ◌∙◌, rules, option_map}
use Rattle.std.specs.Prelude.{codes}
use Rattle.words.specs.Marks.{other_parts}
use Rattle.words.proofs.Requests.{write_empty}
use Rattle.words.proofs.request.property_write.Goals as goal

pub returns-in-Some-empty-clause-refused : goal.returns-in-Some-empty-clause-refused
returns-in-Some-empty-clause-refused g c = inr (write_empty _ c.args.words.now c.in-Some-empty.field-0.now
    (ap (other_parts (codes " ")) (sym c.cut_last.ensures.front) ∙ sym c.cut_first.ensures.rest ∙ ap (option_map (λ w. w.now)) c.in-Some-empty.is)
    (search rules))
