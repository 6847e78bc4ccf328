use Rattle.std.proofs.Common.{◌∙◌, ap, ℕ, List, Some}
use Rattle.clap.specs.Words.{found_of}
use Rattle.clap.proofs.WalkLemmas.{first_value-rows}
use Rattle.command_order.proofs.words.optional_word.Goals as goal

pub returns-in_ok-from_str-in-Some : goal.returns-in_ok-from_str-in-Some
returns-in_ok-from_str-in-Some c =
    let read = c.in-Some.ensures ∙ first_value-rows (found_of c.args.matches.now) c.args.id.now in
    ap (λ (t : List ℕ). Some t) c.in_ok-from_str-in-Some.ensures.ok ∙ read

pub returns-in-None : goal.returns-in-None
returns-in-None c = c.in-None.ensures ∙ first_value-rows (found_of c.args.matches.now) c.args.id.now
