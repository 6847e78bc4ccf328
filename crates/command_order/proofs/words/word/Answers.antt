use Rattle.std.proofs.Common.{◌≡◌, ◌∙◌, ap, subst, IfOk, string_bytes, ℕ, List, [], Option}
use Rattle.std.specs.Prelude.{unwrap_or}
use Rattle.clap.specs.Words.{found_of}
use Rattle.clap.proofs.WalkLemmas.{first_value-rows}
use Rattle.command_order.proofs.words.word.Goals as goal

pub returns-in-Some : goal.returns-in-Some
returns-in-Some c =
    let read = c.in-Some.ensures ∙ first_value-rows (found_of c.args.matches.now) c.args.id.now in
    subst (λ (t : List ℕ). IfOk c.from_str.result (λ w. string_bytes w ≡ t))
    (ap (λ (t : Option (List ℕ)). unwrap_or t []) read) c.from_str.ensures.ok

pub returns-in-None : goal.returns-in-None
returns-in-None c =
    let read = c.in-None.ensures ∙ first_value-rows (found_of c.args.matches.now) c.args.id.now in
    c.new.ensures.bytes ∙ ap (λ (t : Option (List ℕ)). unwrap_or t []) read
