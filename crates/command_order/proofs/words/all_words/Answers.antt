use Rattle.std.proofs.Common.{◌≡◌, ◌∙◌, ap, subst, IfOk, map, string_bytes, ℕ, List, [], Option}
use Rattle.std.specs.Prelude.{unwrap_or}
use Rattle.clap.specs.Words.{found_of}
use Rattle.clap.proofs.WalkLemmas.{raw_values-rows}
use Rattle.command_order.proofs.words.all_words.Goals as goal

pub returns-in-Some : goal.returns-in-Some
returns-in-Some c =
    let read = c.in-Some.ensures ∙ raw_values-rows (found_of c.args.matches.now) c.args.id.now in
    subst (λ (t : List (List ℕ)). IfOk c.copied.result (λ w. map string_bytes w.items ≡ t)) (ap (λ (t : Option (List (List ℕ))). unwrap_or t []) read) c.copied.ensures

pub returns-in-None : goal.returns-in-None
returns-in-None c =
    let read = c.in-None.ensures ∙ raw_values-rows (found_of c.args.matches.now) c.args.id.now in
    ap (map string_bytes) c.new.ensures.items ∙ ap (λ (t : Option (List (List ℕ))). unwrap_or t []) read
