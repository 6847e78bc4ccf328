use Rattle.std.proofs.Common.{◌≡◌, Global, map, refl, string_bytes, subst, true}
use Rattle.std.proofs.lemmas.Result.{IfOk-weaker}
use Rattle.clap.specs.Words.{App, FailsBy, fault_of, is_simple, subcommand_of, subcommand_rows_of}
use Rattle.clap.specs.Faults.{is_simple_and_free}
use Rattle.clap.specs.declared.parser.matches.ArgMatches.{ArgMatches}
use Rattle.command_order.proofs.order.matches_of.Goals as goal

pub returns-clause-found : goal.returns-clause-found
returns-clause-found c =
    let words = map (string_bytes {Z = Global}) c.args.words.now in
    IfOk-weaker c.try_get_matches_from.result _ _
    (λ (m : ArgMatches) has.
    subst (λ (a : App). is_simple a ≡ true → subcommand_rows_of m ≡ subcommand_of a words)
    c.in_ok-command.ensures (λ simple. (has simple).1) refl)
    c.try_get_matches_from.ensures.matches

pub returns-clause-fault : goal.returns-clause-fault
returns-clause-fault c =
    let words = map (string_bytes {Z = Global}) c.args.words.now in
    subst
    (λ (a : App). is_simple_and_free a ≡ true → FailsBy (fault_of a words) c.try_get_matches_from.result)
    c.in_ok-command.ensures c.try_get_matches_from.ensures.kinds refl
