use Rattle.std.proofs.Common.{◌∙◌, ap}
use Rattle.std.proofs.lemmas.Result.{IfOk-weaker}
use Rattle.clap.specs.Simple.{app_of_fields}
use Rattle.clap.specs.Words.{App, app_of, with_subcommand}
use Rattle.clap.proofs.SimpleLemmas.{plain_fields}
use Rattle.command_order.proofs.order.add.Goals as goal

pub returns : goal.returns
returns c =
    let same = ap app_of_fields c.after_help.ensures in
    let plain = plain_fields c.after_help.result (ap (λ (a : App). a.top.is_plain) same ∙ c.requires.plain) in
    let joined = ap (λ (a : App). with_subcommand (app_of c.args.command) a.top) same in
    IfOk-weaker c.subcommand.result _ _ (λ _ more. more.shape plain.globals ∙ joined) c.subcommand.ensures
