-- What a command is that is built call by call.
use Rattle.std.proofs.Common.{◌≡◌, ◌∙◌, ap₂, false, IfOk, Result}
use Rattle.std.proofs.lemmas.Result.{IfOk-weaker}
use Rattle.std.specs.declared.alloc.AllocError.{AllocError}
use Rattle.clap.specs.Words.{AddsArg, App, Rule, app_of, rule_of, with_rule, with_subcommand}
use Rattle.clap.specs.declared.builder.arg.Arg.{Arg}
use Rattle.clap.specs.declared.builder.command.Command.{Command}

-- with an argument more it has that one's rule too
pub adds : {old : Command} {a : Arg} {new : Command} {app : App} {rule : Rule} → AddsArg old a new →
    a.global ≡ false → app_of old ≡ app → rule_of a ≡ rule → app_of new ≡ with_rule app rule
adds more own before rule = more.shape own ∙ ap₂ with_rule before rule

-- and so it is where there may be no memory for it
pub adds_last : (r : Result Command AllocError) (old : Command) (a : Arg) {app : App} {rule : Rule} →
    IfOk r (AddsArg old a) → a.global ≡ false → app_of old ≡ app → rule_of a ≡ rule →
    IfOk r (λ new. app_of new ≡ with_rule app rule)
adds_last r old a more own before rule = IfOk-weaker r _ _ (λ _ has. adds has own before rule) more

-- a subcommand more of a known command
pub joins : {old sub a b : App} → old ≡ a → sub ≡ b → with_subcommand old sub.top ≡ with_subcommand a b.top
joins before sub = ap₂ (λ (x y : App). with_subcommand x y.top) before sub
