use Rattle.std.proofs.Common.{◌∙◌}
use Rattle.clap.specs.Words.{found_of}
use Rattle.clap.proofs.WalkLemmas.{one_text-rows}
use Rattle.command_order.proofs.words.is_given.Goals as goal

pub returns : goal.returns
returns c =
    let read = one_text-rows (found_of c.args.matches.now) c.args.id.now in
    record {
      given = λ e. c.get_flag.ensures.value (read ∙ e);
      other = λ e. c.get_flag.ensures.other (read ∙ e);
      none = λ e. c.get_flag.ensures.none (read ∙ e);
    }
