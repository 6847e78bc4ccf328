use Rattle.std.proofs.Common.{option_map}
use Rattle.site_live.proofs.PrintLaws.{told_printed}
use Rattle.site_live.proofs.turning.print_told.Goals as goal
use Rattle.site_live.specs.Printed.{answer_text, stray_text}
use Rattle.site_history.specs.Printed.{entries_text}

pub returns : goal.returns
returns g c =
    told_printed c.flush_if.result (g.W.Write.contents c.args.out.now) (g.W.Write.contents c.print_stray.new.out)
    (g.W.Write.contents c.print_entries.new.out) (g.W.Write.contents c.print_answer.new.out)
    (g.W.Write.contents c.flush_if.new.out) (stray_text c.args.strayed c.args.moment)
    (entries_text c.args.spelling c.args.stations.now c.args.history.now c.args.entries.now)
    (answer_text (option_map (λ a. a.now) c.args.asked) c.args.answer c.args.moment)
    c.in_ok-print_stray.ensures c.in_ok-print_entries.ensures c.in_ok-print_answer.ensures c.flush_if.ensures
