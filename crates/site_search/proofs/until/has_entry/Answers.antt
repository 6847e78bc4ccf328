use Rattle.std.proofs.Common.{rules, ◌∙◌, ap, sym, Some}
use Rattle.std.proofs.lemmas.Option.{slice_get-get_or}
use Rattle.site_search.proofs.until.has_entry.Goals as goal

pub returns-then-branch : goal.returns-then-branch
returns-then-branch g c = λ e. record {
  place = c.loop-place.place;
  entry = c.index-history-place.result;
  behind = search rules;
  there = slice_get-get_or c.args.history.now c.loop-place.place _ (search rules) ∙ ap Some (sym c.index-history-place.is);
  says = c.in_ok-is_entry.ensures c.if-branch.true;
}
