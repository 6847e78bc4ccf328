use Rattle.std.proofs.Common.{◌∙◌, ap, subst, ℕ, List}
use Rattle.site_search.proofs.until.is_spelled.Goals as goal
use Rattle.site_search.specs.Words.{HasWords, behind_moment}

-- the words stand in the text of the entry, which is what was formatted
pub returns : goal.returns
returns g c = λ e. subst (λ (l : List ℕ). HasWords c.args.words.now l)
    (c.behind_moment.ensures
    ∙ ap (λ (l : List ℕ). behind_moment l) (c.as_bytes.ensures.value ∙ c.in_ok-line.ensures.ok))
    (c.has_words.ensures e)
