use Rattle.std.proofs.Common.{◌∙◌, ap, sym, List, ℕ, ◌++◌, take, drop, length}
use Rattle.std.proofs.lemmas.List.{take-append-drop}
use Rattle.std.specs.Cmp.Lexicographic.{same_text}
use Rattle.site_search.proofs.until.has_words.Goals as goal

pub returns-in-Some : goal.returns-in-Some
returns-in-Some c e =
    let text = c.args.text.now in
    let words = c.args.words.now in
    let found = c.in-Some.ensures.cases in
    record {
      rest = c.in-Some.rest.now;
      text_is =
          sym (take-append-drop (length words) text)
          ∙ ap (λ (l : List ℕ). l ++ drop (length words) text)
          (same_text (take (length words) text) words (sym found.0))
          ∙ ap (λ (l : List ℕ). words ++ l) (sym found.1);
      whole = c.is_word_end.ensures e;
    }
