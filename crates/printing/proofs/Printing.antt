-- What is printed of a list, one after another.
use Rattle.std.proofs.Common.{◌≡◌, ◌∙◌, ◌+◌, ◌<◌, ℕ, List, [], ◌∷◌, ◌++◌, ap, flat_map, take, get_or, length, sym}
use Rattle.std.proofs.Output.{has_written_append, has_written_of_eq}
use Rattle.std.proofs.lemmas.List.{flat_map_more, take_more}
use Rattle.std.specs.Fmt.{HasWritten}
use Rattle.std.specs.declared.fmt.Formatter.{Formatter}

-- the first ones are printed, and then the next one
pub one_more : {W X : Type 0} (took : W → List ℕ → W → Type 0) (text : X → List ℕ) (xs : List X) (i : ℕ) (x : X)
    (f g h : Formatter W) → i < length xs → x ≡ get_or xs i x → HasWritten took f (flat_map text (take i xs)) g →
    HasWritten took g (text x) h → HasWritten took f (flat_map text (take (i + 1) xs)) h
one_more took text xs i x f g h lt read p q =
    has_written_of_eq _ _ _ _ _ (flat_map_more text [] (take i xs) x ∙ ap (flat_map text)
    (ap (λ y. take i xs ++ y ∷ []) read ∙ sym (take_more xs i x lt))) (has_written_append _ _ _ _ _ _ p q)
