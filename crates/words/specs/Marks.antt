-- Words cut at a mark, as `, ` or ` at `.
use Rattle.std.specs.Prelude.{ℕ, ◌+◌, ◌==◌, Bool, true, false, if◌then◌else◌, List, [], ◌∷◌, length, take, drop, Option}
use Rattle.std.specs.Prelude.{Some, None}
use Rattle.std.specs.List.{starts_with}

-- the words begin with the mark
abbrev pub begin_with : List ℕ → List ℕ → Bool
begin_with mark words = starts_with (λ a b. a == b) words mark

-- the place, one octet further on
abbrev pub further : Option ℕ → Option ℕ
further None = None
further (Some place) = Some (place + 1)

-- the place, or the front of the words where there is none and they begin with the mark
abbrev pub or_front : Option ℕ → Bool → Option ℕ
or_front (Some place) here = Some place
or_front None true = Some 0
or_front None false = None

-- where the first mark stands in the words
abbrev pub first_place : List ℕ → List ℕ → Option ℕ
first_place mark [] = or_front None (begin_with mark [])
first_place mark (c ∷ words) =
    if begin_with mark (c ∷ words) then Some 0 else further (first_place mark words)

-- where the last mark stands in the words
abbrev pub last_place : List ℕ → List ℕ → Option ℕ
last_place mark [] = or_front None (begin_with mark [])
last_place mark (c ∷ words) = or_front (further (last_place mark words)) (begin_with mark (c ∷ words))

-- what stands before the place, or all the words
abbrev pub words_before : Option ℕ → List ℕ → List ℕ
words_before None words = words
words_before (Some place) words = take place words

-- what stands behind the mark at the place
abbrev pub words_behind : List ℕ → Option ℕ → List ℕ → Option (List ℕ)
words_behind mark None words = None
words_behind mark (Some place) words = Some (drop (place + length mark) words)

-- what stands before the first mark, or all the words
unfoldable pub first_part : List ℕ → List ℕ → List ℕ
first_part mark words = words_before (first_place mark words) words

-- what stands behind the first mark, if there is one
unfoldable pub other_parts : List ℕ → List ℕ → Option (List ℕ)
other_parts mark words = words_behind mark (first_place mark words) words

-- what stands before the last mark, or all the words
unfoldable pub but_last_part : List ℕ → List ℕ → List ℕ
but_last_part mark words = words_before (last_place mark words) words

-- what stands behind the last mark, if there is one
unfoldable pub last_part : List ℕ → List ℕ → Option (List ℕ)
last_part mark words = words_behind mark (last_place mark words) words
