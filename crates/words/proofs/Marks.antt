-- What a search for a mark finds is where it stands.
use Rattle.std.proofs.Common.{◌≡◌, ◌∙◌, sym, ap, refl, ℕ, zero, suc, ◌+◌, ◌<◌, ◌≤◌, true, false, List, [], ◌∷◌, ◌++◌, length, take, drop, Option, Some, None}
use Rattle.std.proofs.Common.{arith}
use Rattle.std.proofs.lemmas.Bool.{false_from_ne_true, cond-true, cond-false}
use Rattle.std.proofs.lemmas.Bool.Decides.{Decides-eqb}
use Rattle.std.proofs.lemmas.Slice.Eq.{starts_is}
use Rattle.std.specs.Str.Pattern.{FindsText, RFindsText, LacksTextAt, SplitsAroundMatch}
use Rattle.words.specs.Marks.{begin_with, further, or_front, first_place, last_place, words_before, words_behind, first_part, other_parts, but_last_part}
use Rattle.words.specs.Marks.{last_part}

stands : (mark words rest : List ℕ) → words ≡ mark ++ rest → begin_with mark words ≡ true
stands mark words rest e = (starts_is Decides-eqb words mark (begin_with mark words) refl).1 rest e

lacks : (mark words : List ℕ) → LacksTextAt mark words 0 → begin_with mark words ≡ false
lacks mark words none = false_from_ne_true _ (λ e. none (drop (length mark) words) ((starts_is Decides-eqb words mark (begin_with mark words) refl).0 e))

no_first : (mark words : List ℕ) → ((i : ℕ) → i ≤ length words → LacksTextAt mark words i) → first_place mark words ≡ None
no_first mark [] none = ap (or_front None) (lacks mark [] (none 0 (omega arith)))
no_first mark (c ∷ words) none =
    cond-false _ (Some 0) _ (lacks mark (c ∷ words) (none 0 (omega arith))) ∙
    ap further (no_first mark words (λ i le. none (suc i) (omega (arith, le))))

no_last : (mark words : List ℕ) → ((i : ℕ) → i ≤ length words → LacksTextAt mark words i) → last_place mark words ≡ None
no_last mark [] none = ap (or_front None) (lacks mark [] (none 0 (omega arith)))
no_last mark (c ∷ words) none =
    ap (λ p. or_front (further p) (begin_with mark (c ∷ words))) (no_last mark words (λ i le. none (suc i) (omega (arith, le)))) ∙
    ap (or_front None) (lacks mark (c ∷ words) (none 0 (omega arith)))

one_more : (n : ℕ) → n + 1 ≡ suc n
one_more n = omega arith

is_first : (mark words : List ℕ) (at : ℕ) (rest : List ℕ) → at ≤ length words → ((i : ℕ) → i < at → LacksTextAt mark words i) → drop at words ≡ mark ++ rest →
    first_place mark words ≡ Some at
is_first mark [] zero rest le none e = ap (or_front None) (stands mark [] rest e)
is_first mark [] (suc at) rest le none e = absurd (omega (arith, le))
is_first mark (c ∷ words) zero rest le none e = cond-true _ (Some 0) _ (stands mark (c ∷ words) rest e)
is_first mark (c ∷ words) (suc at) rest le none e =
    cond-false _ (Some 0) _ (lacks mark (c ∷ words) (none 0 (omega arith))) ∙
    ap further (is_first mark words at rest (omega (arith, le)) (λ i lt. none (suc i) (omega (arith, lt))) e) ∙
    ap Some (one_more at)

is_last : (mark words : List ℕ) (at : ℕ) (rest : List ℕ) → at ≤ length words → ((i : ℕ) → at < i → i ≤ length words → LacksTextAt mark words i) →
    drop at words ≡ mark ++ rest → last_place mark words ≡ Some at
is_last mark [] zero rest le none e = ap (or_front None) (stands mark [] rest e)
is_last mark [] (suc at) rest le none e = absurd (omega (arith, le))
is_last mark (c ∷ words) zero rest le none e =
    ap (λ p. or_front (further p) (begin_with mark (c ∷ words))) (no_last mark words (λ i le. none (suc i) (omega arith) (omega (arith, le)))) ∙
    ap (or_front None) (stands mark (c ∷ words) rest e)
is_last mark (c ∷ words) (suc at) rest le none e =
    ap (λ p. or_front (further p) (begin_with mark (c ∷ words)))
    (is_last mark words at rest (omega (arith, le)) (λ i lt le. none (suc i) (omega (arith, lt)) (omega (arith, le))) e) ∙
    ap Some (one_more at)

-- what is cut at a place, where the place is known
front_at : (words front : List ℕ) (p : Option ℕ) (at : ℕ) → p ≡ Some at → front ≡ take at words → front ≡ words_before p words
front_at words front p at e f = f ∙ ap (λ q. words_before q words) (sym e)

behind_at : (mark words rest : List ℕ) (p : Option ℕ) (at : ℕ) → p ≡ Some at → rest ≡ drop (at + length mark) words → Some rest ≡ words_behind mark p words
behind_at mark words rest p at e f = ap Some f ∙ ap (λ q. words_behind mark q words) (sym e)

first_at : (mark words front rest : List ℕ) (s : SplitsAroundMatch (FindsText mark) words front rest) → first_place mark words ≡ Some s.0
first_at mark words front rest s = is_first mark words s.0 (drop s.1 words) (omega (arith, s.5, s.7)) s.2.0 s.2.1.split

last_at : (mark words front rest : List ℕ) (s : SplitsAroundMatch (RFindsText mark) words front rest) → last_place mark words ≡ Some s.0
last_at mark words front rest s = is_last mark words s.0 (drop s.1 words) (omega (arith, s.5, s.7)) s.2.0 s.2.1.split

pub first_front : (mark words front rest : List ℕ) → SplitsAroundMatch (FindsText mark) words front rest → front ≡ first_part mark words
unfolding first_part
first_front mark words front rest s = front_at words front _ s.0 (first_at mark words front rest s) s.3

pub first_rest : (mark words front rest : List ℕ) → SplitsAroundMatch (FindsText mark) words front rest → Some rest ≡ other_parts mark words
unfolding other_parts
first_rest mark words front rest s = behind_at mark words rest _ s.0 (first_at mark words front rest s) (s.4 ∙ ap (λ n. drop n words) s.2.1.ends)

pub all_front : (mark words : List ℕ) → FindsText mark words None → words ≡ first_part mark words
unfolding first_part
all_front mark words none = ap (λ p. words_before p words) (sym (no_first mark words none))

pub all_rest : (mark words : List ℕ) → FindsText mark words None → None ≡ other_parts mark words
unfolding other_parts
all_rest mark words none = ap (λ p. words_behind mark p words) (sym (no_first mark words none))

pub last_front : (mark words front rest : List ℕ) → SplitsAroundMatch (RFindsText mark) words front rest → front ≡ but_last_part mark words
unfolding but_last_part
last_front mark words front rest s = front_at words front _ s.0 (last_at mark words front rest s) s.3

pub last_rest : (mark words front rest : List ℕ) → SplitsAroundMatch (RFindsText mark) words front rest → Some rest ≡ last_part mark words
unfolding last_part
last_rest mark words front rest s = behind_at mark words rest _ s.0 (last_at mark words front rest s) (s.4 ∙ ap (λ n. drop n words) s.2.1.ends)

pub whole_front : (mark words : List ℕ) → RFindsText mark words None → words ≡ but_last_part mark words
unfolding but_last_part
whole_front mark words none = ap (λ p. words_before p words) (sym (no_last mark words none))

pub whole_rest : (mark words : List ℕ) → RFindsText mark words None → None ≡ last_part mark words
unfolding last_part
whole_rest mark words none = ap (λ p. words_behind mark p words) (sym (no_last mark words none))

pub ruleset first_laws = (first_front, first_rest, all_front, all_rest)

pub ruleset last_laws = (last_front, last_rest, whole_front, whole_rest)
