-- Lines one after another, and the steps that they say.
use Rattle.std.proofs.Common.{◌≡◌, ◌≤◌, ◌<◌, ◌∙◌, ◌+◌, ◌-◌, ◌==◌, sym, ap, subst, inl, inr, refl, ℕ, Bool, true, false, List, [], ◌∷◌, ◌++◌, length, map, take, drop, get_or, Option, Some, None, arith}
use Rattle.std.specs.Prelude.{◌≢◌, ◌⊎◌, slice_index, not}
use Rattle.std.specs.List.{All, AllByRecursion, filter}
use Rattle.std.specs.Str.{IsUtf8}
use Rattle.std.proofs.lemmas.Bool.{cases_lt, ne_eqb}
use Rattle.std.proofs.lemmas.Grind.{get_or_default_zero}
use Rattle.std.proofs.lemmas.List.{length-append, append-nil, append_assoc, get_or-take, length-take, take-append-drop, take_all, drop_more}
use Rattle.std.proofs.Math.Seq.{get_or-append_seam, take-append_seam}
use Rattle.std.proofs.lemmas.List.Splits.{slice_split_at, slice_split_none}
use Rattle.std.proofs.lemmas.List.Elements.{filter-append}
use Rattle.words.specs.declared.unread.Unread.{Unread}
use Rattle.words.specs.declared.unread.Unread.TheVariants.{Memory}
use Rattle.script.specs.declared.step.Step.{Step}
use Rattle.script.specs.declared.step.Step.TheVariants as step
use Rattle.site_events.specs.declared.event.Event.TheVariants as event
use Rattle.script.specs.Lines.{AreSteps, cut, without_return, IsBadLine, IsFirstBad, PutsLine, PutsStep, SaysSteps, is_skipped, lines, lines_left, size_left, spoken}
use Rattle.script.specs.NoSteps.{IsBad, IsRefused}
use Rattle.script.specs.Reading.{HasNoFeed, HasRead}
use Rattle.script.specs.Steps.{IsFitStep, IsSoundStep, SaysStep}

-- ---- a line

pub no_utf8 : (A : Type 0) (line : List ℕ) → is_skipped line ≡ false → (IsUtf8 line → ⊥) → IsBadLine A line
no_utf8 A line said none = record { said = said; bad = inl none }

pub bad_line : (A : Type 0) (line : List ℕ) → is_skipped line ≡ false → IsBad A line → IsBadLine A line
bad_line A line said bad = record { said = said; bad = inr bad }

pub puts_step : {A : Type 0} (line : List ℕ) (old new : List (Step A)) (s : Step A) → is_skipped line ≡ false → SaysStep line s → IsFitStep s →
    new ≡ old ++ s ∷ [] → PutsLine line old new
puts_step line old new s said says fit put = inr (record { said = said; step = s; says = says; fit = fit; put = put })

pub ruleset put_laws = (no_utf8, bad_line, puts_step)

-- ---- lines

said_by_none : {A : Type 0} (ls : List (List ℕ)) (l : List ℕ) (steps : List (Step A)) → is_skipped l ≡ true → AreSteps (spoken ls) steps →
    AreSteps (spoken (ls ++ l ∷ [])) steps
said_by_none ls l steps skipped said =
    let kept : spoken (ls ++ l ∷ []) ≡ spoken ls ++ spoken (l ∷ []) = filter-append (λ (x : List ℕ). not (is_skipped x)) ls (l ∷ []) in
    subst (λ (x : List (List ℕ)). AreSteps x steps) (sym (kept ∙ ap (λ (x : List (List ℕ)). spoken ls ++ x) (alone skipped) ∙ append-nil (spoken ls))) said
  where
    alone : is_skipped l ≡ true → spoken (l ∷ []) ≡ []
    alone e = rw (e) refl

-- steps behind others
behind_others : {A : Type 0} (ls : List (List ℕ)) (l : List ℕ) (steps : List (Step A)) (s : Step A) → AreSteps ls steps → SaysStep l s →
    AreSteps (ls ++ l ∷ []) (steps ++ s ∷ [])
behind_others [] l [] s said says = (says, tt)
behind_others [] l (t ∷ ts) s said says = absurd said
behind_others (m ∷ ms) l [] s said says = absurd said
behind_others (m ∷ ms) l (t ∷ ts) s said says = (said.0, behind_others ms l ts s said.1 says)

said_by_one : {A : Type 0} (ls : List (List ℕ)) (l : List ℕ) (steps : List (Step A)) (s : Step A) → is_skipped l ≡ false → AreSteps (spoken ls) steps →
    SaysStep l s → AreSteps (spoken (ls ++ l ∷ [])) (steps ++ s ∷ [])
said_by_one ls l steps s spoken_of said says =
    let kept : spoken (ls ++ l ∷ []) ≡ spoken ls ++ spoken (l ∷ []) = filter-append (λ (x : List ℕ). not (is_skipped x)) ls (l ∷ []) in
    subst (λ (x : List (List ℕ)). AreSteps x (steps ++ s ∷ [])) (sym (kept ∙ ap (λ (x : List (List ℕ)). spoken ls ++ x) (alone spoken_of)))
    (behind_others (spoken ls) l steps s said says)
  where
    alone : is_skipped l ≡ false → spoken (l ∷ []) ≡ l ∷ []
    alone e = rw (e) refl

fit_behind : {A : Type 0} (steps : List (Step A)) (s : Step A) → AllByRecursion IsFitStep steps → IsFitStep s → AllByRecursion IsFitStep (steps ++ s ∷ [])
fit_behind [] s fit one = (one, tt)
fit_behind (t ∷ ts) s fit one = (fit.0, fit_behind ts s fit.1 one)

sound_one : {A : Type 0} (s : Step A) → IsFitStep s → IsSoundStep s
sound_one (step.Happens (event.Issue client instance request)) fit = fit.sound
sound_one (step.Happens (event.WhoIs client limits)) fit = tt
sound_one (step.Happens (event.Tick n)) fit = tt
sound_one (step.Happens (event.Wake name)) fit = tt
sound_one (step.Happens (event.Deliver item)) fit = tt
sound_one (step.Happens (event.Hear network station octets)) fit = tt
sound_one (step.Happens (event.Register name)) fit = tt
sound_one (step.Happens (event.Restart name)) fit = tt
sound_one (step.Flow n) fit = tt
sound_one (step.Disturbs f) fit = tt
sound_one (step.Expects e) fit = tt
sound_one (step.Shows name) fit = tt

pub sound_all : {A : Type 0} (steps : List (Step A)) → AllByRecursion IsFitStep steps → AllByRecursion IsSoundStep steps
sound_all [] fit = tt
sound_all (s ∷ ss) fit = (sound_one s fit.0, sound_all ss fit.1)

-- ---- what has been read

pub nothing_read : {A : Type 0} (text : List ℕ) → HasRead {A = A} text [] 0 (Some text)
nothing_read text = record { read = []; parts = refl; count = refl; room = omega arith; said = tt; fit = tt }

one_more : (text : List ℕ) (read : List (List ℕ)) (here line : List ℕ) (rest : Option (List ℕ)) → lines text ≡ read ++ lines here →
    lines here ≡ line ∷ lines_left rest → lines text ≡ (read ++ line ∷ []) ++ lines_left rest
one_more text read here line rest parts e =
    parts ∙ ap (λ (x : List (List ℕ)). read ++ x) e ∙ sym (append_assoc read (line ∷ []) (lines_left rest))

pub read_on : {A : Type 0} (text : List ℕ) (steps next : List (Step A)) (number : ℕ) (here line : List ℕ) (rest : Option (List ℕ)) →
    HasRead text steps number (Some here) → lines here ≡ line ∷ lines_left rest → size_left rest ≤ length here → PutsLine line steps next →
    HasRead text next (number + 1) rest
read_on text steps next number here line rest h e less (inl p) = subst (λ (x : List (Step _)). HasRead text x (number + 1) rest) (sym p.1) (record {
  read = h.read ++ line ∷ [];
  parts = one_more text h.read here line rest h.parts e;
  count = omega (arith, h.count, length-append h.read (line ∷ []));
  room = omega (arith, h.room, less);
  said = said_by_none h.read line steps p.0 h.said;
  fit = h.fit;
})
read_on text steps next number here line rest h e less (inr p) = subst (λ (x : List (Step _)). HasRead text x (number + 1) rest) (sym p.put) (record {
  read = h.read ++ line ∷ [];
  parts = one_more text h.read here line rest h.parts e;
  count = omega (arith, h.count, length-append h.read (line ∷ []));
  room = omega (arith, h.room, less);
  said = said_by_one h.read line steps p.step p.said h.said p.says;
  fit = fit_behind steps p.step h.fit p.fit;
})

pub first_bad : {A : Type 0} (text : List ℕ) (steps : List (Step A)) (number : ℕ) (here line : List ℕ) (rest : Option (List ℕ)) →
    HasRead text steps number (Some here) → lines here ≡ line ∷ lines_left rest → IsBadLine A line → IsFirstBad A text (number + 1)
first_bad text steps number here line rest h e bad = record {
  before = h.read;
  line = line;
  after = lines_left rest;
  parts = h.parts ∙ ap (λ (x : List (List ℕ)). h.read ++ x) e;
  count = omega (arith, h.count);
  steps = steps;
  good = h.said;
  bad = bad;
}

pub all_read : {A : Type 0} (text : List ℕ) (steps : List (Step A)) (number : ℕ) → HasRead text steps number None → SaysSteps text steps
all_read text steps number h =
    subst (λ (x : List (List ℕ)). AreSteps (spoken x) steps) (sym (h.parts ∙ append-nil h.read)) h.said

-- ---- a text cut at its first line feed

feeds_no : (text : List ℕ) (count : ℕ) → count ≤ length text → HasNoFeed text count → All (λ c. (c == 10) ≡ false) (take count text)
feeds_no text count few h = λ k d lt. no k d (omega (arith, lt, few, length-take count text))
  where
    no : (k d : ℕ) → k < count → (get_or (take count text) k d == 10) ≡ false
    no k d lt =
        let at : get_or (take count text) k d ≡ get_or text k 0 =
        get_or-take count text k d lt ∙ get_or_default_zero text k d (omega (arith, lt, few)) in
        rw (at) (ne_eqb (get_or text k 0) 10 (h.none k lt))

cut_at : (text : List ℕ) (end : ℕ) → end < length text → slice_index text end ≡ 10 → HasNoFeed text end → cut text ≡ take end text ∷ cut (drop (end + 1) text)
cut_at text end lt feed none =
    let parts : text ≡ take end text ++ 10 ∷ drop (end + 1) text =
    sym (take-append-drop end text) ∙ ap (λ (x : List ℕ). take end text ++ x) (drop_more text end 0 lt ∙ ap (λ (c : ℕ). c ∷ drop (end + 1) text) feed) in
    ap cut parts ∙ slice_split_at (λ c. c == 10) (take end text) 10 (drop (end + 1) text) (feeds_no text end (omega (arith, lt)) none) refl

pub line_at : (text : List ℕ) (end : ℕ) → end < length text → slice_index text end ≡ 10 → HasNoFeed text end →
    lines text ≡ without_return (take end text) ∷ lines (drop (end + 1) text)
line_at text end lt feed none = ap (map without_return) (cut_at text end lt feed none)

pub whole_line : (text : List ℕ) → HasNoFeed text (length text) → lines text ≡ without_return text ∷ []
whole_line text none =
    let all : All (λ c. (c == 10) ≡ false) text = subst (λ (x : List ℕ). All (λ c. (c == 10) ≡ false) x) (take_all (length text) text (omega arith))
    (feeds_no text (length text) (omega arith) none) in
    ap (map without_return) (slice_split_none (λ c. c == 10) text all)

pub no_feed_yet : (text : List ℕ) → HasNoFeed text 0
no_feed_yet text = record { none = λ k lt. absurd (omega (arith, lt)) }

pub no_feed_more : (text : List ℕ) (count : ℕ) → HasNoFeed text count → slice_index text count ≢ 10 → HasNoFeed text (count + 1)
no_feed_more text count h other = record {
  none = λ k lt e. elim (cases_lt k count) [
    | inl w ↦ h.none k w e
    | inr w ↦ let same : k ≡ count = omega (arith, lt, w) in other (subst (λ (i : ℕ). slice_index text i ≡ 10) same e)
  ];
}

pub ruleset cut_laws = (line_at, whole_line, no_feed_yet, no_feed_more)

-- ---- the end of a line

last_of : (front : List ℕ) (last : ℕ) → slice_index (front ++ last ∷ []) (length front) ≡ last
last_of front last = get_or-append_seam front last [] 0

place_of : (line front : List ℕ) (last : ℕ) → line ≡ front ++ last ∷ [] → length line - 1 ≡ length front
place_of line front last e = let l : length line ≡ length (front ++ last ∷ []) = ap length e in omega (arith, l, length-append front (last ∷ []))

last_is : (line front : List ℕ) (last : ℕ) → line ≡ front ++ last ∷ [] → slice_index line (length line - 1) ≡ last
last_is line front last e =
    ap (slice_index line) (place_of line front last e) ∙ ap (λ (x : List ℕ). slice_index x (length front)) e ∙ last_of front last

front_is : (line front : List ℕ) (last : ℕ) → line ≡ front ++ last ∷ [] → take (length line - 1) line ≡ front
front_is line front last e =
    ap (λ (n : ℕ). take n line) (place_of line front last e) ∙ ap (take (length front)) e ∙ take-append_seam front (last ∷ [])

pub with_return : (line front : List ℕ) (last : ℕ) → line ≡ front ++ last ∷ [] → last ≡ 13 → front ≡ without_return line
with_return line front last e r = rw (last_is line front last e ∙ r) (sym (front_is line front last e))

pub with_none : (line front : List ℕ) (last : ℕ) → line ≡ front ++ last ∷ [] → last ≢ 13 → line ≡ without_return line
with_none line front last e other = rw (last_is line front last e, ne_eqb last 13 other) refl

pub ruleset return_laws = (with_return, with_none)

-- ---- why a script is none

pub bad_but_memory : (A : Type 0) (line : List ℕ) (e : Unread) → (e ≡ Memory) ⊎ IsBadLine A line → e ≢ Memory → IsBadLine A line
bad_but_memory A line e (inl memory) other = absurd (other memory)
bad_but_memory A line e (inr bad) other = bad
