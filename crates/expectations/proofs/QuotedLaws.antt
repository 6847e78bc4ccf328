-- Expectations in which texts stand in quotes.
use Rattle.std.proofs.Common.{◌≡◌, ◌∙◌, sym, subst, inl, inr, ℕ, List, Option, Some, None, Result, Ok, Err}
use Rattle.std.specs.Prelude.{◌⊎◌, IfErr, IfOk}
use Rattle.std.specs.Str.{IsUtf8}
use Rattle.expectations.specs.declared.expectation.Expectation.{Expectation}
use Rattle.expectations.specs.Says.{SaysExpectation, SaysPlain}
use Rattle.expectations.specs.Unsaid.{NoExpectation, NoPlain}
use Rattle.words.specs.declared.unread.Unread.{Unread}
use Rattle.words.specs.declared.unread.Unread.TheVariants.{Memory}
use Rattle.words.specs.Quoted.{unquoted}

some_is : (a b : List ℕ) → Some a ≡ Some b → a ≡ b
some_is a b e = cc

one_plain : (words a b : List ℕ) → unquoted words ≡ Some a → unquoted words ≡ Some b → b ≡ a
one_plain words a b e f = some_is b a (sym f ∙ e)

none_unquoted : (plain : List ℕ) (found : Option (List ℕ)) → found ≡ None → found ≡ Some plain → ⊥
none_unquoted plain None e f = cc
none_unquoted plain (Some x) e f = cc

-- what doesn't end, or has another escape, says nothing
pub no_unquoted : (A : Type 0) (words : List ℕ) → unquoted words ≡ None → NoExpectation A words
no_unquoted A words e = record { none = λ x s. none_unquoted s.plain (unquoted words) e s.unquotes }

pub no_readable : (A : Type 0) (words plain : List ℕ) → unquoted words ≡ Some plain → (IsUtf8 plain → ⊥) →
    NoExpectation A words
no_readable A words plain e none = record {
  none = λ x s. none (subst (λ (w : List ℕ). IsUtf8 w) (one_plain words plain s.plain e s.unquotes) s.readable);
}

no_plain : (A : Type 0) (words plain : List ℕ) → unquoted words ≡ Some plain → NoPlain A plain → NoExpectation A words
no_plain A words plain e none = record {
  none = λ x s. none.none x (subst (λ (w : List ℕ). SaysPlain w x) (one_plain words plain s.plain e s.unquotes) s.said);
}

pub quoted_read : {A : Type 0} (words plain : List ℕ) (r : Result (Expectation A) Unread) → unquoted words ≡ Some plain →
    IsUtf8 plain → IfOk r (SaysPlain plain) → IfOk r (SaysExpectation words)
quoted_read words plain (Ok x) e u s = record { plain = plain; unquotes = e; readable = u; said = s }
quoted_read words plain (Err x) e u s = tt

pub quoted_refused : {A : Type 0} (words plain : List ℕ) (r : Result (Expectation A) Unread) →
    unquoted words ≡ Some plain → IfErr r (λ x. (x ≡ Memory) ⊎ NoPlain A plain) →
    IfErr r (λ x. (x ≡ Memory) ⊎ NoExpectation A words)
quoted_refused words plain (Ok x) e s = tt
quoted_refused words plain (Err x) e (inl memory) = inl memory
quoted_refused {A} words plain (Err x) e (inr none) = inr (no_plain A words plain e none)

pub ruleset quoted_laws = (no_unquoted, no_readable, quoted_read, quoted_refused)
