-- Where nothing that may stand behind the first word does, no expectation is said.
use Rattle.std.proofs.Common.{◌≡◌, ◌∙◌, ◌+◌, ◌*◌, sym, ap, subst, refl, ℕ, List, length, Option, arith}
use Rattle.std.specs.Prelude.{◌≢◌, ◌==◌, if◌then◌else◌, slice_index, codes}
use Rattle.expectations.specs.declared.expectation.Expectation.{Expectation}
use Rattle.expectations.specs.declared.expectation.Expectation.TheVariants as expected
use Rattle.expectations.specs.declared.expectation.Outcome.TheVariants as outcome
use Rattle.expectations.specs.Says.{IsRefused, SaysPlain, SaysRest, kind_word}
use Rattle.expectations.specs.Unsaid.{IsNoRefused, NoAnswered, NoEnded, NoExecuted, NoPlain}
use Rattle.expectations.specs.Values.{NoReads}
use Rattle.words.specs.Says.{HasNo, before, behind, space}

-- the words that expectations begin with
data Kind : Type 0 where
  answered : Kind
  ended : Kind
  executed : Kind
  reads : Kind
  none_refused : Kind

abbrev word_of : Kind → List ℕ
word_of answered = codes "answered"
word_of ended = codes "ended"
word_of executed = codes "executed"
word_of reads = codes "value"
word_of none_refused = codes "none"

abbrev kind_of : {A : Type 0} → Expectation A → Kind
kind_of (expected.Closed i (outcome.Answered reply) within) = answered
kind_of (expected.Closed i (outcome.Ended why) within) = ended
kind_of (expected.Executed i times) = executed
kind_of (expected.Reads station object property v) = reads
kind_of expected.NoneRefused = none_refused

-- such a word is known by its first character and its length
abbrev kind_by : ℕ → Kind
kind_by n = if n == 2145 then answered else if n == 1381 then ended else if n == 2149 then executed
    else if n == 1398 then reads else none_refused

abbrev known_by : List ℕ → Kind
known_by word = kind_by (slice_index word 0 + 256 * length word)

known : (k : Kind) → known_by (word_of k) ≡ k
known answered = refl
known ended = refl
known executed = refl
known reads = refl
known none_refused = refl

word_is : {A : Type 0} (e : Expectation A) → kind_word e ≡ word_of (kind_of e)
word_is (expected.Closed i (outcome.Answered reply) within) = refl
word_is (expected.Closed i (outcome.Ended why) within) = refl
word_is (expected.Executed i times) = refl
word_is (expected.Reads station object property v) = refl
word_is expected.NoneRefused = refl

-- words that say nothing which may stand behind this one
abbrev NoRest : (A : Type 0) → List ℕ → Kind → Type 0
NoRest A words answered = NoAnswered A words
NoRest A words ended = NoEnded words
NoRest A words executed = NoExecuted words
NoRest A words reads = NoReads A words
NoRest A words none_refused = IsNoRefused words

unsaid : {A : Type 0} (words : List ℕ) (e : Expectation A) → NoRest A words (kind_of e) → SaysRest words e → ⊥
unsaid words (expected.Closed i (outcome.Answered reply) within) none s = none.none i reply within s
unsaid words (expected.Closed i (outcome.Ended why) within) none s = none.none i why within s
unsaid words (expected.Executed i times) none s = none.none i times s
unsaid words (expected.Reads station object property v) none s = none.none station object property v s
unsaid words expected.NoneRefused none s = none.none s

no_kind : (A : Type 0) (k : Kind) (words : List ℕ) → before space words ≡ word_of k →
    NoRest A (behind space words) k → NoPlain A words
no_kind A k words e none = record {
  none = λ x said.
      let same : k ≡ kind_of x = sym (known k) ∙ ap (λ (w : List ℕ). known_by w) (sym e ∙ said.0.kind_is ∙ word_is x)
      ∙ known (kind_of x) in
      unsaid (behind space words) x (subst (λ (p : Kind). NoRest A (behind space words) p) same none) said.1;
}

pub no_answered : (A : Type 0) (words : List ℕ) → before space words ≡ codes "answered" →
    NoAnswered A (behind space words) → NoPlain A words
no_answered A words e none = no_kind A answered words e none

pub no_ended : (A : Type 0) (words : List ℕ) → before space words ≡ codes "ended" → NoEnded (behind space words) →
    NoPlain A words
no_ended A words e none = no_kind A ended words e none

pub no_executed : (A : Type 0) (words : List ℕ) → before space words ≡ codes "executed" →
    NoExecuted (behind space words) → NoPlain A words
no_executed A words e none = no_kind A executed words e none

pub no_reads : (A : Type 0) (words : List ℕ) → before space words ≡ codes "value" → NoReads A (behind space words) →
    NoPlain A words
no_reads A words e none = no_kind A reads words e none

pub no_refused : (A : Type 0) (words : List ℕ) → before space words ≡ codes "none" →
    IsNoRefused (behind space words) → NoPlain A words
no_refused A words e none = no_kind A none_refused words e none

pub plain_whole : (A : Type 0) (words : List ℕ) → HasNo space words → NoPlain A words
plain_whole A words whole = record { none = λ e s. absurd (let k = s.0.parted in omega (arith, whole, k)) }

-- the word begins no expectation
pub record IsNoKindWord (word : List ℕ) : Type 0 where
  pub not_answered : word ≢ codes "answered"
  pub not_ended : word ≢ codes "ended"
  pub not_executed : word ≢ codes "executed"
  pub not_value : word ≢ codes "value"
  pub not_none : word ≢ codes "none"

not_known : (word : List ℕ) (k : Kind) → IsNoKindWord word → word ≡ word_of k → ⊥
not_known word answered other e = other.not_answered e
not_known word ended other e = other.not_ended e
not_known word executed other e = other.not_executed e
not_known word reads other e = other.not_value e
not_known word none_refused other e = other.not_none e

pub no_word : (A : Type 0) (words : List ℕ) → IsNoKindWord (before space words) → NoPlain A words
no_word A words other = record {
  none = λ e s. not_known (before space words) (kind_of e) other (s.0.kind_is ∙ word_is e);
}

pub ruleset kind_laws = (plain_whole, no_word, no_answered, no_ended, no_executed, no_reads, no_refused)
