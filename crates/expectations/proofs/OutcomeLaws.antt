-- A part of how a request ends that isn't said leaves the whole unsaid.
use Rattle.std.proofs.Common.{◌≡◌, ◌∙◌, sym, ap, subst, inl, inr, ℕ, ◌≤◌, ◌<◌, ◌^◌, List, Option, Some, None, arith}
use Rattle.std.specs.Prelude.{◌≢◌, ◌⊎◌, slice_index, codes}
use Rattle.expectations.specs.declared.expectation.ExpectedEnd.{ExpectedEnd}
use Rattle.expectations.specs.declared.expectation.ExpectedEnd.TheVariants as cause
use Rattle.expectations.specs.Errors.{NoErrorNames}
use Rattle.expectations.specs.Outcomes.{NoCause, NoEnd, NoEndIfAny, NoExpectedReply, NoReason, NoReasonIfAny}
use Rattle.expectations.specs.Outcomes.{NoReplyIfAny, NoReplyNames, SaysCause, SaysEnd, SaysEndIfAny, SaysExpectedReply}
use Rattle.expectations.specs.Outcomes.{SaysReason, SaysReasonIfAny, SaysReplyIfAny, SaysReplyNames}
use Rattle.names.specs.Names.{number_in}
use Rattle.names.specs.Tables.{abort_reasons, reject_reasons}
use Rattle.primitives.specs.declared.plain_data.Reply.{Reply}
use Rattle.words.specs.Marks.{first_part, other_parts}
use Rattle.words.specs.Replies.{NoReply, SaysReply}
use Rattle.words.specs.Says.{HasNo, SaysUnsigned, before, behind, space}
use Rattle.words.specs.Unsaid.{NoUnsigned}

-- answers
pub reply_whole : (A : Type 0) (words : List ℕ) → HasNo space words → NoReplyNames A words
reply_whole A words whole = record { none = λ r s. absurd (let k = s.kind.parted in omega (arith, whole, k)) }

pub reply_other : (A : Type 0) (words : List ℕ) → before space words ≢ codes "error" → NoReplyNames A words
reply_other A words other = record { none = λ r s. other s.kind.kind_is }

pub reply_no_names : (A : Type 0) (words : List ℕ) → NoErrorNames A (behind space words) → NoReplyNames A words
reply_no_names A words none = record { none = λ r s. none.none r s.error_said }

pub ruleset reply_names_laws = (reply_whole, reply_other, reply_no_names)

pub by_names : {A : Type 0} (words : List ℕ) (r : Reply A) → SaysReplyNames words r → SaysExpectedReply words r
by_names words r s = record { form = inl s }

pub by_numbers : {A : Type 0} (words : List ℕ) (r : Reply A) → SaysReply words r → SaysExpectedReply words r
by_numbers words r s = record { form = inr s }

pub no_reply : (A : Type 0) (words : List ℕ) → NoReplyNames A words → NoReply A words → NoExpectedReply A words
no_reply A words no_names no_numbers = record {
  none = λ r s. elim s.form [
    | inl t ↦ no_names.none r t
    | inr t ↦ no_numbers.none r t
  ];
}

pub ruleset reply_laws = (by_names, by_numbers, no_reply)

no_reply_in : {A : Type 0} (words : List ℕ) (r : Option (Reply A)) → NoExpectedReply A words →
    SaysReplyIfAny (Some words) r → ⊥
no_reply_in words None none s = s
no_reply_in words (Some r) none s = none.none r s

pub no_reply_if_any : (A : Type 0) (words : List ℕ) → NoExpectedReply A words → NoReplyIfAny A (Some words)
no_reply_if_any A words none = record { none = λ r s. no_reply_in words r none s }

pub ruleset reply_if_any_laws = (no_reply_if_any)

-- reasons
none_is_some : (n : ℕ) (found : Option ℕ) → found ≡ None → found ≡ Some n → ⊥
none_is_some n None e f = cc
none_is_some n (Some m) e f = cc

some_is : (n m : ℕ) → Some n ≡ Some m → n ≡ m
some_is n m e = cc

pub no_reason : (table : List (ℕ × List ℕ)) (word : List ℕ) → NoUnsigned 8 word → number_in table word ≡ None →
    NoReason table word
no_reason table word none unnamed = record {
  none = λ n s. elim s.form [
    | inl t ↦ none.none n t
    | inr t ↦ none_is_some n (number_in table word) unnamed t.0
  ];
}

pub reason_too_great : (table : List (ℕ × List ℕ)) (word : List ℕ) (m : ℕ) → NoUnsigned 8 word →
    number_in table word ≡ Some m → 2 ^ 8 ≤ m → NoReason table word
reason_too_great table word m none named great = record {
  none = λ n s. elim s.form [
    | inl t ↦ none.none n t
    | inr t ↦ let e : n ≡ m = some_is n m (sym (t.0) ∙ named) in let l = t.1 in absurd (omega (arith, e, l, great))
  ];
}

pub by_name : (table : List (ℕ × List ℕ)) (word : List ℕ) (n : ℕ) → number_in table word ≡ Some n → n < 2 ^ 8 →
    SaysReason table word n
by_name table word n named fits = record { form = inr (named, fits) }

pub by_number : (table : List (ℕ × List ℕ)) (word : List ℕ) (n : ℕ) → SaysUnsigned 8 word n → SaysReason table word n
by_number table word n said = record { form = inl said }

pub ruleset reason_laws = (no_reason, reason_too_great, by_name, by_number)

no_reason_in : (table : List (ℕ × List ℕ)) (word : List ℕ) (n : Option ℕ) → NoReason table word →
    SaysReasonIfAny table (Some word) n → ⊥
no_reason_in table word None none s = s
no_reason_in table word (Some n) none s = none.none n s

pub no_reason_if_any : (table : List (ℕ × List ℕ)) (word : List ℕ) → NoReason table word →
    NoReasonIfAny table (Some word)
no_reason_if_any table word none = record { none = λ n s. no_reason_in table word n none s }

pub ruleset reason_if_any_laws = (no_reason_if_any)

-- causes; their words differ in the first character
words_apart : (word a b : List ℕ) → word ≡ a → word ≡ b → slice_index a 0 ≢ slice_index b 0 → ⊥
words_apart word a b e f n = n (ap (λ (l : List ℕ). slice_index l 0) (sym e ∙ f))

some_is_none : {X : Type 0} (x : X) → Some x ≡ None → ⊥
some_is_none x e = cc

more_in : (word reason : List ℕ) (e : ExpectedEnd) → word ≡ codes "timedout" → SaysCause word (Some reason) e → ⊥
more_in word reason cause.TimedOut is s = some_is_none reason s.1
more_in word reason (cause.Rejected m) is s =
    words_apart word (codes "rejected") (codes "timedout") s.0 is (λ n. absurd (omega (arith, n)))
more_in word reason (cause.Aborted m) is s =
    words_apart word (codes "aborted") (codes "timedout") s.0 is (λ n. absurd (omega (arith, n)))

pub timed_out_with_more : (word reason : List ℕ) → word ≡ codes "timedout" → NoCause word (Some reason)
timed_out_with_more word reason is = record { none = λ e s. more_in word reason e is s }

rejected_in : (word : List ℕ) (reason : Option (List ℕ)) (e : ExpectedEnd) → word ≡ codes "rejected" →
    NoReasonIfAny reject_reasons reason → SaysCause word reason e → ⊥
rejected_in word reason cause.TimedOut is none s =
    words_apart word (codes "timedout") (codes "rejected") s.0 is (λ n. absurd (omega (arith, n)))
rejected_in word reason (cause.Rejected m) is none s = none.none m s.1
rejected_in word reason (cause.Aborted m) is none s =
    words_apart word (codes "aborted") (codes "rejected") s.0 is (λ n. absurd (omega (arith, n)))

pub no_rejected : (table : List (ℕ × List ℕ)) (word : List ℕ) (reason : Option (List ℕ)) → table ≡ reject_reasons →
    word ≡ codes "rejected" → NoReasonIfAny table reason → NoCause word reason
no_rejected table word reason e is none = record {
  none = λ c s. rejected_in word reason c is (subst (λ (t : List (ℕ × List ℕ)). NoReasonIfAny t reason) e none) s;
}

pub rejected_said : (table : List (ℕ × List ℕ)) (word : List ℕ) (reason : Option (List ℕ)) (n : Option ℕ) →
    table ≡ reject_reasons → word ≡ codes "rejected" → SaysReasonIfAny table reason n → SaysCause word reason (cause.Rejected n)
rejected_said table word reason n e is said =
    (is, subst (λ (t : List (ℕ × List ℕ)). SaysReasonIfAny t reason n) e said)

aborted_in : (word : List ℕ) (reason : Option (List ℕ)) (e : ExpectedEnd) → word ≡ codes "aborted" →
    NoReasonIfAny abort_reasons reason → SaysCause word reason e → ⊥
aborted_in word reason cause.TimedOut is none s =
    words_apart word (codes "timedout") (codes "aborted") s.0 is (λ n. absurd (omega (arith, n)))
aborted_in word reason (cause.Rejected m) is none s =
    words_apart word (codes "rejected") (codes "aborted") s.0 is (λ n. absurd (omega (arith, n)))
aborted_in word reason (cause.Aborted m) is none s = none.none m s.1

pub no_aborted : (table : List (ℕ × List ℕ)) (word : List ℕ) (reason : Option (List ℕ)) → table ≡ abort_reasons →
    word ≡ codes "aborted" → NoReasonIfAny table reason → NoCause word reason
no_aborted table word reason e is none = record {
  none = λ c s. aborted_in word reason c is (subst (λ (t : List (ℕ × List ℕ)). NoReasonIfAny t reason) e none) s;
}

pub aborted_said : (table : List (ℕ × List ℕ)) (word : List ℕ) (reason : Option (List ℕ)) (n : Option ℕ) →
    table ≡ abort_reasons → word ≡ codes "aborted" → SaysReasonIfAny table reason n → SaysCause word reason (cause.Aborted n)
aborted_said table word reason n e is said =
    (is, subst (λ (t : List (ℕ × List ℕ)). SaysReasonIfAny t reason n) e said)

-- the word begins no cause
pub record IsNoCauseWord (word : List ℕ) : Type 0 where
  pub not_timed_out : word ≢ codes "timedout"
  pub not_rejected : word ≢ codes "rejected"
  pub not_aborted : word ≢ codes "aborted"

other_in : (word : List ℕ) (reason : Option (List ℕ)) (e : ExpectedEnd) → IsNoCauseWord word →
    SaysCause word reason e → ⊥
other_in word reason cause.TimedOut other s = other.not_timed_out s.0
other_in word reason (cause.Rejected m) other s = other.not_rejected s.0
other_in word reason (cause.Aborted m) other s = other.not_aborted s.0

pub no_cause : (word : List ℕ) (reason : Option (List ℕ)) → IsNoCauseWord word → NoCause word reason
no_cause word reason other = record { none = λ e s. other_in word reason e other s }

pub ruleset cause_laws = (timed_out_with_more, no_rejected, no_aborted, no_cause, rejected_said, aborted_said)

pub end_said : (words word : List ℕ) (reason : Option (List ℕ)) (e : ExpectedEnd) →
    word ≡ first_part (codes " ") words → reason ≡ other_parts (codes " ") words → SaysCause word reason e →
    SaysEnd words e
end_said words word reason e is same s = subst (λ (w : List ℕ). SaysCause w (other_parts (codes " ") words) e) is
    (subst (λ (r : Option (List ℕ)). SaysCause word r e) same s)

pub end_unsaid : (words word : List ℕ) (reason : Option (List ℕ)) → word ≡ first_part (codes " ") words →
    reason ≡ other_parts (codes " ") words → NoCause word reason → NoEnd words
end_unsaid words word reason is same none = record {
  none = λ e s. none.none e (subst (λ (w : List ℕ). SaysCause w reason e) (sym is)
      (subst (λ (r : Option (List ℕ)). SaysCause (first_part (codes " ") words) r e) (sym same) s));
}

pub ruleset end_laws = (end_said, end_unsaid)

no_end_in : (words : List ℕ) (e : Option ExpectedEnd) → NoEnd words → SaysEndIfAny (Some words) e → ⊥
no_end_in words None none s = s
no_end_in words (Some e) none s = none.none e s

pub no_end_if_any : (words : List ℕ) → NoEnd words → NoEndIfAny (Some words)
no_end_if_any words none = record { none = λ e s. no_end_in words e none s }

pub ruleset end_if_any_laws = (no_end_if_any)
