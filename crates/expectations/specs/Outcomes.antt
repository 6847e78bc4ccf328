-- How a request is expected to end, in words.
use Rattle.std.specs.Prelude.{◌≡◌, ◌⊎◌, ◌<◌, ◌^◌, ℕ, List, Option, Some, None, codes}
use Rattle.expectations.specs.declared.expectation.ExpectedEnd.{ExpectedEnd}
use Rattle.expectations.specs.declared.expectation.ExpectedEnd.TheVariants as cause
use Rattle.expectations.specs.Errors.{SaysErrorNames}
use Rattle.names.specs.Names.{number_in}
use Rattle.names.specs.Tables.{abort_reasons, reject_reasons}
use Rattle.primitives.specs.declared.plain_data.Reply.{Reply}
use Rattle.words.specs.Marks.{first_part, other_parts}
use Rattle.words.specs.Replies.{SaysReply}
use Rattle.words.specs.Says.{IsOfKind, SaysUnsigned, behind, space}

-- an error by its names, as `error property write-access-denied` (18)
pub record SaysReplyNames {A : Type 0} (words : List ℕ) (r : Reply A) : Type 0 where
  pub kind : IsOfKind words (codes "error")
  pub error_said : SaysErrorNames (behind space words) r

-- a reply, an error by its numbers or its names (15, 18)
pub record SaysExpectedReply {A : Type 0} (words : List ℕ) (r : Reply A) : Type 0 where
  pub form : SaysReplyNames words r ⊎ SaysReply words r

-- a reply, if there are words
abbrev pub SaysReplyIfAny : {A : Type 0} → Option (List ℕ) → Option (Reply A) → Type 0
SaysReplyIfAny None None = Unit {0}
SaysReplyIfAny (Some words) (Some r) = SaysExpectedReply words r
SaysReplyIfAny None (Some r) = ⊥
SaysReplyIfAny (Some words) None = ⊥

-- a reason by its number, or by its name in a table (20.1.8, 20.1.9, 21)
pub record SaysReason (table : List (ℕ × List ℕ)) (word : List ℕ) (n : ℕ) : Type 0 where
  pub form : SaysUnsigned 8 word n ⊎ ((number_in table word ≡ Some n) × (n < 2 ^ 8))

-- a reason, if there is a word
abbrev pub SaysReasonIfAny : List (ℕ × List ℕ) → Option (List ℕ) → Option ℕ → Type 0
SaysReasonIfAny table None None = Unit {0}
SaysReasonIfAny table (Some word) (Some n) = SaysReason table word n
SaysReasonIfAny table None (Some n) = ⊥
SaysReasonIfAny table (Some word) None = ⊥

-- why a request ends with no answer, where this word and what stands behind it say that (20.1.8, 20.1.9)
abbrev pub SaysCause : List ℕ → Option (List ℕ) → ExpectedEnd → Type 0
SaysCause word reason cause.TimedOut = (word ≡ codes "timedout") × (reason ≡ None)
SaysCause word reason (cause.Rejected n) = (word ≡ codes "rejected") × SaysReasonIfAny reject_reasons reason n
SaysCause word reason (cause.Aborted n) = (word ≡ codes "aborted") × SaysReasonIfAny abort_reasons reason n

-- why, as `timedout`, `rejected 9` or `aborted`
abbrev pub SaysEnd : List ℕ → ExpectedEnd → Type 0
SaysEnd words e = SaysCause (first_part (codes " ") words) (other_parts (codes " ") words) e

-- why, if there are words
abbrev pub SaysEndIfAny : Option (List ℕ) → Option ExpectedEnd → Type 0
SaysEndIfAny None None = Unit {0}
SaysEndIfAny (Some words) (Some e) = SaysEnd words e
SaysEndIfAny None (Some e) = ⊥
SaysEndIfAny (Some words) None = ⊥

-- the words say no error by its names
pub record NoReplyNames (A : Type 0) (words : List ℕ) : Type 0 where
  pub none : (r : Reply A) → SaysReplyNames words r → ⊥

-- the words say no reply
pub record NoExpectedReply (A : Type 0) (words : List ℕ) : Type 0 where
  pub none : (r : Reply A) → SaysExpectedReply words r → ⊥

-- there are words, and they say no reply
pub record NoReplyIfAny (A : Type 0) (words : Option (List ℕ)) : Type 0 where
  pub none : (r : Option (Reply A)) → SaysReplyIfAny words r → ⊥

-- the word is no reason
pub record NoReason (table : List (ℕ × List ℕ)) (word : List ℕ) : Type 0 where
  pub none : (n : ℕ) → SaysReason table word n → ⊥

-- there is a word, and it is no reason
pub record NoReasonIfAny (table : List (ℕ × List ℕ)) (word : Option (List ℕ)) : Type 0 where
  pub none : (n : Option ℕ) → SaysReasonIfAny table word n → ⊥

-- the word and what stands behind it say no cause
pub record NoCause (word : List ℕ) (reason : Option (List ℕ)) : Type 0 where
  pub none : (e : ExpectedEnd) → SaysCause word reason e → ⊥

-- the words say no cause
pub record NoEnd (words : List ℕ) : Type 0 where
  pub none : (e : ExpectedEnd) → SaysEnd words e → ⊥

-- there are words, and they say no cause
pub record NoEndIfAny (words : Option (List ℕ)) : Type 0 where
  pub none : (e : Option ExpectedEnd) → SaysEndIfAny words e → ⊥
