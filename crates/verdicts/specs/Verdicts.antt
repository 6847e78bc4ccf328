-- Whether what is expected holds.
use Rattle.std.specs.Prelude.{◌≡◌, ◌≤◌, ◌+◌, ◌==◌, if◌then◌else◌, Bool, false, ℕ, ℤ, pos, List, [], ◌∷◌, Option}
use Rattle.std.specs.Prelude.{IsSomeAnd, Some, None}
use Rattle.expectations.specs.declared.expectation.Expectation.{Expectation}
use Rattle.expectations.specs.declared.expectation.Expectation.TheVariants as expected
use Rattle.expectations.specs.declared.expectation.ExpectedEnd.{ExpectedEnd}
use Rattle.expectations.specs.declared.expectation.ExpectedEnd.TheVariants as cause
use Rattle.expectations.specs.declared.expectation.ExpectedValue.{ExpectedValue}
use Rattle.expectations.specs.declared.expectation.ExpectedValue.TheVariants as value
use Rattle.expectations.specs.declared.expectation.Outcome.{Outcome}
use Rattle.expectations.specs.declared.expectation.Outcome.TheVariants as outcome
use Rattle.expectations.specs.declared.expectation.Times.{Times}
use Rattle.expectations.specs.declared.expectation.Times.TheVariants.{Once, Never}
use Rattle.history.specs.declared.End as ends
use Rattle.history.specs.declared.End.TheVariants as why
use Rattle.history.specs.declared.Entry.{Entry}
use Rattle.history.specs.declared.Entry.TheVariants as entry
use Rattle.history.specs.Legal.{closes, executes}
use Rattle.history.specs.Lists.{count, first_of, last_of_those}
use Rattle.network_faults.specs.Issued.{issue_number}
use Rattle.primitives.specs.declared.plain_data.Reply.{Reply}
use Rattle.primitives.specs.declared.plain_data.Reply.TheVariants as reply
use Rattle.tags.specs.declared.value.Value.{Value}
use Rattle.tags.specs.declared.value.Value.TheVariants as tagged
use Rattle.verdicts.specs.declared.told.Sought.{Sought}
use Rattle.verdicts.specs.declared.told.Sought.TheVariants.{End, Anything}

-- the reply is this one, or any where none is expected
abbrev pub IsReply : {A : Type 0} → Option (Reply A) → Reply A → Type 0
IsReply None given = Unit {0}
IsReply (Some r) given = given ≡ r

-- the reason is this one, or any where none is expected
abbrev pub IsReason : Option ℕ → ℕ → Type 0
IsReason None given = Unit {0}
IsReason (Some n) given = given ≡ n

-- the cause is this one (20.1.8, 20.1.9)
abbrev pub IsCause : ExpectedEnd → ends.End → Type 0
IsCause cause.TimedOut why.TimedOut = Unit {0}
IsCause (cause.Rejected n) (why.Rejected given) = IsReason n given
IsCause (cause.Aborted n) (why.Aborted given) = IsReason n given
IsCause c given = ⊥

-- the cause is this one, or any where none is expected
abbrev pub IsEnd : Option ExpectedEnd → ends.End → Type 0
IsEnd None given = Unit {0}
IsEnd (Some c) given = IsCause c given

-- the moment is at most so many milliseconds behind that of the issue, where that is expected
abbrev pub IsTimely : (within issued : Option ℕ) → ℕ → Type 0
IsTimely None issued moment = Unit {0}
IsTimely (Some ms) None moment = ⊥
IsTimely (Some ms) (Some at) moment = moment ≤ at + ms

-- a number as a single value (20.2.4, 20.2.5, 20.2.11)
abbrev pub IsNumber : {A : Type 0} → ℤ → Value A → Type 0
IsNumber z (tagged.Unsigned n) = z ≡ pos n
IsNumber z (tagged.Signed s) = z ≡ s
IsNumber z (tagged.Enum n) = z ≡ pos n
IsNumber z v = ⊥

-- these values are as expected
abbrev pub AreValues : {A : Type 0} → ExpectedValue A → List (Value A) → Type 0
AreValues (value.Number z) (v ∷ []) = IsNumber z v
AreValues (value.Number z) values = ⊥
AreValues (value.Values values) given = given ≡ values

-- what a property reads is as expected; where it isn't read, or there is no such device, it is not (15.5)
abbrev pub IsRead : {A : Type 0} → ExpectedValue A → Option (Reply A) → Type 0
IsRead v (Some (reply.Values given)) = AreValues v given
IsRead v read = ⊥

-- so often
abbrev pub IsSoOften : Times → ℕ → Type 0
IsSoOften Once n = n ≡ 1
IsSoOften Never n = n ≡ 0

module _ {S Q R : Type 0} where
  -- the moment of an entry that issues n
  abbrev pub issued_in : ℕ → Entry S Q R → Option ℕ
  issued_in n (entry.Issue number client instance request moment) = if number == n then Some moment else None
  issued_in n e = None

  -- the moment at which n was issued, if it was
  abbrev pub issued_at : ℕ → List (Entry S Q R) → Option ℕ
  issued_at n [] = None
  issued_at n (e ∷ h) = first_of (issued_in n e) (issued_at n h)

  -- the entry that says how the issue n ended: in a legal history there is one at most (5.4.4)
  abbrev pub closing_of : ℕ → List (Entry S Q R) → Option (Entry S Q R)
  closing_of n h = last_of_those (closes n) h

  -- an entry tells of the request of a number: its issue, or what came of it
  abbrev pub tells_of : ℕ → Entry S Q R → Bool
  tells_of n (entry.Issue number client instance request moment) = number == n
  tells_of n (entry.Executed number given moment) = number == n
  tells_of n (entry.Answered number given moment) = number == n
  tells_of n (entry.Ended number given moment) = number == n
  tells_of n (entry.Restarted instance moment) = false

  -- what was last told of a request
  abbrev pub last_told : ℕ → List (Entry S Q R) → Option (Entry S Q R)
  last_told n h = last_of_those (tells_of n) h

  -- an entry is what is looked for of a request (for private functions alone)
  abbrev pub is_sought : Sought → ℕ → Entry S Q R → Bool
  is_sought End n e = closes n e
  is_sought Anything n e = tells_of n e

module _ {S Q A : Type 0} where
  -- the entry says that a request, which was issued then, ended as expected, and as soon (5.4.4)
  abbrev pub IsOutcome : Outcome A → (within issued : Option ℕ) → Entry S Q (Reply A) → Type 0
  IsOutcome (outcome.Answered r) within issued (entry.Answered number given moment) =
      IsReply r given × IsTimely within issued moment
  IsOutcome (outcome.Ended c) within issued (entry.Ended number given moment) =
      IsEnd c given × IsTimely within issued moment
  IsOutcome o within issued e = ⊥

  -- what is expected holds, of a history, where so many events were refused, and where the property that is asked for
  -- reads so at its device, if there is one
  abbrev pub Holds : Expectation A → List (Entry S Q (Reply A)) → (refused : ℕ) → (read : Option (Reply A)) → Type 0
  Holds (expected.Closed i o within) h refused read =
      IsSomeAnd (issue_number i h) (λ n. IsSomeAnd (closing_of n h) (IsOutcome o within (issued_at n h)))
  Holds (expected.Executed i times) h refused read =
      IsSomeAnd (issue_number i h) (λ n. IsSoOften times (count (executes n) h))
  Holds (expected.Reads station object property v) h refused read = IsRead v read
  Holds expected.NoneRefused h refused read = refused ≡ 0
