-- What is told, and left, of transactions when a client wakes.
use Rattle.std.proofs.Common.{◌≡◌, refl, ℕ, ◌+◌, Bool, true, false, List, [], ◌∷◌, ◌++◌, length}
use Rattle.std.specs.Prelude.{◌==◌, not, suc, Option, Some, None}
use Rattle.std.specs.List.{AllByRecursion, flat_map}
use Rattle.std.proofs.lemmas.Bool.{and_parts}
use Rattle.segments.specs.Sender.{SenderState, has_ended, is_timed_out, wakes, wakes_if}
use Rattle.profile.specs.Ages.{is_in_time}
use Rattle.segments.specs.declared.step.Turn.{Turn}
use Rattle.segments.specs.declared.step.Turn.TheVariants.{Waits, Sends, Ends}
use Rattle.client_tsm.specs.Laws.{IsEnded, ToldOrLeft, WokenAreEnded}
use Rattle.client_tsm.specs.Open.{Open, gathers_still, goes_on, sends_still}
use Rattle.client_tsm.specs.Waking.{is_overdue, left_by, told_by, told_of, turn_by, turn_if, turn_of, turn_where}
use Rattle.client_tsm.specs.declared.gathering.Gathering.{Gathering}
use Rattle.client_tsm.specs.declared.plan.TransactionOutcome.{TransactionOutcome}

-- ---- a transaction ends only where it doesn't go on
wakes_end_by : (new ended timed : Bool) (now : ℕ) (c : SenderState) → (wakes_if new ended timed now c).turn ≡ Ends → ended ≡ true
wakes_end_by true ended timed now c e = absurd (cc e)
wakes_end_by false true timed now c e = refl
wakes_end_by false false true now c e = absurd (cc e)
wakes_end_by false false false now c e = absurd (cc e)

wakes_end : (now : ℕ) (c : SenderState) → (wakes now c).turn ≡ Ends → has_ended now c ≡ true
unfolding wakes
wakes_end now c e = wakes_end_by (c.sent == 0) (has_ended now c) (is_timed_out now c) now c e

not_both : (b : Bool) → not b ≡ true → b ≡ true → ⊥
not_both true n e = cc n
not_both false n e = cc e

overdue_sends : (b : Bool) → turn_if b ≡ Ends → ⊥
overdue_sends true e = cc e
overdue_sends false e = cc e

never_ends : {A : Type 0} (g : Option (Gathering A)) (s : Option SenderState) (now : ℕ) (o : Open A) → sends_still now s ≡ true → turn_by g s now o ≡ Ends → ⊥
never_ends (Some g) s now o still e = cc e
never_ends None (Some c) now o still e = not_both (has_ended now c) still (wakes_end now c e)
never_ends None None now o still e = overdue_sends (is_overdue now o) e

dead_by : {A : Type 0} (b : Bool) (now : ℕ) (o : Open A) → goes_on now o ≡ b → turn_where b now o ≡ Ends → b ≡ false
dead_by false now o is e = refl
dead_by true now o is e =
    let still = (and_parts (gathers_still now o.gathering) (sends_still now o.sending) (and_parts (is_in_time o.at now) _ is).1).1 in
    absurd (never_ends o.gathering o.sending now o still e)

dead : {A : Type 0} (now : ℕ) (o : Open A) → turn_of now o ≡ Ends → goes_on now o ≡ false
dead now o e = dead_by (goes_on now o) now o refl e

-- ---- only ends are told
all_append : {X : Type 0} (P : X → Type 0) (xs ys : List X) → AllByRecursion P xs → AllByRecursion P ys → AllByRecursion P (xs ++ ys)
all_append P [] ys p q = q
all_append P (x ∷ xs) ys p q = (p.0, all_append P xs ys p.1 q)

ended_later : {A : Type 0} (now : ℕ) (o : Open A) (os : List (Open A)) (ts : List (TransactionOutcome A)) → AllByRecursion (IsEnded now os) ts →
    AllByRecursion (IsEnded now (o ∷ os)) ts
ended_later now o os [] all = tt
ended_later now o os (t ∷ ts) all =
    (record { place = suc all.0.place; transaction = all.0.transaction; there = all.0.there; dead = all.0.dead; is = all.0.is }, ended_later now o os ts all.1)

first_ended : {A : Type 0} (now : ℕ) (o : Open A) (os : List (Open A)) (t : Turn) → turn_of now o ≡ t → AllByRecursion (IsEnded now (o ∷ os)) (told_by t o)
first_ended now o os Waits e = tt
first_ended now o os Sends e = tt
first_ended now o os Ends e = (record { place = 0; transaction = o; there = refl; dead = dead now o e; is = refl }, tt)

pub woken_are_ended : {A : Type 0} → WokenAreEnded A
woken_are_ended now [] = tt
woken_are_ended {A} now (o ∷ os) =
    all_append (IsEnded now (o ∷ os)) (told_of now o) (flat_map (told_of now) os) (first_ended now o os (turn_of now o) refl)
    (ended_later now o os (flat_map (told_of now) os) (woken_are_ended {A = A} now os))

-- ---- each is told or left
each_by : {A : Type 0} (t : Turn) (now : ℕ) (o : Open A) → length (told_by t o) + length (left_by t now o) ≡ 1
each_by Waits now o = refl
each_by Sends now o = refl
each_by Ends now o = refl

pub told_or_left : {A : Type 0} → ToldOrLeft A
told_or_left now o = each_by (turn_of now o) now o
