-- When a history is legal. Each part is told by place or by count, and is of use by itself.
use Rattle.std.specs.Prelude.{◌≡◌, ℕ, ◌<◌, ◌≤◌, ◌==◌, Bool, true, false, cond, List, [], ◌∷◌, take, Option, Some, None}
use Rattle.std.specs.Prelude.{slice_get}
use Rattle.history.specs.declared.Entry.{Entry}
use Rattle.history.specs.declared.Entry.TheVariants.{Issue, Executed, Answered, Ended, Restarted}
use Rattle.history.specs.Lists.{Has, count, first_of}

-- what is made of an entry by its kind: of an issue by its number, the instance and the request that it names, of what
-- is told of an issue by the number of that, and of a restart
abbrev pub by_kind : {S Q R X : Type 0} → (issue : ℕ → ℕ → Q → X) → (executed answered ended : ℕ → X) →
    (restarted : X) → Entry S Q R → X
by_kind issue executed answered ended restarted (Issue i client instance request moment) = issue i instance request
by_kind issue executed answered ended restarted (Executed i reply moment) = executed i
by_kind issue executed answered ended restarted (Answered i reply moment) = answered i
by_kind issue executed answered ended restarted (Ended i why moment) = ended i
by_kind issue executed answered ended restarted (Restarted instance moment) = restarted

-- the entry is an issue
abbrev pub is_issue : {S Q R : Type 0} → Entry S Q R → Bool
is_issue e = by_kind (λ i n q. true) (λ i. false) (λ i. false) (λ i. false) false e

-- the number of the issue that the entry tells of, other than the issue itself
abbrev pub told_of : {S Q R : Type 0} → Entry S Q R → Option ℕ
told_of e = by_kind (λ i n q. None) (λ i. Some i) (λ i. Some i) (λ i. Some i) None e

-- the entry says that the issue i was executed
abbrev pub executes : {S Q R : Type 0} → ℕ → Entry S Q R → Bool
executes i e = by_kind (λ j n q. false) (λ j. j == i) (λ j. false) (λ j. false) false e

-- the entry says that the issue i was answered, or ended
abbrev pub closes : {S Q R : Type 0} → ℕ → Entry S Q R → Bool
closes i e = by_kind (λ j n q. false) (λ j. false) (λ j. j == i) (λ j. j == i) false e

-- a. issues are numbered 0, 1, .. in order: each has as many issues before it as its number says ..
abbrev pub AreNumbered : {S Q R : Type 0} → List (Entry S Q R) → Type 0
AreNumbered {S} {Q} {R} h = (k i : ℕ) (c : S) (n : ℕ) (q : Q) (moment : ℕ) →
    slice_get h k ≡ Some (Issue i c n q moment) → count is_issue (take k h) ≡ i

-- the issue i stands before the place k
pub record IsIssuedBefore {S Q R : Type 0} (h : List (Entry S Q R)) (k i : ℕ) : Type 0 where
  pub client : S
  pub instance : ℕ
  pub request : Q
  pub moment : ℕ
  pub there : Has h (Issue i client instance request moment)
  pub before : there.place < k

-- each entry of i that is no issue stands after the issue i
abbrev pub StandAfterIssue : {S Q R : Type 0} → List (Entry S Q R) → Type 0
StandAfterIssue {S} {Q} {R} h = (k i : ℕ) (e : Entry S Q R) → slice_get h k ≡ Some e → told_of e ≡ Some i →
    IsIssuedBefore h k i

-- b. no issue is executed twice
abbrev pub AreExecutedOnce : {S Q R : Type 0} → List (Entry S Q R) → Type 0
AreExecutedOnce h = (i : ℕ) → count (executes i) h ≤ 1

-- the issue i was executed with this reply, before the place k
pub record IsExecutedBefore {S Q R : Type 0} (h : List (Entry S Q R)) (k i : ℕ) (reply : R) : Type 0 where
  pub moment : ℕ
  pub there : Has h (Executed i reply moment)
  pub before : there.place < k

-- c. each answer of i stands after an execution of i, with the same reply
abbrev pub AnswersWereExecuted : {S Q R : Type 0} → List (Entry S Q R) → Type 0
AnswersWereExecuted {S} {Q} {R} h = (k i : ℕ) (r : R) (moment : ℕ) →
    slice_get h k ≡ Some (Answered i r moment) → IsExecutedBefore h k i r

-- d. no issue is answered twice, ended twice, or both
abbrev pub AreClosedOnce : {S Q R : Type 0} → List (Entry S Q R) → Type 0
AreClosedOnce h = (i : ℕ) → count (closes i) h ≤ 1

-- the instance and the request that an issue names
pub record Named (Q : Type 0) : Type 0 where
  pub instance : ℕ
  pub request : Q

-- what this entry names, if it is the issue i
abbrev pub named_by : {S Q R : Type 0} → ℕ → Entry S Q R → Option (Named Q)
named_by i e =
    by_kind (λ j n q. cond (j == i) (Some (record { instance = n; request = q })) None) (λ j. None) (λ j. None)
    (λ j. None) None e

-- what the issue i of a history names
abbrev pub named_in : {S Q R : Type 0} → List (Entry S Q R) → ℕ → Option (Named Q)
named_in [] i = None
named_in (e ∷ h) i = first_of (named_by i e) (named_in h i)

-- what a device went through: a request that it executed, with its reply, or a restart
pub data Past (Q R : Type 0) : Type 0 where
  Did : (request : Q) (reply : R) → Past Q R
  Anew : Past Q R

-- an execution counts for the device with the instance n where the issue names that
abbrev pub done_at : {Q R : Type 0} → ℕ → Option (Named Q) → R → List (Past Q R) → List (Past Q R)
done_at n None r rest = rest
done_at n (Some x) r rest = cond (x.instance == n) (Did x.request r ∷ rest) rest

-- what the device with the instance n went through, in order, where the issues name this
abbrev pub past_of : {S Q R : Type 0} → ℕ → (ℕ → Option (Named Q)) → List (Entry S Q R) → List (Past Q R)
past_of n named [] = []
past_of n named (Issue i c m q moment ∷ h) = past_of n named h
past_of n named (Executed i r moment ∷ h) = done_at n (named i) r (past_of n named h)
past_of n named (Answered i r moment ∷ h) = past_of n named h
past_of n named (Ended i why moment ∷ h) = past_of n named h
past_of n named (Restarted m moment ∷ h) = cond (m == n) (Anew ∷ past_of n named h) (past_of n named h)

-- each reply is that of the object machine to the request, from this table on, each request leaves the next table, a
-- restart the opening one, and all of them leave the final table
abbrev pub Replays : {Q R T : Type 0} → (T → Q → R) → (T → Q → T) → T → T → List (Past Q R) → T → Type 0
Replays reply after opening table [] final = final ≡ table
Replays reply after opening table (Did q r ∷ past) final =
    (r ≡ reply table q) × Replays reply after opening (after table q) past final
Replays reply after opening table (Anew ∷ past) final = Replays reply after opening opening past final

-- e. for the device with the instance n: the executions of issues that name it have, in order, the replies of the
-- object machine run over the issued requests from its opening table, and its final table is what that run leaves
abbrev pub IsWhatExecutionsLeave : {S Q R T : Type 0} → (T → Q → R) → (T → Q → T) → ℕ → T → T →
    List (Entry S Q R) → Type 0
IsWhatExecutionsLeave reply after n opening final h =
    Replays reply after opening opening (past_of n (named_in h) h) final
