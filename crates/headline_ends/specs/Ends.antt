-- When an issue has come to its end, and when it is open still.
use Rattle.std.specs.Prelude.{◌≡◌, ◌⊎◌, ℕ, List, Some}
use Rattle.headline.specs.Happenings.{Core}
use Rattle.headline.specs.Protocol.{Protocol}
use Rattle.headline.specs.Stations.{Transaction}
use Rattle.history.specs.Book.{last_issue}
use Rattle.history.specs.Legal.{closes}
use Rattle.history.specs.Lists.{Has, count}
use Rattle.history.specs.declared.Entry.{Entry}
use Rattle.history.specs.declared.Entry.TheVariants.{Issue}

-- the issue i was answered or ended, once (5.4.4)
abbrev pub IsClosed : {S Q R : Type 0} → List (Entry S Q R) → ℕ → Type 0
IsClosed h i = count (closes i) h ≡ 1

-- a transaction of the client has this request since this moment, and is of the issue i: the last one of the client
-- under its invoke ID (5.4.1)
pub record IsOpen {S Q R T : Type 0} (p : Protocol S Q R T) (w : Core S Q R T) (i : ℕ) (c : S) (q : Q) (moment : ℕ) :
    Type 0 where
  pub transaction : Transaction S Q
  pub there : Has (w.clients c).transactions transaction
  pub request : transaction.request ≡ q
  pub at : transaction.moment ≡ moment
  pub last : last_issue p.same c transaction.invoke_id w.book.issues ≡ Some i

-- each issue of the history is closed, or open
abbrev pub IssuesAreAccountedFor : {S Q R T : Type 0} → Protocol S Q R T → Core S Q R T → Type 0
IssuesAreAccountedFor {S} {Q} p w = (i : ℕ) (c : S) (n : ℕ) (q : Q) (moment : ℕ) →
    Has w.book.history (Issue i c n q moment) → IsClosed w.book.history i ⊎ IsOpen p w i c q moment

-- a transaction is of the last issue of its client under its invoke ID, which was neither answered nor ended
pub record IsUnclosed {S Q R T : Type 0} (p : Protocol S Q R T) (w : Core S Q R T) (c : S) (o : Transaction S Q) :
    Type 0 where
  pub i : ℕ
  pub instance : ℕ
  pub issue : Has w.book.history (Issue i c instance o.request o.moment)
  pub last : last_issue p.same c o.invoke_id w.book.issues ≡ Some i
  pub none : count (closes i) w.book.history ≡ 0

-- so is each
abbrev pub OpenAreUnclosed : {S Q R T : Type 0} → Protocol S Q R T → Core S Q R T → Type 0
OpenAreUnclosed {S} {Q} p w = (c : S) (o : Transaction S Q) → Has (w.clients c).transactions o → IsUnclosed p w c o
