-- What has happened so far: what was issued, what was said, and the history.
use Rattle.std.specs.Prelude.{ℕ, suc, ◌==◌, ◌&&◌, Bool, cond, List, [], ◌∷◌, Option, Some, None}
use Rattle.history.specs.declared.End.{End}
use Rattle.history.specs.declared.Entry.{Entry}
use Rattle.history.specs.Lists.{first_of}

-- a request that a client was asked to make of the device with an instance, which it took to be this station.
-- chunk: octets in a piece of the request; room: octets in a piece of its answer. Its number is its place among all
pub record Issued (S Q : Type 0) : Type 0 where
  pub client : S
  pub invoke_id : ℕ
  pub device : S
  pub instance : ℕ
  pub request : Q
  pub chunk : ℕ
  pub room : ℕ
  pub moment : ℕ

-- an answer: a SimpleACK, a ComplexACK or an Error, the last two with their service data (20.1.4, 20.1.5, 20.1.7)
pub data Answer : Type 0 where
  Simple : Answer
  Complex : (octets : List ℕ) → Answer
  Failed : (octets : List ℕ) → Answer

-- what the header of a request says: its service, and how many octets a piece of the answer may have (20.1.2)
pub record Head : Type 0 where
  pub service : ℕ
  pub room : ℕ

-- what a message says (20.1): a request or a piece of it, an answer or a piece of it, a Reject or an Abort, an I-Am, or
-- anything else; a piece has its number, and says whether more follow
pub data Body : Type 0 where
  Asks : (id : ℕ) (head : Head) (octets : List ℕ) → Body
  Asks_piece : (id : ℕ) (head : Head) (n : ℕ) (more : Bool) (octets : List ℕ) → Body
  Tells : (id : ℕ) (answer : Answer) → Body
  Tells_piece : (id n : ℕ) (more : Bool) (octets : List ℕ) → Body
  Refuses : (id : ℕ) (why : End) → Body
  I_am : (instance : ℕ) → Body
  Other : Body

-- whom a message is for: one station, or all
pub data Destination (S : Type 0) : Type 0 where
  Unicast : (station : S) → Destination S
  Broadcast : Destination S

-- what an application entity said, and the moment at which it did
pub record Message (S : Type 0) : Type 0 where
  pub from : S
  pub to : Destination S
  pub body : Body
  pub stamp : ℕ

-- the moment, the issues and the messages in their order, and the history
pub record Book (S Q R : Type 0) : Type 0 where
  pub moment : ℕ
  pub issues : List (Issued S Q)
  pub said : List (Message S)
  pub history : List (Entry S Q R)

-- the issue is of this client under this invoke ID
abbrev pub is_under : {S Q : Type 0} → (S → S → Bool) → S → ℕ → Issued S Q → Bool
is_under same client id x = same x.client client && (x.invoke_id == id)

-- the number of the last issue of a client under an invoke ID, where the first of the list has the number n
abbrev pub last_from : {S Q : Type 0} → (S → S → Bool) → ℕ → S → ℕ → List (Issued S Q) → Option ℕ
last_from same n client id [] = None
last_from same n client id (x ∷ xs) =
    first_of (last_from same (suc n) client id xs) (cond (is_under same client id x) (Some n) None)

-- the number of the last issue of a client under an invoke ID: what a station tells of that ID is told of this issue
abbrev pub last_issue : {S Q : Type 0} → (S → S → Bool) → S → ℕ → List (Issued S Q) → Option ℕ
last_issue same client id issues = last_from same 0 client id issues
