-- What a client and a device keep, as far as safety sees it. All else (windows, repeats, timers) is free.
use Rattle.std.specs.Prelude.{ℕ, ◌+◌, ◌%◌, List, [], ◌∷◌, ◌++◌, Option, replicate, slice_set}
use Rattle.profile.specs.Times.{KEEP_MS, REUSE_MS}
use Rattle.history.specs.Book.{Head, Answer}

-- a request of a client that has neither an answer nor an end, with the first pieces of its answer
pub record Transaction (S Q : Type 0) : Type 0 where
  pub invoke_id : ℕ
  pub device : S
  pub request : Q
  pub chunk : ℕ
  pub room : ℕ
  pub moment : ℕ
  pub pieces : ℕ
  pub got : List ℕ

-- the station that the device with an instance is taken to be (16.10)
pub record Binding (S : Type 0) : Type 0 where
  pub instance : ℕ
  pub station : S

-- next: the next invoke ID. free_from: for each invoke ID the moment from which it may be given again
pub record Client (S Q : Type 0) : Type 0 where
  pub next : ℕ
  pub free_from : List ℕ
  pub transactions : List (Transaction S Q)
  pub bindings : List (Binding S)

-- what a device remembers of an execution: for whom, and the answer, or none where an Abort stands in its place (5.4.5)
pub record Record (S : Type 0) : Type 0 where
  pub client : S
  pub invoke_id : ℕ
  pub answer : Option Answer
  pub room : ℕ
  pub moment : ℕ

-- the first pieces of a request, with the head of the first, and the moment at which one was heard last (5.4.5)
pub record Gathering (S : Type 0) : Type 0 where
  pub client : S
  pub invoke_id : ℕ
  pub head : Head
  pub pieces : ℕ
  pub got : List ℕ
  pub last : ℕ

-- deaf_until: the moment from which it executes requests
pub record Device (S T : Type 0) : Type 0 where
  pub records : List (Record S)
  pub gatherings : List (Gathering S)
  pub table : T
  pub deaf_until : ℕ

-- a client at the start
abbrev pub new_client : {S Q : Type 0} → Client S Q
new_client = record { next = 0; free_from = replicate 256 0; transactions = []; bindings = [] }

-- a device at the start
abbrev pub new_device : {S T : Type 0} → T → Device S T
new_device opening = record { records = []; gatherings = []; table = opening; deaf_until = 0 }

-- the client after it issued a request under its next invoke ID; IDs are given 0, 1, .. 255, 0, .. in turn
abbrev pub issued : {S Q : Type 0} → ℕ → S → Q → ℕ → ℕ → Client S Q → Client S Q
issued now d q chunk room st =
    record st {
      next = (st.next + 1) % 256;
      free_from = slice_set st.free_from st.next (now + REUSE_MS);
      transactions = st.transactions ++ record {
        invoke_id = st.next;
        device = d;
        request = q;
        chunk = chunk;
        room = room;
        moment = now;
        pieces = 0;
        got = [];
      } ∷ [];
    }

-- after a restart a device has its opening table, has forgotten all, and executes nothing for a while
abbrev pub restarted : {S T : Type 0} → ℕ → T → Device S T
restarted now opening = record { records = []; gatherings = []; table = opening; deaf_until = now + KEEP_MS }
