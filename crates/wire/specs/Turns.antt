-- Whose turn it is among sockets that may have a datagram.
use Rattle.std.specs.Prelude.{◌≡◌, ◌≤◌, ◌<◌, ◌+◌, ◌-◌, ◌*◌, ◌==◌, ℕ, Bool, true, List, Some, length}
use Rattle.std.specs.Prelude.{nat_le, slice_get, slice_set, if◌then◌else◌}

-- which sockets may have a datagram, by their places; from which place on they are asked; and how many datagrams the
-- socket at that place brought in a row
pub record TurnsState : Type 0 where
  pub ready : List Bool
  pub turn : ℕ
  pub in_row : ℕ

-- how many datagrams a socket brings in a row before the next one is asked
abbrev pub MAX_IN_ROW : ℕ
MAX_IN_ROW = 16

-- the next turn is that of a socket, or behind the last one, where none has brought anything in a row
pub record IsInRange (s : TurnsState) : Type 0 where
  pub turn : s.turn ≤ length s.ready
  pub in_row : s.in_row < MAX_IN_ROW
  pub behind : s.turn ≡ length s.ready → s.in_row ≡ 0

-- the socket at a place may have a datagram
abbrev pub IsReady : ℕ → TurnsState → Type 0
IsReady place s = slice_get s.ready place ≡ Some true

-- how many places come before one, in the order in which they are asked
abbrev pub ahead : ℕ → TurnsState → ℕ
ahead place s = if nat_le s.turn place then place - s.turn else place + length s.ready - s.turn

-- the socket at a place is asked next: it is the first of those that may have a datagram
pub record IsNext (place : ℕ) (s : TurnsState) : Type 0 where
  pub ready : IsReady place s
  pub first : (other : ℕ) → IsReady other s → ahead place s ≤ ahead other s

-- no socket may have a datagram
pub record IsQuiet (s : TurnsState) : Type 0 where
  pub none : (place : ℕ) → IsReady place s → ⊥

-- the socket at a place may have a datagram, or has none
abbrev pub marked : Bool → ℕ → TurnsState → TurnsState
marked mark place s = record { ready = slice_set s.ready place mark; turn = s.turn; in_row = s.in_row }

-- the next turn is that of the socket behind a place
abbrev pub passed : ℕ → TurnsState → TurnsState
passed place s = record { ready = s.ready; turn = place + 1; in_row = 0 }

-- the socket at a place brought so many datagrams in a row: it is asked first again, unless these are the most
abbrev pub held : ℕ → ℕ → TurnsState → TurnsState
held place count s =
    if nat_le MAX_IN_ROW count then passed place s else record { ready = s.ready; turn = place; in_row = count }

-- the socket at a place brought a datagram
abbrev pub brought : ℕ → TurnsState → TurnsState
brought place s = held place (if place == s.turn then s.in_row + 1 else 1) s

-- the system told that sockets may have a datagram: none is taken away, and whose turn it is stays
pub record MayHaveMore (old new : TurnsState) : Type 0 where
  pub kept : (place : ℕ) → IsReady place old → IsReady place new
  pub count : length new.ready ≡ length old.ready
  pub turn : new.turn ≡ old.turn
  pub in_row : new.in_row ≡ old.in_row

-- no more datagrams than this are brought by others before the socket at a place is asked
abbrev pub waits : ℕ → TurnsState → ℕ
waits place s = MAX_IN_ROW * (ahead place s + 1) - s.in_row

-- marks from one place up to another: none of them says that a socket may have a datagram
pub record AreUnmarked (ready : List Bool) (from to : ℕ) : Type 0 where
  pub none : (place : ℕ) → from ≤ place → place < to → slice_get ready place ≡ Some true → ⊥

-- .. and the first of them that does so
pub record IsFirstIn (ready : List Bool) (from to place : ℕ) : Type 0 where
  pub least : from ≤ place
  pub most : place < to
  pub marked : slice_get ready place ≡ Some true
  pub before : AreUnmarked ready from place
