-- The pieces of a body that is too long to go whole (5.2.1.1).
use Rattle.std.specs.Prelude.{ℕ, zero, suc, ◌+◌, ◌-◌, ◌*◌, ◌/◌, ◌%◌, nat_lt, Bool, List, [], ◌∷◌, length, take, drop}
use Rattle.segments.specs.declared.pieces.Piece.{Piece}
use Rattle.segments.specs.declared.pieces.Window.{Window}

-- a piece, as a segment says it: its sequence number, whether more follow, its octets (20.1.2.4, 20.1.2.7)
pub record PlainPiece : Type 0 where
  pub number : ℕ
  pub has_more : Bool
  pub octets : List ℕ

-- how many pieces of chunk octets a body of this length has: one also where it is empty
abbrev pub piece_count : ℕ → ℕ → ℕ
piece_count chunk length = (length - 1) / chunk + 1

-- piece n of a body, which has so many: its part from n chunk up to (n + 1) chunk or the end
abbrev pub piece : ℕ → ℕ → List ℕ → ℕ → PlainPiece
piece chunk count body n =
    record { number = n % 256; has_more = nat_lt (n + 1) count; octets = take chunk (drop (n * chunk) body) }

-- so many pieces of a body, from piece n on
abbrev pub pieces_from : ℕ → ℕ → List ℕ → ℕ → ℕ → List PlainPiece
pieces_from chunk count body n zero = []
pieces_from chunk count body n (suc more) =
    piece chunk count body n ∷ pieces_from chunk count body (suc n) more

-- all pieces of a body, in order
abbrev pub pieces : ℕ → List ℕ → List PlainPiece
pieces chunk body = pieces_from chunk (piece_count chunk (length body)) body 0 (piece_count chunk (length body))

-- what a piece in the code says
abbrev pub piece_of : Piece → PlainPiece
piece_of p = record { number = p.number; has_more = p.has_more; octets = p.octets.now }

-- the pieces of a window that are still to come
abbrev pub window_rest : Window → List PlainPiece
window_rest w = pieces_from w.chunk w.count w.body.now w.next (w.end - w.next)
