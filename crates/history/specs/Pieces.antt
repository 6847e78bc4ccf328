-- The pieces of a body (segmentation, 5.2).
use Rattle.std.specs.Prelude.{ℕ, ◌+◌, ◌*◌, nat_lt, Bool, List, length, take, drop}

-- piece n of a body, in pieces of so many octets: its part from n times that on, up to the next or to the end
abbrev pub piece : ℕ → ℕ → List ℕ → List ℕ
piece chunk n body = take chunk (drop (n * chunk) body)

-- more of the body follows this piece
abbrev pub has_more : ℕ → ℕ → List ℕ → Bool
has_more chunk n body = nat_lt (n * chunk + chunk) (length body)
