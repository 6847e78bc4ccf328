-- Octets as Wireshark and C list them: with a colon or a comma between them, and 0x before each.
use Rattle.std.specs.Prelude.{ℕ, ◌==◌, ◌&&◌, ◌||◌, not, Bool, true, false, List, [], ◌∷◌, drop, if◌then◌else◌}
use Rattle.std.specs.Char.{is_ascii_hexdigit}

-- a text begins with a digit
abbrev pub begins_with_digit : List ℕ → Bool
begins_with_digit [] = false
begins_with_digit (c ∷ cs) = is_ascii_hexdigit c

-- a text begins with spaces, if any, and a digit
unfoldable pub digit_follows : List ℕ → Bool
digit_follows [] = false
digit_follows (c ∷ cs) = if c == 32 then digit_follows cs else is_ascii_hexdigit c

-- a colon, or a comma
abbrev pub is_mark : ℕ → Bool
is_mark c = (c == 58) || (c == 44)

-- a space for a mark before an octet
unfoldable pub spaced : ℕ → List ℕ → ℕ
spaced c after = if is_mark c && digit_follows after then 32 else c

-- a text begins with 0x before one pair of digits
unfoldable pub is_prefixed : List ℕ → Bool
is_prefixed [] = false
is_prefixed (c ∷ []) = false
is_prefixed (c ∷ d ∷ after) = ((c == 48) && (d == 120)) && not (begins_with_digit (drop 2 after))

-- what stands between octets
unfoldable pub is_between : ℕ → Bool
is_between c = (c == 32) || is_mark c

-- a list of octets with spaces for the marks between them and without 0x before each, from where an octet may begin
unfoldable pub listed : Bool → List ℕ → List ℕ
listed begins [] = []
listed begins (c ∷ []) = spaced c [] ∷ []
listed begins (c ∷ d ∷ after) =
    if begins && is_prefixed (c ∷ d ∷ after) then listed false after
    else spaced c (d ∷ after) ∷ listed (is_between c) (d ∷ after)

-- the pairs of digits that a list stands for
abbrev pub plain : List ℕ → List ℕ
plain text = listed true text
