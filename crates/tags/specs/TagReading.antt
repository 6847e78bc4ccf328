-- For private functions and proofs alone: reading one tag from left to right as a function, with the first fault that
-- is met.
-- What a tag is stands in Tag.antt; public contracts cite that one.
use Rattle.std.specs.Prelude.{◌≡◌, ℕ, ◌/◌, ◌%◌, List, [], ◌∷◌, length, take, drop, Result, Ok, Err, nat_lt, ◌==◌}
use Rattle.std.specs.Prelude.{if◌then◌else◌}
use Rattle.byteorder.specs.Endian.{big_number}
use Rattle.tags.specs.declared.tag.Class.{Class}
use Rattle.tags.specs.declared.tag.Class.TheVariants.{Application, Context}
use Rattle.tags.specs.declared.fault.Fault.{Fault}
use Rattle.tags.specs.declared.fault.Fault.TheVariants.{Short, BadTag, BadLength}
use Rattle.tags.specs.Tag.{null, boolean, contents, opening, closing, PlainTag}

-- what is read first, then what stands behind it
infixl 10 ◌>>=◌
abbrev pub ◌>>=◌ : {A B : Type 0} → Result A Fault → (A → Result B Fault) → Result B Fault
(Ok x) >>= f = f x
(Err e) >>= f = Err e

-- What a function returned, seen by view, is what reading gives.
abbrev pub Gives : {X Y : Type 0} → (X → Y) → Result X Fault → Result Y Fault → Type 0
Gives view (Ok x) read = read ≡ Ok (view x)
Gives view (Err e) read = read ≡ Err e

-- the octet of an extended number
abbrev pub extended_at : List ℕ → Result (ℕ × List ℕ) Fault
extended_at [] = Err Short
extended_at (n ∷ rest) = if nat_lt n 15 then Err BadTag else (if nat_lt n 255 then Ok (n, rest) else Err BadTag)

-- the number of a tag (20.2.1.2)
unfoldable pub number_at : ℕ → List ℕ → Result (ℕ × List ℕ) Fault
number_at number_bits rest = if nat_lt number_bits 15 then Ok (number_bits, rest) else extended_at rest

-- a number of this many octets
abbrev pub sized_at : ℕ → List ℕ → Result (ℕ × List ℕ) Fault
sized_at n rest = if nat_lt (length rest) n then Err Short else Ok (big_number n rest, drop n rest)

-- a length of more than the initial octet (20.2.1.3.1)
abbrev pub long_length_at : List ℕ → Result (ℕ × List ℕ) Fault
long_length_at [] = Err Short
long_length_at (n ∷ rest) = if nat_lt n 254 then Ok (n, rest)
    else (if n == 254 then sized_at 2 rest else sized_at 4 rest)

-- the length of the contents (20.2.1.3.1)
unfoldable pub length_at : ℕ → List ℕ → Result (ℕ × List ℕ) Fault
length_at low rest = if nat_lt low 5 then Ok (low, rest) else long_length_at rest

-- a tag with contents
unfoldable pub contents_at : Class → ℕ → ℕ → List ℕ → Result (PlainTag × List ℕ) Fault
contents_at class number low rest = do
  len ← length_at low rest
  if nat_lt (length len.1) len.0 then Err Short else Ok (
    record {
      class = class;
      number = number;
      content = contents (take len.0 len.1);
    },
    drop len.0 len.1,
  )

-- a tag of class application
unfoldable pub application_at : ℕ → ℕ → List ℕ → Result (PlainTag × List ℕ) Fault
application_at number_bits low rest =
    if nat_lt 5 low then Err BadTag
    else (if number_bits == 0 then (if low == 0 then Ok (
      record { class = Application; number = 0; content = null },
      rest,
    ) else Err BadLength)
    else (if number_bits == 1 then (if nat_lt low 2 then Ok (
      record {
        class = Application;
        number = 1;
        content = boolean (low == 1);
      },
      rest,
    ) else Err BadLength)
    else (number_at number_bits rest >>= λ n. contents_at Application n.0 low n.1)))

-- a tag of class context
unfoldable pub context_at : ℕ → ℕ → List ℕ → Result (PlainTag × List ℕ) Fault
context_at number_bits low rest = do
  n ← number_at number_bits rest
  if low == 6 then Ok (record { class = Context; number = n.0; content = opening }, n.1)
      else (if low == 7 then Ok (record { class = Context; number = n.0; content = closing }, n.1)
      else contents_at Context n.0 low n.1)

-- the tag at the front, and what follows it
unfoldable pub tag_at : List ℕ → Result (PlainTag × List ℕ) Fault
tag_at [] = Err Short
tag_at (first ∷ rest) = if first / 8 % 2 == 0 then application_at (first / 16) (first % 8) rest
    else context_at (first / 16) (first % 8) rest
