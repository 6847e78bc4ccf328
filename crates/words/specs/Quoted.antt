-- Words in which texts stand in quotes, as `write 40:1 28 "Hello"`.
use Rattle.std.specs.Prelude.{◌≡◌, ◌⊎◌, ℕ, ◌==◌, ◌||◌, ◌&&◌, nat_lt, if◌then◌else◌, Bool, List, [], ◌∷◌, ◌++◌}
use Rattle.std.specs.Prelude.{Option, Some, None, codes}
use Rattle.std.specs.List.{ends_with}
use Rattle.std.specs.Str.{IsUtf8}
use Rattle.primitives.specs.Sound.{IsSoundRequest}
use Rattle.primitives.specs.declared.plain_data.Request.{Request}
use Rattle.printing.specs.Printed.{pair_of}
use Rattle.words.specs.declared.quoted.Place.{Place}
use Rattle.words.specs.declared.quoted.Place.TheVariants.{Outside, Begun, Inside, Escaped, HighDigit, LowDigit}
use Rattle.words.specs.NoRequests.{HasSingleValues}
use Rattle.words.specs.Requests.{SaysRequest}

-- a hexadecimal digit of either case
abbrev pub is_digit : ℕ → Bool
is_digit c = (nat_lt 47 c && nat_lt c 58) || (nat_lt 64 c && nat_lt c 71) || (nat_lt 96 c && nat_lt c 103)

-- the word that stands before a text's octets, where the words before it don't end with it
abbrev pub kind_before : List ℕ → List ℕ
kind_before said = if ends_with (λ a b. a == b) said (codes "text ") then [] else codes "text "

-- a character of a text in quotes: its end, the beginning of an escape, or itself
abbrev pub in_quotes : List ℕ → ℕ → Option (List ℕ × Place)
in_quotes said c =
    if c == 34 then Some (said, Outside)
    else if c == 92 then Some (said, Escaped)
    else Some (said ++ pair_of c, Inside)

-- a character behind what is said so far: a quote begins a text and ends it; in a text a backslash stands before a
-- quote, a backslash, or `x` and two hexadecimal digits
abbrev pub with_next : List ℕ → Place → ℕ → Option (List ℕ × Place)
with_next said Outside c = if c == 34 then Some (said ++ kind_before said, Begun) else Some (said ++ c ∷ [], Outside)
with_next said Begun c = if c == 34 then Some (said ++ codes "-", Outside) else in_quotes said c
with_next said Inside c = in_quotes said c
with_next said Escaped c =
    if (c == 34) || (c == 92) then Some (said ++ pair_of c, Inside)
    else if c == 120 then Some (said, HighDigit) else None
with_next said HighDigit c = if is_digit c then Some (said ++ c ∷ [], LowDigit) else None
with_next said LowDigit c = if is_digit c then Some (said ++ c ∷ [], Inside) else None

-- the same, where what stands before is no text that is spelled wrong
abbrev pub after : Option (List ℕ × Place) → ℕ → Option (List ℕ × Place)
after None c = None
after (Some at) c = with_next at.0 at.1 c

-- what is said at the end, where no text is left open
abbrev pub at_end : List ℕ → Place → Option (List ℕ)
at_end said Outside = Some said
at_end said place = None

-- .. where it isn't spelled wrong
abbrev pub ended : Option (List ℕ × Place) → Option (List ℕ)
ended None = None
ended (Some at) = at_end at.0 at.1

-- all characters, one after another
abbrev pub with_all : Option (List ℕ × Place) → List ℕ → Option (List ℕ)
with_all at [] = ended at
with_all at (c ∷ cs) = with_all (after at c) cs

-- the words with `text` and its octets in place of each text in quotes; none where a text doesn't end, or has another
-- escape
abbrev pub unquoted : List ℕ → Option (List ℕ)
unquoted words = with_all (Some ([], Outside)) words

-- the words say the request, in which texts may stand in quotes
pub record SaysQuoted {A : Type 0} (words : List ℕ) (request : Request A) : Type 0 where
  pub plain : List ℕ
  pub unquotes : unquoted words ≡ Some plain
  pub readable : IsUtf8 plain
  pub said : SaysRequest plain request

-- they say none
pub record NoQuoted (A : Type 0) (words : List ℕ) : Type 0 where
  pub none : (request : Request A) → SaysQuoted words request → ⊥

-- they say one of which a write has no value or several, or one without a spelling
pub record SaysQuotedUnfit (A : Type 0) (words : List ℕ) : Type 0 where
  pub request : Request A
  pub said : SaysQuoted words request
  pub unfit : (HasSingleValues request → ⊥) ⊎ (IsSoundRequest request → ⊥)
