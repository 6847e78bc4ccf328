use Rattle.std.proofs.Common.{List, ℕ, ◌++◌, length}
use Rattle.words.specs.HexText.{SpellsHex}
use Rattle.words.proofs.HexLaws.{Left}
use Rattle.words.proofs.hex_text.octets_of.Given as goal

abbrev pub invariant-loop-octet : goal.invariant-loop-octet
invariant-loop-octet g l = ((os : List ℕ) → SpellsHex l.rest os → SpellsHex l.text (l.octets.items ++ os)) × Left l.text l.octets.items l.rest

abbrev pub decreases-loop-octet : goal.decreases-loop-octet
decreases-loop-octet g l = length l.rest
