-- What a text says, and that it says nothing else.
use Rattle.std.proofs.Common.{inl, inr, ℕ, List}
use Rattle.words.specs.HexText.{NoHex, OnlyHex, SpellsHex}
use Rattle.octet_texts.specs.Dumps.{NoDump, OnlyDump}
use Rattle.octet_texts.specs.Lists.{plain}
use Rattle.octet_texts.specs.Says.{OnlySays, SaysNone}

-- a text that spells octets says them alone
pub spelled_says : (text octets : List ℕ) → SpellsHex text octets → OnlyHex text octets → OnlySays text octets
spelled_says text octets h o = record {
  only = λ other s. elim s [ inl w ↦ o.only other w | inr w ↦ elim w [ inl l ↦ absurd (l.0.none octets h) | inr d ↦ absurd (d.0.none octets h) ] ];
}

-- a list says what its pairs spell
pub list_says : (text octets : List ℕ) → NoHex text → SpellsHex (plain text) octets → OnlyHex (plain text) octets → OnlySays text octets
list_says text octets n h o = record {
  only = λ other s. elim s [ inl w ↦ absurd (n.none other w) | inr w ↦ elim w [ inl l ↦ o.only other l.1 | inr d ↦ absurd (d.1.0.none octets h) ] ];
}

-- a dump says its octets
pub dump_says : (text octets : List ℕ) → NoHex text → NoHex (plain text) → OnlyDump text octets → OnlySays text octets
dump_says text octets n m o = record {
  only = λ other s. elim s [ inl w ↦ absurd (n.none other w) | inr w ↦ elim w [ inl l ↦ absurd (m.none other l.1) | inr d ↦ o.only other d.1.1 ] ];
}

-- and none is said where none of these is
pub says_none : (text : List ℕ) → NoHex text → NoHex (plain text) → NoDump text → SaysNone text
says_none text n m o = record {
  none = λ other s. elim s [ inl w ↦ n.none other w | inr w ↦ elim w [ inl l ↦ m.none other l.1 | inr d ↦ o.none other d.1.1 ] ];
}

pub ruleset says_laws = (spelled_says, list_says, dump_says, says_none)
