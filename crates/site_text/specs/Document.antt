-- Texts that are documents, and why others have no parts.
use Rattle.std.specs.Prelude.{List, ℕ, IsSome}
use Rattle.std.specs.Str.{IsUtf8}
use Rattle.toml.specs.Parse.{parse_document}
use Rattle.site_text.specs.declared.unread.NoParts.{NoParts}
use Rattle.site_text.specs.declared.unread.NoParts.TheVariants as why

-- the text is UTF-8 and a TOML document
pub record IsDocument (text : List ℕ) : Type 0 where
  pub utf8 : IsUtf8 text
  pub parsed : IsSome (parse_document text)

-- a text is refused as no document where it is none, and for a key where it is one
abbrev pub IsCause : {A : Type 0} → List ℕ → NoParts A → Type 0
IsCause text why.Memory = Unit {0}
IsCause text (why.Document error) = IsDocument text → ⊥
IsCause text (why.Key key) = IsDocument text
