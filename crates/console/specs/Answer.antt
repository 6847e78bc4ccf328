-- What `bacsite answer` prints.
use Rattle.std.specs.Prelude.{ℕ, List, [], ◌∷◌, ◌++◌, Option, codes, flat_map}
use Rattle.std.specs.List.{join_with_byte}
use Rattle.std.specs.Io.KnownBytes.{Appends}
use Rattle.npdu.specs.declared.mac.Mac.{Mac}
use Rattle.npdu.specs.declared.mac.Mac.TheVariants.{Six}
use Rattle.device.specs.Device.{DeviceState}
use Rattle.octet_texts.specs.Pairs.{pairs_of}
use Rattle.words.specs.HexText.{SpellsHex, OnlyHex}
use Rattle.console.specs.Respond.{Said, Responds}

-- the text of words: a space between each and the next
abbrev pub text_of : List (List ℕ) → List ℕ
text_of words = join_with_byte 32 words

-- what a writer holds, as far as its type tells
abbrev pub Known : Type 0
Known = Option (List ℕ)

-- what is printed of the datagrams that are said: each on a line, or the word none
abbrev pub printed : Said → List ℕ
printed [] = codes "none\n"
printed (d ∷ ds) = flat_map (λ octets. pairs_of octets ++ 10 ∷ []) (d ∷ ds)

-- the link address that the datagram comes from: 127.0.0.1:47809
abbrev pub sender : Mac
sender = Six (127 ∷ 0 ∷ 0 ∷ 1 ∷ 186 ∷ 193 ∷ [])

-- the device responds to a datagram from there, and is something then
pub record SomeResponse {A : Type 0} (datagram : List ℕ) (device : DeviceState A) (said : Said) : Type 0 where
  pub left : DeviceState A
  pub responds : Responds sender datagram device left said

-- the text spells a datagram and no other, and what the device says to it is printed
pub record PrintsAnswer {A : Type 0} (device : DeviceState A) (text : List ℕ) (old new : Known) : Type 0 where
  pub datagram : List ℕ
  pub said : Said
  pub spelled : SpellsHex text datagram
  pub only : OnlyHex text datagram
  pub response : SomeResponse datagram device said
  pub appended : Appends old new (printed said)
