-- What is printed is what the device responds.
use Rattle.std.proofs.Common.{ℕ, List, Option}
use Rattle.std.specs.Io.KnownBytes.{Appends}
use Rattle.device.specs.Device.{DeviceState}
use Rattle.console.specs.Answer.{printed, sender, SomeResponse, PrintsAnswer}
use Rattle.words.specs.HexText.{SpellsHex, OnlyHex}
use Rattle.console.specs.Respond.{Responds}

pub some_response : {A : Type 0} (datagram : List ℕ) (device left : DeviceState A) (said : List (List ℕ)) → Responds sender datagram device left said →
    SomeResponse datagram device said
some_response datagram device left said r = record { left = left; responds = r }

pub prints_answer : {A : Type 0} (device : DeviceState A) (text : List ℕ) (old new : Option (List ℕ)) (datagram : List ℕ) (said : List (List ℕ)) →
    SpellsHex text datagram → OnlyHex text datagram → SomeResponse datagram device said → Appends old new (printed said) → PrintsAnswer device text old new
prints_answer device text old new datagram said spelled only response appended =
    record { datagram = datagram; said = said; spelled = spelled; only = only; response = response; appended = appended }
