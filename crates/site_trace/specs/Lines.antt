-- The lines of what was put out.
use Rattle.std.specs.Prelude.{ℕ, ◌+◌, List, [], ◌∷◌, ◌++◌, codes, flat_map, if◌then◌else◌, nat_lt}
use Rattle.std.specs.Fmt.{decimal}
use Rattle.std.specs.List.{join_with_byte}
use Rattle.bus_traffic.specs.Bus.{BusState}
use Rattle.bus_traffic.specs.declared.sending.Recent.{Recent}
use Rattle.bus_traffic.specs.declared.sending.Sending.{Sending}
use Rattle.npdu.specs.declared.mac.Mac.TheVariants.{One}
use Rattle.site_parts.specs.declared.parts.Station.{Station}
use Rattle.traffic.specs.declared.item.Item.{Item}
use Rattle.words.specs.printing.Printed.{octets_text}
use Rattle.site_trace.specs.Naming.{name_at}

-- words, with a space between each and the next
abbrev pub spaced : List (List ℕ) → List ℕ
spaced words = join_with_byte 32 words

-- a line with its end
abbrev pub line : List ℕ → List ℕ
line text = text ++ 10 ∷ []

-- an item that was put out, with its number (J.2)
unfoldable pub item_text : {A : Type 0} → List (Station A) → ℕ → Item A → ℕ → List ℕ
item_text stations number i moment =
    spaced (decimal moment ∷ codes "item" ∷ decimal number
    ∷ name_at stations (record { net = i.net; mac = i.from }) ∷ name_at stations (record { net = i.net; mac = i.to })
    ∷ octets_text i.octets ∷ [])

-- items, each on a line, the first of which has this number
abbrev pub items_text : {A : Type 0} → List (Station A) → ℕ → List (Item A) → ℕ → List ℕ
items_text stations number [] moment = []
items_text stations number (i ∷ is) moment =
    line (item_text stations number i moment) ++ items_text stations (number + 1) is moment

-- a frame that was put out on the bus of a number, with its own number (9.3)
unfoldable pub frame_text : {A : Type 0} → List (Station A) → (net : ℕ) → Sending A → ℕ → List ℕ
frame_text stations net s moment =
    spaced (decimal moment ∷ codes "frame" ∷ decimal s.place.frames ∷ decimal net
    ∷ name_at stations (record { net = net; mac = One s.sender }) ∷ octets_text s.octets ∷ [])

-- .. on a line, if it was put out behind so many
abbrev pub text_behind : {A : Type 0} → List (Station A) → (before net : ℕ) → ℕ → Recent A → List ℕ
text_behind stations before net moment r =
    if nat_lt r.sending.place.frames before then [] else line (frame_text stations net r.sending moment)

-- .. each of a bus that may still be heard
abbrev pub bus_text : {A : Type 0} → List (Station A) → (before : ℕ) → ℕ → BusState A → List ℕ
bus_text stations before moment b = flat_map (text_behind stations before b.net moment) b.recent

-- .. of all buses
abbrev pub frames_text : {A : Type 0} → List (Station A) → (before : ℕ) → List (BusState A) → ℕ → List ℕ
frames_text stations before bs moment = flat_map (bus_text stations before moment) bs
