-- Who sent the datagrams that were put out.
use Rattle.std.specs.Prelude.{◌≡◌, ◌≤◌, ℕ, Bool, true, List, ◌++◌, length, map, take}
use Rattle.std.specs.List.{AllByRecursion, list_any}
use Rattle.npdu.specs.Mac.{same_mac}
use Rattle.npdu.specs.declared.mac.Mac.{Mac}
use Rattle.traffic.specs.declared.item.Item.{Item}

-- who sent each of these items, in their order (J.2)
abbrev pub senders_of : {A : Type 0} → List (Item A) → List Mac
senders_of items = map (λ i. i.from) items

-- an address is one of these
abbrev pub is_among : Mac → List Mac → Bool
is_among m all = list_any (λ x. same_mac x m) all

-- known: who sent anything among the first `seen` items
pub record SendersState : Type 0 where
  pub known : List Mac
  pub seen : ℕ

-- each of these first senders is known
pub record AreKnown (s : SendersState) (senders : List Mac) : Type 0 where
  pub seen : s.seen ≤ length senders
  pub known : AllByRecursion (λ m. is_among m s.known ≡ true) (take s.seen senders)

-- none of these is this one
abbrev pub AreOthers : Mac → List Mac → Type 0
AreOthers from senders = AllByRecursion (λ m. m ≡ from → ⊥) senders

-- there are these senders, and then others
pub record Grows (old new : List Mac) : Type 0 where
  pub more : List Mac
  pub is : new ≡ old ++ more
