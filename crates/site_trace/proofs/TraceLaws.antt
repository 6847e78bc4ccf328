-- What is printed, one thing after another.
use Rattle.std.proofs.Common.{◌≡◌, ◌∙◌, ◌+◌, ◌<◌, refl, sym, ap, subst, ℕ, List, [], ◌∷◌, ◌++◌, Option, None, Some, drop, append_assoc, get_or, length, map}
use Rattle.std.proofs.lemmas.List.{append-nil, drop_more}
use Rattle.std.specs.Prelude.{flat_map}
use Rattle.std.specs.Io.KnownBytes.{Appends}
use Rattle.site_parts.specs.declared.parts.Station.{Station}
use Rattle.site_trace.specs.Lines.{item_text, items_text, line}
use Rattle.traffic.specs.declared.item.Item.{Item}

-- nothing is appended where nothing is written
pub appends_nothing : (k : Option (List ℕ)) → Appends k k []
appends_nothing None = tt
appends_nothing (Some xs) = sym (append-nil xs)

-- one text behind another
pub appends_more : (old mid new : Option (List ℕ)) (a b : List ℕ) → Appends old mid a → Appends mid new b →
    Appends old new (a ++ b)
appends_more None mid new a b p q = tt
appends_more (Some xs) None new a b p q = absurd p
appends_more (Some xs) (Some ys) None a b p q = absurd q
appends_more (Some xs) (Some ys) (Some zs) a b p q = q ∙ ap (λ (l : List ℕ). l ++ b) p ∙ append_assoc xs a b

-- the text of one before those of what stands behind it
pub texts_from : {X : Type 0} (text : X → List ℕ) (xs : List X) (i : ℕ) (x : X) (old mid new : Option (List ℕ)) →
    i < length xs → x ≡ get_or xs i x → Appends old mid (text x) →
    Appends mid new (flat_map text (drop (i + 1) xs)) → Appends old new (flat_map text (drop i xs))
texts_from {X} text xs i x old mid new lt is p q =
    subst (λ (l : List X). Appends old new (flat_map text l))
    (ap (λ (d : X). d ∷ drop (i + 1) xs) is ∙ sym (drop_more xs i x lt))
    (appends_more old mid new (text x) (flat_map text (drop (i + 1) xs)) p q)

-- the texts of what others stand for
pub texts_of_map : {X Y : Type 0} (text : Y → List ℕ) (of : X → Y) (xs : List X) →
    flat_map text (map of xs) ≡ flat_map (λ x. text (of x)) xs
texts_of_map text of [] = refl
texts_of_map text of (x ∷ xs) = ap (λ (l : List ℕ). text (of x) ++ l) (texts_of_map text of xs)

module _ {A : Type 0} where
  -- an item before those behind it
  pub items_from : (stations : List (Station A)) (number : ℕ) (is : List (Item A)) (i : ℕ) (x : Item A) (moment : ℕ)
      (old mid new : Option (List ℕ)) → i < length is → x ≡ get_or is i x →
      Appends old mid (line (item_text stations number x moment)) →
      Appends mid new (items_text stations (number + 1) (drop (i + 1) is) moment) →
      Appends old new (items_text stations number (drop i is) moment)
  items_from stations number is i x moment old mid new lt same p q =
      subst (λ (l : List (Item A)). Appends old new (items_text stations number l moment))
      (ap (λ (d : Item A). d ∷ drop (i + 1) is) same ∙ sym (drop_more is i x lt))
      (appends_more old mid new (line (item_text stations number x moment))
      (items_text stations (number + 1) (drop (i + 1) is) moment) p q)

pub ruleset trace_rules = (appends_nothing)
