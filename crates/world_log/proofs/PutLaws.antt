-- What goes out over places, one after another: what stands behind what went out before.
use Rattle.std.proofs.Common.{◌≡◌, ◌∙◌, refl, sym, ap, arith, ℕ, zero, suc, ◌+◌, ◌-◌, ◌≤◌, List, [], ◌∷◌, ◌++◌, length, Option, Some, None, take}
use Rattle.std.proofs.lemmas.List.{append_assoc, length-append}
use Rattle.std.specs.Prelude.{option_to_list, slice_get}
use Rattle.std.specs.List.{flat_map}
use Rattle.link.specs.Step.{PortSent}
use Rattle.link.specs.declared.step.Sent.{Sent}
use Rattle.npdu.specs.declared.mac.Mac.{Mac}
use Rattle.npdu.specs.declared.mac.Mac.TheVariants.{One, Six}
use Rattle.npdu.specs.declared.mac.Station.{Station}
use Rattle.traffic.specs.declared.frame.FramePut.{FramePut}
use Rattle.traffic.specs.declared.item.Item.{Item}
use Rattle.world_log.specs.Growing.{frame_from, frame_over, frames_at, frames_behind, item_from, item_over, items_at}

-- all of a list is its own beginning, and that of a longer one
pub take_all : {X : Type 0} (xs : List X) → take (length xs) xs ≡ xs
take_all [] = refl
take_all (x ∷ xs) = ap (λ (ys : List _). x ∷ ys) (take_all xs)

pub take_front : {X : Type 0} (xs ys zs : List X) → zs ≡ xs ++ ys → take (length xs) zs ≡ xs
take_front {X} xs ys zs e = ap (λ (l : List X). take (length xs) l) e ∙ front xs
  where
    front : (l : List X) → take (length l) (l ++ ys) ≡ l
    front [] = refl
    front (x ∷ l) = ap (λ (m : List X). x ∷ m) (front l)

-- the beginning of a longer list is that of a longer one still
pub take_on : {X : Type 0} (xs ys zs : List X) → take (length xs) ys ≡ xs → take (length ys) zs ≡ ys →
    take (length xs) zs ≡ xs
take_on [] ys zs e f = refl
take_on (x ∷ xs) [] zs e f = absurd (cc e)
take_on (x ∷ xs) (y ∷ ys) [] e f = absurd (cc f)
take_on {X} (x ∷ xs) (y ∷ ys) (z ∷ zs) e f =
    let first : z ≡ x = cc in
    let rest : take (length xs) ys ≡ xs = cc in
    let more : take (length ys) zs ≡ ys = cc in
    let deep : take (length xs) zs ≡ xs = take_on xs ys zs rest more in cc

pub ruleset put_rules = (take_all, take_front, take_on)

-- whenever it goes out, it is as many items
from_count : {A : Type 0} (now net : ℕ) (from : Mac) (s : Sent A) →
    length (item_from now net from s ++ []) ≡ length (item_from 0 net from s ++ [])
from_count now net (One octet) s = refl
from_count now net (Six octets) s = refl

at_count : {A : Type 0} (now : ℕ) (at : Option Station) (s : Sent A) →
    length (flat_map (λ x. item_from now x.net x.mac s) (option_to_list at))
    ≡ length (flat_map (λ x. item_from 0 x.net x.mac s) (option_to_list at))
at_count now None s = refl
at_count now (Some x) s = from_count now x.net x.mac s

over_count : {A : Type 0} (now : ℕ) (places : List Station) (o : PortSent A) →
    length (item_over now places o) ≡ length (item_over 0 places o)
over_count now places o = at_count now (slice_get places o.port) o.sent

module _ {A : Type 0} (now : ℕ) (places : List Station) (o : PortSent A) (left rest : List (PortSent A))
    (is : left ≡ o ∷ rest) (items new : List (Item A)) (item_put : new ≡ items ++ item_over now places o) where
  -- once one of them went out, the items of the rest stand behind it
  pub items_further : (all : List (Item A)) → items ++ items_at now places left ≡ all →
      new ++ items_at now places rest ≡ all
  items_further all e =
      ap (λ (is : List (Item A)). is ++ items_at now places rest) item_put
      ∙ append_assoc items (item_over now places o) (items_at now places rest)
      ∙ ap (λ (os : List (PortSent A)). items ++ items_at now places os) (sym is) ∙ e

  longer : length new ≡ length items + length (item_over 0 places o)
  longer = ap (λ (is : List (Item A)). length is) item_put ∙ length-append items (item_over now places o)
      ∙ ap (λ (n : ℕ). length items + n) (over_count now places o)

  pub still_first : (first : ℕ) → first ≤ length items → first ≤ length new
  still_first first le = omega (arith, longer, le)

  -- .. and the frames
  pub frames_further : (first : ℕ) → first ≤ length items → (frames more all : List (FramePut A)) →
      more ≡ frames ++ frame_over (length items - first) places o →
      frames ++ frames_behind (length items - first) places left ≡ all →
      more ++ frames_behind (length new - first) places rest ≡ all
  frames_further first le frames more all fresh e =
      let count : length new - first ≡ (length items - first) + length (item_over 0 places o) =
      omega (arith, longer, le) in
      ap (λ (fs : List (FramePut A)). fs ++ frames_behind (length new - first) places rest) fresh
      ∙ ap (λ (n : ℕ). (frames ++ frame_over (length items - first) places o) ++ frames_behind n places rest) count
      ∙ append_assoc frames (frame_over (length items - first) places o)
      (frames_behind ((length items - first) + length (item_over 0 places o)) places rest)
      ∙ ap (λ (os : List (PortSent A)). frames ++ frames_behind (length items - first) places os) (sym is) ∙ e
