-- Items of which those that are too old may be forgotten.
use Rattle.std.proofs.Common.{◌≡◌, ◌∙◌, inl, inr, refl, sym, ap, subst, ℕ, ◌≤◌, Bool, true, false, List, [], ◌∷◌, ◌++◌, Some}
use Rattle.std.specs.Prelude.{slice_get, slice_set}
use Rattle.bus_traffic.proofs.ForgettingLaws.{still_old}
use Rattle.traffic.specs.Seeking.{is_young}
use Rattle.traffic.specs.declared.item.Item.{Item}
use Rattle.world.specs.node_laws.Out.{IsMac}
use Rattle.world.specs.world_log.Growing.{AreFromMacs}
use Rattle.world.proofs.PastLaws.{each_same}
use Rattle.world_past.proofs.EachLaws.{each_get, each_if, each_more, each_on, each_set}
use Rattle.world.specs.Old.{AreTooOld, KeepsItem, KeepsItems}

pub true_false : (b : Bool) → b ≡ true → b ≡ false → ⊥
true_false b t f = cc

pub items_same : {A : Type 0} (now : ℕ) (xs : List (Item A)) → KeepsItems now xs xs
items_same now xs = each_same (KeepsItem now) (λ x. inl refl) xs

item_on : {A : Type 0} (now : ℕ) (i j k : Item A) → KeepsItem now i j → KeepsItem now j k → KeepsItem now i k
item_on now i j k (inl e) (inl f) = inl (f ∙ e)
item_on {A} now i j k (inl e) (inr o) = inr (subst (λ (x : Item A). AreTooOld now x k) e o)
item_on {A} now i j k (inr o) (inl f) = inr (subst (λ (x : Item A). AreTooOld now i x) (sym f) o)
item_on now i j k (inr o) (inr p) =
    inr (record { old = o.old; kept_old = p.kept_old; from = o.from; kept_from = p.kept_from })

pub items_on : {A : Type 0} (now : ℕ) (xs ys zs : List (Item A)) → KeepsItems now xs ys → KeepsItems now ys zs →
    KeepsItems now xs zs
items_on now xs ys zs p q = each_on (KeepsItem now) (KeepsItem now) (KeepsItem now) (item_on now) xs ys zs p q

item_later : {A : Type 0} (now later : ℕ) → now ≤ later → (i j : Item A) → KeepsItem now i j → KeepsItem later i j
item_later now later le i j (inl e) = inl e
item_later now later le i j (inr o) = inr (record {
  old = still_old i.stamp now later le o.old;
  kept_old = still_old j.stamp now later le o.kept_old;
  from = o.from;
  kept_from = o.kept_from;
})

pub items_later : {A : Type 0} (now later : ℕ) (xs ys : List (Item A)) → now ≤ later → KeepsItems now xs ys →
    KeepsItems later xs ys
items_later now later xs ys le p = each_if (KeepsItem now) (KeepsItem later) (item_later now later le) xs ys p

pub items_more : {A : Type 0} (now : ℕ) (xs ys zs : List (Item A)) → KeepsItems now xs ys →
    KeepsItems now (xs ++ zs) (ys ++ zs)
items_more now xs ys zs p = each_more (KeepsItem now) xs ys zs zs p (items_same now zs)

pub items_set : {A : Type 0} (now : ℕ) (xs ys : List (Item A)) (n : ℕ) (i : Item A) → KeepsItems now xs ys →
    KeepsItems now (slice_set xs n i) (slice_set ys n i)
items_set now xs ys n i p = each_set (KeepsItem now) xs ys n i i p (inl refl)

young_one : {A : Type 0} (now n : ℕ) (xs : List (Item A)) (i j : Item A) → slice_get xs n ≡ Some i →
    is_young now j ≡ true → KeepsItem now i j → slice_get xs n ≡ Some j
young_one now n xs i j there young (inl e) = there ∙ ap (λ (x : Item _). Some x) (sym e)
young_one now n xs i j there young (inr o) = absurd (true_false (is_young now j) young o.kept_old)

-- an item that may still be heard is kept as it is
pub young_there : {A : Type 0} (now : ℕ) (xs ys : List (Item A)) (n : ℕ) (j : Item A) → KeepsItems now xs ys →
    slice_get ys n ≡ Some j → is_young now j ≡ true → slice_get xs n ≡ Some j
young_there now xs ys n j p there young = let k = each_get (KeepsItem now) xs ys n j p there in
    young_one now n xs k.one j k.there young k.keeps

one_from : {A : Type 0} (now : ℕ) (i j : Item A) → KeepsItem now i j → IsMac j.from → IsMac i.from
one_from now i j (inl e) from = subst (λ (x : Item _). IsMac x.from) e from
one_from now i j (inr o) from = o.from

-- all are from link addresses where those that are kept are
pub all_from : {A : Type 0} (now : ℕ) (xs ys : List (Item A)) → KeepsItems now xs ys → AreFromMacs ys → AreFromMacs xs
all_from now [] [] p all = tt
all_from now [] (y ∷ ys) p all = absurd p
all_from now (x ∷ xs) [] p all = absurd p
all_from now (x ∷ xs) (y ∷ ys) p all = (one_from now x y p.0 all.0, all_from now xs ys p.1 all.1)
