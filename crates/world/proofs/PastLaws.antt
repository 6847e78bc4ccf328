-- What is left of a world where entries are handed out, and where it forgets, is kept of it.
use Rattle.std.proofs.Common.{◌≡◌, ◌∙◌, ◌⊎◌, refl, sym, ap, subst, arith, inl, inr, false, ℕ, ◌+◌, ◌≤◌, List, [], ◌∷◌, ◌++◌, drop, length, Result, Ok, Err, OnErr, OnOk}
use Rattle.std.proofs.lemmas.List.{length-map, map-append}
use Rattle.bus_traffic.specs.Bus.{BusState}
use Rattle.buses.specs.Puts.{BusesState}
use Rattle.inside.specs.Inside.{Said}
use Rattle.site_parts.specs.declared.parts.Parts.{Parts}
use Rattle.traffic.specs.Recent.{IsForgotten, KeepsRecent}
use Rattle.traffic.specs.Seeking.{is_young}
use Rattle.traffic.specs.declared.item.Item.{Item}
use Rattle.world.proofs.ActingLaws.{seen}
use Rattle.world.specs.Keeping as past
use Rattle.world.specs.Keeping.{Keeps, handed_out}
use Rattle.world.specs.Laws.{AreSteady}
use Rattle.bus_traffic.specs.Forgetting.{KeepsBus, KeepsEach}
use Rattle.buses.proofs.ForgetLaws.{left_keeps}
use Rattle.buses.specs.Forgetting.{ForgetOnEach, KeepsBuses}
use Rattle.world.specs.Old.{KeepsItem, KeepsItems}
use Rattle.world.specs.World.{WorldState}
use Rattle.world_log.specs.Growing.{AreFromMacs}
use Rattle.world_log.specs.Kept.{all_said, said_of}
use Rattle.world_log.specs.Log as log
use Rattle.world_log.specs.Log.{Forgets, LogState}
use Rattle.world_log.specs.declared.saying.SaidMessage.{SaidMessage}
use Rattle.world_log.specs.node_laws.Out.{IsMac}
use Rattle.world_log.specs.site_node.Node.{NodeState}

-- each keeps itself
pub each_same : {X : Type 0} (R : X → X → Type 0) → ((x : X) → R x x) → (xs : List X) → KeepsEach R xs xs
each_same R same [] = tt
each_same R same (x ∷ xs) = (same x, each_same R same xs)

pub bus_same : {A : Type 0} (now : ℕ) (b : BusState A) → KeepsBus now b b
bus_same now b = record { net = refl; ears = refl; known = λ octets. inl refl; recent = refl }

pub buses_same : {A : Type 0} (now : ℕ) (b : BusesState A) → KeepsBuses now b b
buses_same {A} now b = record { each = each_same (KeepsBus {A = A} now) (bus_same now) b.buses; frames = refl }

-- an item from a link address that is kept or forgotten is kept, from a link address
one_kept : {A : Type 0} (now : ℕ) (i j : Item A) → IsMac i.from → (j ≡ i) ⊎ IsForgotten now i j → KeepsItem now i j
one_kept now i j mac (inl e) = inl e
one_kept {A} now i j mac (inr f) = inr (record {
  old = f.old;
  kept_old = subst (λ (x : Item A). is_young now x ≡ false) (sym f.is) f.blank_old;
  from = mac;
  kept_from = subst (λ (x : Item A). IsMac x.from) (sym f.is) tt;
})

mac_kept : {A : Type 0} (now : ℕ) (i j : Item A) → IsMac i.from → (j ≡ i) ⊎ IsForgotten now i j → IsMac j.from
mac_kept {A} now i j mac (inl e) = subst (λ (x : Item A). IsMac x.from) (sym e) mac
mac_kept {A} now i j mac (inr f) = subst (λ (x : Item A). IsMac x.from) (sym f.is) tt

-- .. each of these
pub items_kept : {A : Type 0} (now : ℕ) (is js : List (Item A)) → AreFromMacs is → KeepsRecent now is js →
    KeepsItems now is js
items_kept now [] [] macs k = tt
items_kept now [] (j ∷ js) macs k = absurd k
items_kept now (i ∷ is) [] macs k = absurd k
items_kept now (i ∷ is) (j ∷ js) macs k = (one_kept now i j macs.0 k.0, items_kept now is js macs.1 k.1)

pub macs_kept : {A : Type 0} (now : ℕ) (is js : List (Item A)) → AreFromMacs is → KeepsRecent now is js → AreFromMacs js
macs_kept now [] [] macs k = tt
macs_kept now [] (j ∷ js) macs k = absurd k
macs_kept now (i ∷ is) [] macs k = absurd k
macs_kept now (i ∷ is) (j ∷ js) macs k = (mac_kept now i j macs.0 k.0, macs_kept now is js macs.1 k.1)

module _ {A : Type 0} (site : Parts A) (moment : ℕ) (ns : List (NodeState A)) (l0 l1 : LogState A)
    (b0 b1 : BusesState A) (w : WorldState A) (view : seen site moment ns l0 b0 ≡ w) where
  -- all nodes stand where it forgets
  pub forgotten_stands : AreSteady site moment ns l0.items → Forgets moment l0 l1 → AreSteady site moment ns l1.items
  forgotten_stands steady f = record {
    each = steady.each;
    from = macs_kept moment l0.items l1.items steady.from f.items;
    greatest = steady.greatest;
  }

  -- .. and what is left is kept
  pub forgotten_keeps : AreSteady site moment ns l0.items → Forgets moment l0 l1 → ForgetOnEach moment b0 b1 →
      Keeps [] w (seen site moment ns l1 b1)
  forgotten_keeps steady f g = subst (λ (x : WorldState A). Keeps [] x (seen site moment ns l1 b1)) view (record {
    site = refl;
    moment = refl;
    nodes = refl;
    items = items_kept moment l0.items l1.items steady.from f.items;
    buses = left_keeps moment b0 b1 g;
    keys = f.keys;
    history = sym f.history;
    first_entry = let none : l0.first_entry ≡ l0.first_entry + 0 = omega arith in f.first_entry ∙ none;
    gone = all_said f.gone;
    said = ap (λ (ms : List (SaidMessage A)). all_said ms) f.said ∙ map-append (λ m. said_of m) f.gone l1.said;
    first_said = f.first_said
        ∙ ap (λ (n : ℕ). l0.first_said + n) (sym (length-map f.gone (λ m. said_of m)));
  })

  -- .. with all behind what is forgotten
  pub forgotten_so : AreSteady site moment ns l0.items → Forgets moment l0 l1 → ForgetOnEach moment b0 b1 →
      past.Forgets w (seen site moment ns l1 b1)
  forgotten_so steady f g = record {
    keeps = forgotten_keeps steady f g;
    first_item = subst (λ (x : WorldState A). x.first_item ≤ l1.first_item) view f.first_item;
    left = subst (λ (x : WorldState A). drop l1.first_item l1.items ≡ drop l1.first_item x.items) view f.left;
    buses = subst (λ (x : WorldState A). ForgetOnEach x.moment x.buses b1) view g;
  }

module _ {A : Type 0} (site : Parts A) (moment : ℕ) (ns : List (NodeState A)) (l0 l1 : LogState A) (b : BusesState A)
    (w : WorldState A) (view : seen site moment ns l0 b ≡ w) where
  -- entries were handed out, or nothing has changed
  pub handed_so : {R E : Type 0} (r : Result R E) → OnOk r (l1 ≡ log.handed_out l0) →
      OnOk r (seen site moment ns l1 b ≡ handed_out w)
  handed_so (Ok x) e = ap (λ (l : LogState A). seen site moment ns l b) e ∙ ap (λ (x : WorldState A). handed_out x) view
  handed_so (Err x) e = tt

  pub nothing_handed : {R E : Type 0} (r : Result R E) → OnErr r (l1 ≡ l0) → OnErr r (seen site moment ns l1 b ≡ w)
  nothing_handed (Ok x) e = tt
  nothing_handed (Err x) e = ap (λ (l : LogState A). seen site moment ns l b) e ∙ view
