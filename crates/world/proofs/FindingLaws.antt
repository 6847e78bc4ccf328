-- Which node is found, and that it is steady.
use Rattle.std.proofs.Common.{◌≡◌, ◌∙◌, ◌⊎◌, inl, inr, refl, sym, ap, subst, ℕ, false, List, [], ◌∷◌, Option, Some, None}
use Rattle.std.specs.Prelude.{slice_get}
use Rattle.npdu.specs.declared.mac.Station.{Station}
use Rattle.object_model.specs.Objects.{PlainTable}
use Rattle.world_log.specs.site_node.Node.{NodeState}
use Rattle.world_log.specs.site_node.declared.part.Part.{Part}
use Rattle.world_log.specs.site_node.declared.part.Part.TheVariants.{Device, Client, Router, Manager}
use Rattle.site_parts.specs.declared.parts.Parts.{Parts}
use Rattle.tags.specs.declared.fault.Fault.{Fault}
use Rattle.tags.specs.declared.fault.Fault.TheVariants.{Expired, NoSuch}
use Rattle.traffic.specs.Seeking.{is_young}
use Rattle.traffic.specs.declared.item.Item.{Item}
use Rattle.world.proofs.Standing.{all_at, some_same}
use Rattle.world.specs.Laws.{AreSteady, IsSteady}
use Rattle.world.specs.Refusals.{IsNowhere, RefusesItem}
use Rattle.world.specs.Step.{addressee_of}
use Rattle.world.specs.Tables.{HasNoTable, HasNode, HasTable, tables_of}
use Rattle.world.specs.World.{WorldState}
use Rattle.world_sites.specs.Finding.{IsNamed, IsNobody, IsNobodyAt, IsNodeAt}

-- the node at a place is steady
pub steady_there : {A : Type 0} (site : Parts A) (now : ℕ) (ns : List (NodeState A)) (items : List (Item A))
    (place : ℕ) (n : NodeState A) → AreSteady site now ns items → slice_get ns place ≡ Some n → IsSteady site now n
steady_there site now ns items place n steady there = all_at (IsSteady site now) ns place n steady.each there

-- .. at an address
pub steady_at : {A : Type 0} (site : Parts A) (now : ℕ) (ns : List (NodeState A)) (items : List (Item A))
    (x : Station) (place port : ℕ) (n : NodeState A) → AreSteady site now ns items → IsNodeAt x ns place port n →
    IsSteady site now n
steady_at site now ns items x place port n steady at = steady_there site now ns items place n steady at.there

-- an item that isn't there goes to nobody
pub nowhere_missing : {A : Type 0} (number : ℕ) (w : WorldState A) (fault : Fault) → fault ≡ NoSuch →
    slice_get w.items number ≡ None → RefusesItem number w fault
nowhere_missing number w fault e none =
    inl (e, record { none = λ item place port n there at. absurd (let no : None ≡ Some item = sym none ∙ there in cc no) })

pub nowhere_at : {A : Type 0} (number : ℕ) (w : WorldState A) (item : Item A) → slice_get w.items number ≡ Some item →
    IsNobodyAt (addressee_of item) w.nodes → RefusesItem number w NoSuch
nowhere_at number w item there nobody = inl (
  refl,
  record {
    none = λ other place port n is at. nobody.none place port n (subst (λ (i : Item _).
        IsNodeAt (addressee_of i) w.nodes place port n) (some_same other item (sym is ∙ there)) at);
  },
)

pub too_old : {A : Type 0} (number : ℕ) (w : WorldState A) (item : Item A) (place port : ℕ) (n : NodeState A)
    (fault : Fault) → fault ≡ Expired → slice_get w.items number ≡ Some item →
    IsNodeAt (addressee_of item) w.nodes place port n → is_young w.moment item ≡ false → RefusesItem number w fault
too_old number w item place port n fault e there at old = inr (inl (
  e,
  record {
    goes = record { item = item; place = place; port = port; n = n; there = there; addressee = at };
    old = old;
  },
))

pub ruleset finding_rules = (steady_there, steady_at, nowhere_missing, nowhere_at, too_old)

pub has_node : {A : Type 0} (name : List ℕ) (w : WorldState A) (place : ℕ) (n : NodeState A) →
    IsNamed name w.nodes place n → HasNode name w n
has_node name w place n named = record { place = place; named = named }

pub ruleset node_rules = (has_node)

-- the node of a name is one alone
one_named : {A : Type 0} (name : List ℕ) (ns : List (NodeState A)) (p q : ℕ) (n m : NodeState A) →
    IsNamed name ns p n → IsNamed name ns q m → n ≡ m
one_named name ns p q n m g h =
    let same : p ≡ q = some_same p q (sym g.named ∙ h.named) in
    some_same n m (sym g.there ∙ ap (λ (k : ℕ). slice_get ns k) same ∙ h.there)

-- a node without objects gives none under its name
pub no_table : {A : Type 0} (name : List ℕ) (w : WorldState A) (place : ℕ) (n : NodeState A) →
    IsNamed name w.nodes place n → tables_of n.part ≡ [] → HasNoTable name w
no_table {A} name w place n named none = record {
  none = λ table h. let same : h.n ≡ n = one_named name w.nodes h.place place h.n n h.named named in
      let empty : tables_of h.n.part ≡ [] = ap (λ (m : NodeState A). tables_of m.part) same ∙ none in
      let no : [] ≡ table ∷ [] = sym empty ∙ h.table_is in absurd (cc no);
}

pub nobody_named : {A : Type 0} (name : List ℕ) (w : WorldState A) → IsNobody name w.nodes → HasNoTable name w
nobody_named name w nobody = record { none = λ table h. nobody.none h.place h.n h.named }

pub ruleset table_rules = (no_table, nobody_named)
