-- What a node does in what is kept it does in the whole.
use Rattle.std.proofs.Common.{◌≡◌, ◌∙◌, refl, sym, ap, subst, arith, ℕ, ◌+◌, List, [], ◌++◌, length}
use Rattle.std.proofs.lemmas.List.{append_assoc, length-append}
use Rattle.std.specs.Prelude.{slice_set}
use Rattle.buses.specs.Puts.{put_on}
use Rattle.inside.specs.Inside.{Said}
use Rattle.world.specs.Acting.{Acts}
use Rattle.world.specs.World.{WorldState}
use Rattle.world.specs.site_node.Node.{NodeState, home_of, node_places}
use Rattle.world.specs.site_node.Steps.{NodeTold}
use Rattle.world.specs.site_ports.Ports.{Then}
use Rattle.world.specs.world_log.Growing.{WorldHistory, frames_at, items_at, told_in}
use Rattle.world.proofs.PastLaws.{buses_same}
use Rattle.world_past.proofs.BusLaws.{buses_on, buses_put}
use Rattle.world_past.proofs.EachLaws.{each_length}
use Rattle.world_past.proofs.ItemLaws.{items_more, items_on, items_same}
use Rattle.world_past.proofs.KeyLaws.{keys_on, keys_same, tells_behind}
use Rattle.world.specs.Keeping.{Keeps}
use Rattle.buses.specs.Forgetting.{KeepsBuses}
use Rattle.world.specs.Old.{KeepsItem, KeepsItems}

-- a world keeps itself
pub keeps_all : {A : Type 0} (w : WorldState A) → Keeps [] w w
keeps_all w = record {
  site = refl;
  moment = refl;
  nodes = refl;
  items = items_same w.moment w.items;
  buses = buses_same w.moment w.buses;
  keys = keys_same w.keys;
  history = refl;
  first_entry = let none : w.first_entry ≡ w.first_entry + 0 = omega arith in none;
  gone = [];
  said = refl;
  first_said = let none : w.first_said ≡ w.first_said + 0 = omega arith in none;
}

-- what is kept of what is kept is kept of the whole
pub keeps_on : {A : Type 0} (past : WorldHistory A) (u v k : WorldState A) → Keeps past u v → Keeps [] v k →
    Keeps past u k
keeps_on {A} past u v k p q = record {
  site = q.site ∙ p.site;
  moment = q.moment ∙ p.moment;
  nodes = q.nodes ∙ p.nodes;
  items = items_on u.moment u.items v.items k.items p.items
      (subst (λ (m : ℕ). KeepsItems m v.items k.items) p.moment q.items);
  buses = buses_on u.moment u.buses v.buses k.buses p.buses
      (subst (λ (m : ℕ). KeepsBuses m v.buses k.buses) p.moment q.buses);
  keys = keys_on u.keys v.keys k.keys p.keys q.keys;
  history = p.history ∙ ap (λ (h : WorldHistory A). past ++ h) q.history;
  first_entry = let none : v.first_entry + 0 ≡ v.first_entry = omega arith in q.first_entry ∙ none ∙ p.first_entry;
  gone = p.gone ++ q.gone;
  said = p.said ∙ ap (λ (l : List Said). p.gone ++ l) q.said ∙ sym (append_assoc p.gone q.gone k.said);
  first_said =
      let all : length (p.gone ++ q.gone) ≡ length p.gone + length q.gone = length-append p.gone q.gone in
      omega (arith, p.first_said, q.first_said, all);
}

-- what is kept, in the words of the whole
abbrev pub over : {A : Type 0} → (w k : WorldState A) → WorldState A
over w k = record w {
  first_item = k.first_item;
  items = k.items;
  buses = k.buses;
  keys = k.keys;
  first_entry = k.first_entry;
  history = k.history;
  first_said = k.first_said;
  said = k.said;
}

pub over_is : {A : Type 0} (past : WorldHistory A) (w k : WorldState A) → Keeps past w k → k ≡ over w k
over_is {A} past w k p =
    ap (λ s. record k { site = s }) p.site
    ∙ ap (λ (m : ℕ). record k { site = w.site; moment = m }) p.moment
    ∙ ap (λ (ns : List (NodeState A)). record k { site = w.site; moment = w.moment; nodes = ns }) p.nodes

-- a world in which a node did this
abbrev done : {A : Type 0} → (u : WorldState A) → (place : ℕ) → (n next : NodeState A) → NodeTold A → List Said →
    WorldState A
done u place n next t fresh = record u {
  nodes = slice_set u.nodes place next;
  items = u.items ++ items_at u.moment (node_places n) t.out;
  buses = put_on u.moment (length u.items) (frames_at (node_places n) t.out) u.buses;
  history = told_in (home_of n.part) u.moment u.keys t.told u.history;
  said = u.said ++ fresh;
}

module _ {A : Type 0} (past : WorldHistory A) (w k : WorldState A) (p : Keeps past w k) where
  done_keeps : (place : ℕ) (n next : NodeState A) (t : NodeTold A) (fresh : List Said) →
      Keeps past (done w place n next t fresh) (done (over w k) place n next t fresh)
  done_keeps place n next t fresh = record {
    site = refl;
    moment = refl;
    nodes = refl;
    items = items_more w.moment w.items k.items (items_at w.moment (node_places n) t.out) p.items;
    buses = subst (λ (count : ℕ). KeepsBuses w.moment
        (put_on w.moment (length w.items) (frames_at (node_places n) t.out) w.buses)
        (put_on w.moment count (frames_at (node_places n) t.out) k.buses))
        (sym (each_length (KeepsItem w.moment) w.items k.items p.items))
        (buses_put w.moment (length w.items) (frames_at (node_places n) t.out) w.buses k.buses p.buses);
    keys = p.keys;
    history = tells_behind w.moment past w.keys k.keys p.keys (home_of n.part) t.told w.history k.history p.history;
    first_entry = p.first_entry;
    gone = p.gone;
    said = ap (λ (l : List Said). l ++ fresh) p.said ∙ append_assoc p.gone k.said fresh;
    first_said = p.first_said;
  }

  -- a node acts
  pub acts_keep : (l : WorldState A) (place : ℕ) (n next : NodeState A) (t : NodeTold A) →
      Acts (over w k) l place n next t → Then (λ (v : WorldState A). Acts w v place n next t) (λ v. Keeps past v l)
  acts_keep l place n next t a = record {
    middle = done w place n next t a.fresh;
    first = record { there = a.there; fresh = a.fresh; insides = a.insides; sayer = a.sayer; is = refl };
    rest = subst (λ (x : WorldState A). Keeps past (done w place n next t a.fresh) x) (sym a.is)
        (done_keeps place n next t a.fresh);
  }
