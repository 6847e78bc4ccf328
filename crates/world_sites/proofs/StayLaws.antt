-- A directory leads to where it led, since no node moves.
use Rattle.std.proofs.Common.{◌≡◌, ◌∙◌, refl, sym, ap, ℕ, zero, suc, ◌+◌, Bool, List, [], ◌∷◌, Some}
use Rattle.std.specs.Prelude.{if◌then◌else◌, bytes_eq, is_some, slice_get, slice_set}
use Rattle.npdu.specs.Mac.{same_station}
use Rattle.npdu.specs.declared.mac.Station.{Station}
use Rattle.node_laws.specs.site_node.Node.{NodeState, node_places}
use Rattle.world_sites.specs.Finding.{is_there, place_from, place_of}
use Rattle.world_sites.specs.Laws.{LeadsStill}

place_set : {X : Type 0} (n : ℕ) (test : X → Bool) (xs : List X) (place : ℕ) (x y : X) → slice_get xs place ≡ Some x →
    test y ≡ test x → place_from n test (slice_set xs place y) ≡ place_from n test xs
place_set n test [] place x y there same = refl
place_set n test (z ∷ zs) zero x y there same = let is : z ≡ x = cc in
    ap (λ b. if b then Some n else place_from (n + 1) test zs) (same ∙ ap test (sym is))
place_set n test (z ∷ zs) (suc place) x y there same =
    ap (λ r. if test z then Some n else r) (place_set (n + 1) test zs place x y there same)

-- a node that is at the same places is at the same addresses
there_too : {A : Type 0} (x : Station) (old new : NodeState A) → node_places new ≡ node_places old →
    is_there x new ≡ is_there x old
unfolding is_there
there_too x old new same = ap (λ (ys : List Station). is_some (place_of (λ y. same_station y x) ys)) same

pub leads_still : {A : Type 0} → LeadsStill A
leads_still d nodes place old new leads there named same = record {
  names = λ name. leads.names name ∙ sym (place_set 0 (λ n. bytes_eq n.name name) nodes place old new there
      (ap (λ (t : List ℕ). bytes_eq t name) named));
  addresses = λ x. leads.addresses x
      ∙ sym (place_set 0 (is_there x) nodes place old new there (there_too x old new same));
}
