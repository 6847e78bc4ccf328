-- What a router knows stays of its kind.
use Rattle.std.proofs.Common.{◌≡◌, ◌∙◌, refl, sym, ap, subst, inl, inr, ℕ, cond, Bool, true, false, List, [], ◌∷◌}
use Rattle.std.specs.Prelude.{◌&&◌}
use Rattle.std.specs.BTreeMap.{insert_entry}
use Rattle.std.specs.List.{AllByRecursion}
use Rattle.std.specs.Ordering.{nat_cmp}
use Rattle.byteorder.specs.Endian.{big_number}
use Rattle.npdu.specs.declared.mac.Station.{Station}
use Rattle.router.specs.Hearing.{handling_of, heard}
use Rattle.router.specs.Laws.{AreRoutes, RouterKeeps}
use Rattle.router.specs.Messages.{Heard}
use Rattle.router.specs.Router.{RouterState}
use Rattle.router.specs.Routes.{is_learnable, is_overfull, is_too_many, learned, learned_one, teaches}
use Rattle.router.specs.Said.{route_back, routes_left, teaches_too_many}
use Rattle.router.specs.declared.handling.Handling.{Handling}
use Rattle.router.specs.declared.handling.Handling.TheVariants as does
use Rattle.router.specs.declared.routes.Route.{Route}
use Rattle.router.proofs.RouteLaws.{untaught}
use Rattle.sorted_map.proofs.Sorted.{all_inserted}

-- the network of each of these routes meets a condition
abbrev AllKeys : (ℕ → Type 0) → List (ℕ × Route) → Type 0
AllKeys P es = AllByRecursion (λ (r : ℕ × Route). P r.0) es

module _ (ports : List Station) (route : Route) where
  abbrev May : ℕ → Type 0
  May net = is_learnable ports net ≡ true

  one_learned : (net : ℕ) (may : Bool) (routes : List (ℕ × Route)) → is_learnable ports net ≡ may → AllKeys May routes →
      AllKeys May (cond may (insert_entry nat_cmp routes net route) routes)
  one_learned net true routes e all = all_inserted nat_cmp May routes net route all e
  one_learned net false routes e all = all

  all_learned : (contents : List ℕ) (routes : List (ℕ × Route)) → AllKeys May routes → AllKeys May (learned ports route contents routes)
  all_learned [] routes all = all
  all_learned (a ∷ []) routes all = all
  all_learned (a ∷ b ∷ rest) routes all =
      all_learned rest (learned_one ports route (big_number 2 (a ∷ b ∷ [])) routes)
      (one_learned (big_number 2 (a ∷ b ∷ [])) (is_learnable ports (big_number 2 (a ∷ b ∷ []))) routes refl all)

  few_learned : (contents : List ℕ) (routes : List (ℕ × Route)) (news : Bool) → teaches ports contents ≡ news → is_too_many routes ≡ false →
      (news && is_too_many (learned ports route contents routes)) ≡ false → is_too_many (learned ports route contents routes) ≡ false
  few_learned contents routes true e few fits = fits
  few_learned contents routes false e few fits = ap is_too_many (untaught ports route contents routes e) ∙ few

  learned_are : (contents : List ℕ) (routes : List (ℕ × Route)) → is_overfull ports route contents routes ≡ false → AreRoutes ports routes →
      AreRoutes ports (learned ports route contents routes)
  learned_are contents routes fits are = record {
    learnable = all_learned contents routes are.learnable;
    few = few_learned contents routes (teaches ports contents) refl are.few fits;
  }

routes_kept : {A : Type 0} (m : Heard A) (st : RouterState) (x : Handling) → teaches_too_many m st x ≡ false → AreRoutes st.ports st.routes →
    AreRoutes st.ports (routes_left m st x)
routes_kept m st does.Learn fits are = learned_are st.ports (route_back m) m.header.body st.routes fits are
routes_kept m st does.Discard fits are = are
routes_kept m st does.Spread fits are = are
routes_kept m st (does.Relay port own next) fits are = are
routes_kept m st (does.Deliver port own to) fits are = are
routes_kept m st (does.FindRoute net) fits are = are
routes_kept m st does.NameAll fits are = are
routes_kept m st does.NameAsked fits are = are
routes_kept m st does.AskOthers fits are = are
routes_kept m st does.RefuseType fits are = are

abbrev Kept : RouterState → RouterState → Type 0
Kept old new = (new.ports ≡ old.ports) × AreRoutes new.ports new.routes

pub keeps : (A : Type 0) → RouterKeeps A
keeps A now port p old new out (inl hears) are =
    subst (λ (st : RouterState). Kept old st) (sym hears.comes.leaves)
    (refl, routes_kept (heard now port p hears.at hears.header) old (handling_of old (heard now port p hears.at hears.header)) hears.comes.fits are)
keeps A now port p old new out (inr drops) are = subst (λ (st : RouterState). Kept old st) (sym drops.same) (refl, are)
