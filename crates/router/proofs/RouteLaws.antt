-- Routes that are learned, and ports.
use Rattle.std.proofs.Common.{◌≡◌, ◌<◌, ◌≤◌, ◌∙◌, refl, sym, ap, subst, arith, ℕ, zero, suc, true, false, List, [], ◌∷◌, length, Some}
use Rattle.std.proofs.lemmas.Bool.{le-ltb}
use Rattle.std.specs.Prelude.{◌&&◌, ◌||◌, Bool, cond, Option, slice_get}
use Rattle.std.specs.BTreeMap.{insert_entry}
use Rattle.std.specs.Cmp.{nat_cmp_total}
use Rattle.std.specs.Ordering.{is_eq, nat_cmp}
use Rattle.std.specs.declared.cmp.Ordering.{Ordering}
use Rattle.std.proofs.lemmas.Cmp.{tied_itself}
use Rattle.byteorder.specs.Endian.{big_number}
use Rattle.npdu.specs.declared.mac.Station.{Station}
use Rattle.profile.specs.Limits.{MAX_LEARNED_ROUTES}
use Rattle.router.specs.Router.{AreNumbered, IsNumbered}
use Rattle.router.specs.Handling.{route_to}
use Rattle.router.specs.Routes.{IsFront, IsNews, is_learnable, is_overfull, is_too_many, learned, learned_one, teaches}
use Rattle.router.specs.declared.routes.Route.{Route}
use Rattle.sorted_map.proofs.Sorted.{value_inserted}

-- the route put in is the one that is there
inserted_route : (es : List (ℕ × Route)) (net : ℕ) (route : Route) → route_to net (insert_entry nat_cmp es net route) ≡ Some route
inserted_route es net route =
    value_inserted nat_cmp_total es net route net
    ∙ ap (λ (o : Ordering). cond (is_eq o) (Some route) (route_to net es)) (tied_itself nat_cmp_total net)

-- .. and one that is there stays, where only such are put in
insert_keeps : (es : List (ℕ × Route)) (n net : ℕ) (route : Route) → route_to net es ≡ Some route →
    route_to net (insert_entry nat_cmp es n route) ≡ Some route
insert_keeps es n net route is = value_inserted nat_cmp_total es n route net ∙ either (is_eq (nat_cmp n net)) (route_to net es) is
  where
    either : (b : Bool) (x : Option Route) → x ≡ Some route → cond b (Some route) x ≡ Some route
    either true x same = refl
    either false x same = same

-- one network of the rest
pub learned_step : (ports : List Station) (route : Route) (rest behind : List ℕ) (net : ℕ) (old new all : List (ℕ × Route)) →
    IsFront rest net behind → new ≡ learned_one ports route net old →
    learned ports route rest old ≡ all → learned ports route behind new ≡ all
learned_step ports route rest behind net old new all front f g =
    ap (learned ports route behind) f
    ∙ ap (λ (n : ℕ). learned ports route behind (learned_one ports route n old)) front.number
    ∙ ap (λ (o : List ℕ). learned ports route o old) (sym front.parts) ∙ g

-- none is left
pub learned_end : (ports : List Station) (route : Route) (rest : List ℕ) (old all : List (ℕ × Route)) → length rest < 2 →
    learned ports route rest old ≡ all → old ≡ all
learned_end ports route [] old all short e = e
learned_end ports route (a ∷ []) old all short e = e
learned_end ports route (a ∷ b ∷ rest) old all short e = absurd (omega (arith, short))

pub fewer : (rest behind : List ℕ) (net : ℕ) → IsFront rest net behind → length behind < length rest
fewer rest behind net front = let e = ap (λ (o : List ℕ). length o) front.parts in omega (arith, e)

pub ruleset learn_rules = (learned_step, learned_end, fewer)

-- where none may be learned, the routes stay
pub untaught : (ports : List Station) (route : Route) (contents : List ℕ) (routes : List (ℕ × Route)) →
    teaches ports contents ≡ false → learned ports route contents routes ≡ routes
untaught ports route [] routes e = refl
untaught ports route (a ∷ []) routes e = refl
untaught ports route (a ∷ b ∷ rest) routes e =
    by_first (is_learnable ports (big_number 2 (a ∷ b ∷ []))) refl e (untaught ports route rest routes)
  where
    by_first : (may : Bool) → is_learnable ports (big_number 2 (a ∷ b ∷ [])) ≡ may → (may || teaches ports rest) ≡ false →
        (teaches ports rest ≡ false → learned ports route rest routes ≡ routes) →
        learned ports route rest (learned_one ports route (big_number 2 (a ∷ b ∷ [])) routes) ≡ routes
    by_first true f g rest_stays = absurd (cc g)
    by_first false f g rest_stays =
        ap (λ (t : Bool). learned ports route rest (cond t (insert_entry nat_cmp routes (big_number 2 (a ∷ b ∷ [])) route) routes)) f
        ∙ rest_stays g

-- ---- what an announcement teaches that names a network with news
one_keeps : (ports : List Station) (route : Route) (n net : ℕ) (may : Bool) (routes : List (ℕ × Route)) → route_to net routes ≡ Some route →
    route_to net (cond may (insert_entry nat_cmp routes n route) routes) ≡ Some route
one_keeps ports route n net true routes is = insert_keeps routes n net route is
one_keeps ports route n net false routes is = is

route_keeps : (ports : List Station) (route : Route) (contents : List ℕ) (net : ℕ) (routes : List (ℕ × Route)) → route_to net routes ≡ Some route →
    route_to net (learned ports route contents routes) ≡ Some route
route_keeps ports route [] net routes is = is
route_keeps ports route (a ∷ []) net routes is = is
route_keeps ports route (a ∷ b ∷ rest) net routes is =
    route_keeps ports route rest net (learned_one ports route (big_number 2 (a ∷ b ∷ [])) routes)
    (one_keeps ports route (big_number 2 (a ∷ b ∷ [])) net (is_learnable ports (big_number 2 (a ∷ b ∷ []))) routes is)

-- they change
pub news_change : (ports : List Station) (route : Route) (rest behind : List ℕ) (net : ℕ) (routes all : List (ℕ × Route)) →
    IsFront rest net behind → IsNews ports route net routes → learned ports route rest routes ≡ all → all ≡ routes → ⊥
news_change ports route rest behind net routes all front news leads same =
    let one : learned_one ports route net routes ≡ insert_entry nat_cmp routes net route =
    ap (λ (t : Bool). cond t (insert_entry nat_cmp routes net route) routes) news.learnable in
    let ends : learned ports route behind (insert_entry nat_cmp routes net route) ≡ routes =
    learned_step ports route rest behind net routes (insert_entry nat_cmp routes net route) routes front (sym one) (leads ∙ same) in
    news.other (ap (λ (rs : List (ℕ × Route)). route_to net rs) (sym ends)
    ∙ route_keeps ports route behind net (insert_entry nat_cmp routes net route) (inserted_route routes net route))

pub known_step : (ports : List Station) (route : Route) (rest behind : List ℕ) (net : ℕ) (routes all : List (ℕ × Route)) →
    IsFront rest net behind → learned_one ports route net routes ≡ routes →
    learned ports route rest routes ≡ all → learned ports route behind routes ≡ all
known_step ports route rest behind net routes all front known leads =
    learned_step ports route rest behind net routes routes all front (sym known) leads

pub ruleset keep_rules = (known_step, learned_end, fewer)

and_false : (a b : Bool) → b ≡ false → (a && b) ≡ false
and_false true b e = e
and_false false b e = refl

and_true : (a b : Bool) → a ≡ true → b ≡ true → (a && b) ≡ true
and_true true b e f = f
and_true false b e f = absurd (cc e)

-- it isn't overfull where the routes stay, or are few
pub kept_fits : (ports : List Station) (route : Route) (contents : List ℕ) (routes : List (ℕ × Route)) →
    learned ports route contents routes ≡ routes → length routes ≤ MAX_LEARNED_ROUTES → is_overfull ports route contents routes ≡ false
kept_fits ports route contents routes same few =
    and_false (teaches ports contents) _ (ap is_too_many same ∙ le-ltb MAX_LEARNED_ROUTES (length routes) few)

pub few_fits : (ports : List Station) (route : Route) (contents : List ℕ) (routes : List (ℕ × Route)) →
    is_too_many (learned ports route contents routes) ≡ false → is_overfull ports route contents routes ≡ false
few_fits ports route contents routes few = and_false (teaches ports contents) _ few

-- one that changes the routes teaches something
pub news_teach : (ports : List Station) (route : Route) (contents : List ℕ) (routes : List (ℕ × Route)) →
    (learned ports route contents routes ≡ routes → ⊥) → teaches ports contents ≡ true
news_teach ports route contents routes news = by_case (teaches ports contents) refl
  where
    by_case : (b : Bool) → teaches ports contents ≡ b → b ≡ true
    by_case true e = refl
    by_case false e = absurd (news (untaught ports route contents routes e))

pub many_overfull : (ports : List Station) (route : Route) (contents : List ℕ) (routes : List (ℕ × Route)) →
    (learned ports route contents routes ≡ routes → ⊥) → is_too_many (learned ports route contents routes) ≡ true →
    is_overfull ports route contents routes ≡ true
many_overfull ports route contents routes news many = and_true (teaches ports contents) _ (news_teach ports route contents routes news) many

-- of the same ports and routes an announcement is overfull or not
pub overfull_same : (ps qs : List Station) (route : Route) (contents : List ℕ) (rs ss : List (ℕ × Route)) → ps ≡ qs → rs ≡ ss →
    is_overfull ps route contents rs ≡ is_overfull qs route contents ss
overfull_same ps qs route contents rs ss e f =
    ap (λ (xs : List Station). is_overfull xs route contents rs) e ∙ ap (λ (xs : List (ℕ × Route)). is_overfull qs route contents xs) f

pub ruleset taught_rules = (kept_fits)

same : (p s : Station) → Some p ≡ Some s → p ≡ s
same p s e = cc

still : (p s : Station) → p ≡ s → IsNumbered p → IsNumbered s
still p s e n = subst (λ (q : Station). IsNumbered q) e n

-- each port has a number
pub numbered_at : (ports : List Station) (i : ℕ) (s : Station) → AreNumbered ports → slice_get ports i ≡ Some s → IsNumbered s
numbered_at [] i s all e = absurd (cc e)
numbered_at (p ∷ ps) zero s all e = still p s (same p s e) (all.0)
numbered_at (p ∷ ps) (suc i) s all e = numbered_at ps i s (all.1) e

pub ruleset port_rules = (numbered_at)
