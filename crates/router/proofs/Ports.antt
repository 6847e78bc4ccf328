-- What goes out over the ports of a router.
use Rattle.std.proofs.Common.{◌≡◌, refl, sym, ap, subst, arith, ℕ, suc, zero, ◌+◌, ◌==◌, cond, Bool, true, false, List, [], ◌∷◌, ◌++◌, Option, Some}
use Rattle.std.proofs.lemmas.Bool.{eqb-true}
use Rattle.std.specs.Prelude.{slice_get}
use Rattle.std.specs.List.{AllByRecursion}
use Rattle.npdu.specs.declared.mac.Mac.{Mac}
use Rattle.npdu.specs.declared.mac.Station.{Station}
use Rattle.router.specs.Handling.{own_port, own_port_from}
use Rattle.router.specs.Sending.{of_others, of_others_from, unless}

pub some_same : {X : Type 0} (x y : X) → Some x ≡ Some y → x ≡ y
some_same x y e = cc

-- lists of what meets a condition
all_joined : {X : Type 0} (P : X → Type 0) (xs ys : List X) → AllByRecursion P xs → AllByRecursion P ys → AllByRecursion P (xs ++ ys)
all_joined P [] ys ps qs = qs
all_joined P (x ∷ xs) ys ps qs = (ps.0, all_joined P xs ys (ps.1) qs)

pub all_behind : {X : Type 0} (P : X → Type 0) (xs : List X) (y : X) → AllByRecursion P xs → P y → AllByRecursion P (xs ++ y ∷ [])
all_behind P xs y ps py = all_joined P xs (y ∷ []) ps (py, tt)

-- these are the ports from this number on
abbrev pub AreAt : List Station → ℕ → List Station → Type 0
AreAt ports first ss = (i : ℕ) (s : Station) → slice_get ss i ≡ Some s → slice_get ports (first + i) ≡ Some s

pub first_at : (ports : List Station) (first : ℕ) (s : Station) (ss : List Station) → AreAt ports first (s ∷ ss) →
    slice_get ports first ≡ Some s
first_at ports first s ss at =
    let e : first + 0 ≡ first = omega arith in
    subst (λ (i : ℕ). slice_get ports i ≡ Some s) e (at zero s refl)

pub rest_at : (ports : List Station) (first : ℕ) (s : Station) (ss : List Station) → AreAt ports first (s ∷ ss) →
    AreAt ports (first + 1) ss
rest_at ports first s ss at i t e =
    let same : first + suc i ≡ first + 1 + i = omega arith in
    subst (λ (j : ℕ). slice_get ports j ≡ Some t) same (at (suc i) t e)

pub all_at : (ports : List Station) → AreAt ports 0 ports
all_at ports i s e = let same : i ≡ 0 + i = omega arith in subst (λ (j : ℕ). slice_get ports j ≡ Some s) same e

-- of each port but one
module _ {X : Type 0} (P : X → Type 0) (f : ℕ → Station → List X) (ports : List Station)
    (each : (i : ℕ) (s : Station) → slice_get ports i ≡ Some s → AllByRecursion P (f i s)) where
  unless_are : (b : Bool) (xs : List X) → AllByRecursion P xs → AllByRecursion P (unless b xs)
  unless_are true xs ps = tt
  unless_are false xs ps = ps

  from_are : (first port : ℕ) (ss : List Station) → AreAt ports first ss → AllByRecursion P (of_others_from f first port ss)
  from_are first port [] at = tt
  from_are first port (s ∷ ss) at =
      all_joined P (unless (first == port) (f first s)) (of_others_from f (first + 1) port ss)
      (unless_are (first == port) (f first s) (each first s (first_at ports first s ss at)))
      (from_are (first + 1) port ss (rest_at ports first s ss at))

  pub others_are : (port : ℕ) → AllByRecursion P (of_others f port ports)
  others_are port = from_are 0 port ports (all_at ports)

-- the first port on a network is there
pub record IsOwnPort (ports : List Station) (net : ℕ) (q : ℕ × Mac) : Type 0 where
  pub station : Station
  pub at : slice_get ports q.0 ≡ Some station
  pub mac : q.1 ≡ station.mac
  pub number : station.net ≡ net

own_test : (ports : List Station) (net : ℕ) (q : ℕ × Mac) (first : ℕ) (s : Station) (b : Bool) (rest : Option (ℕ × Mac)) →
    slice_get ports first ≡ Some s → (s.net == net) ≡ b → (rest ≡ Some q → IsOwnPort ports net q) →
    cond b (Some (first, s.mac)) rest ≡ Some q → IsOwnPort ports net q
own_test ports net q first s true rest at t behind e =
    let same = some_same (first, s.mac) q e in
    record {
      station = s;
      at = subst (λ (r : ℕ × Mac). slice_get ports r.0 ≡ Some s) same at;
      mac = sym (ap (λ (r : ℕ × Mac). r.1) same);
      number = eqb-true s.net net t;
    }
own_test ports net q first s false rest at t behind e = behind e

own_from : (ports : List Station) (net : ℕ) (q : ℕ × Mac) (first : ℕ) (ss : List Station) → AreAt ports first ss →
    own_port_from first net ss ≡ Some q → IsOwnPort ports net q
own_from ports net q first [] at e = absurd (cc e)
own_from ports net q first (s ∷ ss) at e =
    own_test ports net q first s (s.net == net) (own_port_from (first + 1) net ss) (first_at ports first s ss at) refl
    (own_from ports net q (first + 1) ss (rest_at ports first s ss at)) e

pub own_is : (ports : List Station) (net : ℕ) (q : ℕ × Mac) → own_port net ports ≡ Some q → IsOwnPort ports net q
own_is ports net q e = own_from ports net q 0 ports (all_at ports) e
