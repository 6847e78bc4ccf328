-- How the first places of keys come about, from the last key on.
use Rattle.std.proofs.Common.{◌≡◌, ◌∙◌, refl, sym, ap, subst, arith, ℕ, ◌+◌, Bool, true, false, List, [], ◌∷◌, ◌++◌, Some, length}
use Rattle.std.proofs.lemmas.List.{append_assoc}
use Rattle.std.specs.Prelude.{if◌then◌else◌, cond}
use Rattle.std.specs.BTreeMap.{BTreeMap, IsEmpty, get_by, insert_entry}
use Rattle.std.specs.Cmp.{IsTotalOrder}
use Rattle.std.specs.Map.{lookup}
use Rattle.std.specs.Ordering.{is_eq, match_ordering, ordering_reverse}
use Rattle.std.specs.declared.cmp.Ordering.{Ordering}
use Rattle.std.specs.declared.cmp.Ordering.TheVariants.{Less, Equal, Greater}
use Rattle.world_sites.specs.Places.{AreFirst, AreFirstFrom, IsPut, IsQuery}

same_answer : (a b : Ordering) → (a ≡ Equal → b ≡ Equal) → (b ≡ Equal → a ≡ Equal) → is_eq a ≡ is_eq b
same_answer Equal b to from = ap is_eq (sym (to refl))
same_answer Less Equal to from = ap is_eq (from refl)
same_answer Greater Equal to from = ap is_eq (from refl)
same_answer Less Less to from = refl
same_answer Less Greater to from = refl
same_answer Greater Less to from = refl
same_answer Greater Greater to from = refl

once : {X : Type 0} (b : Bool) (x y z : X) → cond b x z ≡ cond b x (cond b y z)
once true x y z = refl
once false x y z = refl

module _ {K : Type 0} (cmp : K → K → Ordering) (total : IsTotalOrder cmp) (compare : K → Ordering)
    (query : IsQuery cmp compare) where
  -- a query finds neither or both of two equal keys
  both : (k e : K) → cmp k e ≡ Equal → is_eq (compare k) ≡ is_eq (compare e)
  both k e one = same_answer (compare k) (compare e) (λ is. query k e is ∙ one)
      (λ is. query e k is ∙ total.antisymm e k ∙ ap ordering_reverse one)

  -- .. and never two others
  swap : {X : Type 0} (k e : K) (o p : Ordering) (x y z : X) → cmp k e ≡ Greater → compare k ≡ o → compare e ≡ p →
      cond (is_eq p) x (cond (is_eq o) y z) ≡ cond (is_eq o) y (cond (is_eq p) x z)
  swap k e Less p x y z other at to = refl
  swap k e Greater p x y z other at to = refl
  swap k e Equal Less x y z other at to = refl
  swap k e Equal Greater x y z other at to = refl
  swap k e Equal Equal x y z other at to = absurd (cc (query k e at, other, to))

  -- it finds a key that was put in, or else what it found before
  looked_up : (es : List (K × ℕ)) (k : K) (v : ℕ) → lookup (λ q. is_eq (compare q)) (insert_entry cmp es k v)
      ≡ cond (is_eq (compare k)) (Some v) (lookup (λ q. is_eq (compare q)) es)
  looked_up [] k v = refl
  looked_up (e ∷ es) k v = at (cmp k (e.0)) refl (looked_up es k v)
    where
      at : (o : Ordering) → cmp k (e.0) ≡ o → lookup (λ q. is_eq (compare q)) (insert_entry cmp es k v)
          ≡ cond (is_eq (compare k)) (Some v) (lookup (λ q. is_eq (compare q)) es) → lookup (λ q. is_eq (compare q))
          (match_ordering o ((k, v) ∷ e ∷ es) ((e.0, v) ∷ es) (e ∷ insert_entry cmp es k v))
          ≡ cond (is_eq (compare k)) (Some v) (lookup (λ q. is_eq (compare q)) (e ∷ es))
      at Less is rest = refl
      at Equal is rest = rw (both k (e.0) is)
          (once (is_eq (compare (e.0))) (Some v) (Some (e.1)) (lookup (λ q. is_eq (compare q)) es))
      at Greater is rest = ap (λ found. cond (is_eq (compare (e.0))) (Some (e.1)) found) rest
          ∙ swap k (e.0) (compare k) (compare (e.0)) (Some (e.1)) (Some v) (lookup (λ q. is_eq (compare q)) es) is refl
          refl

-- of some keys the last ones were put in, and these are left
pub record AreFirstBehind {K : Type 0} (cmp : K → K → Ordering) (m : BTreeMap K ℕ) (left keys : List K) : Type 0 where
  pub behind : List K
  pub all : keys ≡ left ++ behind
  pub first : AreFirstFrom (length left) cmp m behind

append_none : {X : Type 0} (xs : List X) → xs ≡ xs ++ []
append_none [] = refl
append_none (x ∷ xs) = ap (λ ys. x ∷ ys) (append_none xs)

length_more : {X : Type 0} (xs : List X) (x : X) → length (xs ++ x ∷ []) ≡ length xs + 1
length_more [] x = refl
length_more (y ∷ ys) x = let more = length_more ys x in omega (arith, more)

none_left : {X : Type 0} (xs ys : List X) → length xs ≡ 0 → xs ++ ys ≡ ys
none_left [] ys is = refl
none_left (x ∷ xs) ys is = absurd (omega (arith, is))

-- none was
pub none_in : {K : Type 0} (cmp : K → K → Ordering) (m : BTreeMap K ℕ) (keys : List K) → IsEmpty m →
    AreFirstBehind cmp m keys keys
none_in cmp m keys empty = record {
  behind = [];
  all = append_none keys;
  first = λ compare query. ap (λ es. lookup (λ q. is_eq (compare q)) es) empty;
}

-- one more is
pub put_in : {K : Type 0} (cmp : K → K → Ordering) → IsTotalOrder cmp → (m n : BTreeMap K ℕ) (left rest keys : List K)
    (key : K) (place : ℕ) → left ≡ rest ++ key ∷ [] → place ≡ length rest →
    n.entries ≡ insert_entry cmp m.entries key place → AreFirstBehind cmp m left keys → AreFirstBehind cmp n rest keys
put_in cmp total m n left rest keys key place is at puts h = record {
  behind = key ∷ h.behind;
  all = h.all ∙ ap (λ ls. ls ++ h.behind) is ∙ append_assoc rest (key ∷ []) h.behind;
  first = λ compare query. let now = ap (λ es. lookup (λ q. is_eq (compare q)) es) puts
      ∙ looked_up cmp total compare query m.entries key place in let before = h.first compare query in
      let longer = ap length is ∙ length_more rest key in grind (arith, now, before, longer, at);
}

-- all were
pub all_in : {K : Type 0} (cmp : K → K → Ordering) (m : BTreeMap K ℕ) (left keys : List K) → length left ≡ 0 →
    AreFirstBehind cmp m left keys → AreFirst cmp m keys
all_in cmp m left keys none h =
    subst (λ n. AreFirstFrom n cmp m keys) none
    (subst (λ ks. AreFirstFrom (length left) cmp m ks) (sym (h.all ∙ none_left left h.behind none)) h.first)

chosen : {X : Type 0} (b : Bool) (x y : X) → cond b x y ≡ (if b then x else y)
chosen true x y = refl
chosen false x y = refl

-- one key was put in
pub put_one : {K : Type 0} (cmp : K → K → Ordering) → IsTotalOrder cmp → (m n : BTreeMap K ℕ) (key : K) (place : ℕ) →
    n.entries ≡ insert_entry cmp m.entries key place → IsPut cmp key place m n
put_one cmp total m n key place puts = λ compare query. ap (λ es. lookup (λ q. is_eq (compare q)) es) puts
    ∙ looked_up cmp total compare query m.entries key place
    ∙ chosen (is_eq (compare key)) (Some place) (get_by compare m)

pub ruleset put_rules = (put_one)
