-- Entries in the order of their keys: what a search among them finds, and what an edit at that place does.
use Rattle.std.proofs.Common.{◌≡◌, ◌∙◌, refl, sym, ap, subst, ℕ, zero, suc, ◌<◌, ◌≤◌, true, false, [], ◌∷◌, List, length, get_or, set, Some, None, Result, Ok}
use Rattle.std.proofs.Common.{Err, IfOk, IfErr, arith}
use Rattle.std.specs.Prelude.{◌&&◌, cond, slice_get, Bool, Option}
use Rattle.std.specs.BTreeMap.{insert_entry, is_at}
use Rattle.std.specs.Cmp.{IsTotalOrder}
use Rattle.std.specs.List.{AllByRecursion, AllWithin, insert, remove}
use Rattle.std.specs.List.Sorted.{IsBinarySearchResult, IsNonDecreasingBy, IsSearchInRange}
use Rattle.std.specs.Map.{lookup, remove_entry}
use Rattle.std.specs.Ordering.{is_eq, match_ordering, ordering_index, ordering_reverse}
use Rattle.std.specs.declared.cmp.Ordering.{Ordering}
use Rattle.std.specs.declared.cmp.Ordering.TheVariants.{Less, Equal, Greater}
use Rattle.std.proofs.lemmas.Cmp.{alike_right, tied_back}
use Rattle.std.proofs.lemmas.Option.{get_or_from_slice_get}
use Rattle.sorted_map.specs.Entries.{AreSorted, HasNow, IsAt, IsGap, Updates, has, is_value, without}

-- ---- choices in turn
module _ {X : Type 0} where
  swapped : (b c : Bool) (x y z : X) → (b ≡ true → c ≡ true → ⊥) → cond b x (cond c y z) ≡ cond c y (cond b x z)
  swapped true true x y z both = absurd (both refl refl)
  swapped true false x y z both = refl
  swapped false true x y z both = refl
  swapped false false x y z both = refl

  twice : (b : Bool) (x y z : X) → cond b x z ≡ cond b x (cond b y z)
  twice true x y z = refl
  twice false x y z = refl

  without_one : (b : Bool) (x y z : X) → (b ≡ true → z ≡ x) → z ≡ cond b x (cond b y z)
  without_one true x y z gone = gone refl
  without_one false x y z gone = refl

both : {X : Type 0} (b : Bool) (x : X) → x ≡ cond b x x
both true x = refl
both false x = refl

is_equal : (o : Ordering) → is_eq o ≡ true → o ≡ Equal
is_equal Less e = absurd (cc e)
is_equal Equal e = refl
is_equal Greater e = absurd (cc e)

reversed : (r : Ordering) → is_eq (ordering_reverse r) ≡ is_eq r
reversed Less = refl
reversed Equal = refl
reversed Greater = refl

at_most_two : (o : Ordering) → ordering_index o ≤ 2
at_most_two Less = omega arith
at_most_two Equal = omega arith
at_most_two Greater = omega arith

-- ---- elements
module _ {K V : Type 0} where
  -- what holds of each key of a list, and of the new one
  pub all_inserted : (R : K → K → Ordering) (P : K → Type 0) (es : List (K × V)) (k : K) (v : V) → AllByRecursion (λ e. P e.0) es → P k →
      AllByRecursion (λ e. P e.0) (insert_entry R es k v)
  all_inserted R P [] k v all one = (one, tt)
  all_inserted R P (e ∷ es) k v all one = by_order (R k e.0) (all_inserted R P es k v all.1 one)
    where
      by_order : (o : Ordering) → AllByRecursion (λ f. P f.0) (insert_entry R es k v) →
          AllByRecursion (λ f. P f.0) (match_ordering o ((k, v) ∷ e ∷ es) ((e.0, v) ∷ es) (e ∷ insert_entry R es k v))
      by_order Less rest = (one, all)
      by_order Equal rest = (all.0, all.1)
      by_order Greater rest = (all.0, rest)

  at_place : (P : K → Type 0) (es : List (K × V)) (i : ℕ) (e : K × V) → AllByRecursion (λ f. P f.0) es → slice_get es i ≡ Some e → P e.0
  at_place P [] i e all is = absurd (cc is)
  at_place P (f ∷ es) zero e all is = let same : f ≡ e = cc is in subst (λ (g : K × V). P g.0) same all.0
  at_place P (f ∷ es) (suc i) e all is = at_place P es i e all.1 is

  at_index : (P : K → Type 0) (es : List (K × V)) (i : ℕ) (d : K × V) → i < length es → AllByRecursion (λ f. P f.0) es → P (get_or es i d).0
  at_index P [] i d lt all = absurd (omega (arith, lt))
  at_index P (f ∷ es) zero d lt all = all.0
  at_index P (f ∷ es) (suc i) d lt all = at_index P es i d (omega (arith, lt)) all.1

  all_removed : (P : K → Type 0) (es : List (K × V)) (i : ℕ) → AllByRecursion (λ f. P f.0) es → AllByRecursion (λ f. P f.0) (remove es i)
  all_removed P [] zero all = tt
  all_removed P [] (suc i) all = tt
  all_removed P (f ∷ es) zero all = all.1
  all_removed P (f ∷ es) (suc i) all = (all.0, all_removed P es i all.1)

  -- tests that agree find the same
  pub lookup_same : (s t : K → Bool) → ((k : K) → s k ≡ t k) → (es : List (K × V)) → lookup s es ≡ lookup t es
  lookup_same s t same [] = refl
  lookup_same s t same (e ∷ es) = rw (same e.0, lookup_same s t same es) refl

module _ {K : Type 0} {R : K → K → Ordering} (o : IsTotalOrder R) where
  turned : (x y : K) (r : Ordering) → R x y ≡ r → R y x ≡ ordering_reverse r
  turned x y r e = o.antisymm y x ∙ ap ordering_reverse e

  back : (x y : K) → is_eq (R x y) ≡ is_eq (R y x)
  back x y = ap is_eq (o.antisymm x y) ∙ reversed (R y x)

  -- a comparison with a key, and with one that is alike
  alike : (x y : K) → R x y ≡ Equal → (q : K) → R q x ≡ R q y
  alike x y e q = alike_right o x y q e

  rise : (x y a : K) → R x y ≡ Less → ordering_index (R x a) ≤ ordering_index (R y a)
  rise x y a less = by_order (R y a) refl
    where
      by_order : (r : Ordering) → R y a ≡ r → ordering_index (R x a) ≤ ordering_index r
      by_order Less e = omega (arith, ap ordering_index (o.trans x y a less e))
      by_order Equal e =
          let below : R x a ≡ Less = sym (alike y a e x) ∙ less in
          omega (arith, ap ordering_index below)
      by_order Greater e = at_most_two (R x a)

module _ {K V : Type 0} {R : K → K → Ordering} (o : IsTotalOrder R) where
  all_less : (a b : K) (es : List (K × V)) → R a b ≡ Less → AllByRecursion (λ e. R b e.0 ≡ Less) es → AllByRecursion (λ e. R a e.0 ≡ Less) es
  all_less a b [] less all = tt
  all_less a b (e ∷ es) less all = (o.trans a b e.0 less all.0, all_less a b es less all.1)

  all_alike : (a b : K) (es : List (K × V)) → R a b ≡ Equal → AllByRecursion (λ e. R b e.0 ≡ Less) es → AllByRecursion (λ e. R a e.0 ≡ Less) es
  all_alike a b [] equal all = tt
  all_alike a b (e ∷ es) equal all = (o.congr a b e.0 equal ∙ all.0, all_alike a b es equal all.1)

  -- ---- the value of a key
  abbrev value : K → List (K × V) → Option V
  value k es = lookup (is_at (R k)) es

  choice : (k : K) (e : K × V) (es : List (K × V)) (r : Ordering) → R k e.0 ≡ r → value k (e ∷ es) ≡ cond (is_eq r) (Some e.1) (value k es)
  choice k e es r is = ap (λ (s : Ordering). cond (is_eq s) (Some e.1) (value k es)) is

  there_by : (es : List (K × V)) (k : K) (i : ℕ) (e : K × V) → AreSorted R es → slice_get es i ≡ Some e → R e.0 k ≡ Equal → value k es ≡ Some e.1
  there_by [] k i e sorted is equal = absurd (cc is)
  there_by (f ∷ es) k zero e sorted is equal =
      let same : f ≡ e = cc is in
      choice k f es Equal (ap (λ (g : K × V). R k g.0) same ∙ tied_back o e.0 k equal) ∙ ap (λ (g : K × V). Some g.1) same
  there_by (f ∷ es) k (suc i) e sorted is equal =
      let less : R f.0 k ≡ Less = sym (alike o e.0 k equal f.0) ∙ at_place (λ q. R f.0 q ≡ Less) es i e sorted.0 is in
      choice k f es Greater (turned o f.0 k Less less) ∙ there_by es k i e sorted.1 is equal

  -- the entry that is read at its place
  pub value_there : (es : List (K × V)) (k : K) (i : ℕ) (e : K × V) → AreSorted R es → IsAt R es k i → e ≡ get_or es i e → value k es ≡ Some e.1
  value_there es k i e sorted at read =
      there_by es k i at.entry sorted at.is at.equal
      ∙ ap (λ (f : K × V). Some f.1) (sym (read ∙ get_or_from_slice_get es i at.entry e at.is))

  absent_by : (es : List (K × V)) (k : K) (i : ℕ) → AllWithin (λ e. R e.0 k ≡ Less) es 0 i → AllWithin (λ e. R e.0 k ≡ Greater) es i (length es) →
      value k es ≡ None
  absent_by [] k i less greater = refl
  absent_by (e ∷ es) k zero less greater =
      choice k e es Less (turned o e.0 k Greater (greater 0 e (omega arith) (omega arith)))
      ∙ absent_by es k zero (λ j d low high. absurd (omega (arith, high))) (λ j d low high. greater (suc j) d (omega arith) (omega (arith, high)))
  absent_by (e ∷ es) k (suc i) less greater =
      choice k e es Greater (turned o e.0 k Less (less 0 e (omega arith) (omega arith)))
      ∙ absent_by es k i (λ j d low high. less (suc j) d (omega arith) (omega (arith, high)))
      (λ j d low high. greater (suc j) d (omega (arith, low)) (omega (arith, high)))

  pub value_absent : (es : List (K × V)) (k : K) (i : ℕ) → IsGap R es k i → value k es ≡ None
  value_absent es k i gap = absent_by es k i gap.less gap.greater

  none_less : (k : K) (es : List (K × V)) → AllByRecursion (λ e. R k e.0 ≡ Less) es → value k es ≡ None
  none_less k [] all = refl
  none_less k (e ∷ es) all = choice k e es Less all.0 ∙ none_less k es all.1

  -- ---- a value put in
  abbrev put_by : K → V → (K × V) → List (K × V) → Ordering → List (K × V)
  put_by k v e es r = match_ordering r ((k, v) ∷ e ∷ es) ((e.0, v) ∷ es) (e ∷ insert_entry R es k v)

  set_by : (es : List (K × V)) (k : K) (i : ℕ) (e : K × V) (v : V) → AreSorted R es → slice_get es i ≡ Some e → R e.0 k ≡ Equal →
      set es i (e.0, v) ≡ insert_entry R es k v
  set_by [] k i e v sorted is equal = absurd (cc is)
  set_by (f ∷ es) k zero e v sorted is equal =
      let same : f ≡ e = cc is in
      ap (λ (g : K × V). (g.0, v) ∷ es) (sym same)
      ∙ sym (ap (put_by k v f es) (ap (λ (g : K × V). R k g.0) same ∙ tied_back o e.0 k equal))
  set_by (f ∷ es) k (suc i) e v sorted is equal =
      let less : R f.0 k ≡ Less = sym (alike o e.0 k equal f.0) ∙ at_place (λ q. R f.0 q ≡ Less) es i e sorted.0 is in
      ap (λ (fs : List (K × V)). f ∷ fs) (set_by es k i e v sorted.1 is equal)
      ∙ sym (ap (put_by k v f es) (turned o f.0 k Less less))

  pub set_there : (es : List (K × V)) (k : K) (i : ℕ) (e : K × V) (v : V) → AreSorted R es → IsAt R es k i → e ≡ get_or es i e →
      set es i (e.0, v) ≡ insert_entry R es k v
  set_there es k i e v sorted at read =
      ap (λ (f : K × V). set es i (f.0, v)) (read ∙ get_or_from_slice_get es i at.entry e at.is)
      ∙ set_by es k i at.entry v sorted at.is at.equal

  inserted_by : (es : List (K × V)) (k : K) (i : ℕ) (v : V) → AllWithin (λ e. R e.0 k ≡ Less) es 0 i →
      AllWithin (λ e. R e.0 k ≡ Greater) es i (length es) → insert es i (k, v) ≡ insert_entry R es k v
  inserted_by [] k zero v less greater = refl
  inserted_by [] k (suc i) v less greater = refl
  inserted_by (e ∷ es) k zero v less greater =
      sym (ap (put_by k v e es) (turned o e.0 k Greater (greater 0 e (omega arith) (omega arith))))
  inserted_by (e ∷ es) k (suc i) v less greater =
      ap (λ (fs : List (K × V)). e ∷ fs) (inserted_by es k i v (λ j d low high. less (suc j) d (omega arith) (omega (arith, high)))
      (λ j d low high. greater (suc j) d (omega (arith, low)) (omega (arith, high))))
      ∙ sym (ap (put_by k v e es) (turned o e.0 k Less (less 0 e (omega arith) (omega arith))))

  pub inserted_there : (es : List (K × V)) (k : K) (i : ℕ) (v : V) → IsGap R es k i → insert es i (k, v) ≡ insert_entry R es k v
  inserted_there es k i v gap = inserted_by es k i v gap.less gap.greater

  pub sorted_insert : (es : List (K × V)) (k : K) (v : V) → AreSorted R es → AreSorted R (insert_entry R es k v)
  sorted_insert [] k v sorted = (tt, tt)
  sorted_insert (e ∷ es) k v sorted = by_order (R k e.0) refl (sorted_insert es k v sorted.1)
    where
      by_order : (r : Ordering) → R k e.0 ≡ r → AreSorted R (insert_entry R es k v) → AreSorted R (put_by k v e es r)
      by_order Less is rest = ((is, all_less k e.0 es is sorted.0), sorted)
      by_order Equal is rest = sorted
      by_order Greater is rest = (all_inserted R (λ q. R e.0 q ≡ Less) es k v sorted.0 (turned o k e.0 Greater is), rest)

  -- the key has the value that was put in, and each other what it had
  pub value_inserted : (es : List (K × V)) (k : K) (v : V) (q : K) → value q (insert_entry R es k v) ≡ cond (is_eq (R k q)) (Some v) (value q es)
  value_inserted [] k v q = ap (λ (b : Bool). cond b (Some v) None) (back o q k)
  value_inserted (e ∷ es) k v q = by_order (R k e.0) refl (value_inserted es k v q)
    where
      not_both : R k e.0 ≡ Greater → is_eq (R q e.0) ≡ true → is_eq (R k q) ≡ true → ⊥
      not_both greater a b = cc (ap is_eq (sym greater ∙ sym (alike o q e.0 (is_equal _ a) k) ∙ is_equal _ b))

      by_order : (r : Ordering) → R k e.0 ≡ r → value q (insert_entry R es k v) ≡ cond (is_eq (R k q)) (Some v) (value q es) →
          value q (put_by k v e es r) ≡ cond (is_eq (R k q)) (Some v) (value q (e ∷ es))
      by_order Less is rest = ap (λ (b : Bool). cond b (Some v) (value q (e ∷ es))) (back o q k)
      by_order Equal is rest =
          let same : is_eq (R k q) ≡ is_eq (R q e.0) = back o k q ∙ ap is_eq (alike o k e.0 is q) in
          twice (is_eq (R q e.0)) (Some v) (Some e.1) (value q es)
          ∙ ap (λ (b : Bool). cond b (Some v) (value q (e ∷ es))) (sym same)
      by_order Greater is rest =
          ap (cond (is_eq (R q e.0)) (Some e.1)) rest
          ∙ swapped (is_eq (R q e.0)) (is_eq (R k q)) (Some e.1) (Some v) (value q es) (not_both is)

  pub has_now : (es new : List (K × V)) (k : K) (v : V) → new ≡ insert_entry R es k v → HasNow R k (Some v) es new
  has_now es new k v is q = ap (value q) is ∙ value_inserted es k v q

  -- one that is there already leaves all as it was
  pub insert_same : (es : List (K × V)) (k : K) (v : V) → AreSorted R es → value k es ≡ Some v → insert_entry R es k v ≡ es
  insert_same [] k v sorted is = absurd (cc is)
  insert_same (e ∷ es) k v sorted is = by_order (R k e.0) refl (insert_same es k v sorted.1)
    where
      by_test : (r : Ordering) → R k e.0 ≡ r → cond (is_eq r) (Some e.1) (value k es) ≡ Some v
      by_test r at = sym (choice k e es r at) ∙ is

      by_order : (r : Ordering) → R k e.0 ≡ r → (value k es ≡ Some v → insert_entry R es k v ≡ es) → put_by k v e es r ≡ e ∷ es
      by_order Less at rest = absurd (cc (sym (by_test Less at) ∙ none_less k es (all_less k e.0 es at sorted.0)))
      by_order Equal at rest =
          let same : e.1 ≡ v = cc (by_test Equal at) in
          ap (λ (w : V). (e.0, w) ∷ es) (sym same)
      by_order Greater at rest = ap (λ (fs : List (K × V)). e ∷ fs) (rest (by_test Greater at))

  -- ---- a key taken away
  pub sorted_removed : (es : List (K × V)) (i : ℕ) → AreSorted R es → AreSorted R (remove es i)
  sorted_removed [] zero sorted = tt
  sorted_removed [] (suc i) sorted = tt
  sorted_removed (e ∷ es) zero sorted = sorted.1
  sorted_removed (e ∷ es) (suc i) sorted = (all_removed (λ q. R e.0 q ≡ Less) es i sorted.0, sorted_removed es i sorted.1)

  removed_by : (es : List (K × V)) (k : K) (i : ℕ) (e : K × V) → AreSorted R es → slice_get es i ≡ Some e → R e.0 k ≡ Equal →
      remove es i ≡ remove_entry (is_at (R k)) es
  removed_by [] k i e sorted is equal = absurd (cc is)
  removed_by (f ∷ es) k zero e sorted is equal =
      let same : f ≡ e = cc is in
      sym (ap (λ (r : Ordering). cond (is_eq r) es (f ∷ remove_entry (is_at (R k)) es)) (ap (λ (g : K × V). R k g.0) same ∙ tied_back o e.0 k equal))
  removed_by (f ∷ es) k (suc i) e sorted is equal =
      let less : R f.0 k ≡ Less = sym (alike o e.0 k equal f.0) ∙ at_place (λ q. R f.0 q ≡ Less) es i e sorted.0 is in
      ap (λ (fs : List (K × V)). f ∷ fs) (removed_by es k i e sorted.1 is equal)
      ∙ sym (ap (λ (r : Ordering). cond (is_eq r) es (f ∷ remove_entry (is_at (R k)) es)) (turned o f.0 k Less less))

  pub removed_there : (es : List (K × V)) (k : K) (i : ℕ) → AreSorted R es → IsAt R es k i → remove es i ≡ remove_entry (is_at (R k)) es
  removed_there es k i sorted at = removed_by es k i at.entry sorted at.is at.equal

  -- the key has none, and each other what it had
  pub value_removed : (es : List (K × V)) (k q : K) → AreSorted R es → value q (remove_entry (is_at (R k)) es) ≡ cond (is_eq (R k q)) None (value q es)
  value_removed [] k q sorted = both (is_eq (R k q)) None
  value_removed (e ∷ es) k q sorted = by_test (is_eq (R k e.0)) refl (value_removed es k q sorted.1)
    where
      alike_keys : R k e.0 ≡ Equal → is_eq (R k q) ≡ is_eq (R q e.0)
      alike_keys is = ap is_eq (o.congr k e.0 q is) ∙ back o e.0 q

      not_both : is_eq (R k e.0) ≡ false → is_eq (R q e.0) ≡ true → is_eq (R k q) ≡ true → ⊥
      not_both other a b = cc (sym other ∙ ap is_eq (sym (alike o q e.0 (is_equal _ a) k) ∙ is_equal _ b))

      gone : is_eq (R q e.0) ≡ true → value q es ≡ None
      gone a = none_less q es (all_alike q e.0 es (is_equal _ a) sorted.0)

      by_test : (b : Bool) → is_eq (R k e.0) ≡ b → value q (remove_entry (is_at (R k)) es) ≡ cond (is_eq (R k q)) None (value q es) →
          value q (cond b es (e ∷ remove_entry (is_at (R k)) es)) ≡ cond (is_eq (R k q)) None (value q (e ∷ es))
      by_test true is rest =
          without_one (is_eq (R q e.0)) None (Some e.1) (value q es) gone
          ∙ ap (λ (b : Bool). cond b None (value q (e ∷ es))) (sym (alike_keys (is_equal _ is)))
      by_test false is rest =
          ap (cond (is_eq (R q e.0)) (Some e.1)) rest
          ∙ swapped (is_eq (R q e.0)) (is_eq (R k q)) (Some e.1) None (value q es) (not_both is)

  module _ (E : V → V → Bool) (es : List (K × V)) (k : K) (v : V) where
    abbrev by_value : Option V → List (K × V)
    by_value w = cond (is_value E v w) (remove_entry (is_at (R k)) es) es

    pub left_absent : (i : ℕ) → IsGap R es k i → es ≡ without R E k v es
    left_absent i gap = sym (ap by_value (value_absent es k i gap))

    pub left_other : (i : ℕ) (e : K × V) → AreSorted R es → IsAt R es k i → e ≡ get_or es i e → E e.1 v ≡ false → es ≡ without R E k v es
    left_other i e sorted at read other =
        sym (ap by_value (value_there es k i e sorted at read) ∙ ap (λ (b : Bool). cond b (remove_entry (is_at (R k)) es) es) other)

    pub taken_there : (i : ℕ) (e : K × V) → AreSorted R es → IsAt R es k i → e ≡ get_or es i e → E e.1 v ≡ true → remove es i ≡ without R E k v es
    taken_there i e sorted at read same =
        removed_there es k i sorted at
        ∙ sym (ap by_value (value_there es k i e sorted at read) ∙ ap (λ (b : Bool). cond b (remove_entry (is_at (R k)) es) es) same)

    pub updated : (new : List (K × V)) → AreSorted R es → new ≡ without R E k v es → Updates R E k v es new
    updated new sorted is q = ap (value q) is ∙ by_test (has R E k v es)
      where
        by_test : (b : Bool) → value q (cond b (remove_entry (is_at (R k)) es) es) ≡ cond (b && is_eq (R k q)) None (value q es)
        by_test true = value_removed es k q sorted
        by_test false = refl

  -- ---- a search
  -- the comparisons with a key rise along the list, as a binary search asks
  rises : (es : List (K × V)) (a : K) → AreSorted R es → IsNonDecreasingBy (λ (e : K × V). ordering_index (R e.0 a)) es
  rises [] a sorted i j d le lt = absurd (omega (arith, lt))
  rises (e ∷ es) a sorted zero zero d le lt = omega arith
  rises (e ∷ es) a sorted zero (suc j) d le lt = rise o e.0 (get_or es j d).0 a (at_index (λ q. R e.0 q ≡ Less) es j d (omega (arith, lt)) sorted.0)
  rises (e ∷ es) a sorted (suc i) zero d le lt = absurd (omega (arith, le))
  rises (e ∷ es) a sorted (suc i) (suc j) d le lt = rises es a sorted.1 i j d (omega (arith, le)) (omega (arith, lt))

  found_at : (es all : List (K × V)) (k : K) (i j : ℕ) → i < length es → slice_get all j ≡ slice_get es i → ((d : K × V) → R (get_or es i d).0 k ≡ Equal) →
      IsAt R all k j
  found_at [] all k i j lt same equal = absurd (omega (arith, lt))
  found_at (e ∷ es) all k zero j lt same equal = record { entry = e; is = same; equal = equal e }
  found_at (e ∷ es) all k (suc i) j lt same equal = found_at es all k i j (omega (arith, lt)) same (λ d. equal d)

  pub searched : (es : List (K × V)) (k : K) → AreSorted R es → (r : Result ℕ ℕ) → IsSearchInRange r (length es) →
      IsBinarySearchResult (λ (e : K × V). R e.0 k) es r → record { found : IfOk r (IsAt R es k); absent : IfErr r (IsGap R es k) }
  searched es k sorted (Ok i) within equal =
      record { found = found_at es es k i i within refl equal; absent = tt }
  searched es k sorted (Err i) within parted =
      let parts = parted (rises es k sorted) in
      record { found = tt; absent = record { within = within; less = parts.0; greater = parts.1 } }
