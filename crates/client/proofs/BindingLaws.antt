-- What holds of the bindings of any client.
use Rattle.std.proofs.Common.{◌≡◌, ◌≢◌, ◌∙◌, refl, sym, ap, subst, ℕ, Bool, true, false, List, [], ◌∷◌, Option, Some, None}
use Rattle.std.proofs.lemmas.Bool.{eqb-true, eqb-false, eq-eqb, ne_eqb}
use Rattle.std.specs.Prelude.{cond, if◌then◌else◌, map, option_map}
use Rattle.bindings.specs.Binding.{binding_of, is_of, marked, put_binding}
use Rattle.client.specs.Laws.{IsOnce, MarkedAlone, MarkedIsOnce, OthersStay, PutIsHeld, PutIsOnce}
use Rattle.bindings.specs.declared.binding.Binding.{Binding}

-- what stands first is found, or what is behind it
first_found : (n : ℕ) (x : Binding) (xs : List Binding) → is_of n x ≡ true → binding_of n (x ∷ xs) ≡ Some x
first_found n x xs e = ap (λ (c : Bool). cond c (Some x) (binding_of n xs)) e

later_found : (n : ℕ) (x : Binding) (xs : List Binding) → is_of n x ≡ false → binding_of n (x ∷ xs) ≡ binding_of n xs
later_found n x xs e = ap (λ (c : Bool). cond c (Some x) (binding_of n xs)) e

-- what is put stands in the place of the first, or behind it
put_first : (b x : Binding) (xs : List Binding) → is_of b.instance x ≡ true → put_binding b (x ∷ xs) ≡ b ∷ xs
put_first b x xs e = ap (λ (c : Bool). if c then b ∷ xs else x ∷ put_binding b xs) e

put_later : (b x : Binding) (xs : List Binding) → is_of b.instance x ≡ false → put_binding b (x ∷ xs) ≡ x ∷ put_binding b xs
put_later b x xs e = ap (λ (c : Bool). if c then b ∷ xs else x ∷ put_binding b xs) e

its_own : (b : Binding) → is_of b.instance b ≡ true
its_own b = eq-eqb b.instance b.instance refl

held_by : (c : Bool) (b x : Binding) (xs : List Binding) → is_of b.instance x ≡ c → binding_of b.instance (put_binding b xs) ≡ Some b →
    binding_of b.instance (put_binding b (x ∷ xs)) ≡ Some b
held_by true b x xs e ih = ap (binding_of b.instance) (put_first b x xs e) ∙ first_found b.instance b xs (its_own b)
held_by false b x xs e ih = ap (binding_of b.instance) (put_later b x xs e) ∙ later_found b.instance x (put_binding b xs) e ∙ ih

pub put_is_held : PutIsHeld
put_is_held b [] = first_found b.instance b [] (its_own b)
put_is_held b (x ∷ xs) = held_by (is_of b.instance x) b x xs refl (put_is_held b xs)

others_by : (c : Bool) (b x : Binding) (xs : List Binding) (n : ℕ) → n ≢ b.instance → is_of b.instance x ≡ c →
    binding_of n (put_binding b xs) ≡ binding_of n xs → binding_of n (put_binding b (x ∷ xs)) ≡ binding_of n (x ∷ xs)
others_by true b x xs n other e ih =
    let is : x.instance ≡ b.instance = eqb-true x.instance b.instance e in
    ap (binding_of n) (put_first b x xs e)
    ∙ later_found n b xs (ne_eqb b.instance n (λ f. other (sym f)))
    ∙ sym (later_found n x xs (ne_eqb x.instance n (λ f. other (sym f ∙ is))))
others_by false b x xs n other e ih =
    ap (binding_of n) (put_later b x xs e) ∙ ap (cond (is_of n x) (Some x)) ih

pub others_stay : OthersStay
others_stay b [] n other = later_found n b [] (ne_eqb b.instance n (λ f. other (sym f)))
others_stay b (x ∷ xs) n other = others_by (is_of b.instance x) b x xs n other refl (others_stay b xs n other)

marked_by_test : (c : Bool) (net : ℕ) (x : Binding) (o r : Option Binding) → r ≡ option_map (marked net) o →
    cond c (Some (marked net x)) r ≡ option_map (marked net) (cond c (Some x) o)
marked_by_test true net x o r ih = refl
marked_by_test false net x o r ih = ih

pub marked_alone : MarkedAlone
marked_alone net [] n = refl
marked_alone net (x ∷ xs) n = marked_by_test (is_of n x) net x (binding_of n xs) (binding_of n (map (marked net) xs)) (marked_alone net xs n)

once_by : (c : Bool) (b x : Binding) (xs : List Binding) → is_of b.instance x ≡ c → binding_of x.instance xs ≡ None → IsOnce xs → IsOnce (put_binding b xs) →
    IsOnce (put_binding b (x ∷ xs))
once_by true b x xs e none rest ih =
    let is : x.instance ≡ b.instance = eqb-true x.instance b.instance e in
    subst IsOnce (sym (put_first b x xs e)) (ap (λ (n : ℕ). binding_of n xs) (sym is) ∙ none, rest)
once_by false b x xs e none rest ih =
    subst IsOnce (sym (put_later b x xs e)) (others_stay b xs x.instance (eqb-false x.instance b.instance e) ∙ none, ih)

pub put_is_once : PutIsOnce
put_is_once b [] once = (refl, tt)
put_is_once b (x ∷ xs) once = once_by (is_of b.instance x) b x xs refl once.0 once.1 (put_is_once b xs once.1)

pub marked_is_once : MarkedIsOnce
marked_is_once net [] once = tt
marked_is_once net (x ∷ xs) once =
    (marked_alone net xs x.instance ∙ ap (option_map (marked net)) once.0, marked_is_once net xs once.1)
