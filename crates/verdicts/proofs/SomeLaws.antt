-- What holds of what was looked for, where it was found and where it wasn't.
use Rattle.std.proofs.Common.{◌≡◌, ◌∙◌, ap, sym, subst, Bool, true, false, Option, Some, None}
use Rattle.std.specs.Prelude.{◌↔◌, IsSomeAnd, IsTrue}
use Rattle.history.specs.Lists.{first_of}

false_true : false ≡ true → ⊥
false_true e = cc

pub some_found : {X : Type 0} (o found : Option X) (x : X) (P : X → Type 0) (b : Bool) → found ≡ o → found ≡ Some x →
    (IsTrue b ↔ P x) → (IsTrue b ↔ IsSomeAnd o P)
some_found {X} o found x P b e f iff = subst (λ (z : Option X). IsTrue b ↔ IsSomeAnd z P) (sym f ∙ e) iff

pub none_found : {X : Type 0} (o found : Option X) (P : X → Type 0) → found ≡ o → found ≡ None →
    (IsTrue false ↔ IsSomeAnd o P)
none_found {X} o found P e f =
    subst (λ (z : Option X). IsTrue false ↔ IsSomeAnd z P) (sym f ∙ e) ((λ t. absurd (false_true t)), (λ s. absurd s))

pub ruleset some_laws = (some_found, none_found)

-- the first of two is there
pub first_there : {X : Type 0} (found first rest all : Option X) (x : X) → found ≡ first → found ≡ Some x →
    first_of first rest ≡ all → Some x ≡ all
first_there {X} found first rest all x is there e =
    ap (λ (z : Option X). first_of z rest) (sym there ∙ is) ∙ e

-- it isn't, so the second counts
pub first_lacks : {X : Type 0} (found first rest all : Option X) → found ≡ first → found ≡ None →
    first_of first rest ≡ all → rest ≡ all
first_lacks {X} found first rest all is lacks e =
    ap (λ (z : Option X). first_of z rest) (sym lacks ∙ is) ∙ e

pub ruleset first_laws = (first_there, first_lacks)
