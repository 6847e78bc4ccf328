-- The latest issue of a history, entry by entry.
use Rattle.std.proofs.Common.{◌≡◌, ◌∙◌, ap, sym, refl, Option, Some, None}
use Rattle.history.specs.Lists.{first_of}

pub first_of_none : {X : Type 0} (a : Option X) → first_of a None ≡ a
first_of_none None = refl
first_of_none (Some x) = refl

pub first_of_assoc : {X : Type 0} (a b c : Option X) → first_of (first_of a b) c ≡ first_of a (first_of b c)
first_of_assoc None b c = refl
first_of_assoc (Some x) b c = refl

-- an entry is looked at: the latest issue of what is left, or else the one before, stays the same
pub goes_on : {X : Type 0} (a b c d all : Option X) → d ≡ first_of b c → first_of (first_of a b) c ≡ all →
    first_of a d ≡ all
goes_on {X} a b c d all is e = ap (λ (z : Option X). first_of a z) is ∙ sym (first_of_assoc a b c) ∙ e

pub ruleset latest_laws = (first_of_none, goes_on)
