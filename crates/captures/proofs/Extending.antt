-- What is appended in several parts.
use Rattle.std.proofs.Common.{◌≡◌, ℕ, List, [], ◌++◌, sym, ap, ◌∙◌}
use Rattle.std.proofs.lemmas.List.{append_assoc, append-nil}
use Rattle.tags.specs.Canonical.{Extends}

pub extends_more : (old mid new : List ℕ) → Extends old mid → Extends mid new → Extends old new
extends_more old mid new a b = record { more = a.more ++ b.more; parts = b.parts ∙ ap (λ (x : List ℕ). x ++ b.more) a.parts ∙ append_assoc old a.more b.more }

pub extends_by : (old mid new more : List ℕ) → Extends old mid → new ≡ mid ++ more → Extends old new
extends_by old mid new more a e = extends_more old mid new a record { more = more; parts = e }

pub extends_none : (old new : List ℕ) → new ≡ old → Extends old new
extends_none old new e = record { more = []; parts = e ∙ sym (append-nil old) }

pub ruleset extending = (extends_more, extends_by, extends_none)
