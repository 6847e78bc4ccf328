use Rattle.std.proofs.Common.{◌≡◌, List, ℕ, ◌++◌, ◌∷◌, [], drop, flat_map}
use Rattle.octet_texts.specs.Pairs.{pairs_of}
use Rattle.console.proofs.answer.printed.Given as goal

abbrev pub invariant-loop-octets : goal.invariant-loop-octets
invariant-loop-octets g l = l.text.items ++ flat_map (λ (o : List ℕ). pairs_of o ++ 10 ∷ []) (drop l.octets-index l.said)
    ≡ flat_map (λ (o : List ℕ). pairs_of o ++ 10 ∷ []) l.said
