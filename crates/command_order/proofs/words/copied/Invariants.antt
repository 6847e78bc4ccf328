use Rattle.std.proofs.Common.{◌≡◌, ◌++◌, map, drop, string_bytes}
use Rattle.command_order.proofs.words.copied.Given as goal

abbrev pub invariant-loop-word : goal.invariant-loop-word
invariant-loop-word l =
    map string_bytes l.copies.items ++ map (λ v. v.now) (drop l.word-index l.words) ≡ map (λ v. v.now) l.words
