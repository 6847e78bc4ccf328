-- Messages behind the first so many, and how many there are.
use Rattle.std.proofs.Common.{◌≡◌, ◌∙◌, sym, ap, ℕ, List, drop, length}
use Rattle.std.proofs.lemmas.List.{drop-map, length-map}
use Rattle.inside.specs.Inside.{Said}
use Rattle.storm.specs.world_log.Kept.{all_said, said_of}
use Rattle.storm.specs.world_log.declared.saying.SaidMessage.{SaidMessage}

pub said_behind : {A : Type 0} (ms rest : List (SaidMessage A)) (ss : List Said) (n : ℕ) → all_said ms ≡ ss →
    rest ≡ drop n ms → all_said rest ≡ drop n ss
said_behind {A} ms rest ss n all is =
    ap (λ (l : List (SaidMessage A)). all_said l) is ∙ sym (drop-map (λ m. said_of m) n ms)
    ∙ ap (λ (l : List Said). drop n l) all

pub said_many : {A : Type 0} (ms : List (SaidMessage A)) (ss : List Said) → all_said ms ≡ ss → length ms ≡ length ss
said_many ms ss all = sym (length-map ms (λ m. said_of m)) ∙ ap (λ (l : List Said). length l) all

pub ruleset said_rules = (said_behind, said_many)
