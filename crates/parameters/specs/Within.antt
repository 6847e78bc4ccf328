-- The opening tags that wait for their closing ones (20.2.1.3.2).
use Rattle.std.specs.Prelude.{ℕ, ◌+◌, ◌-◌, ◌==◌, ◌&&◌, ◌^◌, nat_lt, min, if◌then◌else◌, Bool, true, false}
use Rattle.parameters.specs.declared.within.Within.{Within}
use Rattle.parameters.specs.declared.within.Within.TheVariants.{Nothing, One, Two, More}

-- those behind an opening tag
abbrev pub opened : Within → ℕ → Within
opened Nothing n = One n
opened (One a) n = Two a n
opened (Two a b) n = More a b 1
opened (More a b count) n = More a b (min (count + 1) (2 ^ 64 - 1))

-- those behind a closing tag
abbrev pub closed : Within → Within
closed Nothing = Nothing
closed (One a) = Nothing
closed (Two a b) = One a
closed (More a b count) = if nat_lt count 2 then Two a b else More a b (count - 1)

-- the same wait; of more than two nothing is known
abbrev pub is_same : Within → Within → Bool
is_same Nothing Nothing = true
is_same (One a) (One b) = a == b
is_same (Two a b) (Two c d) = (a == c) && (b == d)
is_same _ _ = false
