-- Until when nothing is due at any of a node's ports.
use Rattle.std.proofs.Common.{arith, ◌≡◌, sym, subst, ℕ, ◌<◌, List, [], ◌∷◌, length}
use Rattle.std.specs.Prelude.{false, min}
use Rattle.due_times.specs.Until.{Until}
use Rattle.link_site.specs.Steps as site
use Rattle.link_site.specs.declared.port.SitePort.{SitePort}
use Rattle.site_ports.specs.Ports.{NothingIsDue}

module _ {A : Type 0} where
  -- nothing was due at those that were passed
  pub until_first : (due : ℕ) (all : List (SitePort A)) →
      Until due (λ now. NothingIsDue now all → NothingIsDue now all)
  until_first due all = record { holds = λ now lt none. none }

  pub until_next : (next due here : ℕ) (all left rest : List (SitePort A)) (l : SitePort A) → left ≡ l ∷ rest →
      Until due (λ now. NothingIsDue now left → NothingIsDue now all) → Until here (λ now. site.is_due now l ≡ false) →
      next ≡ min due here → Until next (λ now. NothingIsDue now rest → NothingIsDue now all)
  until_next next due here all left rest l is so_far one least = record {
    holds = λ now lt none. so_far.holds now (omega (arith, lt, least))
        (subst (λ (ls : List (SitePort A)). NothingIsDue now ls) {y = left} (sym is)
        (one.holds now (omega (arith, lt, least)), none));
  }

  pub until_all : (due : ℕ) (all left : List (SitePort A)) →
      Until due (λ now. NothingIsDue now left → NothingIsDue now all) → length left < 1 →
      Until due (λ now. NothingIsDue now all)
  until_all due all [] so_far none = record { holds = λ now lt. so_far.holds now lt tt }
  until_all due all (l ∷ left) so_far none = absurd (omega (arith, none))

pub ruleset until_rules = (until_first, until_all)
