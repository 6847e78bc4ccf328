-- A port of either kind, as an event leaves it: that of its kind.
use Rattle.std.proofs.Common.{◌≡◌, refl, ℕ}
use Rattle.link.specs.declared.step.Change.{Change}
use Rattle.link.specs.declared.step.Change.TheVariants.{Nothing, Moment, Whole}
use Rattle.link_ip.specs.Port as ip
use Rattle.link_site.specs.Port.{AsIp}

module _ {A : Type 0} where
  pub nothing_as_ip : AsIp {A = A} Nothing Nothing
  nothing_as_ip = record { same = λ now port. refl }

  pub moment_as_ip : AsIp {A = A} Moment Moment
  moment_as_ip = record { same = λ now port. refl }

  pub whole_as_ip : (other : ip.IpPortState A) → AsIp (Whole other) Moment
  whole_as_ip other = record { same = λ now port. refl }

pub ruleset change_rules = (nothing_as_ip, moment_as_ip, whole_as_ip)
