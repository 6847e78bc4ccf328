-- Until when a port has nothing to do where it wakes.
use Rattle.std.proofs.Common.{◌≡◌, ◌∙◌, ap, ℕ, ◌<◌, false}
use Rattle.due_times.specs.Until.{Until}
use Rattle.link_bus.specs.Port.{BusPortState}
use Rattle.link_bus.specs.Steps as bus
use Rattle.link_ip.specs.Port.{IpPortState}
use Rattle.link_site.specs.Steps.{is_due}
use Rattle.link_site.specs.declared.port.SitePort.{SitePort}
use Rattle.link_site.specs.declared.port.SitePort.TheVariants.{Ip, Bus}

module _ {A : Type 0} where
  pub due_bus : (due : ℕ) (l : SitePort A) (p : BusPortState A) → Until due (λ now. bus.is_due now p ≡ false) →
      l ≡ Bus p → Until due (λ now. is_due now l ≡ false)
  due_bus due l p until is =
      record { holds = λ now lt. ap (λ (m : SitePort A). is_due now m) is ∙ until.holds now lt }

  -- on BACnet/IP nothing is ever due
  pub due_ip : (due : ℕ) (l : SitePort A) (p : IpPortState A) → l ≡ Ip p → Until due (λ now. is_due now l ≡ false)
  due_ip due l p is = record { holds = λ now lt. ap (λ (m : SitePort A). is_due now m) is }

pub ruleset due_rules = (due_bus, due_ip)
