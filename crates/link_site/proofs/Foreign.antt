-- A port that isn't a foreign device's says nothing where it registers (J.5.2).
use Rattle.std.proofs.Common.{◌≡◌, ℕ, false, [], refl}
use Rattle.link.specs.Carrying.{nothing}
use Rattle.link_ip.specs.Port as ip
use Rattle.link_ip.specs.Saying.{registration}
use Rattle.link_ip.specs.declared.port.Reach.{Reach}
use Rattle.link_ip.specs.declared.port.Reach.TheVariants.{Members, Foreign}
use Rattle.link_site.specs.Port.{at_moment, is_foreign}
use Rattle.link_site.specs.Steps.{Registers}
use Rattle.link_site.specs.declared.port.SitePort.{SitePort}
use Rattle.link_site.specs.declared.port.SitePort.TheVariants.{Ip, Bus}

says_none : {A : Type 0} (reach : Reach A) (now : ℕ) → ip.is_foreign reach ≡ false → [] ≡ registration reach now
says_none (Members others) now e = refl
says_none (Foreign manager seconds) now e = cc

pub registers_silently : {A : Type 0} (now : ℕ) (port : SitePort A) → is_foreign port ≡ false →
    Registers now port nothing (at_moment now port)
registers_silently now (Ip port) e = record { silent = refl; says = says_none port.reach now e; left = refl }
registers_silently now (Bus port) e = record { nothing = refl; left = refl }
