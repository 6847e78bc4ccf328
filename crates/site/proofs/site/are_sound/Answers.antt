use Rattle.std.proofs.Common.{rules}
use Rattle.site.proofs.site.are_sound.Goals as goal

pub fits-requires : goal.fits-requires
fits-requires g c = record { plain = c.is_plain.ensures.0 (search rules) }

pub returns : goal.returns
returns g c = (
  λ t. record { plain = c.is_plain.ensures.0 (search rules); fit = c.in_ok-is_fit.ensures.0 t },
  λ s. c.in_ok-is_fit.ensures.1 s.fit,
)
