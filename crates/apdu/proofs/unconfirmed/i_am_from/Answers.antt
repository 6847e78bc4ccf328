use Rattle.std.proofs.Common.{ℕ, List, rules, subst}
use Rattle.apdu.specs.Unconfirmed.{NoIAm}
use Rattle.apdu.proofs.UnconfirmedLaws.{no_i_am_left_over}
use Rattle.apdu.proofs.unconfirmed.i_am_from.Goals as goal

pub returns-then-not-is_at_end-clause-refused : goal.returns-then-not-is_at_end-clause-refused
returns-then-not-is_at_end-clause-refused c =
    subst (λ (x : List ℕ). NoIAm x) c.new-reader.ensures
    (no_i_am_left_over _ _ _ _ _ _ _ _ _ c.in_ok-device.ensures.only c.in_ok-max_apdu.ensures.only c.in_ok-segmentation.ensures.only
    c.in_ok-vendor.ensures.only (search rules))
