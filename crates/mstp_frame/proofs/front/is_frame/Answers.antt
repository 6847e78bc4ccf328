use Rattle.std.proofs.Common.{◌≡◌, ◌+◌, false, length, ap, arith, subst, sym, ◌∙◌}
use Rattle.std.proofs.lemmas.Bool.{ne_eqb}
use Rattle.std.specs.Prelude.{nat_eq}
use Rattle.mstp_frame.specs.Front.{IsRead}
use Rattle.mstp_frame.proofs.Reading.{data_none}
use Rattle.mstp_frame.proofs.front.is_frame.Goals as goal

pub returns-else-octets-size_of : goal.returns-else-octets-size_of
returns-else-octets-size_of c =
    let octets = c.args.octets.now in
    let other : nat_eq (length octets) (10 + c.size_of.result) ≡ false = ne_eqb _ _ c.if-octets-size_of.false in
    subst (λ b. IsRead octets b) (sym other)
    (data_none octets _ c.split_at.ensures.front (omega (arith, c.if-octets-lt-HEADER_OCTETS.false)) c.in-Unfinished.ensures
    (λ e. c.if-octets-size_of.false (e ∙ ap (λ n. 10 + n) (sym c.size_of.ensures))))
