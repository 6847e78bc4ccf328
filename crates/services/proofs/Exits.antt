-- What a `?` hands on.
use Rattle.std.proofs.Common.{◌≡◌, Result, Ok, Err, sym, subst}
use Rattle.std.specs.Prelude.{IfErr, IsErrAnd}
use Rattle.std.proofs.lemmas.Result.{err_from_is_err_and}
use Rattle.apdu.specs.declared.numbers.RejectReason.{RejectReason}
use Rattle.answers.specs.declared.stop.Stop.{Stop}
use Rattle.answers.specs.declared.stop.Stop.TheVariants.{Memory, Reject}
use Rattle.answers.specs.Stop.{StopsFor}

-- the error itself
pub exit_same : {T E : Type 0} (Holds : E → Type 0) (r : Result T E) (e : E) → IsErrAnd r (λ d. d ≡ e) → Holds e → IfErr r Holds
exit_same Holds r e h x =
    let p = err_from_is_err_and r h in
    rw (p.1) (subst Holds (sym p.2) x)

-- a reason, as that of a stop
pub exit_reason : {T : Type 0} (Holds : RejectReason → Type 0) (r : Result T Stop) (e : RejectReason) → IsErrAnd r (λ d. d ≡ Reject e) → Holds e →
    IfErr r (λ stop. StopsFor Holds stop)
exit_reason Holds r e h x =
    let p = err_from_is_err_and r h in
    rw (p.1) (subst (λ (s : Stop). StopsFor Holds s) (sym p.2) x)

pub stops_map : (Holds Other : RejectReason → Type 0) (stop : Stop) → StopsFor Holds stop → ((reason : RejectReason) → Holds reason → Other reason) →
    StopsFor Other stop
stops_map Holds Other Memory h f = tt
stops_map Holds Other (Reject reason) h f = f reason h

-- a stop, whose reason shows another
pub exit_stop : {T : Type 0} (Holds Other : RejectReason → Type 0) (r : Result T Stop) (e : Stop) → IsErrAnd r (λ d. d ≡ e) → StopsFor Holds e →
    ((reason : RejectReason) → Holds reason → Other reason) → IfErr r (λ stop. StopsFor Other stop)
exit_stop Holds Other r e h x f =
    let p = err_from_is_err_and r h in
    rw (p.1) (subst (λ (s : Stop). StopsFor Other s) (sym p.2) (stops_map Holds Other e x f))

-- the result of a call, whose error shows another
pub err_shows : {T E : Type 0} (Holds Other : E → Type 0) (r : Result T E) → IfErr r Holds → ((e : E) → Holds e → Other e) → IfErr r Other
err_shows Holds Other (Ok x) h f = tt
err_shows Holds Other (Err e) h f = f e h
