-- A service, a reason and a size have one name each.
use Rattle.std.proofs.Common.{ℕ, refl, ap, arith}
use Rattle.apdu.specs.declared.numbers.ConfirmedService.TheVariants as service
use Rattle.apdu.specs.declared.numbers.RejectReason.TheVariants as reject
use Rattle.apdu.specs.declared.numbers.AbortReason.TheVariants as abort
use Rattle.apdu.specs.declared.sizes.MaxSegments.TheVariants.{Unspecified, Two, Four, Eight, Sixteen, ThirtyTwo, SixtyFour, More}
use Rattle.apdu.specs.declared.sizes.MaxApdu.TheVariants.{UpTo50, UpTo128, UpTo206, UpTo480, UpTo1024, UpTo1476, Reserved}
use Rattle.apdu.specs.Numbers.{OneService, OneReject, OneAbort}
use Rattle.apdu.specs.Sizes.{OneCount, OneSize}

pub one_service : OneService
one_service service.ReadProperty service.ReadProperty e = refl
one_service service.ReadPropertyMultiple service.ReadPropertyMultiple e = refl
one_service service.WriteProperty service.WriteProperty e = refl
one_service service.WritePropertyMultiple service.WritePropertyMultiple e = refl
one_service r s e = grind arith

pub one_reject : OneReject
one_reject reject.InvalidParameterDataType reject.InvalidParameterDataType e m n = refl
one_reject reject.InvalidTag reject.InvalidTag e m n = refl
one_reject reject.MissingRequiredParameter reject.MissingRequiredParameter e m n = refl
one_reject reject.ParameterOutOfRange reject.ParameterOutOfRange e m n = refl
one_reject reject.TooManyArguments reject.TooManyArguments e m n = refl
one_reject reject.UnrecognizedService reject.UnrecognizedService e m n = refl
one_reject (reject.Other a) (reject.Other b) e m n = ap (λ (k : ℕ). reject.Other k) e
one_reject r s e m n = grind arith

pub one_abort : OneAbort
one_abort abort.BufferOverflow abort.BufferOverflow e m n = refl
one_abort abort.SegmentationNotSupported abort.SegmentationNotSupported e m n = refl
one_abort abort.OutOfResources abort.OutOfResources e m n = refl
one_abort (abort.Other a) (abort.Other b) e m n = ap (λ (k : ℕ). abort.Other k) e
one_abort r s e m n = grind arith

pub one_count : OneCount
one_count Unspecified Unspecified e = refl
one_count Two Two e = refl
one_count Four Four e = refl
one_count Eight Eight e = refl
one_count Sixteen Sixteen e = refl
one_count ThirtyTwo ThirtyTwo e = refl
one_count SixtyFour SixtyFour e = refl
one_count More More e = refl
one_count m n e = absurd (omega arith)

pub one_size : OneSize
one_size UpTo50 UpTo50 e m n = refl
one_size UpTo128 UpTo128 e m n = refl
one_size UpTo206 UpTo206 e m n = refl
one_size UpTo480 UpTo480 e m n = refl
one_size UpTo1024 UpTo1024 e m n = refl
one_size UpTo1476 UpTo1476 e m n = refl
one_size (Reserved a) (Reserved b) e m n = ap (λ (k : ℕ). Reserved k) e
one_size a b e m n = grind arith

pub ruleset number_names = (one_service, one_reject, one_abort)
