-- The standard's numbers of confirmed services and of the reasons of a Reject or an Abort (18.9, 18.10, 21).
use Rattle.std.specs.Prelude.{◌≡◌, ◌≢◌, ℕ}
use Rattle.apdu.specs.declared.numbers.ConfirmedService.{ConfirmedService}
use Rattle.apdu.specs.declared.numbers.ConfirmedService.TheVariants as service
use Rattle.apdu.specs.declared.numbers.RejectReason.{RejectReason}
use Rattle.apdu.specs.declared.numbers.RejectReason.TheVariants as reject
use Rattle.apdu.specs.declared.numbers.AbortReason.{AbortReason}
use Rattle.apdu.specs.declared.numbers.AbortReason.TheVariants as abort

-- BACnet confirmed services (21, BACnetConfirmedServiceChoice)
abbrev pub service_number : ConfirmedService → ℕ
service_number service.ReadProperty = 12
service_number service.ReadPropertyMultiple = 14
service_number service.WriteProperty = 15
service_number service.WritePropertyMultiple = 16

-- no service of this product has this number (21, BACnetConfirmedServiceChoice)
abbrev pub NoService : ℕ → Type 0
NoService n = (s : ConfirmedService) → service_number s ≢ n

-- BACnet reasons of a Reject (18.9)
abbrev pub reject_number : RejectReason → ℕ
reject_number reject.InvalidParameterDataType = 3
reject_number reject.InvalidTag = 4
reject_number reject.MissingRequiredParameter = 5
reject_number reject.ParameterOutOfRange = 6
reject_number reject.TooManyArguments = 7
reject_number reject.UnrecognizedService = 9
reject_number (reject.Other n) = n

-- a reason stands under its name where it has one here (18.9)
abbrev pub IsNamedReject : RejectReason → Type 0
IsNamedReject (reject.Other n) = (n ≢ 3) × (n ≢ 4) × (n ≢ 5) × (n ≢ 6) × (n ≢ 7) × (n ≢ 9)
IsNamedReject r = Unit {0}

-- the reason of this number (18.9)
abbrev pub IsRejectOf : ℕ → RejectReason → Type 0
IsRejectOf n r = (reject_number r ≡ n) × IsNamedReject r

-- BACnet reasons of an Abort (18.10)
abbrev pub abort_number : AbortReason → ℕ
abort_number abort.BufferOverflow = 1
abort_number abort.SegmentationNotSupported = 4
abort_number abort.OutOfResources = 9
abort_number (abort.Other n) = n

-- a reason stands under its name where it has one here (18.10)
abbrev pub IsNamedAbort : AbortReason → Type 0
IsNamedAbort (abort.Other n) = (n ≢ 1) × (n ≢ 4) × (n ≢ 9)
IsNamedAbort r = Unit {0}

-- the reason of this number (18.10)
abbrev pub IsAbortOf : ℕ → AbortReason → Type 0
IsAbortOf n r = (abort_number r ≡ n) × IsNamedAbort r

-- services of one number are one (21)
abbrev pub OneService : Type 0
OneService = (r s : ConfirmedService) → service_number r ≡ service_number s → r ≡ s

-- reasons of a Reject of one number that stand under their names are one (18.9)
abbrev pub OneReject : Type 0
OneReject = (r s : RejectReason) → reject_number r ≡ reject_number s → IsNamedReject r → IsNamedReject s → r ≡ s

-- reasons of an Abort of one number that stand under their names are one (18.10)
abbrev pub OneAbort : Type 0
OneAbort = (r s : AbortReason) → abort_number r ≡ abort_number s → IsNamedAbort r → IsNamedAbort s → r ≡ s
