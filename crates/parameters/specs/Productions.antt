-- The parameters of each service, by where their tags stand (15, 16, 21).
use Rattle.std.specs.Prelude.{ℕ, ◌==◌, if◌then◌else◌, List, [], ◌∷◌}
use Rattle.apdu.specs.declared.pdu_type.PduType.{PduType}
use Rattle.apdu.specs.declared.pdu_type.PduType.TheVariants as kind
use Rattle.parameters.specs.declared.within.Within.{Within}
use Rattle.parameters.specs.declared.within.Within.TheVariants.{Nothing, One, Two}
use Rattle.parameters.specs.declared.productions.Parameter.{Parameter}
use Rattle.parameters.specs.declared.productions.Parameter.TheVariants.{Object, Property, Index, Value, Priority}
use Rattle.parameters.specs.declared.productions.Parameter.TheVariants.{ErrorClass, ErrorCode, LowLimit, HighLimit}
use Rattle.parameters.specs.declared.productions.Parameter.TheVariants.{MaxApdu, Segmentation, Vendor}
use Rattle.parameters.specs.declared.productions.Row.{Row}
use Rattle.parameters.specs.declared.productions.Which.{Which}
use Rattle.parameters.specs.declared.productions.Which.TheVariants.{Context, Each, Nth}

-- a parameter behind these opening tags, with this tag
abbrev pub at : Within → Which → Parameter → Row
at w tag p = record { within = w; which = tag; parameter = p }

-- ReadProperty-Request (15.5.1)
abbrev pub read_request : List Row
read_request =
    at Nothing (Context 0) Object ∷
    at Nothing (Context 1) Property ∷
    at Nothing (Context 2) Index ∷ []

-- ReadProperty-ACK (15.5.2)
abbrev pub read_ack : List Row
read_ack =
    at Nothing (Context 0) Object ∷
    at Nothing (Context 1) Property ∷
    at Nothing (Context 2) Index ∷
    at (One 3) Each Value ∷ []

-- ReadPropertyMultiple-Request (15.7.1)
abbrev pub read_many_request : List Row
read_many_request =
    at Nothing (Context 0) Object ∷
    at (One 1) (Context 0) Property ∷
    at (One 1) (Context 1) Index ∷ []

-- ReadPropertyMultiple-ACK (15.7.2)
abbrev pub read_many_ack : List Row
read_many_ack =
    at Nothing (Context 0) Object ∷
    at (One 1) (Context 2) Property ∷
    at (One 1) (Context 3) Index ∷
    at (Two 1 4) Each Value ∷
    at (Two 1 5) (Nth 0) ErrorClass ∷
    at (Two 1 5) (Nth 1) ErrorCode ∷ []

-- WriteProperty-Request (15.9.1)
abbrev pub write_request : List Row
write_request =
    at Nothing (Context 0) Object ∷
    at Nothing (Context 1) Property ∷
    at Nothing (Context 2) Index ∷
    at (One 3) Each Value ∷
    at Nothing (Context 4) Priority ∷ []

-- WritePropertyMultiple-Request (15.10.1)
abbrev pub write_many_request : List Row
write_many_request =
    at Nothing (Context 0) Object ∷
    at (One 1) (Context 0) Property ∷
    at (One 1) (Context 1) Index ∷
    at (Two 1 2) Each Value ∷
    at (One 1) (Context 3) Priority ∷ []

-- WritePropertyMultiple-Error (15.10.2)
abbrev pub write_many_error : List Row
write_many_error =
    at (One 0) (Nth 0) ErrorClass ∷
    at (One 0) (Nth 1) ErrorCode ∷
    at (One 1) (Context 0) Object ∷
    at (One 1) (Context 1) Property ∷
    at (One 1) (Context 2) Index ∷ []

-- Error (18)
abbrev pub error : List Row
error =
    at Nothing (Nth 0) ErrorClass ∷
    at Nothing (Nth 1) ErrorCode ∷ []

-- I-Am-Request (16.10.2)
abbrev pub i_am : List Row
i_am =
    at Nothing (Nth 0) Object ∷
    at Nothing (Nth 1) MaxApdu ∷
    at Nothing (Nth 2) Segmentation ∷
    at Nothing (Nth 3) Vendor ∷ []

-- Who-Is-Request (16.10.1)
abbrev pub who_is : List Row
who_is =
    at Nothing (Context 0) LowLimit ∷
    at Nothing (Context 1) HighLimit ∷ []

-- a confirmed request (15)
abbrev pub request : ℕ → List Row
request service =
    if service == 12 then read_request else if service == 14 then read_many_request
    else if service == 15 then write_request else if service == 16 then write_many_request else []

-- a ComplexACK (15)
abbrev pub ack : ℕ → List Row
ack service = if service == 12 then read_ack else if service == 14 then read_many_ack else []

-- an unconfirmed request (16)
abbrev pub unconfirmed : ℕ → List Row
unconfirmed service = if service == 0 then i_am else if service == 8 then who_is else []

-- what an APDU of this type says of the service of this number; none where the parameters aren't known here
unfoldable pub production : PduType → ℕ → List Row
production kind.ConfirmedRequest service = request service
production kind.ComplexAck service = ack service
production kind.Error service = if service == 16 then write_many_error else error
production kind.UnconfirmedRequest service = unconfirmed service
production _ service = []
