-- What a broadcast manager says of a datagram, and what it then knows (J.4.5, J.5).
use Rattle.std.specs.Prelude.{◌≡◌, ◌⊎◌, ℕ, nat_lt, Bool, true, false, ◌&&◌, cond}
use Rattle.std.specs.Prelude.{List, [], ◌∷◌, ◌++◌, map, length, Option, Some, None, IsSome}
use Rattle.bvll.specs.declared.address.Address.{Address}
use Rattle.bvll.specs.declared.code.ResultCode.{ResultCode}
use Rattle.bvll.specs.declared.code.ResultCode.TheVariants as code
use Rattle.bvll.specs.Code.{code_number}
use Rattle.bvll.specs.Datagram.{Datagram, canonical, Spells, NoDatagram}
use Rattle.bvll.specs.Datagram as bvll
use Rattle.tags.specs.declared.fault.Fault.{Fault}
use Rattle.tags.specs.declared.fault.Fault.TheVariants.{Memory, TooLong}
use Rattle.profile.specs.declared.link_kind.LinkKind.TheVariants.{BacnetIp}
use Rattle.profile.specs.LinkKind.{max_npdu}
use Rattle.bbmd_tables.specs.declared.registration.Registration.{Registration}
use Rattle.bbmd_tables.specs.Tables.{all_but, has_room, is_among, living, members_of, peers_of, registered, served}
use Rattle.bbmd_tables.specs.Tables.{told, two_hops, without}
use Rattle.bbmd_manager.specs.declared.saying.Outgoing.{Outgoing}
use Rattle.bbmd_manager.specs.State.{ManagerState}

-- a datagram to each of these
pub record Saying : Type 0 where
  pub to : List Address
  pub what : Datagram

-- the datagram as it goes to each, in order
abbrev pub sent_to : {A : Type 0} → List Address → Datagram → List (Outgoing A)
sent_to to d = map (λ a. record { to = a; octets = canonical d }) to

-- what goes, where something is said
abbrev pub sent : {A : Type 0} → Option Saying → List (Outgoing A)
sent None = []
sent (Some s) = sent_to s.to s.what

-- an answer to who asked
abbrev pub back : Address → Datagram → Option Saying
back from d = Some (record { to = from ∷ []; what = d })

-- a result with this code to who asked (J.2.1)
abbrev pub result_back : Address → ResultCode → Option Saying
result_back from result = back from (bvll.outcome (code_number result))

-- this from one of those alone
abbrev pub from_one : Bool → Saying → Option Saying
from_one true s = Some s
from_one false s = None

-- the code of a result: successful completion, or this where it isn't done (J.2.1)
abbrev pub code_if : Bool → ResultCode → ResultCode
code_if true nak = code.Success
code_if false nak = nak

-- there is a place for this device in the foreign device table (J.2.6)
abbrev pub has_place : ℕ → Address → ManagerState → Bool
has_place now a st = has_room now a st.tables.foreign

-- what is said of a broadcast that a foreign device asks for; a stranger is refused (J.2.10, J.4.5)
abbrev pub distributed : Bool → ℕ → Address → ManagerState → List ℕ → Option Saying
distributed true now from st npdu = Some (record { to = all_but now from st.tables; what = bvll.forwarded from npdu })
distributed false now from st npdu = result_back from code.DistributeBroadcastToNetworkNak

-- what a manager says of a datagram, by who sent it (J.2, J.4.5)
abbrev pub said : ℕ → Address → ManagerState → Datagram → Option Saying
said now from st (bvll.broadcast npdu) = from_one (is_among from (members_of st.tables)) (record {
  to = peers_of st.tables ++ served now st.tables.foreign;
  what = bvll.forwarded from npdu;
})
said now from st (bvll.forwarded origin npdu) = from_one (is_among from (peers_of st.tables)) (record {
  to = members_of st.tables ++ served now st.tables.foreign;
  what = bvll.forwarded origin npdu;
})
said now from st (bvll.distribute npdu) = distributed (is_among from (served now st.tables.foreign)) now from st npdu
said now from st (bvll.write_distribution entries) = result_back from code.WriteBroadcastDistributionTableNak
said now from st bvll.read_distribution = back from (bvll.distribution (map two_hops st.tables.managers))
said now from st bvll.read_foreign = back from (bvll.foreign (map (told now) (living now st.tables.foreign)))
said now from st (bvll.register seconds) =
    result_back from (code_if (has_place now from st) code.RegisterForeignDeviceNak)
said now from st (bvll.delete_foreign a) =
    result_back from (code_if (is_among a (served now st.tables.foreign)) code.DeleteForeignDeviceTableEntryNak)
said now from st (bvll.outcome code) = None
said now from st (bvll.distribution entries) = None
said now from st (bvll.foreign entries) = None
said now from st (bvll.unicast npdu) = None

-- a datagram carries an NPDU on
abbrev pub is_forwarded : Datagram → Bool
is_forwarded (bvll.forwarded origin npdu) = true
is_forwarded d = false

-- what is said, where it carries an NPDU on: a result does not
abbrev pub carrying : Option Saying → Option Saying
carrying None = None
carrying (Some s) = from_one (is_forwarded s.what) s

-- to whom an NPDU is carried on
abbrev pub carried_to : Option Saying → List Address
carried_to None = []
carried_to (Some s) = cond (is_forwarded s.what) s.to []

-- the registrations behind a datagram: at the end who registers anew, and without who is deleted (J.5.2)
abbrev pub foreign_left : ℕ → Address → ManagerState → Datagram → List Registration
foreign_left now from st (bvll.register seconds) =
    registered (has_place now from st) now from seconds st.tables.foreign
foreign_left now from st (bvll.delete_foreign a) = without now a st.tables.foreign
foreign_left now from st d = st.tables.foreign

-- what the manager knows behind a datagram: that alone of the registrations is another
abbrev pub left : ℕ → Address → ManagerState → Datagram → ManagerState
left now from st d = record {
  tables = record st.tables { foreign = foreign_left now from st d };
  moment = now;
}

-- the NPDU is longer than one may be on BACnet/IP (Annex J)
abbrev pub is_over_long : List ℕ → Bool
is_over_long npdu = nat_lt (max_npdu BacnetIp) (length npdu)

-- the datagram forwards an NPDU that is too long
abbrev pub forwards_too_much : Datagram → Bool
forwards_too_much (bvll.forwarded origin npdu) = is_over_long npdu
forwards_too_much d = false

-- what is to be said to somebody is too long
abbrev pub is_too_long : Option Saying → Bool
is_too_long None = false
is_too_long (Some s) = forwards_too_much s.what && nat_lt 0 (length s.to)

-- what is said of what was found in the octets
abbrev pub said_of : ℕ → Address → ManagerState → Option Datagram → Option Saying
said_of now from st None = None
said_of now from st (Some d) = said now from st d

-- what is known behind it
abbrev pub left_of : ℕ → Address → ManagerState → Option Datagram → ManagerState
left_of now from st None = record st { moment = now }
left_of now from st (Some d) = left now from st d

-- the octets spell this datagram, or none (Annex J)
abbrev pub IsFound : List ℕ → Option Datagram → Type 0
IsFound octets None = NoDatagram octets
IsFound octets (Some d) = Spells octets d

-- why nothing is said: want of memory, or what is to be said is too long
abbrev pub IsCause : Fault → Option Saying → Type 0
IsCause e s = (e ≡ Memory) ⊎ ((e ≡ TooLong) × (is_too_long s ≡ true))

-- what a manager hears and says, and what it knows behind it
pub record IsHeard {A : Type 0} (now : ℕ) (from : Address) (octets : List ℕ) (old new : ManagerState)
    (out : List (Outgoing A)) : Type 0 where
  pub found : Option Datagram
  pub means : IsFound octets found
  pub fits : is_too_long (said_of now from old found) ≡ false
  pub says : out ≡ sent (said_of now from old found)
  pub leaves : new ≡ left_of now from old found

-- the octets spell a datagram of which something is said: it isn't dropped
pub record IsTaken (now : ℕ) (from : Address) (octets : List ℕ) (st : ManagerState) : Type 0 where
  pub heard : Datagram
  pub means : Spells octets heard
  pub says : IsSome (said now from st heard)

-- the octets spell what is too long to be forwarded
pub record IsTooLong (now : ℕ) (from : Address) (octets : List ℕ) (st : ManagerState) : Type 0 where
  pub heard : Datagram
  pub means : Spells octets heard
  pub long : is_too_long (said now from st heard) ≡ true
