-- The stamps of what a manager says (J.4.5).
use Rattle.std.specs.Prelude.{ℕ, ◌==◌, Bool, true, false, List, [], ◌∷◌, map, Option, Some, None}
use Rattle.bbmd_manager.specs.Manager.{Saying, is_forwarded}
use Rattle.bbmd_manager.specs.declared.saying.Outgoing.{Outgoing}
use Rattle.bvll.specs.Datagram.{Datagram, canonical}
use Rattle.bvll.specs.Function.{number_of}
use Rattle.bvll.specs.declared.address.Address.{Address}
use Rattle.bvll.specs.declared.function.Function.TheVariants.{ForwardedNpdu}
use Rattle.carry.specs.Datagrams.{mac_at}
use Rattle.link.specs.Step.{PortSent}

-- what carries an NPDU on has the stamp of what was heard; what a manager says of itself, a Result or an Ack, this
-- moment
abbrev pub stamp_if : (carries : Bool) → (heard now : ℕ) → ℕ
stamp_if true heard now = heard
stamp_if false heard now = now

abbrev pub stamp_of : (heard now : ℕ) → Datagram → ℕ
stamp_of heard now d = stamp_if (is_forwarded d) heard now

-- a datagram goes out to an address, at the one place of a manager
abbrev pub sent_to : {A : Type 0} → (heard now : ℕ) → Datagram → Address → PortSent A
sent_to heard now d a =
    record { port = 0; sent = record { to = mac_at a; octets = canonical d; stamp = stamp_of heard now d } }

-- what is said goes out to each, in order
abbrev pub put_out : {A : Type 0} → (heard now : ℕ) → Option Saying → List (PortSent A)
put_out heard now None = []
put_out heard now (Some s) = map (sent_to heard now s.what) s.to

-- octets are those of a Forwarded-NPDU (J.2.5): for private functions alone
abbrev pub carries_on : List ℕ → Bool
carries_on [] = false
carries_on (first ∷ []) = false
carries_on (first ∷ function ∷ rest) = function == number_of ForwardedNpdu

-- what is said with its stamp, by its octets: for private functions alone
abbrev pub stamped : {A : Type 0} → (heard now : ℕ) → Outgoing A → PortSent A
stamped heard now o = record {
  port = 0;
  sent = record { to = mac_at o.to; octets = o.octets; stamp = stamp_if (carries_on o.octets) heard now };
}
