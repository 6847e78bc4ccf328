-- Addresses of BACnet/IP, as link addresses.
use Rattle.std.proofs.Common.{◌≡◌, ◌∙◌, refl, sym, ap, ℕ, true, List, [], length, arith, length-append, Some}
use Rattle.std.specs.Prelude.{◌==◌}
use Rattle.std.proofs.lemmas.List.{append-nil, take_at, drop_at}
use Rattle.byteorder.specs.Endian.{big_bytes, big_number}
use Rattle.byteorder.specs.Numbers.{big_number-reads_back}
use Rattle.bvll.specs.Address.{IsAddress, address_at, address_octets}
use Rattle.bvll.specs.Datagram.{Datagram, Spells}
use Rattle.bvll.specs.Datagram as bvll
use Rattle.bvll.specs.declared.address.Address.{Address}
use Rattle.site_node.proofs.carry.Passed.{none_some}
use Rattle.site_node.specs.carry.Datagrams.{IsDatagramOf, carried_by, mac_at}
use Rattle.inside.proofs.Insides.{some_same}
use Rattle.npdu.specs.Mac.{is_address}
use Rattle.npdu.specs.declared.mac.Mac.{Mac}
use Rattle.npdu.specs.declared.parcel.Parcel.{Parcel}
use Rattle.node_laws.specs.Out.{IsIpAddress}

same_address : (a : Address) (ip : List ℕ) (port : ℕ) → ip ≡ a.ip → port ≡ a.port → record { ip = ip; port = port } ≡ a
same_address a ip port e g = rw (e, g) refl

-- its octets say which address it is
pub address_again : (a : Address) → IsAddress a → address_at (address_octets a) ≡ a
address_again a fits =
    let ip = take_at a.ip (big_bytes 2 a.port) 4 fits.ip in
    let port = drop_at a.ip (big_bytes 2 a.port) 4 fits.ip in
    let whole : big_number 2 (big_bytes 2 a.port) ≡ a.port =
    ap (big_number 2) (sym (append-nil (big_bytes 2 a.port))) ∙ big_number-reads_back 2 a.port [] fits.port in
    same_address a _ _ ip (ap (big_number 2) port ∙ whole)

six_octets : (a : Address) → IsAddress a → length (address_octets a) ≡ 6
six_octets a fits = simp length-append (omega (arith, fits.ip))

mac_is_address : (a : Address) → IsAddress a → is_address (mac_at a) ≡ true
mac_is_address a fits = ap (λ n. n == 6) (six_octets a fits)

pub ip_is_address : (mac : Mac) → IsIpAddress mac → is_address mac ≡ true
ip_is_address mac is = ap is_address is.is ∙ mac_is_address is.address is.sound

-- what a datagram carries is from an address
from_sent : {A : Type 0} (from to : Mac) (stamp : ℕ) (d : Datagram) (p : Parcel A) → bvll.IsSound d → is_address from ≡ true →
    carried_by from to stamp d ≡ Some p → is_address p.from ≡ true
from_sent from to stamp (bvll.unicast npdu) p sound address e =
    ap (λ (q : Parcel _). is_address q.from) (sym (some_same _ p e)) ∙ address
from_sent from to stamp (bvll.broadcast npdu) p sound address e =
    ap (λ (q : Parcel _). is_address q.from) (sym (some_same _ p e)) ∙ address
from_sent from to stamp (bvll.distribute npdu) p sound address e =
    ap (λ (q : Parcel _). is_address q.from) (sym (some_same _ p e)) ∙ address
from_sent from to stamp (bvll.forwarded origin npdu) p sound address e =
    ap (λ (q : Parcel _). is_address q.from) (sym (some_same _ p e)) ∙ mac_is_address origin sound.fields
from_sent from to stamp (bvll.outcome code) p sound address e = absurd (none_some p e)
from_sent from to stamp (bvll.write_distribution entries) p sound address e = absurd (none_some p e)
from_sent from to stamp bvll.read_distribution p sound address e = absurd (none_some p e)
from_sent from to stamp (bvll.distribution entries) p sound address e = absurd (none_some p e)
from_sent from to stamp (bvll.register seconds) p sound address e = absurd (none_some p e)
from_sent from to stamp bvll.read_foreign p sound address e = absurd (none_some p e)
from_sent from to stamp (bvll.foreign entries) p sound address e = absurd (none_some p e)
from_sent from to stamp (bvll.delete_foreign address2) p sound address e = absurd (none_some p e)

pub datagram_from : {A : Type 0} (from to : Mac) (octets : List ℕ) (stamp : ℕ) (p : Parcel A) → is_address from ≡ true →
    IsDatagramOf from to octets stamp p → is_address p.from ≡ true
datagram_from from to octets stamp p address d =
    from_sent from to stamp d.datagram p d.spelled.sound address d.carries
