-- What a manager puts out passes on what it heard, or carries no NPDU (J.4.5).
use Rattle.std.proofs.Common.{◌≡◌, ◌∙◌, refl, sym, subst, ℕ, Bool, true, false, List, [], ◌∷◌, Option, Some, None}
use Rattle.bbmd_manager.specs.Manager.{IsHeard, Saying, distributed, from_one, is_forwarded, left_of, said, said_of, sent}
use Rattle.bbmd_manager.specs.State.{ManagerState}
use Rattle.bbmd_tables.specs.Tables.{all_but, is_among, served}
use Rattle.bvll.specs.Address.{IsAddress}
use Rattle.bvll.specs.Datagram.{Datagram, canonical}
use Rattle.bvll.specs.Datagram as bvll
use Rattle.bvll.specs.declared.address.Address.{Address}
use Rattle.site_node.proofs.carry.Datagrams.{other_datagram_passes_on}
use Rattle.site_node.proofs.carry.Managers.{manager_passes_on}
use Rattle.site_node.proofs.carry.Passed.{none_some}
use Rattle.site_node.specs.carry.Datagrams.{carries_npdu, mac_at}
use Rattle.site_node.specs.carry.Passing.{PassesOn}
use Rattle.site_node.specs.carry.Things.{SentDatagram, Thing}
use Rattle.history.proofs.HasLaws.{has_map, map_has}
use Rattle.history.proofs.Lists.{none_has}
use Rattle.history.specs.Lists.{Has}
use Rattle.inside.proofs.Insides.{some_same}
use Rattle.link.specs.Step.{PortSent}
use Rattle.site_node.specs.link_site.Things.{thing_of}
use Rattle.npdu.specs.declared.mac.Mac.{Mac}
use Rattle.node_laws.proofs.Addresses.{address_again}
use Rattle.node_laws.specs.Out.{IsIpAddress}
use Rattle.site_node.specs.Manager.{HearsFrom, HearsOctets}
use Rattle.site_node.specs.Node.{manager_place}
use Rattle.site_node.specs.Stamping.{put_out, sent_to, stamp_if}

-- what a manager says carries an NPDU where it forwards one, and not else
abbrev IsPlain : Saying → Type 0
IsPlain x = carries_npdu x.what ≡ is_forwarded x.what

plain_back : (to : List Address) (what : Datagram) (x : Saying) → carries_npdu what ≡ is_forwarded what →
    Some (record { to = to; what = what }) ≡ Some x → IsPlain x
plain_back to what x plain e = subst (λ (y : Saying). IsPlain y) (some_same (record { to = to; what = what }) x e) plain

plain_one : (b : Bool) (to : List Address) (origin : Address) (npdu : List ℕ) (x : Saying) →
    from_one b (record { to = to; what = bvll.forwarded origin npdu }) ≡ Some x → IsPlain x
plain_one true to origin npdu x e = plain_back to (bvll.forwarded origin npdu) x refl e
plain_one false to origin npdu x e = absurd (none_some x e)

plain_distributed : (b : Bool) (now : ℕ) (from : Address) (st : ManagerState) (npdu : List ℕ) (x : Saying) →
    distributed b now from st npdu ≡ Some x → IsPlain x
plain_distributed true now from st npdu x e = plain_back (all_but now from st.tables) (bvll.forwarded from npdu) x refl e
plain_distributed false now from st npdu x e = plain_back (from ∷ []) _ x refl e

said_plain : (now : ℕ) (from : Address) (st : ManagerState) (d : Datagram) (x : Saying) → said now from st d ≡ Some x → IsPlain x
said_plain now from st (bvll.broadcast npdu) x e = plain_one _ _ from npdu x e
said_plain now from st (bvll.forwarded origin npdu) x e = plain_one _ _ origin npdu x e
said_plain now from st (bvll.distribute npdu) x e =
    plain_distributed (is_among from (served now st.tables.foreign)) now from st npdu x e
said_plain now from st (bvll.write_distribution entries) x e = plain_back (from ∷ []) _ x refl e
said_plain now from st bvll.read_distribution x e = plain_back (from ∷ []) _ x refl e
said_plain now from st bvll.read_foreign x e = plain_back (from ∷ []) _ x refl e
said_plain now from st (bvll.register seconds) x e = plain_back (from ∷ []) _ x refl e
said_plain now from st (bvll.delete_foreign a) x e = plain_back (from ∷ []) _ x refl e
said_plain now from st (bvll.outcome code) x e = absurd (none_some x e)
said_plain now from st (bvll.distribution entries) x e = absurd (none_some x e)
said_plain now from st (bvll.foreign entries) x e = absurd (none_some x e)
said_plain now from st (bvll.unicast npdu) x e = absurd (none_some x e)

found_plain : (now : ℕ) (from : Address) (st : ManagerState) (found : Option Datagram) (x : Saying) →
    said_of now from st found ≡ Some x → IsPlain x
found_plain now from st None x e = absurd (none_some x e)
found_plain now from st (Some d) x e = said_plain now from st d x e

module _ {A : Type 0} (ts : List (Thing A)) (now stamp net : ℕ) (from : Address) (octets : List ℕ) (m left : ManagerState)
    (out : List (PortSent A)) (sound : IsAddress from)
    (there : Has ts (SentDatagram net (mac_at from) (mac_at m.tables.own) octets stamp))
    (h : HearsFrom now from octets stamp m out left) where
  abbrev own : Mac
  own = mac_at m.tables.own

  -- what it hears, in the words of the manager
  heard : IsHeard {A = A} now from octets m (left_of now from m h.found) (sent (said_of now from m h.found))
  heard = record { found = h.found; means = h.means; fits = h.fits; says = refl; leaves = refl }

  forwards : (x : Saying) (a : Address) → said_of now from m h.found ≡ Some x → Has x.to a →
      PassesOn ts (SentDatagram net own (mac_at a) (canonical x.what) stamp)
  forwards x a e to = manager_passes_on A ts net now stamp from octets m (left_of now from m h.found)
      (sent (said_of now from m h.found)) (record { to = a; octets = canonical x.what }) sound there heard
      (subst (λ (s : Option Saying). Has (sent {A = A} s) (record { to = a; octets = canonical x.what })) (sym e)
      (has_map (λ (b : Address). record { to = b; octets = canonical x.what }) x.to a to))

  by_kind : (x : Saying) (a : Address) → said_of now from m h.found ≡ Some x → Has x.to a → (b : Bool) →
      is_forwarded x.what ≡ b → PassesOn ts (SentDatagram net own (mac_at a) (canonical x.what) (stamp_if b stamp now))
  by_kind x a e to true is = forwards x a e to
  by_kind x a e to false is = other_datagram_passes_on ts net now own (mac_at a) x.what
      (found_plain now from m h.found x e ∙ is)

  said_passes : (s : Option Saying) → said_of now from m h.found ≡ s → (o : PortSent A) →
      Has (put_out stamp now s) o → PassesOn ts (thing_of (manager_place net m) o.sent)
  said_passes None e o at = absurd (none_has at)
  said_passes (Some x) e o at =
      let found = map_has (sent_to {A = A} stamp now x.what) x.to o at in
      subst (λ (z : PortSent A). PassesOn ts (thing_of (manager_place net m) z.sent)) found.2
      (by_kind x found.0 e found.1 (is_forwarded x.what) refl)

  heard_passes : (o : PortSent A) → Has out o → PassesOn ts (thing_of (manager_place net m) o.sent)
  heard_passes o at = said_passes (said_of now from m h.found) refl o
      (subst (λ (os : List (PortSent A)). Has os o) h.says at)

pub manager_passes : {A : Type 0} (ts : List (Thing A)) (now net : ℕ) (from : Mac) (octets : List ℕ) (stamp : ℕ)
    (m left : ManagerState) (out : List (PortSent A)) → IsIpAddress from →
    Has ts (SentDatagram net from (mac_at m.tables.own) octets stamp) →
    HearsOctets now from octets stamp m out left → (o : PortSent A) → Has out o →
    PassesOn ts (thing_of (manager_place net m) o.sent)
manager_passes ts now net from octets stamp m left out ip there hears =
    let a = ip.address in
    let sent_there = subst (λ (x : Mac). Has ts (SentDatagram net x (mac_at m.tables.own) octets stamp)) ip.is there in
    let by_mac = subst (λ (x : Mac). HearsOctets now x octets stamp m out left) ip.is hears in
    heard_passes ts now stamp net a octets m left out ip.sound sent_there
    (subst (λ (b : Address). HearsFrom now b octets stamp m out left) (address_again a ip.sound) by_mac)
