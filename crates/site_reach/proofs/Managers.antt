-- What a manager puts out is no registration, and whom it knows then.
use Rattle.std.proofs.Common.{◌≡◌, ◌∙◌, refl, sym, ap, subst, arith, ℕ, ◌≤◌, ◌==◌, ◌+◌, cond, Bool, true, false, List, [], ◌∷◌, ◌++◌, map, Option, Some, None}
use Rattle.std.proofs.lemmas.List.{map-append}
use Rattle.std.specs.Prelude.{◌&&◌, filter, not}
use Rattle.std.specs.List.{AllByRecursion}
use Rattle.bbmd.proofs.Times.{same_is, times-append}
use Rattle.bbmd.specs.Reach.{times}
use Rattle.bbmd_manager.specs.Manager.{Saying, distributed, foreign_left, from_one, has_place, IsFound, left_of, said, said_of}
use Rattle.bbmd_manager.specs.State.{ManagerState, woken}
use Rattle.bbmd_tables.specs.Tables.{is_among, lives, living, registered, same_address, without}
use Rattle.bbmd_tables.specs.declared.registration.Registration.{Registration}
use Rattle.bvll.specs.Address.{address_at}
use Rattle.bvll.specs.Datagram.{Datagram, Spells, function, register}
use Rattle.bvll.specs.Datagram as bvll
use Rattle.bvll.specs.Function.{number_of}
use Rattle.bvll.specs.declared.address.Address.{Address}
use Rattle.history.proofs.HasLaws.{all_has, has_all, map_has}
use Rattle.history.proofs.Lists.{filter_has, none_has}
use Rattle.history.specs.Lists.{Has}
use Rattle.link.specs.Step.{PortSent}
use Rattle.npdu.specs.declared.mac.Mac.{Mac}
use Rattle.npdu.specs.declared.mac.Mac.TheVariants.{One, Six}
use Rattle.site_node.specs.Manager.{HearsOctets}
use Rattle.site_node.specs.Stamping.{put_out, sent_to}
use Rattle.site_parts.specs.declared.parts.Station.{Station}
use Rattle.site_reach.proofs.Quiet.{IsQuiet, quiet_datagram}
use Rattle.site_reach.specs.Tables.{HasItsTable}
use Rattle.site_views.specs.Laws.{foreigns_on, subnet_of}
use Rattle.world.proofs.Standing.{all_both, some_same}

-- what a manager says is no registration
abbrev IsOther : Saying → Type 0
IsOther x = (number_of (function x.what) == 5) ≡ false

other_is : (y x : Saying) → IsOther y → Some y ≡ Some x → IsOther x
other_is y x other e = subst (λ (z : Saying). IsOther z) (some_same y x e) other

one_other : (b : Bool) (y x : Saying) → IsOther y → from_one b y ≡ Some x → IsOther x
one_other true y x other e = other_is y x other e
one_other false y x other e = absurd (cc e)

distributed_other : (b : Bool) (now : ℕ) (from : Address) (st : ManagerState) (npdu : List ℕ) (x : Saying) →
    distributed b now from st npdu ≡ Some x → IsOther x
distributed_other true now from st npdu x e = other_is _ x refl e
distributed_other false now from st npdu x e = other_is _ x refl e

said_other : (now : ℕ) (from : Address) (st : ManagerState) (d : Datagram) (x : Saying) → said now from st d ≡ Some x →
    IsOther x
said_other now from st (bvll.broadcast npdu) x e = one_other _ _ x refl e
said_other now from st (bvll.forwarded origin npdu) x e = one_other _ _ x refl e
said_other now from st (bvll.distribute npdu) x e = distributed_other _ now from st npdu x e
said_other now from st (bvll.write_distribution entries) x e = other_is _ x refl e
said_other now from st bvll.read_distribution x e = other_is _ x refl e
said_other now from st bvll.read_foreign x e = other_is _ x refl e
said_other now from st (bvll.register seconds) x e = other_is _ x refl e
said_other now from st (bvll.delete_foreign a) x e = other_is _ x refl e
said_other now from st (bvll.outcome code) x e = absurd (cc e)
said_other now from st (bvll.distribution entries) x e = absurd (cc e)
said_other now from st (bvll.foreign entries) x e = absurd (cc e)
said_other now from st (bvll.unicast npdu) x e = absurd (cc e)

said_of_other : (now : ℕ) (from : Address) (st : ManagerState) (found : Option Datagram) (x : Saying) →
    said_of now from st found ≡ Some x → IsOther x
said_of_other now from st None x e = absurd (cc e)
said_of_other now from st (Some d) x e = said_other now from st d x e

put_quiet : {A : Type 0} (heard now : ℕ) (s : Option Saying) → ((x : Saying) → s ≡ Some x → IsOther x) →
    (o : PortSent A) → Has (put_out heard now s) o → IsQuiet o.sent.octets
put_quiet heard now None other o h = absurd (none_has h)
put_quiet {A} heard now (Some s) other o h =
    let found = map_has (λ (a : Address). sent_to {A = A} heard now s.what a) s.to o h in
    subst (λ (q : PortSent A). IsQuiet q.sent.octets) found.2 (quiet_datagram s.what (other s refl))

pub manager_quiet : {A : Type 0} (now : ℕ) (from : Mac) (octets : List ℕ) (stamp : ℕ) (m left : ManagerState)
    (out : List (PortSent A)) → HearsOctets now from octets stamp m out left → (o : PortSent A) → Has out o →
    IsQuiet o.sent.octets
manager_quiet {A} now (Six from) octets stamp m left out h o there =
    put_quiet stamp now (said_of now (address_at from) m h.found) (said_of_other now (address_at from) m h.found) o
    (subst (λ (os : List (PortSent A)). Has os o) h.says there)
manager_quiet {A} now (One from) octets stamp m left out h o there =
    absurd (none_has (subst (λ (os : List (PortSent A)). Has os o) h.0 there))

abbrev pub devices : List Registration → List Address
devices rs = map (λ r. r.device) rs

pub filter_few : (test : Registration → Bool) (a : Address) (rs : List Registration) →
    times a (devices (filter test rs)) ≤ times a (devices rs)
filter_few test a [] = omega arith
filter_few test a (r ∷ rs) = by_test (test r) (filter_few test a rs)
  where
    by_test : (b : Bool) → times a (devices (filter test rs)) ≤ times a (devices rs) →
        times a (devices (cond b (r ∷ filter test rs) (filter test rs))) ≤ times a (devices (r ∷ rs))
    by_test true le = omega (arith, le)
    by_test false le = omega (arith, le)

-- none is left of a device that is taken away
without_none : (now : ℕ) (a : Address) (rs : List Registration) → times a (devices (without now a rs)) ≡ 0
without_none now a [] = refl
without_none now a (r ∷ rs) = by_test (lives now r) (same_address r.device a) refl (without_none now a rs)
  where
    by_test : (b c : Bool) → same_address r.device a ≡ c → times a (devices (without now a rs)) ≡ 0 →
        times a (devices (cond (b && not c) (r ∷ without now a rs) (without now a rs))) ≡ 0
    by_test true true e rest = rest
    by_test true false e rest =
        let p : times a (devices (r ∷ without now a rs)) ≡ 0 + times a (devices (without now a rs)) =
        ap (λ (c : Bool). cond c 1 0 + times a (devices (without now a rs))) e in omega (arith, p, rest)
    by_test false c e rest = rest

-- registrations of which each is good and each device stands once
pub record AreFew (P : Registration → Type 0) (rs : List Registration) : Type 0 where
  pub each : AllByRecursion P rs
  pub once : (a : Address) → times a (devices rs) ≤ 1

filtered : (P : Registration → Type 0) (test : Registration → Bool) (rs : List Registration) → AreFew P rs →
    AreFew P (filter test rs)
filtered P test rs few = record {
  each = has_all P (filter test rs) (λ r there. all_has P rs r few.each (filter_has test rs r there).0);
  once = λ a. let le = filter_few test a rs in let one = few.once a in omega (arith, le, one);
}

one_more : (P : Registration → Type 0) (now : ℕ) (r : Registration) (rs : List Registration) → AreFew P rs → P r →
    AreFew P (without now r.device rs ++ r ∷ [])
one_more P now r rs few good =
    let kept = filtered P (λ s. lives now s && not (same_address s.device r.device)) rs few in record {
      each = all_both P (without now r.device rs) (r ∷ []) kept.each (good, tt);
      once = λ a. by_test a (same_address r.device a) refl (kept.once a)
          (ap (times a) (map-append (λ s. s.device) (without now r.device rs) (r ∷ []))
          ∙ times-append a (devices (without now r.device rs)) (r.device ∷ []));
    }
  where
    by_test : (a : Address) (b : Bool) → same_address r.device a ≡ b → times a (devices (without now r.device rs)) ≤ 1 →
        times a (devices (without now r.device rs ++ r ∷ []))
        ≡ times a (devices (without now r.device rs)) + times a (r.device ∷ []) →
        times a (devices (without now r.device rs ++ r ∷ [])) ≤ 1
    by_test a true e le sum =
        let none : times a (devices (without now r.device rs)) ≡ 0 =
        subst (λ (x : Address). times x (devices (without now r.device rs)) ≡ 0) (same_is r.device a e)
        (without_none now r.device rs) in
        let one : times a (r.device ∷ []) ≡ 1 + 0 = ap (λ (c : Bool). cond c 1 0 + 0) e in omega (arith, sum, none, one)
    by_test a false e le sum =
        let none : times a (r.device ∷ []) ≡ 0 + 0 = ap (λ (c : Bool). cond c 1 0 + 0) e in omega (arith, sum, none, le)

if_registered : (P : Registration → Type 0) (room : Bool) (now seconds : ℕ) (from : Address) (rs : List Registration) →
    AreFew P rs → P (record { device = from; seconds_to_live = seconds; at = now }) →
    AreFew P (registered room now from seconds rs)
if_registered P true now seconds from rs few good = one_more P now _ rs few good
if_registered P false now seconds from rs few good = few

left_few : (P : Registration → Type 0) (now : ℕ) (from : Address) (st : ManagerState) (d : Datagram) →
    AreFew P st.tables.foreign →
    ((seconds : ℕ) → d ≡ register seconds → P (record { device = from; seconds_to_live = seconds; at = now })) →
    AreFew P (foreign_left now from st d)
left_few P now from st (bvll.register seconds) few good =
    if_registered P (has_place now from st) now seconds from st.tables.foreign few (good seconds refl)
left_few P now from st (bvll.delete_foreign a) few good =
    filtered P (λ r. lives now r && not (same_address r.device a)) st.tables.foreign few
left_few P now from st (bvll.broadcast npdu) few good = few
left_few P now from st (bvll.forwarded origin npdu) few good = few
left_few P now from st (bvll.distribute npdu) few good = few
left_few P now from st (bvll.write_distribution entries) few good = few
left_few P now from st bvll.read_distribution few good = few
left_few P now from st bvll.read_foreign few good = few
left_few P now from st (bvll.outcome code) few good = few
left_few P now from st (bvll.distribution entries) few good = few
left_few P now from st (bvll.foreign entries) few good = few
left_few P now from st (bvll.unicast npdu) few good = few

-- this is the registration of a foreign device of the manager of a subnet
abbrev pub IsForeignOn : {A : Type 0} → List (Station A) → (net subnet : ℕ) → Registration → Type 0
IsForeignOn ss net subnet r = is_among r.device (foreigns_on (subnet_of net subnet) ss) ≡ true

module _ {A : Type 0} (ss : List (Station A)) (net : ℕ) (m : ManagerState) (has : HasItsTable ss net m) where
  abbrev IsGood : Registration → Type 0
  IsGood r = IsForeignOn ss net has.subnet r

  few_now : AreFew IsGood m.tables.foreign
  few_now = record { each = has.just; once = has.once }

  -- with other registrations that are such
  with_foreign : (rs : List Registration) (moment : ℕ) → AreFew IsGood rs →
      HasItsTable ss net (record { tables = record m.tables { foreign = rs }; moment = moment })
  with_foreign rs moment few = record {
    subnet = has.subnet;
    manages = has.manages;
    knows = has.knows;
    peers = has.peers;
    just = few.each;
    once = few.once;
  }

  -- it wakes
  pub woken_has : (now : ℕ) → HasItsTable ss net (woken now m)
  woken_has now = with_foreign (living now m.tables.foreign) now
      (filtered IsGood (λ r. lives now r) m.tables.foreign few_now)

  left_has : (now : ℕ) (from : Address) (found : Option Datagram) →
      ((seconds : ℕ) → found ≡ Some (register seconds) → is_among from (foreigns_on (subnet_of net has.subnet) ss) ≡ true) →
      HasItsTable ss net (left_of now from m found)
  left_has now from None good = with_foreign m.tables.foreign now few_now
  left_has now from (Some d) good = with_foreign (foreign_left now from m d) now
      (left_few IsGood now from m d few_now (λ seconds e. good seconds (ap (λ (x : Datagram). Some x) e)))

  spells : (octets : List ℕ) (found : Option Datagram) (seconds : ℕ) → found ≡ Some (register seconds) →
      IsFound octets found → Spells octets (register seconds)
  spells octets None seconds e means = absurd (cc e)
  spells octets (Some d) seconds e means =
      subst (λ (x : Datagram). Spells octets x) (some_same d (register seconds) e) means

  -- it hears a datagram, which, where it is a registration, is that of a foreign device of its own
  pub heard_has : (now : ℕ) (from : Mac) (octets : List ℕ) (stamp : ℕ) (out : List (PortSent A)) (left : ManagerState) →
      HearsOctets now from octets stamp m out left →
      ((seconds : ℕ) (six : List ℕ) → from ≡ Six six → Spells octets (register seconds) →
      is_among (address_at six) (foreigns_on (subnet_of net has.subnet) ss) ≡ true) → HasItsTable ss net left
  heard_has now (One from) octets stamp out left h rightful =
      subst (λ (x : ManagerState). HasItsTable ss net x) (sym h.1) has
  heard_has now (Six from) octets stamp out left h rightful =
      subst (λ (x : ManagerState). HasItsTable ss net x) (sym h.leaves)
      (left_has now (address_at from) h.found
      (λ seconds e. rightful seconds from refl (spells octets h.found seconds e h.means)))
