-- What a broadcast manager passes on.
use Rattle.std.proofs.Common.{◌≡◌, ◌⊎◌, ◌∙◌, inl, inr, refl, sym, ap, subst, ℕ, ◌≤◌, Bool, true, false, List, [], ◌∷◌, length, Option, Some, None, arith}
use Rattle.std.specs.Prelude.{◌&&◌, nat_lt}
use Rattle.std.proofs.lemmas.Bool.{lt-ltb, ltb-false}
use Rattle.bbmd_manager.specs.Manager.{IsFound, Saying, distributed, forwards_too_much, from_one, is_over_long, is_too_long, said, said_of, sent}
use Rattle.bbmd_manager.specs.State.{ManagerState}
use Rattle.bbmd_manager.specs.declared.saying.Outgoing.{Outgoing}
use Rattle.bbmd_tables.specs.Tables.{all_but, is_among, served}
use Rattle.bvll.specs.Address.{IsAddress}
use Rattle.bvll.specs.Datagram.{Datagram, IsSound, Spells, canonical, forwarded}
use Rattle.bvll.specs.Datagram as bvll
use Rattle.bvll.specs.declared.address.Address.{Address}
use Rattle.history.proofs.HasLaws.{map_has}
use Rattle.history.proofs.Lists.{none_has}
use Rattle.history.specs.Lists.{Has}
use Rattle.inside.proofs.Insides.{some_same}
use Rattle.inside.specs.Inside.{HasInside}
use Rattle.npdu.specs.declared.mac.Target.TheVariants.{All}
use Rattle.npdu.specs.declared.parcel.Parcel.{Parcel}
use Rattle.carry.proofs.Datagrams.{bears_none, borne_by}
use Rattle.carry.proofs.Passed.{none_some}
use Rattle.carry.specs.Datagrams.{carried_by, carries_npdu, mac_at, parcel}
use Rattle.carry.specs.Laws.{ManagerPassesOn}
use Rattle.carry.specs.Passing.{PassesOn}
use Rattle.carry.specs.Things.{Bears, SentDatagram, Thing}

true_false : true ≡ false → ⊥
true_false e = cc e

some_there : (to : List Address) (a : Address) → Has to a → nat_lt 0 (length to) ≡ true
some_there [] a h = absurd (none_has h)
some_there (b ∷ to) a h = lt-ltb 0 (length (b ∷ to)) (omega arith)

-- what is said to somebody is short enough
is_short : (x : Saying) (origin : Address) (npdu : List ℕ) (a : Address) → Has x.to a → x.what ≡ forwarded origin npdu →
    (forwards_too_much x.what && nat_lt 0 (length x.to)) ≡ false → length npdu ≤ 1497
is_short x origin npdu a there what fits =
    let some = some_there x.to a there in
    let both : (is_over_long npdu && true) ≡ false =
    sym (ap (λ (d : Datagram). forwards_too_much d && true) what) ∙ sym (ap (λ b. forwards_too_much x.what && b) some) ∙ fits in
    by_test (is_over_long npdu) refl both
  where
    by_test : (b : Bool) → is_over_long npdu ≡ b → (b && true) ≡ false → length npdu ≤ 1497
    by_test true t f = absurd (true_false f)
    by_test false t f = let not = ltb-false 1497 (length npdu) t in omega (arith, not)

forwarded_sound : (origin : Address) (npdu : List ℕ) → IsAddress origin → length npdu ≤ 1497 → IsSound (forwarded origin npdu)
forwarded_sound origin npdu address l = record { fields = address; fits = omega (arith, l) }

module _ (A : Type 0) where
  -- what is said forwards what was heard
  record Forwards (from own : Address) (stamp : ℕ) (d : Datagram) (x : Saying) : Type 0 where
    origin : Address
    npdu : List ℕ
    what : x.what ≡ forwarded origin npdu
    address : IsAddress origin
    same : carried_by (mac_at from) (mac_at own) stamp d ≡ Some (parcel {A = A} (mac_at origin) All npdu stamp)

  module _ (now : ℕ) (from : Address) (st : ManagerState) (stamp : ℕ) (is_address : IsAddress from) where
    abbrev IsFine : Datagram → Saying → Type 0
    IsFine d x = (carries_npdu x.what ≡ false) ⊎ Forwards from st.tables.own stamp d x

    back_fine : (d what : Datagram) (to : List Address) (x : Saying) → carries_npdu what ≡ false → Some (record { to = to; what = what }) ≡ Some x → IsFine d x
    back_fine d what to x f e = inl (sym (ap (λ (y : Saying). carries_npdu y.what) (some_same (record { to = to; what = what }) x e)) ∙ f)

    forward_fine : (d : Datagram) (origin : Address) (npdu : List ℕ) (to : List Address) (x : Saying) → IsAddress origin →
        carried_by (mac_at from) (mac_at st.tables.own) stamp d ≡ Some (parcel {A = A} (mac_at origin) All npdu stamp) →
        Some (record { to = to; what = forwarded origin npdu }) ≡ Some x → IsFine d x
    forward_fine d origin npdu to x address same e = inr (record {
      origin = origin;
      npdu = npdu;
      what = sym (ap (λ (y : Saying). y.what) (some_same (record { to = to; what = forwarded origin npdu }) x e));
      address = address;
      same = same;
    })

    one_fine : (b : Bool) (d : Datagram) (origin : Address) (npdu : List ℕ) (to : List Address) (x : Saying) → IsAddress origin →
        carried_by (mac_at from) (mac_at st.tables.own) stamp d ≡ Some (parcel {A = A} (mac_at origin) All npdu stamp) →
        from_one b (record { to = to; what = forwarded origin npdu }) ≡ Some x → IsFine d x
    one_fine true d origin npdu to x address same e = forward_fine d origin npdu to x address same e
    one_fine false d origin npdu to x address same e = absurd (none_some x e)

    distributed_fine : (b : Bool) (npdu : List ℕ) (x : Saying) → distributed b now from st npdu ≡ Some x → IsFine (bvll.distribute npdu) x
    distributed_fine true npdu x e = forward_fine (bvll.distribute npdu) from npdu (all_but now from st.tables) x is_address refl e
    distributed_fine false npdu x e = back_fine (bvll.distribute npdu) _ (from ∷ []) x refl e

    said_fine : (d : Datagram) (x : Saying) → IsSound d → said now from st d ≡ Some x → IsFine d x
    said_fine (bvll.broadcast npdu) x sound e = one_fine _ (bvll.broadcast npdu) from npdu _ x is_address refl e
    said_fine (forwarded origin npdu) x sound e = one_fine _ (forwarded origin npdu) origin npdu _ x sound.fields refl e
    said_fine (bvll.distribute npdu) x sound e = distributed_fine (is_among from (served now st.tables.foreign)) npdu x e
    said_fine (bvll.write_distribution entries) x sound e = back_fine _ _ (from ∷ []) x refl e
    said_fine bvll.read_distribution x sound e = back_fine _ _ (from ∷ []) x refl e
    said_fine bvll.read_foreign x sound e = back_fine _ _ (from ∷ []) x refl e
    said_fine (bvll.register seconds) x sound e = back_fine _ _ (from ∷ []) x refl e
    said_fine (bvll.delete_foreign a) x sound e = back_fine _ _ (from ∷ []) x refl e
    said_fine (bvll.outcome code) x sound e = absurd (none_some x e)
    said_fine (bvll.distribution entries) x sound e = absurd (none_some x e)
    said_fine (bvll.foreign entries) x sound e = absurd (none_some x e)
    said_fine (bvll.unicast npdu) x sound e = absurd (none_some x e)

    module _ (ts : List (Thing A)) (net : ℕ) (octets : List ℕ) (d : Datagram) (spelled : Spells octets d)
        (there : Has ts (SentDatagram net (mac_at from) (mac_at st.tables.own) octets stamp)) where
      fine_passes : (x : Saying) (a : Address) → Has x.to a → (forwards_too_much x.what && nat_lt 0 (length x.to)) ≡ false → IsFine d x →
          PassesOn ts (SentDatagram net (mac_at st.tables.own) (mac_at a) (canonical x.what) stamp)
      fine_passes x a at fits (inl none) = record {
        passes = λ q i b has. absurd (bears_none net stamp (mac_at st.tables.own) (mac_at a) x.what q none b);
      }
      fine_passes x a at fits (inr f) =
          let short = is_short x f.origin f.npdu a at f.what fits in
          let sound = forwarded_sound f.origin f.npdu f.address short in
          record {
            passes = λ q i b has.
                let c : Bears (SentDatagram net (mac_at st.tables.own) (mac_at a) (canonical (forwarded f.origin f.npdu)) stamp) q =
                subst (λ (w : Datagram). Bears (SentDatagram net (mac_at st.tables.own) (mac_at a) (canonical w) stamp) q) f.what b in
                let e : parcel (mac_at f.origin) All f.npdu stamp ≡ q =
                some_same _ q (borne_by net stamp (mac_at st.tables.own) (mac_at a) (forwarded f.origin f.npdu) q sound c) in
                record {
                  thing = SentDatagram net (mac_at from) (mac_at st.tables.own) octets stamp;
                  there = there;
                  parcel = parcel (mac_at f.origin) All f.npdu stamp;
                  bears = record { datagram = d; spelled = spelled; carries = f.same };
                  has = subst (λ (z : Parcel A). HasInside net z.from z.to z.npdu i) (sym e) has;
                  same = ap (λ (z : Parcel A). z.stamp) e;
                };
          }

      saying_passes : (o : Option Saying) → said now from st d ≡ o → is_too_long o ≡ false → (s : Outgoing A) → Has (sent o) s →
          PassesOn ts (SentDatagram net (mac_at st.tables.own) (mac_at s.to) s.octets stamp)
      saying_passes None e fits s at = absurd (none_has at)
      saying_passes (Some x) e fits s at =
          let found = map_has (λ (a : Address). record { to = a; octets = canonical x.what }) x.to s at in
          subst (λ (z : Outgoing A). PassesOn ts (SentDatagram net (mac_at st.tables.own) (mac_at z.to) z.octets stamp)) found.2
          (fine_passes x found.0 found.1 fits (said_fine d x spelled.sound e))

    found_passes : (ts : List (Thing A)) (net : ℕ) (octets : List ℕ) →
        Has ts (SentDatagram net (mac_at from) (mac_at st.tables.own) octets stamp) → (o : Option Datagram) → IsFound octets o →
        is_too_long (said_of now from st o) ≡ false → (s : Outgoing A) → Has (sent (said_of now from st o)) s →
        PassesOn ts (SentDatagram net (mac_at st.tables.own) (mac_at s.to) s.octets stamp)
    found_passes ts net octets there None means fits s at = absurd (none_has at)
    found_passes ts net octets there (Some d) means fits s at = saying_passes ts net octets d means there (said now from st d) refl fits s at

  pub manager_passes_on : ManagerPassesOn A
  manager_passes_on ts net now stamp from octets old new out s address there heard at =
      found_passes now from old stamp address ts net octets there heard.found heard.means heard.fits s
      (subst (λ (l : List (Outgoing A)). Has l s) heard.says at)
