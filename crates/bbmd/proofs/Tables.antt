-- Addresses among others, and who hears what a manager with full tables says.
use Rattle.std.proofs.Common.{◌≡◌, ℕ, true, false, Bool, List, [], ◌∷◌, ◌++◌, Some, sym, ap, refl, ◌∙◌, ◌||◌, not, cond}
use Rattle.std.proofs.lemmas.List.Folds.{list_any-append}
use Rattle.bvll.specs.declared.address.Address.{Address}
use Rattle.bvll.specs.Datagram.{canonical}
use Rattle.bvll.specs.Datagram as bvll
use Rattle.bbmd_tables.specs.Tables.{all_but, is_among, same_address, others, members_of, peers_of, served}
use Rattle.bbmd_manager.specs.State.{ManagerState}
use Rattle.bbmd_manager.specs.Manager.{Saying, distributed, from_one}
use Rattle.bbmd.specs.Laws.{AreApart, BroadcastGoesOn, DistributedGoesOn, ForwardedIsSame, ForwardedStays}

pub or_false : (p q : Bool) → (p || q) ≡ false → (p ≡ false) × (q ≡ false)
or_false true q e = absurd (cc e)
or_false false q e = (refl, e)

neither_of : (p q : Bool) → p ≡ false → q ≡ false → (p || q) ≡ false
neither_of p q e f = cc

-- among none of two lists
neither : (a : Address) (xs ys : List Address) → is_among a xs ≡ false → is_among a ys ≡ false →
    is_among a (xs ++ ys) ≡ false
neither a xs ys e f =
    list_any-append (λ x. same_address x a) xs ys ∙ neither_of (is_among a xs) (is_among a ys) e f

other_step : (b : Bool) (x a : Address) (rest : List Address) → same_address x a ≡ b → is_among a rest ≡ false →
    is_among a (cond (not b) (x ∷ rest) rest) ≡ false
other_step true x a rest e f = f
other_step false x a rest e f = neither_of (same_address x a) (is_among a rest) e f

-- an address is not among the others
not_among_others : (a : Address) (xs : List Address) → is_among a (others a xs) ≡ false
not_among_others a [] = refl
not_among_others a (x ∷ xs) = other_step (same_address x a) x a (others a xs) refl (not_among_others a xs)

kept_step : (b : Bool) (x a : Address) (rest : List Address) → same_address x a ≡ false → is_among a rest ≡ false →
    is_among a (cond b (x ∷ rest) rest) ≡ false
kept_step true x a rest e f = neither_of (same_address x a) (is_among a rest) e f
kept_step false x a rest e f = f

-- what is not among addresses is not among the others of them
still_not_among : (a b : Address) (xs : List Address) → is_among a xs ≡ false → is_among a (others b xs) ≡ false
still_not_among a b [] e = refl
still_not_among a b (x ∷ xs) e =
    let p = or_false (same_address x a) (is_among a xs) e in
    kept_step (not (same_address x b)) x a (others b xs) (p.0) (still_not_among a b xs (p.1))

not_both : (b : Bool) → b ≡ true → b ≡ false → ⊥
not_both b e f = cc

-- what is apart is apart the other way round
apart_back : (xs ys : List Address) → AreApart xs ys → AreApart ys xs
apart_back xs ys apart a e = back (is_among a xs) refl where
  back : (b : Bool) → is_among a xs ≡ b → is_among a xs ≡ false
  back true f = absurd (not_both (is_among a ys) e (apart a f))
  back false f = f

-- of one who alone is heard
from_one_is : (b : Bool) (s t : Saying) → from_one b s ≡ Some t → (b ≡ true) × (s ≡ t)
from_one_is true s t e = (refl, cc)
from_one_is false s t e = absurd (cc e)

-- who is not among the addressees
not_told : (a : Address) (s t : Saying) → s ≡ t → is_among a s.to ≡ false → is_among a t.to ≡ false
not_told a s t e f = ap (λ (u : Saying). is_among a u.to) (sym e) ∙ f

pub forwarded_stays : ForwardedStays
forwarded_stays now from st origin npdu s apart e =
    let p = from_one_is (is_among from (peers_of st.tables)) _ s e in (
      λ a m. not_told a _ s (p.1) (neither a (members_of st.tables) (served now st.tables.foreign)
          (apart_back _ _ apart.members a m) (apart_back _ _ apart.strangers a m)),
      not_told st.tables.own _ s (p.1) (neither st.tables.own (members_of st.tables) (served now st.tables.foreign)
          (not_among_others st.tables.own st.tables.members) apart.itself),
    )

pub forwarded_is_same : ForwardedIsSame
forwarded_is_same now from st octets origin npdu s spells e =
    let p = from_one_is (is_among from (peers_of st.tables)) _ s e in
    ap (λ (t : Saying). canonical t.what) (sym (p.1)) ∙ sym spells.parts

pub broadcast_goes_on : BroadcastGoesOn
broadcast_goes_on now from st npdu s apart e =
    let p = from_one_is (is_among from (members_of st.tables)) _ s e in
    record {
      back = not_told from _ s (p.1) (neither from (peers_of st.tables) (served now st.tables.foreign)
          (apart.members from (p.0)) (apart_back _ _ apart.foreign from (p.0)));
      itself = not_told st.tables.own _ s (p.1) (neither st.tables.own (peers_of st.tables) (served now st.tables.foreign)
          (not_among_others st.tables.own st.tables.managers) apart.itself);
    }

distributed_is : (b : Bool) (now : ℕ) (from : Address) (st : ManagerState) (npdu : List ℕ) (s : Saying) → b ≡ true →
    distributed b now from st npdu ≡ Some s →
    record { to = all_but now from st.tables; what = bvll.forwarded from npdu } ≡ s
distributed_is true now from st npdu s t e = cc
distributed_is false now from st npdu s t e = absurd (cc t)

pub distributed_goes_on : DistributedGoesOn
distributed_goes_on now from st npdu s apart f e =
    let p = distributed_is (is_among from (served now st.tables.foreign)) now from st npdu s f e in
    record {
      back = not_told from _ s p (neither from (members_of st.tables) (peers_of st.tables ++ others from (served now st.tables.foreign))
          (apart.foreign from f)
          (neither from (peers_of st.tables) (others from (served now st.tables.foreign))
          (apart.strangers from f)
          (not_among_others from (served now st.tables.foreign))));
      itself = not_told st.tables.own _ s p (neither st.tables.own (members_of st.tables) (peers_of st.tables ++ others from (served now st.tables.foreign))
          (not_among_others st.tables.own st.tables.members)
          (neither st.tables.own (peers_of st.tables) (others from (served now st.tables.foreign))
          (not_among_others st.tables.own st.tables.managers)
          (still_not_among st.tables.own from (served now st.tables.foreign) apart.itself)));
    }
