-- What holds of managers whose tables are full (J.4.3, J.4.5).
use Rattle.std.specs.Prelude.{◌≡◌, ℕ, true, false, List, ◌∷◌, ◌++◌, Some}
use Rattle.bvll.specs.declared.address.Address.{Address}
use Rattle.bvll.specs.Datagram.{Spells, canonical}
use Rattle.bvll.specs.Datagram as bvll
use Rattle.bbmd_tables.specs.Tables.{is_among, members_of, peers_of, served}
use Rattle.bbmd_manager.specs.State.{ManagerState}
use Rattle.bbmd_manager.specs.Manager.{Saying, said}
use Rattle.bbmd.specs.Reach.{AreFull}
use Rattle.bbmd.specs.declared.spreading.Subnet.{Subnet}

-- no address is in both
abbrev pub AreApart : List Address → List Address → Type 0
AreApart xs ys = (a : Address) → is_among a xs ≡ true → is_among a ys ≡ false

-- no member is another manager, and no foreign device is a member, a manager or the manager itself
pub record HasApartTables (now : ℕ) (st : ManagerState) : Type 0 where
  pub itself : is_among st.tables.own (served now st.tables.foreign) ≡ false
  pub members : AreApart (members_of st.tables) (peers_of st.tables)
  pub foreign : AreApart (served now st.tables.foreign) (members_of st.tables)
  pub strangers : AreApart (served now st.tables.foreign) (peers_of st.tables)

-- the tables of each manager are so where those of a network are full
abbrev pub FullAreApart : Type 0 → Type 0
FullAreApart A = (now : ℕ) (pre : List (Subnet A)) (members : List Address) (m : ManagerState)
    (post : List (Subnet A)) → AreFull now (pre ++ record { members = members; manager = Some m } ∷ post) →
    HasApartTables now m

-- what is said goes neither back to this address nor to the manager itself
pub record GoesOn (from : Address) (st : ManagerState) (s : Saying) : Type 0 where
  pub back : is_among from s.to ≡ false
  pub itself : is_among st.tables.own s.to ≡ false

-- what a member broadcasts goes on
abbrev pub BroadcastGoesOn : Type 0
BroadcastGoesOn = (now : ℕ) (from : Address) (st : ManagerState) (npdu : List ℕ) (s : Saying) → HasApartTables now st →
    said now from st (bvll.broadcast npdu) ≡ Some s → GoesOn from st s

-- what a foreign device has distributed goes on
abbrev pub DistributedGoesOn : Type 0
DistributedGoesOn = (now : ℕ) (from : Address) (st : ManagerState) (npdu : List ℕ) (s : Saying) →
    HasApartTables now st → is_among from (served now st.tables.foreign) ≡ true →
    said now from st (bvll.distribute npdu) ≡ Some s → GoesOn from st s

-- what another manager forwards goes to no manager, and so is forwarded no further (J.4.5)
abbrev pub ForwardedStays : Type 0
ForwardedStays = (now : ℕ) (from : Address) (st : ManagerState) (origin : Address) (npdu : List ℕ) (s : Saying) →
    HasApartTables now st → said now from st (bvll.forwarded origin npdu) ≡ Some s →
    AreApart (peers_of st.tables) s.to × (is_among st.tables.own s.to ≡ false)

-- what another manager forwards goes on octet for octet (J.4.5)
abbrev pub ForwardedIsSame : Type 0
ForwardedIsSame = (now : ℕ) (from : Address) (st : ManagerState) (octets : List ℕ) (origin : Address) (npdu : List ℕ)
    (s : Saying) → Spells octets (bvll.forwarded origin npdu) →
    said now from st (bvll.forwarded origin npdu) ≡ Some s → canonical s.what ≡ octets
