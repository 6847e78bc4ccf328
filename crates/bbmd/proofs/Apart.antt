-- Over full tables members, managers and foreign devices are apart.
use Rattle.std.proofs.Common.{◌≡◌, ◌≤◌, ℕ, ◌+◌, true, false, Bool, List, ◌∷◌, ◌++◌, ap, arith, refl, ◌∙◌, not, cond}
use Rattle.bvll.specs.declared.address.Address.{Address}
use Rattle.bbmd.specs.declared.spreading.Subnet.{Subnet}
use Rattle.bbmd_tables.specs.Tables.{is_among, same_address, members_of, peers_of, served}
use Rattle.bbmd_manager.specs.State.{ManagerState}
use Rattle.bbmd.specs.Reach.{everyone, managers_of, owns, times}
use Rattle.bbmd.specs.Laws.{FullAreApart}
use Rattle.bbmd.proofs.Times.{among_times, no_times_among, same_is, times-others}
use Rattle.bbmd.proofs.Reached.{Known, known, with, others_none, others_itself, owned_members, owns_split}

first_only : (a b : Address) (c : Bool) → same_address b a ≡ c → (c ≡ true → ⊥) → cond (same_address b a) 1 0 + 0 ≡ 0
first_only a b true e h = absurd (h refl)
first_only a b false e h = ap (λ (c : Bool). cond c 1 0 + 0) e

-- who is no manager beside and isn't the manager itself is no peer
no_peer : {A : Type 0} (now : ℕ) (pre : List (Subnet A)) (members : List Address) (m : ManagerState)
    (post : List (Subnet A)) → Known now pre members m post → (a : Address) → times a (everyone now pre) ≡ 0 →
    times a (everyone now post) ≡ 0 → (same_address m.tables.own a ≡ true → ⊥) → is_among a (peers_of m.tables) ≡ false
no_peer {A} now pre members m post w a before behind other =
    let ms = managers_of (pre ++ with {A = A} members m ∷ post) in
    let none : times a (owns ms) ≡ 0 = omega (
      arith,
      owns_split a pre (with {A = A} members m) post,
      owned_members a now ms pre w.before.managed,
      owned_members a now ms post w.behind.managed,
      before,
      behind,
      first_only a m.tables.own (same_address m.tables.own a) refl other,
    ) in
    no_times_among a (peers_of m.tables) (w.managed.peers a ∙ others_none m.tables.own a (owns ms) none)

in_members : (a : Address) (m : ManagerState) (members : List Address) → m.tables.members ≡ members →
    is_among a (members_of m.tables) ≡ true → 1 ≤ times a members
in_members a m members knows e = by (same_address a m.tables.own) refl where
  by : (c : Bool) → same_address a m.tables.own ≡ c → 1 ≤ times a members
  by true f = absurd (omega (
    arith,
    among_times a (members_of m.tables) e,
    times-others m.tables.own a m.tables.members ∙ ap (λ (c : Bool). cond (not c) (times a m.tables.members) 0) f,
  ))
  by false f = omega (
    arith,
    among_times a (members_of m.tables) e,
    times-others m.tables.own a m.tables.members ∙ ap (λ (c : Bool). cond (not c) (times a m.tables.members) 0) f,
    ap (times a) knows,
  )

not_itself : (a : Address) (m : ManagerState) → is_among a (members_of m.tables) ≡ true → same_address m.tables.own a ≡ true → ⊥
not_itself a m e f = omega (
  arith,
  among_times a (members_of m.tables) e,
  ap (λ (x : Address). times x (members_of m.tables)) (same_is m.tables.own a f),
  others_itself m.tables.own m.tables.members,
)

pub full_are_apart : {A : Type 0} → FullAreApart A
full_are_apart {A} now pre members m post full =
    let w = known now pre members m post full in
    record {
      itself = no_times_among m.tables.own (served now m.tables.foreign) w.own_out;
      members = λ a e. no_peer now pre members m post w a
          (omega (arith, w.apart a, in_members a m members w.managed.knows e))
          (omega (arith, w.apart a, in_members a m members w.managed.knows e))
          (not_itself a m e);
      foreign = λ a e. no_times_among a (members_of m.tables) (others_none m.tables.own a m.tables.members (omega (
        arith,
        w.apart a,
        among_times a (served now m.tables.foreign) e,
        ap (times a) w.managed.knows,
      )));
      strangers = λ a e. no_peer now pre members m post w a
          (omega (arith, w.apart a, among_times a (served now m.tables.foreign) e))
          (omega (arith, w.apart a, among_times a (served now m.tables.foreign) e))
          (λ f. omega (
            arith,
            w.own_out,
            among_times a (served now m.tables.foreign) e,
            ap (λ (x : Address). times x (served now m.tables.foreign)) (same_is m.tables.own a f),
          ));
    }
