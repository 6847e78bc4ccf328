-- A router that puts its outgoing network into SNET makes what no list of steps makes: nobody there said what is inside.
use Rattle.std.specs.Prelude.{slice_index}
use Rattle.std.proofs.Common.{◌≡◌, ⊎_elim, refl, subst, ap, ℕ, List, arith}
use Rattle.apdu.specs.ApduWriting as apdu
use Rattle.carry.specs.Things.{AreCarried}
use Rattle.carry_runs.proofs.Fresh.{is_fresh}
use Rattle.carry_runs.proofs.Parcels.{request_short}
use Rattle.carry_runs.proofs.Puts.{bears_one}
use Rattle.carry_runs.specs.Crossing.{NoneMisnames, all_said, asker, begun, datagram_from, far, header_from, request_apdu, request_from}
use Rattle.carry_world.proofs.Promised as promised
use Rattle.headline_site_runs.proofs.Begins.{is_site}
use Rattle.headline_site_runs.specs.Small.{device, site}
use Rattle.history.proofs.Lists.{has_cons, none_has}
use Rattle.history.specs.Lists.{Has}
use Rattle.inside.specs.Inside.{HasInside, Inside, Said}
use Rattle.inside.specs.declared.reach.Reach.TheVariants as reach
use Rattle.npdu.proofs.CanonicalLaws.{canonical_spells}
use Rattle.npdu.specs.declared.mac.Mac.{Mac}
use Rattle.npdu.specs.declared.mac.Mac.TheVariants as mac
use Rattle.npdu.specs.declared.mac.Target.TheVariants.{One}

-- what is inside the request under this network
abbrev inside_from : (A : Type 0) → ℕ → Inside
inside_from A net = record { source = record { net = net; mac = asker.mac }; reach = reach.One device; apdu = apdu.canonical (request_apdu A) }

has_from : (A : Type 0) → HasInside 1 far (One device.mac) (request_from A 1).npdu (inside_from A 1)
has_from A = record {
  header = header_from A 1;
  spelled = canonical_spells (header_from A 1) (record { destination = tt; source = (omega arith, omega arith, omega arith, omega arith); message = tt });
  is = record { application = refl; source = refl; reach = refl; apdu = refl };
}

-- none of what was said comes from there: the client's is from another network, the device's from another address
abbrev octet : Mac → ℕ
octet (mac.One one) = one
octet (mac.Six octets) = slice_index octets 5

same_net : (x y : Said) → x ≡ y → x.inside.source.net ≡ y.inside.source.net
same_net x y e = ap (λ (s : Said). s.inside.source.net) e

same_octet : (x y : Said) → x ≡ y → octet x.inside.source.mac ≡ octet y.inside.source.mac
same_octet x y e = ap (λ (s : Said). octet s.inside.source.mac) e

not_said : (A : Type 0) → Has (all_said A) (record { inside = inside_from A 1; stamp = 0 }) → ⊥
not_said A there =
    let x : Said = record { inside = inside_from A 1; stamp = 0 } in
    ⊎_elim (λ (e : _). absurd (omega (arith, same_net _ x e)))
    (λ (more : _). ⊎_elim (λ (e : _). absurd (omega (arith, same_octet _ x e)))
    (λ (more : _). ⊎_elim (λ (e : _). absurd (omega (arith, same_net _ x e)))
    (λ (more : _). ⊎_elim (λ (e : _). absurd (omega (arith, same_octet _ x e)))
    (λ (more : _). none_has more) (has_cons _ _ more)) (has_cons _ _ more)) (has_cons _ _ more)) (has_cons _ _ there)

pub none_misnames : {A : Type 0} → NoneMisnames A
none_misnames {A} w steps said there =
    let carried : AreCarried w.said w.things = promised.all_said (site A) (begun A asker) w (is_site A) (is_fresh A asker) steps in
    not_said A (subst (λ (l : List Said). Has l (record { inside = inside_from A 1; stamp = 0 })) said
    ((carried (datagram_from A 1) there).carries (request_from A 1) (inside_from A 1)
    (bears_one 1 far device.mac (request_from A 1).npdu 0 (request_short A 1)) (has_from A)))
