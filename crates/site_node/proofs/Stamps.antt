-- What a manager says has the stamp that its kind asks for, told by its octets.
use Rattle.std.proofs.Common.{◌≡◌, refl, ap, ℕ, Bool, List, [], ◌∷◌, map, Option, Some, None}
use Rattle.bbmd_manager.specs.Manager.{Saying, is_forwarded, sent, sent_to}
use Rattle.bvll.specs.Datagram.{Datagram, canonical}
use Rattle.bvll.specs.Datagram as bvll
use Rattle.bvll.specs.declared.address.Address.{Address}
use Rattle.carry.specs.Datagrams.{mac_at}
use Rattle.site_node.specs.Stamping as spec
use Rattle.site_node.specs.Stamping.{carries_on, put_out, stamp_if, stamped}

-- octets tell whether a datagram carries an NPDU on (J.2.5)
pub told_by_octets : (d : Datagram) → carries_on (canonical d) ≡ is_forwarded d
told_by_octets (bvll.outcome code) = refl
told_by_octets (bvll.write_distribution entries) = refl
told_by_octets bvll.read_distribution = refl
told_by_octets (bvll.distribution entries) = refl
told_by_octets (bvll.forwarded origin npdu) = refl
told_by_octets (bvll.register seconds) = refl
told_by_octets bvll.read_foreign = refl
told_by_octets (bvll.foreign entries) = refl
told_by_octets (bvll.delete_foreign address) = refl
told_by_octets (bvll.distribute npdu) = refl
told_by_octets (bvll.unicast npdu) = refl
told_by_octets (bvll.broadcast npdu) = refl

cells : {X : Type 0} (x y : X) (xs ys : List X) → x ≡ y → xs ≡ ys → x ∷ xs ≡ y ∷ ys
cells x y xs ys a b = cc

stamped_to : {A : Type 0} (heard now : ℕ) (d : Datagram) (to : List Address) →
    map (stamped {A = A} heard now) (sent_to to d) ≡ map (spec.sent_to heard now d) to
stamped_to heard now d [] = refl
stamped_to {A} heard now d (a ∷ to) = cells _ _ _ _
    (ap (λ (b : Bool). record {
      port = 0;
      sent = record { to = mac_at a; octets = canonical d; stamp = stamp_if b heard now };
    }) (told_by_octets d))
    (stamped_to heard now d to)

-- what a manager says goes out as it must
pub stamped_all : {A : Type 0} (heard now : ℕ) (s : Option Saying) →
    map (stamped {A = A} heard now) (sent s) ≡ put_out heard now s
stamped_all heard now None = refl
stamped_all heard now (Some s) = stamped_to heard now s.what s.to

pub ruleset stamp_rules = (stamped_all)
