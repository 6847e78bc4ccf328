-- Stations are compared by their networks, then by their addresses.
use Rattle.std.proofs.Common.{◌≡◌, ◌≢◌, ◌∙◌, refl, sym, ap, ℕ, Bool, true, false, List, [], ◌∷◌, length, Some, None, ◌≤◌, ◌<◌, arith}
use Rattle.std.specs.Prelude.{◌==◌, ◌&&◌, slice_index_or}
use Rattle.std.specs.Cmp.{IsTotalOrder, nat_cmp_total, then_total, on_total}
use Rattle.std.specs.Cmp.Lexicographic.{bytes_decides, nat_list_cmp_total}
use Rattle.std.specs.declared.cmp.Ordering.{Ordering}
use Rattle.std.specs.declared.cmp.Ordering.TheVariants.{Less, Equal, Greater}
use Rattle.std.specs.Ordering.{nat_cmp, ordering_then}
use Rattle.std.proofs.lemmas.Map.Lookups.{exact_unsigned, exact_bytes}
use Rattle.std.proofs.lemmas.Bool.{eqb-true, eq-eqb}
use Rattle.npdu.specs.declared.mac.Mac.{Mac}
use Rattle.npdu.specs.declared.mac.Mac.TheVariants.{One, Six}
use Rattle.npdu.specs.declared.mac.Station.{Station}
use Rattle.npdu.specs.Mac.{mac_of, six_if, same_mac, same_station, mac_cmp, station_cmp, IsSameStation, StationOrder}

one_mac : (a b : Mac) → same_mac a b ≡ true → a ≡ b
one_mac (One a) (One b) e = ap One (eqb-true a b e)
one_mac (Six a) (Six b) e = ap Six ((bytes_decides a b).0 e)
one_mac (One a) (Six b) e = absurd (cc e)
one_mac (Six a) (One b) e = absurd (cc e)

same_itself : (a : Mac) → same_mac a a ≡ true
same_itself (One a) = eq-eqb a a refl
same_itself (Six a) = (bytes_decides a a).1 refl

both_true : (a b : Bool) → (a && b) ≡ true → (a ≡ true) × (b ≡ true)
both_true true b e = (refl, e)
both_true false b e = absurd (cc e)

station_is : (a b : Station) → a.net ≡ b.net → a.mac ≡ b.mac → a ≡ b
station_is a b n m =
    ap (λ (net : ℕ). record { net = net; mac = a.mac }) n ∙ ap (λ (mac : Mac). record { net = b.net; mac = mac }) m

pub one_station : (a b : Station) → IsSameStation a b
one_station a b = record {
  same = λ e. let p = both_true (a.net == b.net) (same_mac a.mac b.mac) e in
      station_is a b (eqb-true a.net b.net p.0) (one_mac a.mac b.mac p.1);
  one = λ e. ap (same_station a) (sym e) ∙ ap (λ (t : Bool). t && same_mac a.mac a.mac) (eq-eqb a.net a.net refl) ∙ same_itself a.mac;
}

mac_flip : (a b : Mac) → mac_cmp a b ≡ Rattle.std.specs.Ordering.ordering_reverse (mac_cmp b a)
mac_flip (One a) (One b) = nat_cmp_total.antisymm a b
mac_flip (Six a) (Six b) = nat_list_cmp_total.antisymm a b
mac_flip (One a) (Six b) = refl
mac_flip (Six a) (One b) = refl

mac_trans : (a b c : Mac) → mac_cmp a b ≡ Less → mac_cmp b c ≡ Less → mac_cmp a c ≡ Less
mac_trans (One a) (One b) (One c) p q = nat_cmp_total.trans a b c p q
mac_trans (Six a) (Six b) (Six c) p q = nat_list_cmp_total.trans a b c p q
mac_trans (One a) b (Six c) p q = refl
mac_trans (One a) (Six b) (One c) p q = absurd (cc q)
mac_trans (Six a) (One b) c p q = absurd (cc p)
mac_trans (Six a) (Six b) (One c) p q = absurd (cc q)

mac_congr : (a b c : Mac) → mac_cmp a b ≡ Equal → mac_cmp a c ≡ mac_cmp b c
mac_congr (One a) (One b) (One c) p = nat_cmp_total.congr a b c p
mac_congr (One a) (One b) (Six c) p = refl
mac_congr (Six a) (Six b) (Six c) p = nat_list_cmp_total.congr a b c p
mac_congr (Six a) (Six b) (One c) p = refl
mac_congr (One a) (Six b) c p = absurd (cc p)
mac_congr (Six a) (One b) c p = absurd (cc p)

mac_total : IsTotalOrder mac_cmp
mac_total = record { antisymm = mac_flip; trans = mac_trans; congr = mac_congr }

exact_mac : (a b : Mac) → mac_cmp a b ≡ Equal → a ≡ b
exact_mac (One a) (One b) e = ap One (exact_unsigned a b e)
exact_mac (Six a) (Six b) e = ap Six (exact_bytes a b e)
exact_mac (One a) (Six b) e = absurd (cc e)
exact_mac (Six a) (One b) e = absurd (cc e)

pub then_equal : (a b : Ordering) → ordering_then a b ≡ Equal → (a ≡ Equal) × (b ≡ Equal)
then_equal Less b e = absurd (cc e)
then_equal Equal b e = (refl, e)
then_equal Greater b e = absurd (cc e)

exact_station : (a b : Station) → station_cmp a b ≡ Equal → a ≡ b
exact_station a b e =
    let p = then_equal (nat_cmp a.net b.net) (mac_cmp a.mac b.mac) e in
    station_is a b (exact_unsigned a.net b.net p.0) (exact_mac a.mac b.mac p.1)

pub station_order : StationOrder
station_order = record {
  total = then_total (on_total (λ (s : Station). s.net) nat_cmp_total) (on_total (λ (s : Station). s.mac) mac_total);
  apart = exact_station;
}

-- six octets, one by one
pub six_at : (octets : List ℕ) → 6 ≤ length octets → length octets < 7 →
    (slice_index_or octets 0 0 ∷ slice_index_or octets 1 0 ∷ slice_index_or octets 2 0 ∷ slice_index_or octets 3 0 ∷ slice_index_or octets 4 0 ∷
    slice_index_or octets 5 0 ∷ []) ≡ octets
six_at [] low high = absurd (omega (arith, low))
six_at (a ∷ []) low high = absurd (omega (arith, low))
six_at (a ∷ b ∷ []) low high = absurd (omega (arith, low))
six_at (a ∷ b ∷ c ∷ []) low high = absurd (omega (arith, low))
six_at (a ∷ b ∷ c ∷ d ∷ []) low high = absurd (omega (arith, low))
six_at (a ∷ b ∷ c ∷ d ∷ e ∷ []) low high = absurd (omega (arith, low))
six_at (a ∷ b ∷ c ∷ d ∷ e ∷ f ∷ []) low high = refl
six_at (a ∷ b ∷ c ∷ d ∷ e ∷ f ∷ g ∷ rest) low high = absurd (omega (arith, high))

-- .. are an address
pub six_octets : (octets x : List ℕ) → 6 ≤ length octets → length octets < 7 → x ≡ octets → Some (Six x) ≡ mac_of octets
six_octets [] x low high e = absurd (omega (arith, low))
six_octets (a ∷ []) x low high e = absurd (omega (arith, low))
six_octets (a ∷ (b ∷ rest)) x low high e =
    ap (λ (o : List ℕ). Some (Six o)) e
    ∙ ap (λ (t : Bool). six_if t (a ∷ (b ∷ rest))) (sym (eq-eqb (length (a ∷ (b ∷ rest))) 6 (omega (arith, low, high))))

-- another count of octets is none
pub no_mac : (octets : List ℕ) → length octets ≢ 1 → length octets ≢ 6 → None ≡ mac_of octets
no_mac [] one six = refl
no_mac (a ∷ []) one six = absurd (one refl)
no_mac (a ∷ (b ∷ rest)) one six = not_six (length (a ∷ (b ∷ rest)) == 6) refl
  where
    not_six : (t : Bool) → (length (a ∷ (b ∷ rest)) == 6) ≡ t → None ≡ six_if t (a ∷ (b ∷ rest))
    not_six true e = absurd (six (eqb-true (length (a ∷ (b ∷ rest))) 6 e))
    not_six false e = refl

pub ruleset mac_rules = (no_mac)
