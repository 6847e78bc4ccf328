-- What a Who-Is or an I-Am says is one thing, and what is missing or wrong on the way spells none.
use Rattle.std.proofs.Common.{◌≡◌, ◌≢◌, ℕ, ◌<◌, ◌≤◌, ◌^◌, List, [], ◌++◌, subst, Option, Some, None, refl, ap, sym, ◌∙◌, arith}
use Rattle.tags.specs.declared.object_id.ObjectId.{ObjectId}
use Rattle.tags.specs.declared.tag.Class.TheVariants.{Application, Context}
use Rattle.tags.specs.Number.{SpellsUnsigned}
use Rattle.std.proofs.lemmas.List.{append-nil}
use Rattle.tags.specs.Canonical.{tagged}
use Rattle.tags.specs.Number.{unsigned_octets}
use Rattle.apdu.proofs.CanonicalLaws.{takes_number, takes_object}
use Rattle.apdu_fields.proofs.Parameters.{alone_number, alone_object, no_contents_at_end}
use Rattle.apdu.specs.ApduLaws.{WhoIsSpellOne, WhoIsSpells, IAmSpellOne, IAmSpells}
use Rattle.apdu.specs.Parameter.{IsObject, Takes, Only, Lacks}
use Rattle.apdu.specs.declared.unconfirmed.IAm.{IAm}
use Rattle.apdu.specs.declared.unconfirmed.Limits.{Limits}
use Rattle.apdu.specs.declared.unconfirmed.Segmentation.{Segmentation}
use Rattle.apdu.specs.declared.unconfirmed.Segmentation.TheVariants.{Both, Transmit, Receive, NoSegmentation}
use Rattle.apdu.specs.Unconfirmed.{SpellsLimits, OnlyLimits, NoLimits, SpellsWhoIs, OnlyWhoIs, NoWhoIs, device, segmentation_number, SaysSegmentation, OnlyIAm}
use Rattle.apdu.specs.Unconfirmed.{NoIAm}

-- limits

pub no_low : (octets : List ℕ) → Lacks SpellsUnsigned Context 0 octets → NoLimits octets
no_low octets lacks = record { none = λ m n s. lacks.none m s.at_high s.low_taken }

pub no_high : (octets : List ℕ) (low : ℕ) (at_high : List ℕ) → Only SpellsUnsigned Context 0 octets low at_high → Lacks SpellsUnsigned Context 1 at_high →
    NoLimits octets
no_high octets low at_high one lacks = record {
  none = λ m n s.
      let p = one.only m s.at_high s.low_taken in
      lacks.none n [] (rw (p.1) s.high_taken);
}

pub no_limits_left_over : (octets : List ℕ) (low : ℕ) (at_high : List ℕ) (high : ℕ) (rest : List ℕ) → Only SpellsUnsigned Context 0 octets low at_high →
    Only SpellsUnsigned Context 1 at_high high rest → rest ≢ [] → NoLimits octets
no_limits_left_over octets low at_high high rest one two some = record {
  none = λ m n s.
      let p = one.only m s.at_high s.low_taken in
      some ((two.only n [] (rw (p.1) s.high_taken)).1);
}

pub only_limits : (octets : List ℕ) (low : ℕ) (at_high : List ℕ) (high : ℕ) (rest : List ℕ) → Only SpellsUnsigned Context 0 octets low at_high →
    Only SpellsUnsigned Context 1 at_high high rest → OnlyLimits octets low high
only_limits octets low at_high high rest one two = record {
  only = λ m n s.
      let p = one.only m s.at_high s.low_taken in
      (p.0, (two.only n [] (rw (p.1) s.high_taken)).0);
}

pub ruleset limits_rules = (no_low, no_high, no_limits_left_over, only_limits)

-- a Who-Is

limited : ℕ → ℕ → Option Limits
limited low high = Some (record { low = low; high = high })

limited_again : (l : Limits) → limited l.low l.high ≡ Some l
unfolding limited
limited_again l = refl

limited_alone : (octets : List ℕ) (l : Limits) → octets ≢ [] → OnlyLimits octets l.low l.high → (o : Option Limits) → SpellsWhoIs octets o → Some l ≡ o
limited_alone octets l some one None s = absurd (some s)
limited_alone octets l some one (Some m) s =
    let p = one.only m.low m.high s in
    let low : l.low ≡ m.low = p.0 in
    let high : l.high ≡ m.high = p.1 in
    cc (limited_again l, limited_again m)

pub only_limited : (octets : List ℕ) (l : Limits) → octets ≢ [] → OnlyLimits octets l.low l.high → OnlyWhoIs octets (Some l)
only_limited octets l some one = record { only = λ o s. limited_alone octets l some one o s }

unlimited_none : (octets : List ℕ) → octets ≢ [] → NoLimits octets → (o : Option Limits) → SpellsWhoIs octets o → ⊥
unlimited_none octets some lacks None s = some s
unlimited_none octets some lacks (Some l) s = lacks.none l.low l.high s

pub no_who_is : (octets : List ℕ) → octets ≢ [] → NoLimits octets → NoWhoIs octets
no_who_is octets some lacks = record { none = λ o s. unlimited_none octets some lacks o s }

pub ruleset who_is_rules = (only_limited, no_who_is)

-- segmentation

one_segmentation : (s t : Segmentation) → segmentation_number s ≡ segmentation_number t → s ≡ t
one_segmentation Both Both e = refl
one_segmentation Transmit Transmit e = refl
one_segmentation Receive Receive e = refl
one_segmentation NoSegmentation NoSegmentation e = refl
one_segmentation s t e = absurd (omega arith)

segmentation_below : (s : Segmentation) → segmentation_number s < 4
segmentation_below Both = omega arith
segmentation_below Transmit = omega arith
segmentation_below Receive = omega arith
segmentation_below NoSegmentation = omega arith

pub as_number : (octets : List ℕ) (s : Segmentation) (rest : List ℕ) → Takes SaysSegmentation Application 9 octets s rest →
    Takes SpellsUnsigned Application 9 octets (segmentation_number s) rest
as_number octets s rest t = record { inner = t.inner; tag = t.tag; said = t.said.number }

pub takes_segmentation : (octets : List ℕ) (n : ℕ) (s : Segmentation) (rest : List ℕ) → Takes SpellsUnsigned Application 9 octets n rest →
    segmentation_number s ≡ n → Takes SaysSegmentation Application 9 octets s rest
takes_segmentation octets n s rest t e = record { inner = t.inner; tag = t.tag; said = record { number = rw e t.said } }

pub only_segmentation : (octets : List ℕ) (n : ℕ) (s : Segmentation) (rest : List ℕ) → Only SpellsUnsigned Application 9 octets n rest →
    segmentation_number s ≡ n → Only SaysSegmentation Application 9 octets s rest
only_segmentation octets n s rest one e = record {
  only = λ u after t.
      let p = one.only (segmentation_number u) after (as_number octets u after t) in
      (one_segmentation s u (e ∙ p.0), p.1);
}

pub lacks_segmentation : (octets : List ℕ) → Lacks SpellsUnsigned Application 9 octets → Lacks SaysSegmentation Application 9 octets
lacks_segmentation octets lacks = record { none = λ s rest t. lacks.none (segmentation_number s) rest (as_number octets s rest t) }

pub lacks_segmentation_over : (octets : List ℕ) (n : ℕ) (rest : List ℕ) → Only SpellsUnsigned Application 9 octets n rest → 4 ≤ n →
    Lacks SaysSegmentation Application 9 octets
lacks_segmentation_over octets n rest one over = record {
  none = λ s after t.
      let p = one.only (segmentation_number s) after (as_number octets s after t) in
      absurd (omega (arith, segmentation_below s, p.0));
}

pub ruleset segmentation_rules = (takes_segmentation, only_segmentation, lacks_segmentation, lacks_segmentation_over)

-- an I-Am

pub no_device : (octets : List ℕ) → Lacks IsObject Application 12 octets → NoIAm octets
no_device octets lacks = record { none = λ i s. lacks.none (device i.instance) s.at_size s.device_taken }

pub no_other_object : (octets : List ℕ) (o : ObjectId) (at_size : List ℕ) → Only IsObject Application 12 octets o at_size → o.object_type ≢ 8 → NoIAm octets
no_other_object octets o at_size one other = record {
  none = λ i s. other (ap (λ (x : ObjectId). x.object_type) ((one.only (device i.instance) s.at_size s.device_taken).0));
}

pub no_size : (octets : List ℕ) (o : ObjectId) (at_size : List ℕ) → Only IsObject Application 12 octets o at_size →
    Lacks SpellsUnsigned Application 2 at_size → NoIAm octets
no_size octets o at_size one lacks = record {
  none = λ i s.
      let p = one.only (device i.instance) s.at_size s.device_taken in
      lacks.none i.max_apdu s.at_segmentation (rw (p.1) s.size_taken);
}

pub no_segmentation : (octets : List ℕ) (o : ObjectId) (at_size : List ℕ) (n : ℕ) (at_segmentation : List ℕ) → Only IsObject Application 12 octets o at_size →
    Only SpellsUnsigned Application 2 at_size n at_segmentation → Lacks SaysSegmentation Application 9 at_segmentation → NoIAm octets
no_segmentation octets o at_size n at_segmentation one two lacks = record {
  none = λ i s.
      let p = one.only (device i.instance) s.at_size s.device_taken in
      let q = two.only i.max_apdu s.at_segmentation (rw (p.1) s.size_taken) in
      lacks.none i.segmentation s.at_vendor (rw (q.1) s.segmentation_taken);
}

pub no_vendor : (octets : List ℕ) (o : ObjectId) (at_size : List ℕ) (n : ℕ) (at_segmentation : List ℕ) (g : Segmentation) (at_vendor : List ℕ) →
    Only IsObject Application 12 octets o at_size → Only SpellsUnsigned Application 2 at_size n at_segmentation →
    Only SaysSegmentation Application 9 at_segmentation g at_vendor → Lacks SpellsUnsigned Application 2 at_vendor → NoIAm octets
no_vendor octets o at_size n at_segmentation g at_vendor one two three lacks = record {
  none = λ i s.
      let p = one.only (device i.instance) s.at_size s.device_taken in
      let q = two.only i.max_apdu s.at_segmentation (rw (p.1) s.size_taken) in
      let z = three.only i.segmentation s.at_vendor (rw (q.1) s.segmentation_taken) in
      lacks.none i.vendor [] (rw (z.1) s.vendor_taken);
}

pub no_i_am_left_over : (octets : List ℕ) (o : ObjectId) (at_size : List ℕ) (n : ℕ) (at_segmentation : List ℕ) (g : Segmentation) (at_vendor : List ℕ) (v : ℕ)
    (rest : List ℕ) → Only IsObject Application 12 octets o at_size → Only SpellsUnsigned Application 2 at_size n at_segmentation →
    Only SaysSegmentation Application 9 at_segmentation g at_vendor → Only SpellsUnsigned Application 2 at_vendor v rest → rest ≢ [] → NoIAm octets
no_i_am_left_over octets o at_size n at_segmentation g at_vendor v rest one two three four some = record {
  none = λ i s.
      let p = one.only (device i.instance) s.at_size s.device_taken in
      let q = two.only i.max_apdu s.at_segmentation (rw (p.1) s.size_taken) in
      let z = three.only i.segmentation s.at_vendor (rw (q.1) s.segmentation_taken) in
      some ((four.only i.vendor [] (rw (z.1) s.vendor_taken)).1);
}

abbrev introduced : ℕ → ℕ → Segmentation → ℕ → IAm
introduced instance max_apdu segmentation vendor = record { instance = instance; max_apdu = max_apdu; segmentation = segmentation; vendor = vendor }

introduced_again : (i : IAm) → introduced i.instance i.max_apdu i.segmentation i.vendor ≡ i
introduced_again i = refl

pub only_i_am : (octets : List ℕ) (o : ObjectId) (at_size : List ℕ) (n : ℕ) (at_segmentation : List ℕ) (g : Segmentation) (at_vendor : List ℕ) (v : ℕ)
    (rest : List ℕ) → Only IsObject Application 12 octets o at_size → Only SpellsUnsigned Application 2 at_size n at_segmentation →
    Only SaysSegmentation Application 9 at_segmentation g at_vendor → Only SpellsUnsigned Application 2 at_vendor v rest →
    OnlyIAm octets (record { instance = o.instance; max_apdu = n; segmentation = g; vendor = v })
only_i_am octets o at_size n at_segmentation g at_vendor v rest one two three four = record {
  only = λ i s.
      let p = one.only (device i.instance) s.at_size s.device_taken in
      let q = two.only i.max_apdu s.at_segmentation (rw (p.1) s.size_taken) in
      let z = three.only i.segmentation s.at_vendor (rw (q.1) s.segmentation_taken) in
      let w = four.only i.vendor [] (rw (z.1) s.vendor_taken) in
      let first : o.instance ≡ i.instance = ap (λ (x : ObjectId). x.instance) p.0 in
      let second : n ≡ i.max_apdu = q.0 in
      let third : g ≡ i.segmentation = z.0 in
      let fourth : v ≡ i.vendor = w.0 in
      rw (first, second, third, fourth) (introduced_again i);
}

pub ruleset i_am_rules = (no_device, no_other_object, no_size, no_segmentation, no_vendor, no_i_am_left_over, only_i_am)

-- what octets spell is one

pub limits_alone : (octets : List ℕ) (low high : ℕ) → SpellsLimits octets low high → OnlyLimits octets low high
limits_alone octets low high s = only_limits octets low s.at_high high [] (alone_number Context 0 octets low s.at_high s.low_taken)
    (alone_number Context 1 s.at_high high [] s.high_taken)

no_limits_at_end : (octets : List ℕ) (low high : ℕ) → octets ≡ [] → SpellsLimits octets low high → ⊥
no_limits_at_end octets low high e s = (no_contents_at_end Context 0 octets e).none s.low_taken.inner s.at_high s.low_taken.tag

pub one_who_is : WhoIsSpellOne
one_who_is octets None None s r = refl
one_who_is octets None (Some m) s r = absurd (no_limits_at_end octets m.low m.high s r)
one_who_is octets (Some l) None s r = absurd (no_limits_at_end octets l.low l.high r s)
one_who_is octets (Some l) (Some m) s r =
    let p = (limits_alone octets l.low l.high s).only m.low m.high r in
    let low : l.low ≡ m.low = p.0 in
    let high : l.high ≡ m.high = p.1 in
    cc (limited_again l, limited_again m)

pub one_i_am : IAmSpellOne
one_i_am octets i j s r =
    let number = segmentation_number i.segmentation in
    let one = alone_object Application 12 octets (device i.instance) s.at_size s.device_taken in
    let two = alone_number Application 2 s.at_size i.max_apdu s.at_segmentation s.size_taken in
    let said = alone_number Application 9 s.at_segmentation number s.at_vendor (as_number s.at_segmentation i.segmentation s.at_vendor s.segmentation_taken) in
    let three = only_segmentation s.at_segmentation number i.segmentation s.at_vendor said refl in
    let four = alone_number Application 2 s.at_vendor i.vendor [] s.vendor_taken in
    let only = only_i_am octets (device i.instance) s.at_size i.max_apdu s.at_segmentation i.segmentation s.at_vendor i.vendor [] one two three four in
    sym (introduced_again i) ∙ only.only j r

-- the octets that are written

pub who_is_spelled : WhoIsSpells
who_is_spelled None fits = refl
who_is_spelled (Some l) fits = record {
  at_high = tagged Context 1 (unsigned_octets l.high);
  low_taken = takes_number Context 0 l.low (tagged Context 1 (unsigned_octets l.high)) tt (omega arith) (fits.0);
  high_taken = subst (λ (x : List ℕ). Takes SpellsUnsigned Context 1 x l.high []) (append-nil (tagged Context 1 (unsigned_octets l.high)))
      (takes_number Context 1 l.high [] tt (omega arith) (fits.1));
}

segmentation_spelled : (s : Segmentation) (rest : List ℕ) →
    Takes SaysSegmentation Application 9 (tagged Application 9 (unsigned_octets (segmentation_number s)) ++ rest) s rest
segmentation_spelled s rest = takes_segmentation (tagged Application 9 (unsigned_octets (segmentation_number s)) ++ rest) (segmentation_number s) s rest
    (takes_number Application 9 (segmentation_number s) rest (omega arith) (omega arith) (omega (arith, segmentation_below s))) refl

vendor_spelled : (v : ℕ) → v < 2 ^ 32 → Takes SpellsUnsigned Application 2 (tagged Application 2 (unsigned_octets v)) v []
vendor_spelled v fits = subst (λ (x : List ℕ). Takes SpellsUnsigned Application 2 x v []) (append-nil (tagged Application 2 (unsigned_octets v)))
    (takes_number Application 2 v [] (omega arith) (omega arith) fits)

pub i_am_spelled : IAmSpells
i_am_spelled i instance size vendor =
    let last = tagged Application 2 (unsigned_octets i.vendor) in
    let behind_size = tagged Application 9 (unsigned_octets (segmentation_number i.segmentation)) ++ last in
    let behind_device = tagged Application 2 (unsigned_octets i.max_apdu) ++ behind_size in
    record {
      at_size = behind_device;
      at_segmentation = behind_size;
      at_vendor = last;
      device_taken = takes_object Application 12 (device i.instance) behind_device (omega arith) (omega arith) (omega arith, instance);
      size_taken = takes_number Application 2 i.max_apdu behind_size (omega arith) (omega arith) size;
      segmentation_taken = segmentation_spelled i.segmentation last;
      vendor_taken = vendor_spelled i.vendor vendor;
    }

pub ruleset spelled_rules = (who_is_spelled, i_am_spelled)
