-- Which of a site's networks a stray isn't for, one after another.
use Rattle.std.proofs.Common.{◌≡◌, ◌≢◌, inl, inr, refl, sym, subst, ℕ, zero, suc, ◌+◌, List, [], ◌∷◌, length, take, Some, Result, Ok, Err, IfErr, OnOk, arith}
use Rattle.std.proofs.lemmas.Option.{none-some, same_Some}
use Rattle.std.specs.List.{AllByRecursion}
use Rattle.std.specs.Prelude.{slice_get}
use Rattle.simulator.specs.world.Straying.{StrayIsRefused, Strays}
use Rattle.simulator.specs.world.World.{WorldState}
use Rattle.runner.specs.Strays.{AreWithout, IsRefusedStray, IsWithout, RefusesAt, TakesStray, stray_on}
use Rattle.site_parts.specs.declared.parts.Network.{Network}
use Rattle.tags.specs.declared.fault.Fault.{Fault}
use Rattle.tags.specs.declared.fault.Fault.TheVariants.{NoSuch}
use Rattle.wire.specs.Datagrams.{Datagram}

-- what holds of the first so many, and of the next one, holds of one more
one_more : {X : Type 0} (P : X → Type 0) (xs : List X) (n : ℕ) (x : X) → slice_get xs n ≡ Some x →
    AllByRecursion P (take n xs) → P x → AllByRecursion P (take (suc n) xs)
one_more P [] n x there all one = absurd (none-some x there)
one_more P (y ∷ ys) zero x there all one = (subst P (sym (same_Some y x there)) one, tt)
one_more P (y ∷ ys) (suc n) x there all one = (all.0, one_more P ys n x there (all.1) one)

-- all of them are the whole list
all_taken : {X : Type 0} (P : X → Type 0) (xs : List X) → AllByRecursion P (take (length xs) xs) → AllByRecursion P xs
all_taken P [] all = tt
all_taken P (y ∷ ys) all = (all.0, all_taken P ys (all.1))

-- none of the first so many networks has a station at its address
pub record AreNone {A : Type 0} (d : Datagram) (w : WorldState A) (count : ℕ) : Type 0 where
  pub without : AreWithout d w (take count w.site.networks)

module _ {A : Type 0} (d : Datagram) (w : WorldState A) where
  -- the station that it is for hears it
  pub taken_on : {T E : Type 0} (r : Result T E) (net : ℕ) (v : WorldState A) →
      OnOk r (Strays (stray_on net d w.moment) w v) → OnOk r (TakesStray d w v)
  taken_on (Ok x) net v strays = record { net = net; strays = strays }
  taken_on (Err e) net v strays = tt

  -- it is refused on one network, as it is refused there
  pub refused_at : {T : Type 0} (r : Result T Fault) (place : ℕ) (n : Network) →
      slice_get w.site.networks place ≡ Some n →
      IfErr r (λ fault. StrayIsRefused (stray_on n.number d w.moment) w fault) → IfErr r (RefusesAt d w place)
  refused_at (Ok x) place n there why = tt
  refused_at (Err fault) place n there why = record { network = n; there = there; refused = why }

  -- one network more that it isn't for
  pub without_more : (place : ℕ) → AreNone d w place → RefusesAt d w place NoSuch → AreNone d w (place + 1)
  without_more place none at =
      let next : suc place ≡ place + 1 = omega arith in record {
        without = subst (λ (m : ℕ). AreWithout d w (take m w.site.networks)) next
            (one_more (IsWithout d w) w.site.networks place at.network at.there none.without
            (record { refused = at.refused }));
      }

  -- no network so far
  pub none_yet : AreNone d w 0
  none_yet = record { without = none_of w.site.networks }
    where
      none_of : (ns : List Network) → AreWithout d w (take 0 ns)
      none_of [] = tt
      none_of (n ∷ ns) = tt

  -- it is for none
  pub for_nobody : (count : ℕ) → count ≡ length w.site.networks → AreNone d w count → IsRefusedStray d w NoSuch
  for_nobody count all none = inl (
    refl,
    all_taken
        (IsWithout d w) w.site.networks
        (subst (λ (m : ℕ). AreWithout d w (take m w.site.networks)) all none.without),
  )

  -- the station that it is for refuses it
  pub refused_on : (place : ℕ) (fault : Fault) → RefusesAt d w place fault → (fault ≢ NoSuch) → IsRefusedStray d w fault
  refused_on place fault at other = inr (record { place = place; at = at; other = other })

pub ruleset stray_rules = (without_more, none_yet, for_nobody, refused_on)
