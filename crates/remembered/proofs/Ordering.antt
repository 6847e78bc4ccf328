-- The derived order of askers is the one of the definitions.
use Rattle.std.proofs.Common.{◌≡◌, ◌∙◌, refl, sym, ap, ℕ, Bool, true, false}
use Rattle.std.specs.Map.{remove_entry}
use Rattle.std.specs.BTreeMap.{is_at}
use Rattle.std.specs.Prelude.{◌&&◌, ◌==◌, ◌≢◌, cond, nat_eq, Option, Some, None}
use Rattle.std.specs.Cmp.{nat_cmp_total}
use Rattle.std.proofs.lemmas.Bool.{eq-eqb, eqb-true}
use Rattle.std.proofs.lemmas.Map.Lookups.{exact_unsigned}
use Rattle.std.specs.Ordering.{is_eq, nat_cmp, ordering_reverse, ordering_then}
use Rattle.std.specs.declared.cmp.Ordering.{Ordering}
use Rattle.std.specs.declared.cmp.Ordering.TheVariants.{Less, Equal, Greater}
use Rattle.remembered.specs.contracts.record.AskerOrd.TheImpl as impl
use Rattle.npdu.proofs.Stations.{station_order, then_equal}
use Rattle.npdu.specs.Mac.{station_cmp}
use Rattle.npdu.specs.declared.mac.Mac.{Mac}
use Rattle.npdu.specs.declared.mac.Mac.TheVariants.{One, Six}
use Rattle.npdu.specs.declared.mac.Station.{Station}
use Rattle.remembered.specs.declared.record.Asker.{Asker}
use Rattle.remembered.specs.Records.{asker_cmp}
use Rattle.sorted_map.specs.Entries as map
use Rattle.remembered.specs.Keeping.{HasNow, IsDropped, IsForgotten, IsSet, IsSameMap, Keys, get, order}

-- askers that compare alike are one
pub exact_asker : (a b : Asker) → asker_cmp a b ≡ Equal → a ≡ b
exact_asker a b e =
    let p = then_equal (nat_cmp a.invoke_id b.invoke_id) (station_cmp a.station b.station) e in
    ap (λ (s : Station). record { station = s; invoke_id = a.invoke_id }) (station_order.apart a.station b.station p.1)
    ∙ ap (λ (n : ℕ). record { station = b.station; invoke_id = n }) (exact_unsigned a.invoke_id b.invoke_id p.0)

pub is_equal : (o : Ordering) → is_eq o ≡ true → o ≡ Equal
is_equal Less e = absurd (cc e)
is_equal Equal e = refl
is_equal Greater e = absurd (cc e)

-- the derived order
macs : (n : ℕ) (a b : Mac) (i j m : ℕ) → impl.cmp-value.it (record { station = record { net = n; mac = a }; invoke_id = i })
    (record { station = record { net = m; mac = b }; invoke_id = j })
    ≡ asker_cmp (record { station = record { net = n; mac = a }; invoke_id = i }) (record { station = record { net = m; mac = b }; invoke_id = j })
macs n (One a) (One b) i j m = refl
macs n (One a) (Six b) i j m = refl
macs n (Six a) (One b) i j m = refl
macs n (Six a) (Six b) i j m = refl

pub one_order : (a b : Asker) → impl.cmp-value.it a b ≡ asker_cmp a b
one_order a b = macs a.station.net a.station.mac b.station.mac a.invoke_id b.invoke_id b.station.net

-- an asker compares alike with itself
self_equal : (o : Ordering) → o ≡ ordering_reverse o → o ≡ Equal
self_equal Less e = absurd (cc e)
self_equal Equal e = refl
self_equal Greater e = absurd (cc e)

both_equal : (a b : Ordering) → a ≡ Equal → b ≡ Equal → is_eq (ordering_then a b) ≡ true
both_equal a b e f = rw (e, f) refl

pub itself : (a : Asker) → is_eq (asker_cmp a a) ≡ true
itself a = both_equal (nat_cmp a.invoke_id a.invoke_id) (station_cmp a.station a.station)
    (self_equal _ (nat_cmp_total.antisymm a.invoke_id a.invoke_id))
    (self_equal _ (station_order.total.antisymm a.station a.station))

same_test : (a b : Asker) → is_eq (order a b) ≡ is_eq (asker_cmp a b)
same_test a b = ap is_eq (one_order a b)

-- an asker whose key was set has it
pub set_is_there : (a : Asker) (key : ℕ) (before with : Keys) → IsSet a key before with → get with a ≡ Some key
set_is_there a key before with put = put a ∙ ap (λ (b : Bool). cond b (Some key) (get before a)) (same_test a a ∙ itself a)

undone : (test : Bool) (key : ℕ) (had old : Option ℕ) → (test ≡ true → old ≡ had) → cond test had (cond test (Some key) old) ≡ old
undone true key had old e = sym (e refl)
undone false key had old e = refl

-- the key of an asker set, and put back
pub put_and_back : (a : Asker) (key : ℕ) (had : Option ℕ) (before with after : Keys) → had ≡ get before a → IsSet a key before with →
    HasNow a had with after → IsSameMap before after
put_and_back a key had before with after is put back = λ q.
    back q ∙ ap (cond (is_eq (order a q)) had) (put q)
    ∙ undone (is_eq (order a q)) key had (get before q)
    (λ b. ap (get before) (sym (exact_asker a q (is_equal _ (sym (same_test a q) ∙ b)))) ∙ sym is)

-- an asker is taken away where its key is this one
pub dropped : (a : Asker) (key : ℕ) (old new : Keys) → get old a ≡ Some key → map.Updates order nat_eq a key old new → IsDropped a old new
dropped a key old new has up = λ q.
    up q ∙ ap (λ (b : Bool). cond (b && is_eq (order a q)) None (get old q)) (ap (map.is_value nat_eq key) has ∙ eq-eqb key key refl)

other_value : (o : Option ℕ) (key : ℕ) → o ≢ Some key → map.is_value nat_eq key o ≡ false
other_value None key other = refl
other_value (Some j) key other = by_test (j == key) refl
  where
    by_test : (b : Bool) → (j == key) ≡ b → (j == key) ≡ false
    by_test true e = absurd (other (ap Some (eqb-true j key e)))
    by_test false e = e

pub forgotten_pair : (a : Asker) (key : ℕ) (old new : Keys) → new ≡ map.without order nat_eq a key old → map.Updates order nat_eq a key old new →
    IsForgotten a key old new
forgotten_pair a key old new is up = record {
  dropped = λ mine. dropped a key old new mine up;
  left = λ other. is ∙ ap (λ (b : Bool). cond b (remove_entry (is_at (order a)) old) old) (other_value (get old a) key other);
}
