-- A server keeps its answers well, whatever changes of it.
use Rattle.std.proofs.Common.{◌≡◌, ◌≢◌, ◌∙◌, ⊎_elim, refl, sym, ap, subst, ℕ, ◌≤◌, Bool, true, false, List, [], ◌∷◌, ◌++◌, Some, None}
use Rattle.std.specs.Prelude.{Option, slice_get}
use Rattle.std.specs.List.{AllByRecursion}
use Rattle.history.specs.Lists.{Has}
use Rattle.history.proofs.Lists.{has, has_cons, has_next}
use Rattle.npdu.specs.declared.mac.Way.{Way}
use Rattle.server_tsm.proofs.remembered.Keeping.{one_asker}
use Rattle.server_tsm.specs.remembered.Records.{AreDistinct, askers, forgotten, is_of, newest, said_again, said_by, said_on}
use Rattle.server_tsm.specs.remembered.declared.record.Asker.{Asker}
use Rattle.server_tsm.specs.remembered.declared.record.Record.{Record}
use Rattle.segments.specs.Sender.{SenderState}
use Rattle.history.proofs.HasLaws.{all_has, has_all, has_map}
use Rattle.headline_server.proofs.Listed.{all_so}
use Rattle.headline_server.proofs.Records.{forgotten_has}
use Rattle.headline_server.specs.Keeping.{IsSayable, IsWellKept}
use Rattle.server_tsm.proofs.Kept.{planned_kept}
use Rattle.server_tsm.specs.Server.{ServerTsmState, committed, stamped}
use Rattle.server_tsm.specs.Steps.{IsPlanned}
use Rattle.server_tsm.specs.Waking.{after_sayings, after_saying}
use Rattle.headline_bacnet.specs.server_answers.Plan.{ServerChange, ServerPlan, Stays, Says, Gathers, GivesUp, Executes, Wakes}
use Rattle.headline_bacnet.specs.server_answers.declared.plan.Saying.{Saying}

module _ {A : Type 0} where
  -- one record for each asker
  other_at : (y : Record A) (ys : List (Record A)) (x : Record A) → AllByRecursion (λ z. z ≢ y.asker) (askers ys) → Has ys x → x.asker ≡ y.asker → ⊥
  other_at y ys x h there e = all_has (λ z. z ≢ y.asker) (askers ys) x.asker h (has_map (λ (z : Record A). z.asker) ys x there) e

  pub one_each : (rs : List (Record A)) (r x : Record A) → AreDistinct (askers rs) → Has rs r → Has rs x → r.asker ≡ x.asker → r ≡ x
  one_each [] r x h a b e = absurd (none_there a.at_place)
    where
      none_there : slice_get [] a.place ≡ Some r → ⊥
      none_there g = (cc)
  one_each (y ∷ ys) r x h a b e = ⊎_elim
      (λ (f : y ≡ r). ⊎_elim
      (λ (g : y ≡ x). sym f ∙ g)
      (λ (g : Has ys x). absurd (other_at y ys x h.0 g (sym e ∙ sym (ap (λ (z : Record A). z.asker) f))))
      (has_cons y ys b))
      (λ (f : Has ys r). ⊎_elim
      (λ (g : y ≡ x). absurd (other_at y ys r h.0 f (e ∙ sym (ap (λ (z : Record A). z.asker) g))))
      (λ (g : Has ys x). one_each ys r x h.1 f g e)
      (has_cons y ys b))
      (has_cons y ys a)

  -- what is said again
  said_by_all : (P : Record A → Type 0) (o : Option (Record A)) (b : Bool) (way : Way) (sending : Option SenderState) (r : Record A)
      (rs rest : List (Record A)) → P r → AllByRecursion P rs → AllByRecursion P rest → (b ≡ true → P (said_on way sending r)) →
      AllByRecursion P (said_by o b way sending r rs rest)
  said_by_all P (Some x) b way sending r rs rest one all more f = (one, more)
  said_by_all P None true way sending r rs rest one all more f = (f refl, all)
  said_by_all P None false way sending r rs rest one all more f = (one, all)

  said_all : (P : Record A → Type 0) (a : Asker) (way : Way) (sending : Option SenderState) (rs : List (Record A)) → AllByRecursion P rs →
      ((r : Record A) → Has rs r → r.asker ≡ a → P (said_on way sending r)) → AllByRecursion P (said_again a way sending rs)
  said_all P a way sending [] h f = tt
  said_all P a way sending (r ∷ rs) h f =
      said_by_all P (newest a rs) (is_of a r) way sending r rs (said_again a way sending rs) h.0 h.1
      (said_all P a way sending rs h.1 (λ x there e. f x (has_next r rs there) e))
      (λ t. f r (has 0 refl) (one_asker r.asker a t))

  -- a record is one that was there, said so or as before
  record IsOf (rs : List (Record A)) (x : Record A) : Type 0 where
    r : Record A
    there : Has rs r
    way : Way
    sending : Option SenderState
    is : x ≡ said_on way sending r

  itself : (rs : List (Record A)) (x : Record A) → Has rs x → IsOf rs x
  itself rs x h = record { r = x; there = h; way = x.way; sending = x.sending; is = refl }

  behind : (r : Record A) (rs : List (Record A)) (x : Record A) → IsOf rs x → IsOf (r ∷ rs) x
  behind r rs x h = record { r = h.r; there = has_next r rs h.there; way = h.way; sending = h.sending; is = h.is }

  said_by_of : (o : Option (Record A)) (b : Bool) (way : Way) (sending : Option SenderState) (r : Record A) (rs rest : List (Record A)) (x : Record A) →
      (Has rest x → IsOf rs x) → Has (said_by o b way sending r rs rest) x → IsOf (r ∷ rs) x
  said_by_of (Some y) b way sending r rs rest x ih h = ⊎_elim
      (λ (e : r ≡ x). itself (r ∷ rs) x (has 0 (ap (λ z. Some z) e)))
      (λ (g : Has rest x). behind r rs x (ih g))
      (has_cons r rest h)
  said_by_of None true way sending r rs rest x ih h = ⊎_elim
      (λ (e : said_on way sending r ≡ x). record { r = r; there = has 0 refl; way = way; sending = sending; is = sym e })
      (λ (g : Has rs x). behind r rs x (itself rs x g))
      (has_cons (said_on way sending r) rs h)
  said_by_of None false way sending r rs rest x ih h = itself (r ∷ rs) x h

  said_of : (a : Asker) (way : Way) (sending : Option SenderState) (rs : List (Record A)) (x : Record A) → Has (said_again a way sending rs) x → IsOf rs x
  said_of a way sending [] x h = itself [] x h
  said_of a way sending (r ∷ rs) x h = said_by_of (newest a rs) (is_of a r) way sending r rs (said_again a way sending rs) x (said_of a way sending rs x) h

  -- an answer may be said so
  abbrev pub FitsSaying : ℕ → List (Record A) → Saying → Type 0
  FitsSaying net rs x = (r : Record A) → Has rs r → r.asker ≡ x.asker → IsSayable net (said_on x.way x.sending r)

  fits_on : (net : ℕ) (rs : List (Record A)) (y x : Saying) → FitsSaying net rs x → FitsSaying net (after_saying y rs) x
  fits_on net rs y x f z there e =
      let of = said_of y.asker y.way y.sending rs z there in
      subst (λ (u : Record A). IsSayable net (said_on x.way x.sending u)) (sym of.is)
      (f of.r of.there (sym (ap (λ (u : Record A). u.asker) of.is) ∙ e))

  all_said_sayable : (net : ℕ) (xs : List Saying) (rs : List (Record A)) → AllByRecursion (IsSayable net) rs → AllByRecursion (FitsSaying net rs) xs →
      AllByRecursion (IsSayable net) (after_sayings xs rs)
  all_said_sayable net [] rs all f = all
  all_said_sayable net (x ∷ xs) rs all f =
      all_said_sayable net xs (after_saying x rs) (said_all (IsSayable net) x.asker x.way x.sending rs all f.0)
      (all_so (FitsSaying net rs) (FitsSaying net (after_saying x rs)) xs (λ y g. fits_on net rs x y g) f.1)

  -- what is forgotten
  forgotten_all : (P : Record A → Type 0) (now : ℕ) (rs : List (Record A)) → AllByRecursion P rs → AllByRecursion P (forgotten now rs)
  forgotten_all P now rs h = has_all P (forgotten now rs) (λ x there. all_has P rs x h (forgotten_has now rs x there))

  -- one more
  all_added : (P : Record A → Type 0) (rs : List (Record A)) (r : Record A) → AllByRecursion P rs → P r → AllByRecursion P (rs ++ r ∷ [])
  all_added P [] r h one = (one, tt)
  all_added P (x ∷ rs) r h one = (h.0, all_added P rs r h.1 one)

  -- what may change of a server that keeps its answers well
  abbrev pub Fits : (net now : ℕ) → ServerTsmState A → ServerChange A → Type 0
  Fits net now st (Says x) = FitsSaying net st.records x
  Fits net now st (Executes request r) = IsSayable net (stamped now r)
  Fits net now st (Wakes xs) = AllByRecursion (FitsSaying net (forgotten now st.records)) xs
  Fits net now st change = Unit {0}

  changed_sayable : (net now : ℕ) (change : ServerChange A) (st : ServerTsmState A) → AllByRecursion (IsSayable net) st.records → Fits net now st change →
      AllByRecursion (IsSayable net) (committed now change st).records
  changed_sayable net now Stays st h f = h
  changed_sayable net now (Says x) st h f = said_all (IsSayable net) x.asker x.way x.sending st.records h f
  changed_sayable net now (Gathers asked segment octets) st h f = h
  changed_sayable net now (GivesUp asker) st h f = h
  changed_sayable net now (Executes request r) st h f =
      forgotten_all (IsSayable net) now (st.records ++ stamped now r ∷ []) (all_added (IsSayable net) st.records (stamped now r) h f)
  changed_sayable net now (Wakes xs) st h f =
      all_said_sayable net xs (forgotten now st.records) (forgotten_all (IsSayable net) now st.records h) f

  -- what is planned and fits keeps the answers well
  pub changed_well : (net now : ℕ) (plan : ServerPlan A) (st : ServerTsmState A) → IsPlanned now st plan → st.moment ≤ now → IsWellKept net st →
      Fits net now st plan.change → IsWellKept net (committed now plan.change st)
  changed_well net now plan st p l k f =
      record { sayable = changed_sayable net now plan.change st k.sayable f; kept = planned_kept now st plan p l k.kept }
