-- What a client learns of bindings is honest: a binding is new only where its device was heard to say so.
use Rattle.std.proofs.Common.{◌≡◌, ◌⊎◌, ⊎_elim, refl, sym, ap, subst, ◌∙◌, inl, inr, ℕ, Bool, true, false, List, [], ◌∷◌, map, Some}
use Rattle.std.specs.Prelude.{if◌then◌else◌}
use Rattle.std.specs.List.{AllByRecursion}
use Rattle.apdu.proofs.UnconfirmedLaws.{one_i_am}
use Rattle.apdu.specs.declared.sizes.MaxApdu.{MaxApdu}
use Rattle.apdu.specs.declared.unconfirmed.IAm.{IAm}
use Rattle.bindings.specs.Binding.{introduced, is_of, marked, mark_refused, put_binding}
use Rattle.client.specs.Hearing.{IsIAm}
use Rattle.bindings.specs.declared.binding.Binding.{Binding}
use Rattle.client.specs.client_tsm.Client.{ClientTsmState}
use Rattle.headline.proofs.Steps.{all_stay}
use Rattle.headline.specs.Honest.{ClientGoesOn, IsAnnounced, IsHeard}
use Rattle.headline.specs.Stations as safe
use Rattle.headline.specs.Stations.{Client}
use Rattle.history.proofs.Lists.{has_cons, has_next, none_has}
use Rattle.history.specs.Book.{Body, I_am, Other, Message}
use Rattle.history.specs.Lists.{Has}
use Rattle.npdu.specs.declared.mac.Station.{Station}
use Rattle.npdu.specs.declared.mac.Way.{Way}
use Rattle.npdu.specs.declared.message.NetworkRejectReason.{NetworkRejectReason}
use Rattle.npdu.specs.declared.message.NetworkRejectReason.TheVariants.{NoRoute, UnknownMessageType, TooLong}
use Rattle.headline_bacnet.specs.Bodies.{SaysUnconfirmed}
use Rattle.primitives.specs.declared.plain_data.Request.{Request}
use Rattle.headline_client.specs.Kept.{Leads}
use Rattle.headline_bacnet.specs.Refined.{ObjectSite, Refined, ObjectCore}
use Rattle.headline_client.specs.Safe.{safe_binding, safe_with}
use Rattle.headline_client.specs.Told.{acts}
use Rattle.headline_client.proofs.Acting.{acts_becomes, having_said, still_heard}
use Rattle.headline_client.proofs.Saying.{silent}
use Rattle.headline_client.proofs.Places.{has_seen}

put_first : (b x : Binding) (xs : List Binding) → is_of b.instance x ≡ true → put_binding b (x ∷ xs) ≡ b ∷ xs
put_first b x xs e = ap (λ (t : Bool). if t then b ∷ xs else x ∷ put_binding b xs) e

put_later : (b x : Binding) (xs : List Binding) → is_of b.instance x ≡ false → put_binding b (x ∷ xs) ≡ x ∷ put_binding b xs
put_later b x xs e = ap (λ (t : Bool). if t then b ∷ xs else x ∷ put_binding b xs) e

-- a binding that stands among those with one put was among them, or is that one
put_by : (b : Binding) (x : Binding) (xs : List Binding) (y : Binding) (t : Bool) → is_of b.instance x ≡ t → (Has (put_binding b xs) y → Has xs y ⊎ (b ≡ y)) →
    Has (put_binding b (x ∷ xs)) y → Has (x ∷ xs) y ⊎ (b ≡ y)
put_by b x xs y true is ih h =
    ⊎_elim (λ (e : b ≡ y). inr e) (λ (g : Has xs y). inl (has_next x xs g)) (has_cons b xs (subst (λ (l : List Binding). Has l y) (put_first b x xs is) h))
put_by b x xs y false is ih h =
    ⊎_elim
    (λ (e : x ≡ y). inl (record { place = 0; at_place = ap (λ (z : Binding). Some z) e }))
    (λ (g : Has (put_binding b xs) y). ⊎_elim (λ (k : Has xs y). inl (has_next x xs k)) (λ (e : b ≡ y). inr e) (ih g))
    (has_cons x (put_binding b xs) (subst (λ (l : List Binding). Has l y) (put_later b x xs is) h))

put_has : (b : Binding) (xs : List Binding) (y : Binding) → Has (put_binding b xs) y → Has xs y ⊎ (b ≡ y)
put_has b [] y h = ⊎_elim (λ (e : b ≡ y). inr e) (λ (g : Has [] y). absurd (none_has g)) (has_cons b [] h)
put_has b (x ∷ xs) y h = put_by b x xs y (is_of b.instance x) refl (put_has b xs y) h

-- all that are put are well kept, if all were and the one is
put_binding_leads_by : (net : ℕ) (b x : Binding) (xs : List Binding) (t : Bool) → is_of b.instance x ≡ t → Leads net b → Leads net x →
    AllByRecursion (Leads net) xs → AllByRecursion (Leads net) (put_binding b xs) → AllByRecursion (Leads net) (put_binding b (x ∷ xs))
put_binding_leads_by net b x xs true is l k all ih = subst (λ (z : List Binding). AllByRecursion (Leads net) z) (sym (put_first b x xs is)) (l, all)
put_binding_leads_by net b x xs false is l k all ih = subst (λ (z : List Binding). AllByRecursion (Leads net) z) (sym (put_later b x xs is)) (k, ih)

pub put_binding_leads : (net : ℕ) (b : Binding) (xs : List Binding) → Leads net b → AllByRecursion (Leads net) xs →
    AllByRecursion (Leads net) (put_binding b xs)
put_binding_leads net b [] l all = (l, tt)
put_binding_leads net b (x ∷ xs) l all = put_binding_leads_by net b x xs (is_of b.instance x) refl l all.0 all.1 (put_binding_leads net b xs l all.1)

-- a mark is nothing to safety
marked_same : (net : ℕ) (xs : List Binding) → map safe_binding (map (marked net) xs) ≡ map safe_binding xs
marked_same net [] = refl
marked_same net (x ∷ xs) = ap (λ (l : List (safe.Binding Station)). safe_binding x ∷ l) (marked_same net xs)

pub mark_refused_same : (r : NetworkRejectReason) (net : ℕ) (xs : List Binding) → map safe_binding (mark_refused r net xs) ≡ map safe_binding xs
mark_refused_same NoRoute net xs = marked_same net xs
mark_refused_same UnknownMessageType net xs = refl
mark_refused_same TooLong net xs = refl

marked_leads : (own_net net : ℕ) (xs : List Binding) → AllByRecursion (Leads own_net) xs → AllByRecursion (Leads own_net) (map (marked net) xs)
marked_leads own_net net [] all = tt
marked_leads own_net net (x ∷ xs) all = (all.0, marked_leads own_net net xs all.1)

pub mark_refused_leads : (own_net : ℕ) (r : NetworkRejectReason) (net : ℕ) (xs : List Binding) → AllByRecursion (Leads own_net) xs →
    AllByRecursion (Leads own_net) (mark_refused r net xs)
mark_refused_leads own_net NoRoute net xs all = marked_leads own_net net xs all
mark_refused_leads own_net UnknownMessageType net xs all = all
mark_refused_leads own_net TooLong net xs all = all

-- what an I-Am says
pub says_instance : (service : ℕ) (octets : List ℕ) (i : IAm) (body : Body) → IsIAm service octets i → SaysUnconfirmed service octets body →
    body ≡ I_am i.instance
says_instance service octets i (I_am n) is says =
    ap (λ m. I_am m) (sym says.instance_is ∙ ap (λ (z : IAm). z.instance) (one_i_am octets says.i_am i says.spelled is.spelled))
says_instance service octets i Other is says =
    absurd (says.none i.instance (record { i_am = i; service_is = is.i_am; spelled = is.spelled; instance_is = refl }))
says_instance service octets i body is says = absurd says

-- what stands in a list seen through a function is seen of one that stands in the list
record IsSeenOf {X Y : Type 0} (f : X → Y) (xs : List X) (y : Y) : Type 0 where
  item : X
  there : Has xs item
  is : f item ≡ y

map_has : {X Y : Type 0} (f : X → Y) (xs : List X) (y : Y) → Has (map f xs) y → IsSeenOf f xs y
map_has f [] y h = absurd (none_has h)
map_has {X} {Y} f (x ∷ xs) y h = ⊎_elim
    (λ (e : f x ≡ y). record { item = x; there = record { place = 0; at_place = refl }; is = e })
    (λ (g : Has (map f xs) y). let of = map_has f xs y g in record { item = of.item; there = has_next x xs of.there; is = of.is })
    (has_cons (f x) (map f xs) h)

module _ {A : Type 0} (own : Station → MaxApdu) (s : ObjectSite A) (w : ObjectCore A) (c : Station) (bindings : List Binding) (st : ClientTsmState A)
    (seen : w.clients c ≡ safe_with own bindings st) where
  -- these bindings come of those, or of what was heard
  pub learns : (next : List Binding) → ((y : Binding) → Has next y → Has bindings y ⊎ IsAnnounced w.book c (safe_binding y)) →
      Refined s w (acts own c [] [] (safe_with own next st) w)
  learns next come = acts_becomes own s w c [] (safe_with own next st) (silent own s w c)
      (subst (λ (z : Client Station (Request A)). ClientGoesOn (having_said own s w c []).book c z (safe_with own next st)) (sym seen) (record {
        next_is = refl;
        free = refl;
        transactions = all_stay _ c (safe_with own bindings st).transactions;
        bindings = λ x h. let of = map_has safe_binding next x h in
            subst (λ (z : safe.Binding Station). Has (map safe_binding bindings) z ⊎ IsAnnounced (having_said own s w c []).book c z) of.is
            (⊎_elim
            (λ (k : Has bindings of.item). inl (has_seen safe_binding bindings of.item k))
            (λ (k : IsAnnounced w.book c (safe_binding of.item)). inr
            (record { message = k.message; heard = still_heard own s w c [] k.message k.heard; from = k.from; body = k.body }))
            (come of.item of.there));
      }))

  -- those that are put, where an I-Am was heard
  pub introduces : (from : Station) (way : Way) (i : IAm) (m : Message Station) → IsHeard w.book c m → m.from ≡ from → m.body ≡ I_am i.instance →
      Refined s w (acts own c [] [] (safe_with own (put_binding (introduced from way i) bindings) st) w)
  introduces from way i m heard from_is body = learns (put_binding (introduced from way i) bindings) (λ y h. ⊎_elim
      (λ (k : Has bindings y). inl k)
      (λ (e : introduced from way i ≡ y). inr (subst (λ (z : Binding). IsAnnounced w.book c (safe_binding z)) e
      (record { message = m; heard = heard; from = from_is; body = body })))
      (put_has (introduced from way i) bindings y h))

  -- those that are the same to safety
  pub holds : (next : List Binding) → map safe_binding next ≡ map safe_binding bindings → Refined s w (acts own c [] [] (safe_with own next st) w)
  holds next same = acts_becomes own s w c [] (safe_with own next st) (silent own s w c)
      (subst (λ (z : Client Station (Request A)). ClientGoesOn (having_said own s w c []).book c z (safe_with own next st)) (sym seen) (record {
        next_is = refl;
        free = refl;
        transactions = all_stay _ c (safe_with own bindings st).transactions;
        bindings = λ x h. inl (subst (λ (l : List (safe.Binding Station)). Has l x) same h);
      }))
