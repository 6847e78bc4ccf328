-- Buses of which what is too old may be forgotten.
use Rattle.std.proofs.Common.{◌≡◌, ◌∙◌, inl, refl, sym, ap, subst, ℕ, ◌+◌, ◌≤◌, Bool, true, false, List, [], ◌∷◌, ◌++◌, map}
use Rattle.std.specs.Prelude.{◌==◌, ◌&&◌, Option, Some, bytes_eq, cond, if◌then◌else◌, not, slice_set}
use Rattle.bus_traffic.proofs.ForgettingLaws.{young_twice}
use Rattle.bus_traffic.proofs.Places.{delivered_first}
use Rattle.bus_traffic.proofs.RememberLaws.{delivered_next}
use Rattle.bus_traffic.specs.Bus.{BusState, heard_on, put_out}
use Rattle.bus_traffic.specs.Ears.{ear_after}
use Rattle.bus_traffic.specs.Finding.{place_from}
use Rattle.bus_traffic.specs.Sendings.{delivered, is_due_at, is_heard_at, is_young, known_by, known_of, marked, unheard, young}
use Rattle.bus_traffic.specs.declared.ear.Ear.{Ear}
use Rattle.bus_traffic.specs.declared.sending.Recent.{Recent}
use Rattle.bus_traffic.specs.declared.sending.Sending.{Sending}
use Rattle.buses.specs.Finding.{has_net}
use Rattle.buses.specs.Hearing.{anew_at, anew_of, anew_on, ears_anew, heard_at}
use Rattle.buses.specs.Puts.{BusesState, counted, put_at, put_on, put_one, sending_of}
use Rattle.traffic.specs.declared.frame.FramePut.{FramePut}
use Rattle.world_past.proofs.EachLaws.{each_if, each_map, each_on, each_set}
use Rattle.world_past.proofs.StampLaws.{known_more, stamp_later, stamp_on}
use Rattle.bus_traffic.specs.Forgetting.{KeepsBus, KeepsEach}
use Rattle.buses.specs.Forgetting.{KeepsBuses}

pub bus_on : {A : Type 0} (now : ℕ) (a b c : BusState A) → KeepsBus now a b → KeepsBus now b c → KeepsBus now a c
bus_on now a b c p q = record {
  net = q.net ∙ p.net;
  ears = q.ears ∙ p.ears;
  known = λ octets. stamp_on now (known_of octets a.known) (known_of octets b.known) (known_of octets c.known)
      (p.known octets) (q.known octets);
  recent = q.recent ∙ p.recent;
}

bus_later : {A : Type 0} (now later : ℕ) → now ≤ later → (b c : BusState A) → KeepsBus now b c → KeepsBus later b c
bus_later {A} now later le b c p = record {
  net = p.net;
  ears = p.ears;
  known = λ octets. stamp_later now later (known_of octets b.known) (known_of octets c.known) le (p.known octets);
  recent = sym (young_twice now later c.recent le) ∙ ap (λ (rs : List (Recent A)). young later rs) p.recent
      ∙ young_twice now later b.recent le;
}

-- a frame is put out
bus_put : {A : Type 0} (now : ℕ) (s : Sending A) (b c : BusState A) → KeepsBus now b c →
    KeepsBus now (put_out now s b) (put_out now s c)
bus_put {A} now s b c p = record {
  net = p.net;
  ears = p.ears;
  known = known_more now (known_by s) b.known c.known p.known;
  recent = ap (λ (rs : List (Recent A)). young now (rs ++ unheard s ∷ [])) p.recent;
}

-- what is delivered may be heard
no_due : (b c d : Bool) → c ≡ false → (b && (c && d)) ≡ false
no_due true c d e = ap (λ (x : Bool). x && d) e
no_due false c d e = refl

not_due : {A : Type 0} (now address : ℕ) (octets : List ℕ) (r : Recent A) → is_young now r.sending ≡ false →
    is_due_at now address octets r ≡ false
not_due now address octets r e = no_due (bytes_eq r.sending.octets octets) (is_young now r.sending)
    (not (address == r.sending.sender) && not (is_heard_at address r)) e

young_next : {A : Type 0} (now : ℕ) (r : Recent A) (rs : List (Recent A)) → is_young now r.sending ≡ true →
    young now (r ∷ rs) ≡ r ∷ young now rs
young_next now r rs e = ap (λ (b : Bool). cond b (r ∷ young now rs) (young now rs)) e

old_next : {A : Type 0} (now : ℕ) (r : Recent A) (rs : List (Recent A)) → is_young now r.sending ≡ false →
    young now (r ∷ rs) ≡ young now rs
old_next now r rs e = ap (λ (b : Bool). cond b (r ∷ young now rs) (young now rs)) e

module _ {A : Type 0} (now address : ℕ) (octets : List ℕ) (r : Recent A) (rs : List (Recent A))
    (rest : young now (delivered now address octets rs) ≡ delivered now address octets (young now rs)) where
  due_by : (d : Bool) → is_due_at now address octets r ≡ d → is_young now r.sending ≡ true →
      young now (delivered now address octets (r ∷ rs)) ≡ delivered now address octets (young now (r ∷ rs))
  due_by true due e = ap (λ (xs : List (Recent A)). young now xs) (delivered_first now address octets r rs due)
      ∙ young_next now (marked address r) rs e
      ∙ sym (ap (λ (xs : List (Recent A)). delivered now address octets xs) (young_next now r rs e)
      ∙ delivered_first now address octets r (young now rs) due)
  due_by false due e = ap (λ (xs : List (Recent A)). young now xs) (delivered_next now address octets r rs due)
      ∙ young_next now r (delivered now address octets rs) e ∙ ap (λ (xs : List (Recent A)). r ∷ xs) rest
      ∙ sym (ap (λ (xs : List (Recent A)). delivered now address octets xs) (young_next now r rs e)
      ∙ delivered_next now address octets r (young now rs) due)

  young_by : (b : Bool) → is_young now r.sending ≡ b →
      young now (delivered now address octets (r ∷ rs)) ≡ delivered now address octets (young now (r ∷ rs))
  young_by true e = due_by (is_due_at now address octets r) refl e
  young_by false e = ap (λ (xs : List (Recent A)). young now xs)
      (delivered_next now address octets r rs (not_due now address octets r e))
      ∙ old_next now r (delivered now address octets rs) e ∙ rest
      ∙ sym (ap (λ (xs : List (Recent A)). delivered now address octets xs) (old_next now r rs e))

young_delivered : {A : Type 0} (now address : ℕ) (octets : List ℕ) (rs : List (Recent A)) →
    young now (delivered now address octets rs) ≡ delivered now address octets (young now rs)
young_delivered now address octets [] = refl
young_delivered now address octets (r ∷ rs) = young_by now address octets r rs
    (young_delivered now address octets rs) (is_young now r.sending) refl

-- an ear hears
pub bus_heard : {A : Type 0} (now place : ℕ) (octets kept : List ℕ) (e : Ear) (b c : BusState A) → KeepsBus now b c →
    KeepsBus now (heard_on now place octets kept e b) (heard_on now place octets kept e c)
bus_heard {A} now place octets kept e b c p = record {
  net = p.net;
  ears = ap (λ (es : List Ear). slice_set es place (ear_after now octets kept e)) p.ears;
  known = p.known;
  recent = young_delivered now e.address octets c.recent
      ∙ ap (λ (rs : List (Recent A)). delivered now e.address octets rs) p.recent
      ∙ sym (young_delivered now e.address octets b.recent);
}

-- ears are made anew
bus_renewed : {A : Type 0} (now net address : ℕ) (b c : BusState A) → KeepsBus now b c → (t : Bool) →
    (b.net == net) ≡ t → KeepsBus now (anew_at now net address b) (anew_at now net address c)
bus_renewed {A} now net address b c p true e =
    let e2 : (c.net == net) ≡ true = ap (λ (n : ℕ). n == net) p.net ∙ e in
    subst (λ (d : BusState A). KeepsBus now d (anew_at now net address c))
    (sym (ap (λ (t : Bool). if t then anew_on now address b else b) e))
    (subst (λ (d : BusState A). KeepsBus now (anew_on now address b) d)
    (sym (ap (λ (t : Bool). if t then anew_on now address c else c) e2))
    (record {
      net = p.net;
      ears = ap (λ (es : List Ear). map (anew_of now address) es) p.ears;
      known = p.known;
      recent = p.recent;
    }))
bus_renewed {A} now net address b c p false e =
    let e2 : (c.net == net) ≡ false = ap (λ (n : ℕ). n == net) p.net ∙ e in
    subst (λ (d : BusState A). KeepsBus now d (anew_at now net address c))
    (sym (ap (λ (t : Bool). if t then anew_on now address b else b) e))
    (subst (λ (d : BusState A). KeepsBus now b d)
    (sym (ap (λ (t : Bool). if t then anew_on now address c else c) e2)) p)

pub buses_on : {A : Type 0} (now : ℕ) (a b c : BusesState A) → KeepsBuses now a b → KeepsBuses now b c →
    KeepsBuses now a c
buses_on now a b c p q = record {
  each = each_on (KeepsBus now) (KeepsBus now) (KeepsBus now) (bus_on now) a.buses b.buses c.buses p.each q.each;
  frames = q.frames ∙ p.frames;
}

pub buses_later : {A : Type 0} (now later : ℕ) (b c : BusesState A) → now ≤ later → KeepsBuses now b c →
    KeepsBuses later b c
buses_later now later b c le p = record {
  each = each_if (KeepsBus now) (KeepsBus later) (bus_later now later le) b.buses c.buses p.each;
  frames = p.frames;
}

pub buses_anew : {A : Type 0} (now net address : ℕ) (b c : BusesState A) → KeepsBuses now b c →
    KeepsBuses now (ears_anew now net address b) (ears_anew now net address c)
buses_anew now net address b c p = record {
  each = each_map (KeepsBus now) (KeepsBus now) (anew_at now net address)
      (λ x y q. bus_renewed now net address x y q (x.net == net) refl) b.buses c.buses p.each;
  frames = p.frames;
}

put_by : {A : Type 0} (now net : ℕ) (s : Sending A) (b c : BusState A) (bs cs : List (BusState A)) →
    KeepsBus now b c → KeepsEach (KeepsBus now) bs cs →
    KeepsEach (KeepsBus now) (put_at now net s bs) (put_at now net s cs) → (t : Bool) → (b.net == net) ≡ t →
    KeepsEach (KeepsBus now) (put_at now net s (b ∷ bs)) (put_at now net s (c ∷ cs))
put_by {A} now net s b c bs cs p ps rest true e =
    let e2 : (c.net == net) ≡ true = ap (λ (n : ℕ). n == net) p.net ∙ e in
    subst (λ (xs : List (BusState A)). KeepsEach (KeepsBus now) xs (put_at now net s (c ∷ cs)))
    (sym (ap (λ (t : Bool). if t then put_out now s b ∷ bs else b ∷ put_at now net s bs) e))
    (subst (λ (ys : List (BusState A)). KeepsEach (KeepsBus now) (put_out now s b ∷ bs) ys)
    (sym (ap (λ (t : Bool). if t then put_out now s c ∷ cs else c ∷ put_at now net s cs) e2))
    (bus_put now s b c p, ps))
put_by {A} now net s b c bs cs p ps rest false e =
    let e2 : (c.net == net) ≡ false = ap (λ (n : ℕ). n == net) p.net ∙ e in
    subst (λ (xs : List (BusState A)). KeepsEach (KeepsBus now) xs (put_at now net s (c ∷ cs)))
    (sym (ap (λ (t : Bool). if t then put_out now s b ∷ bs else b ∷ put_at now net s bs) e))
    (subst (λ (ys : List (BusState A)). KeepsEach (KeepsBus now) (b ∷ put_at now net s bs) ys)
    (sym (ap (λ (t : Bool). if t then put_out now s c ∷ cs else c ∷ put_at now net s cs) e2)) (p, rest))

each_put : {A : Type 0} (now net : ℕ) (s : Sending A) (bs cs : List (BusState A)) → KeepsEach (KeepsBus now) bs cs →
    KeepsEach (KeepsBus now) (put_at now net s bs) (put_at now net s cs)
each_put now net s [] [] p = tt
each_put now net s [] (c ∷ cs) p = absurd p
each_put now net s (b ∷ bs) [] p = absurd p
each_put now net s (b ∷ bs) (c ∷ cs) p =
    put_by now net s b c bs cs p.0 p.1 (each_put now net s bs cs p.1) (b.net == net) refl

one_put : {A : Type 0} (now items : ℕ) (f : FramePut A) (b c : BusesState A) → KeepsBuses now b c →
    KeepsBuses now (put_one now items f b) (put_one now items f c)
one_put {A} now items f b c p = record {
  each = subst (λ (n : ℕ). KeepsEach (KeepsBus now) (put_at now f.net (sending_of items b.frames f) b.buses)
      (put_at now f.net (sending_of items n f) c.buses)) (sym p.frames)
      (each_put now f.net (sending_of items b.frames f) b.buses c.buses p.each);
  frames = ap (λ (n : ℕ). counted n 1) p.frames;
}

-- frames are put out
pub buses_put : {A : Type 0} (now items : ℕ) (fs : List (FramePut A)) (b c : BusesState A) → KeepsBuses now b c →
    KeepsBuses now (put_on now items fs b) (put_on now items fs c)
buses_put now items [] b c p = p
buses_put now items (f ∷ fs) b c p =
    buses_put now items fs (put_one now items f b) (put_one now items f c) (one_put now items f b c p)

-- the bus of a number stands at the same place
numbered_by : {A : Type 0} (now net n : ℕ) (bs cs : List (BusState A)) → KeepsEach (KeepsBus now) bs cs →
    place_from n (has_net net) cs ≡ place_from n (has_net net) bs
numbered_by now net n [] [] p = refl
numbered_by now net n [] (c ∷ cs) p = absurd p
numbered_by now net n (b ∷ bs) [] p = absurd p
numbered_by now net n (b ∷ bs) (c ∷ cs) p =
    let one = p.0 in
    ap (λ (m : ℕ). if m == net then Some n else place_from (n + 1) (has_net net) cs) one.net
    ∙ ap (λ (o : Option ℕ). if b.net == net then Some n else o) (numbered_by now net (n + 1) bs cs p.1)

pub numbered : {A : Type 0} (now net : ℕ) (bs cs : List (BusState A)) → KeepsEach (KeepsBus now) bs cs →
    place_from 0 (has_net net) cs ≡ place_from 0 (has_net net) bs
numbered now net bs cs p = numbered_by now net 0 bs cs p

-- .. and hears there
pub buses_heard : {A : Type 0} (now bus_place ear_place : ℕ) (octets kept : List ℕ) (e : Ear) (x y : BusState A)
    (b c : BusesState A) → KeepsBus now x y → KeepsBuses now b c →
    KeepsBuses now (heard_at now bus_place ear_place octets kept e x b)
    (heard_at now bus_place ear_place octets kept e y c)
buses_heard now bus_place ear_place octets kept e x y b c one p = record {
  each = each_set (KeepsBus now) b.buses c.buses bus_place (heard_on now ear_place octets kept e x)
      (heard_on now ear_place octets kept e y) p.each (bus_heard now ear_place octets kept e x y one);
  frames = p.frames;
}
