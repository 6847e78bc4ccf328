-- What is inside parcels that have something inside.
use Rattle.std.proofs.Common.{◌≡◌, ◌∙◌, refl, sym, ap, subst, arith, ℕ, zero, suc, ◌≤◌, ◌+◌, ◌-◌, List, [], ◌∷◌, ◌++◌, length, Option, Some, None, drop}
use Rattle.std.proofs.Math.Seq.{drop-append_seam}
use Rattle.std.proofs.lemmas.List.{append_assoc, length-append}
use Rattle.std.specs.Prelude.{IfNone, IsSome}
use Rattle.carry_ends.specs.carry_world.carry_said.Said.{HasInsides, HasSomething}
use Rattle.inside.specs.Inside.{AreInside, HasInside, HasNothingInside, Inside, IsInsideOf, Said}
use Rattle.npdu.specs.Header.{Header, dnet_octets, fields, hop_octets, message_octets, snet_octets}
use Rattle.inside.specs.declared.reach.Reach.{Reach}
use Rattle.npdu.specs.declared.mac.Mac.{Mac}
use Rattle.npdu.specs.declared.mac.Station.{Station}
use Rattle.npdu.specs.declared.mac.Target.{Target}
use Rattle.npdu.specs.declared.parcel.Parcel.{Parcel}
use Rattle.world_log.specs.Kept.{all_said, said_of}
use Rattle.world_log.specs.Log.{Says}
use Rattle.world_log.specs.declared.saying.SaidMessage.{SaidMessage}

-- where there is something inside, something is found
pub some_inside : {A X : Type 0} (net : ℕ) (p : Parcel A) (found : Option X) → HasSomething net p →
    IfNone found (HasNothingInside net p) → IsSome found
some_inside net p (Some x) something none = refl
some_inside net p None something none = absurd (none.none something.inside something.has)

fields_end : (h : Header) → fields h
    ≡ (((dnet_octets h.destination ++ snet_octets h.source) ++ hop_octets h.destination) ++ message_octets h.message) ++ h.body
fields_end h =
    let d = dnet_octets h.destination in
    let s = snet_octets h.source in
    let c = hop_octets h.destination in
    let m = message_octets h.message in
    sym (append_assoc d s (c ++ (m ++ h.body))) ∙ sym (append_assoc (d ++ s) c (m ++ h.body))
    ∙ sym (append_assoc ((d ++ s) ++ c) m h.body)

-- the octets of an APDU are the last ones of its NPDU
pub record IsEnd (npdu apdu : List ℕ) : Type 0 where
  pub front : List ℕ
  pub is : npdu ≡ front ++ apdu

inside_ends : (net : ℕ) (from : Mac) (to : Target) (npdu : List ℕ) (i : Inside) → HasInside net from to npdu i →
    IsEnd npdu i.apdu
inside_ends net from to npdu i h = record {
  front = 1 ∷ (h.spelled.control ∷ (((dnet_octets h.header.destination ++ snet_octets h.header.source)
      ++ hop_octets h.header.destination) ++ message_octets h.header.message));
  is = h.spelled.parts ∙ ap (λ (l : List ℕ). 1 ∷ (h.spelled.control ∷ l)) (fields_end h.header)
      ∙ ap (λ (b : List ℕ). 1 ∷ (h.spelled.control ∷ ((((dnet_octets h.header.destination
      ++ snet_octets h.header.source) ++ hop_octets h.header.destination) ++ message_octets h.header.message) ++ b)))
      h.is.apdu;
}

end_fits : (npdu apdu : List ℕ) → IsEnd npdu apdu → length apdu ≤ length npdu
end_fits npdu apdu e =
    let long : length npdu ≡ length e.front + length apdu =
    ap (λ (l : List ℕ). length l) e.is ∙ length-append e.front apdu in omega (arith, long)

end_is : (npdu apdu : List ℕ) → IsEnd npdu apdu → drop (length npdu - length apdu) npdu ≡ apdu
end_is npdu apdu e =
    let long : length npdu ≡ length e.front + length apdu =
    ap (λ (l : List ℕ). length l) e.is ∙ length-append e.front apdu in
    let count : length npdu - length apdu ≡ length e.front = omega (arith, long) in
    ap (λ (n : ℕ). drop n npdu) count ∙ ap (λ (l : List ℕ). drop (length e.front) l) e.is
    ∙ drop-append_seam e.front apdu

pub apdu_fits : (net : ℕ) (from : Mac) (to : Target) (npdu : List ℕ) (i : Inside) → HasInside net from to npdu i →
    length i.apdu ≤ length npdu
apdu_fits net from to npdu i h = end_fits npdu i.apdu (inside_ends net from to npdu i h)

-- what is read inside a parcel is inside it, where its octets lie
pub inside_where_it_lies : {A : Type 0} (net : ℕ) (p : Parcel A) (i : Inside) (m : SaidMessage A) →
    HasInside net p.from p.to p.npdu i → m.source ≡ i.source → m.reach ≡ i.reach → m.npdu ≡ p.npdu →
    m.header ≡ length p.npdu - length i.apdu → m.stamp ≡ p.stamp → IsInsideOf net p (said_of m)
inside_where_it_lies {A} net p i m h source reach npdu header stamp =
    let apdu : drop m.header m.npdu ≡ i.apdu =
    ap (λ (n : ℕ). drop n m.npdu) header ∙ ap (λ (l : List ℕ). drop (length p.npdu - length i.apdu) l) npdu
    ∙ end_is p.npdu i.apdu (inside_ends net p.from p.to p.npdu i h) in record {
      inside = subst (λ (j : Inside). HasInside net p.from p.to p.npdu j)
          (sym (ap (λ (x : Station). record { source = x; reach = m.reach; apdu = drop m.header m.npdu }) source
          ∙ ap (λ (x : Reach). record { source = i.source; reach = x; apdu = drop m.header m.npdu }) reach
          ∙ ap (λ (x : List ℕ). record { source = i.source; reach = i.reach; apdu = x }) apdu)) h;
      stamp = stamp;
    }

pub ruleset something_rules = (some_inside, apdu_fits, inside_where_it_lies)

-- there is something inside the first, and inside each of the rest
pub first_has : {A : Type 0} (net : ℕ) (all : List (Parcel A)) (p : Parcel A) (rest : List (Parcel A)) →
    HasInsides net all → all ≡ p ∷ rest → HasSomething net p
first_has {A} net all p rest h e = by_said h.said (subst (λ (ps : List (Parcel A)). AreInside net ps h.said) e h.are)
  where
    by_said : (ss : List Said) → AreInside net (p ∷ rest) ss → HasSomething net p
    by_said [] a = absurd a
    by_said (s ∷ ss) a = record { inside = s.inside; has = a.0.inside }

pub rest_has : {A : Type 0} (net : ℕ) (all : List (Parcel A)) (p : Parcel A) (rest : List (Parcel A)) →
    HasInsides net all → all ≡ p ∷ rest → HasInsides net rest
rest_has {A} net all p rest h e = by_said h.said (subst (λ (ps : List (Parcel A)). AreInside net ps h.said) e h.are)
  where
    by_said : (ss : List Said) → AreInside net (p ∷ rest) ss → HasInsides net rest
    by_said [] a = absurd a
    by_said (s ∷ ss) a = record { said = ss; are = a.1 }

-- what is inside what is left, behind so many messages, is what is inside all of them behind those of the beginning
pub record GoesOnTo {A : Type 0} (net : ℕ) (left : List (Parcel A)) (list : List (SaidMessage A))
    (all : List (Parcel A)) (old : List (SaidMessage A)) : Type 0 where
  pub says : (new : List (SaidMessage A)) → Says net left list new → Says net all old new

pub begins_to : {A : Type 0} (net : ℕ) (all : List (Parcel A)) (old : List (SaidMessage A)) → GoesOnTo net all old all old
begins_to net all old = record { says = λ new s. s }

-- what is inside more messages stands behind
all_behind : {A : Type 0} (ms ns : List (SaidMessage A)) → all_said (ms ++ ns) ≡ all_said ms ++ all_said ns
all_behind [] ns = refl
all_behind (m ∷ ms) ns = ap (λ (ss : List Said). said_of m ∷ ss) (all_behind ms ns)

pub one_more : {A : Type 0} (net : ℕ) (left : List (Parcel A)) (p : Parcel A) (rest : List (Parcel A))
    (list more : List (SaidMessage A)) (m : SaidMessage A) (all : List (Parcel A)) (old : List (SaidMessage A)) →
    GoesOnTo net left list all old → left ≡ p ∷ rest → more ≡ list ++ m ∷ [] → IsInsideOf net p (said_of m) →
    GoesOnTo net rest more all old
one_more {A} net left p rest list more m all old on e put is = record {
  says = λ new s. on.says new (record {
    fresh = said_of m ∷ s.fresh;
    inside = subst (λ (ps : List (Parcel A)). AreInside net ps (said_of m ∷ s.fresh)) (sym e) (is, s.inside);
    behind = s.behind ∙ ap (λ (ms : List (SaidMessage A)). all_said ms ++ s.fresh) put
        ∙ ap (λ (ss : List Said). ss ++ s.fresh) (all_behind list (m ∷ []))
        ∙ append_assoc (all_said list) (said_of m ∷ []) s.fresh;
  });
}

nil_right : {X : Type 0} (xs : List X) → xs ≡ xs ++ []
nil_right [] = refl
nil_right {X} (x ∷ xs) = ap (λ (l : List X). x ∷ l) (nil_right xs)

pub none_left : {X : Type 0} (xs : List X) → length xs ≡ 0 → xs ≡ []
none_left [] e = refl
none_left (x ∷ xs) e = absurd (omega (arith, e))

pub all_are_said : {A : Type 0} (net : ℕ) (left : List (Parcel A)) (list : List (SaidMessage A))
    (all : List (Parcel A)) (old : List (SaidMessage A)) → GoesOnTo net left list all old → left ≡ [] →
    Says net all old list
all_are_said {A} net left list all old on e = on.says list (record {
  fresh = [];
  inside = subst (λ (ps : List (Parcel A)). AreInside net ps []) (sym e) tt;
  behind = nil_right (all_said list);
})

pub ruleset saying_rules = (first_has, rest_has, begins_to, one_more, all_are_said)
