-- A write is added to the last group, or as a group of its own.
use Rattle.std.proofs.Common.{◌≡◌, ◌∙◌, sym, ap, subst, refl, ℕ, suc, ◌+◌, ◌-◌, ◌<◌, List, [], ◌∷◌, ◌++◌, length, take, drop, get_or, set, Bool, true, false}
use Rattle.std.proofs.Common.{eqb, ◌&&◌, arith}
use Rattle.std.specs.Bool.{MatchBool}
use Rattle.std.specs.Prelude.{◌≢◌, Result, Ok, Err, OnOk}
use Rattle.std.proofs.lemmas.Bool.{and_parts, and_from, both_ways, false≢true, true≢false, eq-eqb, eqb-true}
use Rattle.std.proofs.lemmas.List.{append_assoc, append-nil, drop_all, length-append, set_split, take_all, take_at, take_more}
use Rattle.primitives.specs.declared.plain_data.ObjectWrites.{ObjectWrites}
use Rattle.primitives.specs.declared.plain_data.PropertyWrite.{PropertyWrite}
use Rattle.tags.specs.declared.object_id.ObjectId.{ObjectId}
use Rattle.words.specs.Requests.{AreGrouped, BeginsElsewhere, EndsElsewhere, EndsWith, all_writes, with_object}

with_object-append : {A : Type 0} (o : ObjectId) (ws vs : List (PropertyWrite A)) → with_object o (ws ++ vs) ≡ with_object o ws ++ with_object o vs
with_object-append o [] vs = refl
with_object-append o (w ∷ ws) vs = ap (λ (l : List _). (o, w) ∷ l) (with_object-append o ws vs)

all_writes-append : {A : Type 0} (xs ys : List (ObjectWrites A)) → all_writes (xs ++ ys) ≡ all_writes xs ++ all_writes ys
all_writes-append [] ys = refl
all_writes-append (x ∷ xs) ys = ap (λ (l : List _). with_object x.object x.writes ++ l) (all_writes-append xs ys)
    ∙ sym (append_assoc (with_object x.object x.writes) (all_writes xs) (all_writes ys))

-- the writes with one more group behind
all_writes-last : {A : Type 0} (front : List (ObjectWrites A)) (g : ObjectWrites A) →
    all_writes (front ++ g ∷ []) ≡ all_writes front ++ with_object g.object g.writes
all_writes-last front g = all_writes-append front (g ∷ []) ∙ ap (λ (l : List _). all_writes front ++ l) (append-nil (with_object g.object g.writes))

added_last : {A : Type 0} (front : List (ObjectWrites A)) (g : ObjectWrites A) (w : PropertyWrite A) →
    all_writes (front ++ record { object = g.object; writes = g.writes ++ w ∷ [] } ∷ []) ≡ all_writes (front ++ g ∷ []) ++ (g.object, w) ∷ []
added_last front g w =
    all_writes-last front (record { object = g.object; writes = g.writes ++ w ∷ [] }) ∙
    ap (λ (l : List _). all_writes front ++ l) (with_object-append g.object g.writes (w ∷ [])) ∙
    sym (append_assoc (all_writes front) (with_object g.object g.writes) ((g.object, w) ∷ [])) ∙
    ap (λ (l : List _). l ++ (g.object, w) ∷ []) (sym (all_writes-last front g))

pub added_new : {A : Type 0} (xs : List (ObjectWrites A)) (h : ObjectWrites A) (o : ObjectId) (w : PropertyWrite A) → h.object ≡ o → h.writes ≡ w ∷ [] →
    all_writes (xs ++ h ∷ []) ≡ all_writes xs ++ (o, w) ∷ []
added_new xs h o w e f = all_writes-last xs h
    ∙ ap (λ (l : List _). all_writes xs ++ l) (ap (λ (p : ObjectId). with_object p h.writes) e ∙ ap (λ (ws : List (PropertyWrite _)). with_object o ws) f)

elsewhere_same : {A : Type 0} (o : ObjectId) (front : List (ObjectWrites A)) (g h : ObjectWrites A) → h.object ≡ g.object →
    BeginsElsewhere o (front ++ g ∷ []) → BeginsElsewhere o (front ++ h ∷ [])
elsewhere_same o [] g h e b = λ f. b (f ∙ e)
elsewhere_same o (k ∷ ks) g h e b = b

grouped_last : {A : Type 0} (front : List (ObjectWrites A)) (g h : ObjectWrites A) → h.object ≡ g.object → h.writes ≢ [] → AreGrouped (front ++ g ∷ []) →
    AreGrouped (front ++ h ∷ [])
grouped_last [] g h e some a = (some, tt, tt)
grouped_last (f ∷ fs) g h e some a = (a.0, elsewhere_same f.object fs g h e a.1, grouped_last fs g h e some a.2)

grouped_new : {A : Type 0} (xs : List (ObjectWrites A)) (h : ObjectWrites A) → h.writes ≢ [] → AreGrouped xs → EndsElsewhere h.object xs →
    AreGrouped (xs ++ h ∷ [])
grouped_new [] h some a e = (some, tt, tt)
grouped_new (g ∷ []) h some a e = (a.0, e, (some, tt, tt))
grouped_new (g ∷ k ∷ ks) h some a e = (a.0, a.1, grouped_new (k ∷ ks) h some a.2 e)

ends_elsewhere : {A : Type 0} (o : ObjectId) (front : List (ObjectWrites A)) (g : ObjectWrites A) → g.object ≢ o → EndsElsewhere o (front ++ g ∷ [])
ends_elsewhere o [] g n = n
ends_elsewhere o (f ∷ []) g n = n
ends_elsewhere o (f ∷ k ∷ ks) g n = ends_elsewhere o (k ∷ ks) g n

-- a list by its last element
by_last : {X : Type 0} (xs : List X) (d : X) → 0 < length xs → xs ≡ take (length xs - 1) xs ++ get_or xs (length xs - 1) d ∷ []
by_last xs d some = sym (take_all (length xs - 1 + 1) xs (omega (arith, some))) ∙ take_more xs (length xs - 1) d (omega (arith, some))

set_last : {X : Type 0} (xs : List X) (h : X) → 0 < length xs → set xs (length xs - 1) h ≡ take (length xs - 1) xs ++ h ∷ []
set_last xs h some = set_split xs (length xs - 1) h (omega (arith, some))
    ∙ ap (λ (l : List _). take (length xs - 1) xs ++ h ∷ l) (drop_all (suc (length xs - 1)) xs (omega (arith, some)))

-- what a slice of a whole list leaves of it
written_back : {X : Type 0} (items s : List X) (n : ℕ) → n ≡ length items → length s ≡ length items → take n (s ++ drop (length s) items) ≡ s
written_back items s n e f = take_at s (drop (length s) items) n (f ∙ sym e)

ended_with : {A : Type 0} (o : ObjectId) (front : List (ObjectWrites A)) (g : ObjectWrites A) → EndsWith o (front ++ g ∷ []) → g.object ≡ o
ended_with o [] g e = e
ended_with o (f ∷ []) g e = e
ended_with o (f ∷ k ∷ ks) g e = ended_with o (k ∷ ks) g e

ends_with : {A : Type 0} (o : ObjectId) (front : List (ObjectWrites A)) (g : ObjectWrites A) → g.object ≡ o → EndsWith o (front ++ g ∷ [])
ends_with o [] g e = e
ends_with o (f ∷ []) g e = e
ends_with o (f ∷ k ∷ ks) g e = ends_with o (k ∷ ks) g e

pub added_more : {A : Type 0} (s : List (ObjectWrites A)) (d : ObjectWrites A) (ws : List (PropertyWrite A)) (o : ObjectId) (w : PropertyWrite A) →
    0 < length s → EndsWith o s → ws ≡ (get_or s (length s - 1) d).writes ++ w ∷ [] →
    all_writes (set s (length s - 1) (record { object = (get_or s (length s - 1) d).object; writes = ws })) ≡ all_writes s ++ (o, w) ∷ []
added_more s d ws o w some is more =
    let last : ObjectWrites _ = get_or s (length s - 1) d in
    ap all_writes (set_last s (record { object = last.object; writes = ws }) some) ∙
    ap (λ (l : List _). all_writes (take (length s - 1) s ++ record { object = last.object; writes = l } ∷ [])) more ∙
    added_last (take (length s - 1) s) last w ∙
    ap (λ (l : List _). all_writes l ++ (last.object, w) ∷ []) (sym (by_last s d some)) ∙
    ap (λ (p : ObjectId). all_writes s ++ (p, w) ∷ []) (ended_with o (take (length s - 1) s) last (subst (λ (l : List _). EndsWith o l) (by_last s d some) is))

pub grouped_more : {A : Type 0} (s : List (ObjectWrites A)) (d : ObjectWrites A) (ws : List (PropertyWrite A)) (w : PropertyWrite A) → 0 < length s →
    ws ≡ (get_or s (length s - 1) d).writes ++ w ∷ [] → AreGrouped s →
    AreGrouped (set s (length s - 1) (record { object = (get_or s (length s - 1) d).object; writes = ws }))
grouped_more s d ws w some more grouped =
    let last : ObjectWrites _ = get_or s (length s - 1) d in
    subst (λ (l : List _). AreGrouped l) (sym (set_last s (record { object = last.object; writes = ws }) some))
    (grouped_last (take (length s - 1) s) last (record { object = last.object; writes = ws }) refl
    (λ none. absurd (omega (arith, ap length (sym more ∙ none), length-append last.writes (w ∷ []))))
    (subst (λ (l : List _). AreGrouped l) (by_last s d some) grouped))

pub back_added : {A : Type 0} (items s t : List (ObjectWrites A)) (n : ℕ) (o : ObjectId) (w : PropertyWrite A) → n ≡ length items → length t ≡ length s →
    s ≡ items → EndsWith o items → ((p : ObjectId) → EndsWith p s → all_writes t ≡ all_writes s ++ (p, w) ∷ []) →
    all_writes (take n (t ++ drop (length t) items)) ≡ all_writes items ++ (o, w) ∷ []
back_added items s t n o w e len same is added =
    ap all_writes (written_back items t n e (len ∙ ap length same)) ∙
    added o (subst (λ (l : List _). EndsWith o l) (sym same) is) ∙ ap (λ (l : List _). all_writes l ++ (o, w) ∷ []) same

pub back_grouped : {A : Type 0} (items s t : List (ObjectWrites A)) (n : ℕ) → n ≡ length items → length t ≡ length s → s ≡ items →
    (AreGrouped s → AreGrouped t) → AreGrouped items → AreGrouped (take n (t ++ drop (length t) items))
back_grouped items s t n e len same kept grouped =
    subst (λ (l : List _). AreGrouped l) (sym (written_back items t n e (len ∙ ap length same)))
    (kept (subst (λ (l : List _). AreGrouped l) (sym same) grouped))

same_parts : (a b : ObjectId) → a.object_type ≡ b.object_type → a.instance ≡ b.instance → a ≡ b
same_parts a b e f = ap (λ (n : ℕ). record { object_type = n; instance = a.instance }) e
    ∙ ap (λ (n : ℕ). record { object_type = b.object_type; instance = n }) f

same_object : (a b : ObjectId) → (eqb a.object_type b.object_type && eqb a.instance b.instance) ≡ true → a ≡ b
same_object a b e = let p = and_parts (eqb a.object_type b.object_type) (eqb a.instance b.instance) e in same_parts a b (eqb-true _ _ p.0) (eqb-true _ _ p.1)

other_object : (a b : ObjectId) → (eqb a.object_type b.object_type && eqb a.instance b.instance) ≡ false → a ≢ b
other_object a b e same = both_ways _ e (and_from (eqb a.object_type b.object_type) (eqb a.instance b.instance)
    (eq-eqb _ _ (ap (λ (o : ObjectId). o.object_type) same)) (eq-eqb _ _ (ap (λ (o : ObjectId). o.instance) same)))

end_decided : {A : Type 0} (front : List (ObjectWrites A)) (g : ObjectWrites A) (o : ObjectId) (b : Bool) →
    b ≡ (eqb g.object.object_type o.object_type && eqb g.object.instance o.instance) →
    MatchBool b (EndsWith o (front ++ g ∷ [])) (EndsElsewhere o (front ++ g ∷ []))
end_decided front g o true e = ends_with o front g (same_object g.object o (sym e))
end_decided front g o false e = ends_elsewhere o front g (other_object g.object o (sym e))

pub end_known : {A : Type 0} (s : List (ObjectWrites A)) (d : ObjectWrites A) (o : ObjectId) (b : Bool) → 0 < length s →
    b ≡ (eqb (get_or s (length s - 1) d).object.object_type o.object_type && eqb (get_or s (length s - 1) d).object.instance o.instance) →
    MatchBool b (EndsWith o s) (EndsElsewhere o s)
end_known s d o b some e = subst (λ (l : List _). MatchBool b (EndsWith o l) (EndsElsewhere o l)) (sym (by_last s d some))
    (end_decided (take (length s - 1) s) (get_or s (length s - 1) d) o b e)

pub end_none : {A : Type 0} (o : ObjectId) (s : List (ObjectWrites A)) → length s < 1 → EndsElsewhere o s
end_none o [] few = tt
end_none o (x ∷ xs) few = absurd (omega (arith, few))

pub grouped_own : {A : Type 0} (xs : List (ObjectWrites A)) (h : ObjectWrites A) (o : ObjectId) (w : PropertyWrite A) → h.object ≡ o → h.writes ≡ w ∷ [] →
    EndsElsewhere o xs → AreGrouped xs → AreGrouped (xs ++ h ∷ [])
grouped_own xs h o w e f other grouped = grouped_new xs h (λ none. absurd (omega (arith, ap length (sym f ∙ none)))) grouped
    (subst (λ (p : ObjectId). EndsElsewhere p xs) (sym e) other)

pub is_end : {A : Type 0} (b : Bool) (o : ObjectId) (s items : List (ObjectWrites A)) → b ≡ true → s ≡ items →
    MatchBool b (EndsWith o s) (EndsElsewhere o s) → EndsWith o items
is_end true o s items e same m = subst (λ (l : List _). EndsWith o l) same m
is_end false o s items e same m = absurd (false≢true e)

pub is_no_end : {A : Type 0} (b : Bool) (o : ObjectId) (s items : List (ObjectWrites A)) → b ≡ false → s ≡ items →
    MatchBool b (EndsWith o s) (EndsElsewhere o s) → EndsElsewhere o items
is_no_end true o s items e same m = absurd (true≢false e)
is_no_end false o s items e same m = subst (λ (l : List _). EndsElsewhere o l) same m

pub on_ok : {T E P Q : Type 0} (r : Result T E) → (P → Q) → OnOk r P → OnOk r Q
on_ok (Ok x) f h = f h
on_ok (Err e) f h = tt

pub ruleset end_laws = (end_known, end_none)
