-- The numbers of the last issues, and how issues that a later one of their key replaced are forgotten.
use Rattle.std.proofs.Common.{◌≡◌, ◌∙◌, refl, sym, ap, subst, arith, ℕ, zero, suc, ◌+◌, ◌-◌, ◌<◌, ◌≤◌, ◌^◌, Bool, true, false, List, [], ◌∷◌, ◌++◌, Option, Some, None, length, take, drop, get_or, append-nil, append_assoc}
use Rattle.std.proofs.lemmas.Bool.{eqb-true, eq-eqb}
use Rattle.std.proofs.lemmas.List.{drop_more, length-append, length-replicate, replicate-append-replicate, take-append-drop, take_more}
use Rattle.std.specs.Prelude.{◌&&◌, ◌==◌, IfSome, IsSome, Vec, cond, replicate}
use Rattle.std.specs.Vec.{vec_capacity, vec_len}
use Rattle.carry_ends.specs.carry_world.PlainWorld as plain
use Rattle.carry_ends.specs.carry_world.PlainWorld.{last_key, last_key_from}
use Rattle.npdu.proofs.Stations.{one_station}
use Rattle.npdu.specs.Mac.{same_station}
use Rattle.npdu.specs.declared.mac.Station.{Station}
use Rattle.world_log.proofs.KeyLaws.{Occurs, keeps_on, keeps_same, last_in, last_more, none_any, occurs_in, refilled}
use Rattle.world_log.proofs.NumberLaws.{same_of_same}
use Rattle.world_log.specs.Issues.{AreLast, ClientNumbers, IsKeptOf, IsReady, IsSameOf, KeepsKeys, LeadsToLast, flat}
use Rattle.world_log.specs.Issues.{folded, gap_after, is_number, key_of, kept_of, keys_in, number_of, run_keys, same_key}
use Rattle.world_log.specs.declared.key.Key.{Key}
use Rattle.world_log.specs.declared.key.Run.{Run}

pub itself : (c : Station) (id : ℕ) → (same_station c c && (id == id)) ≡ true
itself c id = ap (λ (b : Bool). b && (id == id)) ((one_station c c).one refl) ∙ eq-eqb id id refl

-- the numbers of what nobody has issued
pub none_issued : {A : Type 0} (runs : Vec Run A) (m : List ClientNumbers) → runs.items ≡ [] → m ≡ [] →
    AreLast 0 runs m None
none_issued runs m none empty = record {
  count = ap (λ (rs : List Run). length (keys_in rs)) (sym none);
  leads = record {
    numbers = λ k. ap (λ (rows : List ClientNumbers). number_of rows k) empty
        ∙ ap (λ (rs : List Run). last_key k.client k.invoke_id (keys_in rs)) (sym none);
  };
  ready = tt;
}

pub ruleset new_rules = (none_issued)

-- .. are those of the last issues
pub last_is : (m : List ClientNumbers) (keys : List plain.Key) (c : Station) (id : ℕ) → LeadsToLast m keys →
    number_of m (record { client = c; invoke_id = id }) ≡ last_key c id keys
last_is m keys c id leads = leads.numbers (record { client = c; invoke_id = id })

pub ruleset last_rules = (last_is)

-- and stay so where room is made
pub same_leads : (m n : List ClientNumbers) (keys : List plain.Key) → LeadsToLast m keys → IsSameOf m n →
    LeadsToLast n keys
same_leads m n keys leads same = record { numbers = λ k. same.same k ∙ leads.numbers k }

pub room_made : {A : Type 0} (issued : ℕ) (old new : Vec Run A) (m n : List ClientNumbers) (ready : Option Key) →
    AreLast issued old m ready → new.items ≡ old.items → IsSameOf m n → AreLast issued new n None
room_made issued old new m n ready are same known = record {
  count = are.count ∙ ap (λ (rs : List Run). length (keys_in rs)) (sym same);
  leads = subst (λ (rs : List Run). LeadsToLast n (keys_in rs)) (sym same) (same_leads m n (keys_in old.items) are.leads known);
  ready = tt;
}

pub room_ready : {A : Type 0} (issued : ℕ) (old new : Vec Run A) (m n : List ClientNumbers) (ready : Option Key)
    (key : Key) → AreLast issued old m ready → new.items ≡ old.items → IsSameOf m n → IsSome (kept_of n key) →
    vec_len new < vec_capacity new → issued + 1 < 2 ^ 64 → AreLast issued new n (Some key)
room_ready issued old new m n ready key are same known some room lt =
    let made = room_made issued old new m n ready are same known in record {
      count = made.count;
      leads = made.leads;
      ready = record { known = some; room = room; fits = lt };
    }

pub ruleset preparing_rules = (room_made, room_ready, same_of_same)

-- the keys of more runs
pub keys_behind : (xs ys : List Run) → keys_in (xs ++ ys) ≡ keys_in xs ++ keys_in ys
keys_behind [] ys = refl
keys_behind (x ∷ xs) ys = ap (λ (ks : List plain.Key). run_keys x ++ ks) (keys_behind xs ys)
    ∙ sym (append_assoc (run_keys x) (keys_in xs) (keys_in ys))

pub one_behind : (old new : List Run) (key : Key) → new ≡ old ++ record { key = key; before = 0 } ∷ [] →
    keys_in new ≡ keys_in old ++ key_of key ∷ []
one_behind old new key is = ap (λ (rs : List Run). keys_in rs) is ∙ keys_behind old (record { key = key; before = 0 } ∷ [])

flat_cond : (b : Bool) (n : ℕ) (o : Option (Option ℕ)) → flat (cond b (Some (Some n)) o) ≡ cond b (Some n) (flat o)
flat_cond true n o = refl
flat_cond false n o = refl

pub leads_further : (m n : List ClientNumbers) (key : Key) (number : ℕ) (keys more : List plain.Key) →
    IsKeptOf key (Some number) m n → number ≡ length keys → more ≡ keys ++ key_of key ∷ [] → LeadsToLast m keys →
    LeadsToLast n more
leads_further m n key number keys more put is longer leads = record {
  numbers = λ k. ap flat (put.kept k) ∙ flat_cond (same_key key k) number (kept_of m k)
      ∙ ap (λ (o : Option ℕ). cond (same_key key k) (Some number) o) (leads.numbers k)
      ∙ ap (λ (i : ℕ). cond (same_key key k) (Some i) (last_key k.client k.invoke_id keys)) is
      ∙ sym (last_more k.client k.invoke_id keys (key_of key))
      ∙ ap (λ (ks : List plain.Key). last_key k.client k.invoke_id ks) (sym longer);
}

-- room was made for it
pub was_ready : {A : Type 0} (issued : ℕ) (runs : Vec Run A) (m : List ClientNumbers) (ready : Option Key)
    (key : Key) → AreLast issued runs m ready → ready ≡ Some key → IsReady issued runs m key
was_ready {A} issued runs m ready key are is =
    subst (λ (o : Option Key). IfSome o (λ k. IsReady issued runs m k)) is are.ready

-- it was issued
pub one_issued : {A : Type 0} (issued : ℕ) (old new : Vec Run A) (m n : List ClientNumbers) (ready : Option Key)
    (key : Key) → AreLast issued old m ready → IsKeptOf key (Some issued) m n →
    new.items ≡ old.items ++ record { key = key; before = 0 } ∷ [] → AreLast (issued + 1) new n None
one_issued issued old new m n ready key are put pushed =
    let longer = one_behind old.items new.items key pushed in record {
      count =
          let one : length (keys_in new.items) ≡ length (keys_in old.items) + 1 =
          ap (λ (ks : List plain.Key). length ks) longer ∙ length-append (keys_in old.items) (key_of key ∷ []) in
          omega (arith, one, are.count);
      leads = leads_further m n key issued (keys_in old.items) (keys_in new.items) put are.count longer are.leads;
      ready = tt;
    }

pub ruleset pushing_rules = (was_ready, one_issued, one_behind)

-- those that are left, where so many before them are forgotten: these are as the first of those
abbrev pub filled : ℕ → List Run → List plain.Key
filled gap [] = []
filled gap (r ∷ rs) = replicate gap (key_of r.key) ++ (run_keys r ++ keys_in rs)

pub none_filled : (rs : List Run) → filled 0 rs ≡ keys_in rs
none_filled [] = refl
none_filled (r ∷ rs) = refl

-- one that is kept with those before it
kept_whole : (kept rest : List Run) (gap : ℕ) (r : Run) →
    keys_in (kept ++ record { key = r.key; before = gap + r.before } ∷ []) ++ filled 0 rest
    ≡ keys_in kept ++ filled gap (r ∷ rest)
kept_whole kept rest gap r =
    let k = key_of r.key in
    let run : Run = record { key = r.key; before = gap + r.before } in
    ap (λ (ks : List plain.Key). keys_in (kept ++ run ∷ []) ++ ks) (none_filled rest)
    ∙ ap (λ (ks : List plain.Key). ks ++ keys_in rest)
    (keys_behind kept (run ∷ []) ∙ ap (λ (ks : List plain.Key). keys_in kept ++ ks) (append-nil (run_keys run)))
    ∙ append_assoc (keys_in kept) (run_keys run) (keys_in rest)
    ∙ ap (λ (ks : List plain.Key). keys_in kept ++ ((ks ++ k ∷ []) ++ keys_in rest))
    (sym (replicate-append-replicate gap r.before k))
    ∙ ap (λ (ks : List plain.Key). keys_in kept ++ (ks ++ keys_in rest))
    (append_assoc (replicate gap k) (replicate r.before k) (k ∷ []))
    ∙ ap (λ (ks : List plain.Key). keys_in kept ++ ks) (append_assoc (replicate gap k) (run_keys r) (keys_in rest))

one_more : (n : ℕ) (k : plain.Key) (ks : List plain.Key) → (replicate n k ++ k ∷ []) ++ ks ≡ replicate (n + 1) k ++ ks
one_more zero k ks = refl
one_more (suc n) k ks =
    let next : suc (n + 1) ≡ suc n + 1 = omega arith in
    ap (λ (l : List plain.Key). k ∷ l) (one_more n k ks) ∙ ap (λ (m : ℕ). replicate m k ++ ks) next

-- one that is forgotten with those before it
gone_whole : (kept rest : List Run) (gap : ℕ) (r : Run) →
    keys_in kept ++ filled gap (r ∷ rest)
    ≡ keys_in kept ++ (replicate (gap + (r.before + 1)) (key_of r.key) ++ keys_in rest)
gone_whole kept rest gap r =
    let k = key_of r.key in
    ap (λ (ks : List plain.Key). keys_in kept ++ (replicate gap k ++ ks)) (one_more r.before k (keys_in rest))
    ∙ ap (λ (ks : List plain.Key). keys_in kept ++ ks)
    (sym (append_assoc (replicate gap k) (replicate (r.before + 1) k) (keys_in rest)))
    ∙ ap (λ (ks : List plain.Key). keys_in kept ++ (ks ++ keys_in rest))
    (replicate-append-replicate gap (r.before + 1) k)

still_keeps : (kept rest : List Run) (gap : ℕ) (r : Run) → Occurs (key_of r.key) (keys_in rest) →
    KeepsKeys (keys_in kept ++ filled gap (r ∷ rest)) (keys_in kept ++ filled (gap + (r.before + 1)) rest)
still_keeps kept [] gap r occurs = absurd (occurs.some 0 refl)
still_keeps kept (q ∷ rest) gap r occurs =
    subst (λ (ks : List plain.Key). KeepsKeys ks (keys_in kept ++ filled (gap + (r.before + 1)) (q ∷ rest)))
    (sym (gone_whole kept (q ∷ rest) gap r))
    (refilled (keys_in kept) (gap + (r.before + 1)) (key_of r.key) (key_of q.key) (keys_in (q ∷ rest)) occurs
    (subst (λ (ks : List plain.Key). Occurs (key_of q.key) ks)
    (sym (append_assoc (replicate q.before (key_of q.key)) (key_of q.key ∷ []) (keys_in rest)))
    (occurs_in (replicate q.before (key_of q.key)) (key_of q.key) (keys_in rest) (itself q.key.client q.key.invoke_id))))

number_is : (n : ℕ) (o : Option ℕ) → is_number n o ≡ true → o ≡ Some n
number_is n None e = absurd (cc e)
number_is n (Some m) e = ap (λ (x : ℕ). Some x) (eqb-true m n e)

is_its : (n : ℕ) (o : Option ℕ) → o ≡ Some n → is_number n o ≡ true
is_its n o e = ap (λ (x : Option ℕ). is_number n x) e ∙ eq-eqb n n refl

module _ (m : List ClientNumbers) (runs : List Run) (leads : LeadsToLast m (keys_in runs)) (i : ℕ) (r d : Run)
    (lt : i < length runs) (is : r ≡ get_or runs i d) where
  left : drop i runs ≡ r ∷ drop (i + 1) runs
  left = drop_more runs i d lt ∙ ap (λ (x : Run). x ∷ drop (i + 1) runs) (sym is)

  abbrev front : List plain.Key
  front = keys_in (take i runs) ++ replicate r.before (key_of r.key)

  split : keys_in runs ≡ front ++ (key_of r.key ∷ keys_in (drop (i + 1) runs))
  split =
      ap (λ (rs : List Run). keys_in rs) (sym (take-append-drop i runs))
      ∙ keys_behind (take i runs) (drop i runs)
      ∙ ap (λ (rs : List Run). keys_in (take i runs) ++ keys_in rs) left
      ∙ ap (λ (ks : List plain.Key). keys_in (take i runs) ++ ks)
      (append_assoc (replicate r.before (key_of r.key)) (key_of r.key ∷ []) (keys_in (drop (i + 1) runs)))
      ∙ sym (append_assoc (keys_in (take i runs)) (replicate r.before (key_of r.key))
      (key_of r.key ∷ keys_in (drop (i + 1) runs)))

  front_long : length front ≡ length (keys_in (take i runs)) + r.before
  front_long = length-append (keys_in (take i runs)) (replicate r.before (key_of r.key))
      ∙ ap (λ (n : ℕ). length (keys_in (take i runs)) + n) (length-replicate r.before (key_of r.key))

  -- its number is one of theirs
  pub within : (number : ℕ) → number ≡ length (keys_in (take i runs)) → number + r.before < length (keys_in runs)
  within number e =
      let all : length (keys_in runs) ≡ length front + suc (length (keys_in (drop (i + 1) runs))) =
      ap (λ (ks : List plain.Key). length ks) split
      ∙ length-append front (key_of r.key ∷ keys_in (drop (i + 1) runs)) in
      omega (arith, all, front_long, e)

  -- .. and the next one's is behind it
  pub number_next : (number own : ℕ) → number ≡ length (keys_in (take i runs)) → own ≡ number + r.before →
      own + 1 ≡ length (keys_in (take (i + 1) runs))
  number_next number own e at =
      let more : take (i + 1) runs ≡ take i runs ++ r ∷ [] =
      take_more runs i d lt ∙ ap (λ (x : Run). take i runs ++ x ∷ []) (sym is) in
      let long : length (keys_in (take (i + 1) runs)) ≡ length front + 1 =
      ap (λ (rs : List Run). length (keys_in rs)) more
      ∙ ap (λ (ks : List plain.Key). length ks) (keys_behind (take i runs) (r ∷ [])
      ∙ ap (λ (ks : List plain.Key). keys_in (take i runs) ++ ks) (append-nil (run_keys r))
      ∙ sym (append_assoc (keys_in (take i runs)) (replicate r.before (key_of r.key)) (key_of r.key ∷ [])))
      ∙ length-append front (key_of r.key ∷ []) in
      omega (arith, long, front_long, e, at)

  -- one that isn't the last of its key has a later one
  has_later : (own : ℕ) → own ≡ length front → is_number own (number_of m r.key) ≡ false →
      Occurs (key_of r.key) (keys_in (drop (i + 1) runs))
  has_later own at other = record {
    some = λ n none. absurd (cc (sym other ∙ is_its own (number_of m r.key) (leads.numbers r.key
        ∙ ap (λ (ks : List plain.Key). last_key r.key.client r.key.invoke_id ks) split
        ∙ last_in 0 r.key.client r.key.invoke_id front (key_of r.key) (keys_in (drop (i + 1) runs))
        (λ j. none_any n j r.key.client r.key.invoke_id (keys_in (drop (i + 1) runs)) none)
        (itself r.key.client r.key.invoke_id)
        ∙ ap (λ (j : ℕ). Some j) (let e : 0 + length front ≡ own = omega (arith, at) in e))));
  }

  -- it is taken over, or forgotten
  pub one_folded : (kept new : List Run) (gap next number own : ℕ) (b : Bool) →
      number ≡ length (keys_in (take i runs)) → own ≡ number + r.before → b ≡ is_number own (number_of m r.key) →
      new ≡ folded b gap r kept → next ≡ gap_after b gap r →
      KeepsKeys (keys_in runs) (keys_in kept ++ filled gap (drop i runs)) →
      KeepsKeys (keys_in runs) (keys_in new ++ filled next (drop (i + 1) runs))
  one_folded kept new gap next number own b e at found is_new is_next keeps =
      subst (λ (rs : List Run). KeepsKeys (keys_in runs) (keys_in rs ++ filled next (drop (i + 1) runs))) (sym is_new)
      (subst (λ (n : ℕ). KeepsKeys (keys_in runs) (keys_in (folded b gap r kept) ++ filled n (drop (i + 1) runs)))
      (sym is_next) (by b found))
    where
      before : KeepsKeys (keys_in runs) (keys_in kept ++ filled gap (r ∷ drop (i + 1) runs))
      before = subst (λ (rs : List Run). KeepsKeys (keys_in runs) (keys_in kept ++ filled gap rs)) left keeps

      by : (t : Bool) → t ≡ is_number own (number_of m r.key) →
          KeepsKeys (keys_in runs) (keys_in (folded t gap r kept) ++ filled (gap_after t gap r) (drop (i + 1) runs))
      by true f = subst (λ (ks : List plain.Key). KeepsKeys (keys_in runs) ks)
          (sym (kept_whole kept (drop (i + 1) runs) gap r)) before
      by false f = keeps_on (keys_in runs) (keys_in kept ++ filled gap (r ∷ drop (i + 1) runs))
          (keys_in kept ++ filled (gap + (r.before + 1)) (drop (i + 1) runs)) before
          (still_keeps kept (drop (i + 1) runs) gap r (has_later own (omega (arith, at, e, front_long)) (sym f)))

-- how many are forgotten is at most how many there were
pub gap_within : (b : Bool) (gap number own : ℕ) (r : Run) (next : ℕ) → gap ≤ number → own ≡ number + r.before →
    next ≡ gap_after b gap r → next ≤ own + 1
gap_within true gap number own r next le at is = omega (arith, is)
gap_within false gap number own r next le at is = omega (arith, is, le, at)

pub none_folded : (runs : List Run) → KeepsKeys (keys_in runs) (keys_in [] ++ filled 0 runs)
none_folded runs = subst (λ (ks : List plain.Key). KeepsKeys (keys_in runs) ks) (sym (none_filled runs))
    (keeps_same (keys_in runs))

pub all_folded : (runs kept : List Run) (gap i : ℕ) → length runs ≤ i →
    KeepsKeys (keys_in runs) (keys_in kept ++ filled gap (drop i runs)) → KeepsKeys (keys_in runs) (keys_in kept)
all_folded runs kept gap i le keeps =
    subst (λ (ks : List plain.Key). KeepsKeys (keys_in runs) ks) (append-nil (keys_in kept))
    (subst (λ (rs : List Run). KeepsKeys (keys_in runs) (keys_in kept ++ filled gap rs)) (none_left runs i le) keeps)
  where
    none_left : (rs : List Run) (n : ℕ) → length rs ≤ n → drop n rs ≡ []
    none_left [] zero l = refl
    none_left [] (suc n) l = refl
    none_left (x ∷ rs) zero l = absurd (omega (arith, l))
    none_left (x ∷ rs) (suc n) l = none_left rs n (omega (arith, l))

pub ruleset folding_rules = (within, number_next, gap_within, none_folded)

-- what leads to the last issues leads to those of what is kept of them
pub still_leads : (m : List ClientNumbers) (all kept : List plain.Key) → LeadsToLast m all → KeepsKeys all kept →
    LeadsToLast m kept
still_leads m all kept leads keeps = record {
  numbers = λ k. leads.numbers k ∙ sym (keeps.last k.client k.invoke_id);
}

pub still_last : {A : Type 0} (issued : ℕ) (old new : Vec Run A) (m : List ClientNumbers) (ready : Option Key) →
    AreLast issued old m ready → KeepsKeys (keys_in old.items) (keys_in new.items) → AreLast issued new m None
still_last issued old new m ready are keeps = record {
  count = are.count ∙ sym keeps.count;
  leads = still_leads m (keys_in old.items) (keys_in new.items) are.leads keeps;
  ready = tt;
}

pub fits : {A : Type 0} (issued : ℕ) (runs : Vec Run A) (m : List ClientNumbers) (ready : Option Key) →
    AreLast issued runs m ready → issued < 2 ^ 64 → length (keys_in runs.items) < 2 ^ 64
fits issued runs m ready are lt = omega (arith, are.count, lt)

pub ruleset forgetting_rules = (keeps_same, still_last, fits)

-- a copy leads to the same
pub copy_last : {A : Type 0} (issued : ℕ) (old new : Vec Run A) (m n : List ClientNumbers) (ready : Option Key) →
    AreLast issued old m ready → new.items ≡ old.items → n ≡ m → AreLast issued new n None
copy_last issued old new m n ready are same equal =
    room_made issued old new m n ready are same
    (record { same = λ k. ap (λ (rows : List ClientNumbers). number_of rows k) equal })

pub ruleset copying_rules = (copy_last)
