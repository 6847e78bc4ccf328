-- What a server remembers stays in order of execution, and none of it is executed later than its moment.
use Rattle.std.proofs.Common.{◌≡◌, refl, ℕ, ◌≤◌, Bool, true, false, List, [], ◌∷◌, ◌++◌, arith}
use Rattle.std.specs.Prelude.{Option, Some, None, if◌then◌else◌}
use Rattle.npdu.specs.declared.mac.Way.{Way}
use Rattle.server_answers.specs.remembered.Records.{AreAscending, AreFrom, forgotten, is_of, lives, newest, said_again, said_by}
use Rattle.server_answers.specs.remembered.declared.record.Asker.{Asker}
use Rattle.server_answers.specs.remembered.declared.record.Record.{Record}
use Rattle.segments.specs.Sender.{SenderState}
use Rattle.server_tsm.specs.Server.{AreTimely, AreUpTo, stamped}
use Rattle.server_tsm.specs.Waking.{after_sayings, after_saying}
use Rattle.server_answers.specs.declared.plan.Saying.{Saying}

module _ {A : Type 0} where
  -- records with the same moments, one by one
  abbrev SameMoments : List (Record A) → List (Record A) → Type 0
  SameMoments [] [] = Unit {0}
  SameMoments (r ∷ rs) (s ∷ ss) = (s.at ≡ r.at) × SameMoments rs ss
  SameMoments rs ss = ⊥

  same_self : (rs : List (Record A)) → SameMoments rs rs
  same_self [] = tt
  same_self (r ∷ rs) = (refl, same_self rs)

  said_same_by : (o : Option (Record A)) (b : Bool) (way : Way) (sending : Option SenderState) (r : Record A) (rs rest : List (Record A)) →
      SameMoments rs rest → SameMoments (r ∷ rs) (said_by o b way sending r rs rest)
  said_same_by (Some x) b way sending r rs rest same = (refl, same)
  said_same_by None true way sending r rs rest same = (refl, same_self rs)
  said_same_by None false way sending r rs rest same = (refl, same_self rs)

  said_same : (a : Asker) (way : Way) (sending : Option SenderState) (rs : List (Record A)) → SameMoments rs (said_again a way sending rs)
  said_same a way sending [] = tt
  said_same a way sending (r ∷ rs) = said_same_by (newest a rs) (is_of a r) way sending r rs (said_again a way sending rs) (said_same a way sending rs)

  from_same : (m : ℕ) (rs ss : List (Record A)) → SameMoments rs ss → AreFrom m rs → AreFrom m ss
  from_same m [] [] same from = tt
  from_same m (r ∷ rs) (s ∷ ss) same from = (omega (arith, from.0, same.0), from_same m rs ss same.1 from.1)
  from_same m [] (s ∷ ss) same from = absurd same
  from_same m (r ∷ rs) [] same from = absurd same

  from_lower : (m n : ℕ) (rs : List (Record A)) → n ≤ m → AreFrom m rs → AreFrom n rs
  from_lower m n [] l from = tt
  from_lower m n (r ∷ rs) l from = (omega (arith, l, from.0), from_lower m n rs l from.1)

  ascending_same : (rs ss : List (Record A)) → SameMoments rs ss → AreAscending rs → AreAscending ss
  ascending_same [] [] same up = tt
  ascending_same (r ∷ rs) (s ∷ ss) same up =
      (from_lower r.at s.at ss (omega (arith, same.0)) (from_same r.at rs ss same.1 up.0), ascending_same rs ss same.1 up.1)
  ascending_same [] (s ∷ ss) same up = absurd same
  ascending_same (r ∷ rs) [] same up = absurd same

  past_same : (m n : ℕ) (rs ss : List (Record A)) → m ≤ n → SameMoments rs ss → AreUpTo m rs → AreUpTo n ss
  past_same m n [] [] l same past = tt
  past_same m n (r ∷ rs) (s ∷ ss) l same past = (omega (arith, l, past.0, same.0), past_same m n rs ss l same.1 past.1)
  past_same m n [] (s ∷ ss) l same past = absurd same
  past_same m n (r ∷ rs) [] l same past = absurd same

  timely_same : (m n : ℕ) (rs ss : List (Record A)) → m ≤ n → SameMoments rs ss → AreTimely m rs → AreTimely n ss
  timely_same m n rs ss l same t =
      record { ascending = ascending_same rs ss same t.ascending; past = past_same m n rs ss l same t.past }

  -- time goes on
  pub timely_later : (m n : ℕ) (rs : List (Record A)) → m ≤ n → AreTimely m rs → AreTimely n rs
  timely_later m n rs l t = timely_same m n rs rs l (same_self rs) t

  -- another sending
  pub timely_said : (m n : ℕ) (a : Asker) (way : Way) (sending : Option SenderState) (rs : List (Record A)) → m ≤ n → AreTimely m rs →
      AreTimely n (said_again a way sending rs)
  timely_said m n a way sending rs l t = timely_same m n rs (said_again a way sending rs) l (said_same a way sending rs) t

  -- fewer
  forgotten_if : (m now : ℕ) (b : Bool) (r : Record A) (rs rest : List (Record A)) → AreTimely m (r ∷ rs) → AreTimely m rest →
      AreTimely m (if b then r ∷ rs else rest)
  forgotten_if m now true r rs rest t u = t
  forgotten_if m now false r rs rest t u = u

  pub timely_forgotten : (m now : ℕ) (rs : List (Record A)) → AreTimely m rs → AreTimely m (forgotten now rs)
  timely_forgotten m now [] t = t
  timely_forgotten m now (r ∷ rs) t =
      forgotten_if m now (lives now r) r rs (forgotten now rs) t (timely_forgotten m now rs (record { ascending = t.ascending.1; past = t.past.1 }))

  -- a wake
  timely_all_said : (m n : ℕ) (xs : List Saying) (rs : List (Record A)) → m ≤ n → AreTimely m rs → AreTimely n (after_sayings xs rs)
  timely_all_said m n [] rs l t = timely_later m n rs l t
  timely_all_said m n (x ∷ xs) rs l t = timely_all_said n n xs (after_saying x rs) (omega arith) (timely_said m n x.asker x.way x.sending rs l t)

  pub timely_woken : (m now : ℕ) (xs : List Saying) (rs : List (Record A)) → m ≤ now → AreTimely m rs → AreTimely now (after_sayings xs (forgotten now rs))
  timely_woken m now xs rs l t = timely_all_said m now xs (forgotten now rs) l (timely_forgotten m now rs t)

  -- one more, executed now
  from_more : (k now : ℕ) (rs : List (Record A)) (r : Record A) → k ≤ now → AreFrom k rs → AreFrom k (rs ++ stamped now r ∷ [])
  from_more k now [] r l from = (l, tt)
  from_more k now (x ∷ rs) r l from = (from.0, from_more k now rs r l from.1)

  more : (m now : ℕ) (rs : List (Record A)) (r : Record A) → m ≤ now → AreTimely m rs → AreTimely now (rs ++ stamped now r ∷ [])
  more m now [] r l t = record { ascending = (tt, tt); past = (omega arith, tt) }
  more m now (x ∷ rs) r l t =
      let rest = more m now rs r l (record { ascending = t.ascending.1; past = t.past.1 }) in
      let early : x.at ≤ now = omega (arith, l, t.past.0) in
      record { ascending = (from_more x.at now rs r early t.ascending.0, rest.ascending); past = (early, rest.past) }

  pub timely_executed : (m now : ℕ) (rs : List (Record A)) (r : Record A) → m ≤ now → AreTimely m rs → AreTimely now (forgotten now (rs ++ stamped now r ∷ []))
  timely_executed m now rs r l t = timely_forgotten now now (rs ++ stamped now r ∷ []) (more m now rs r l t)

  pub timely_none : (m : ℕ) → AreTimely {A = A} m []
  timely_none m = record { ascending = tt; past = tt }

pub ruleset timely_rules = (timely_later, timely_said, timely_woken, timely_executed, timely_none)
