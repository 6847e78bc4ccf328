-- Walking the tags behind an opening tag, by counting those that wait for a closing one.
use Rattle.std.proofs.Common.{◌≡◌, ℕ, zero, suc, ◌+◌, ◌<◌, ◌≤◌, List, [], ◌∷◌, length, refl, sym, subst, arith}
use Rattle.tags.specs.declared.fault.Fault.{Fault}
use Rattle.tags.specs.Tag.{PlainTag, PlainContent, null, boolean, contents, opening, closing, TakesTag, NoTag, RefusesTag}
use Rattle.tags.specs.Element.{TakesTags, waiting, Closes, StayOpen, ClosesBefore, OpenBefore, NeverCloses}
use Rattle.tags.specs.Refusal.{RefusesInside}
use Rattle.tags.proofs.OneTag.{one_front_tag, tag_shortens}

-- what the walk keeps: what closes the rest closes the whole and the other way round, and what leaves the rest open leaves the whole open
pub record Progress (start : List ℕ) (depth : ℕ) (rest : List ℕ) : Type 0 where
  pub up : (ts : List PlainTag) (after : List ℕ) → TakesTags rest ts after → Closes ts depth → ClosesBefore start after
  pub down : (after : List ℕ) → ClosesBefore start after → (ts : List PlainTag) × TakesTags rest ts after × Closes ts depth
  pub keeps_open : (ts : List PlainTag) (after : List ℕ) → TakesTags rest ts after → StayOpen ts depth → OpenBefore start after
  pub room : depth + length rest ≤ length start + 1

pub walk_begins : (start : List ℕ) → Progress start 1 start
walk_begins start = record {
  up = λ ts after a b. record { tags = ts; taken = a; balanced = b };
  down = λ after c. (c.tags, c.taken, c.balanced);
  keeps_open = λ ts after a b. record { tags = ts; taken = a; left_open = b };
  room = omega arith;
}

closes_after : (t : PlainTag) (ts : List PlainTag) (depth : ℕ) → 0 < depth → Closes ts (waiting t.content depth) → Closes (t ∷ ts) depth
closes_after t ts zero lt h = absurd (omega arith)
closes_after t ts (suc n) lt h = h

open_after : (t : PlainTag) (ts : List PlainTag) (depth : ℕ) → 0 < depth → StayOpen ts (waiting t.content depth) → StayOpen (t ∷ ts) depth
open_after t ts zero lt h = absurd (omega arith)
open_after t ts (suc n) lt h = h

-- the tags that close the rest begin with the one tag that stands there
down_by_one : (rest next after : List ℕ) (t : PlainTag) (depth : ℕ) (ts : List PlainTag) → 0 < depth → TakesTag rest t next → TakesTags rest ts after →
    Closes ts depth → (us : List PlainTag) × TakesTags next us after × Closes us (waiting t.content depth)
down_by_one rest next after t zero ts lt taken a b = absurd (omega arith)
down_by_one rest next after t (suc n) [] lt taken a b = absurd b
down_by_one rest next after t (suc n) (u ∷ us) lt taken a b =
    let one = one_front_tag rest t u next a.0 taken a.1 in
    (us, subst (λ (x : List ℕ). TakesTags x us after) (sym one.rest) a.2, subst (λ (x : PlainTag). Closes us (waiting x.content (suc n))) (sym one.tag) b)

waiting_le : (content : PlainContent) (depth : ℕ) → waiting content depth ≤ suc depth
waiting_le null depth = omega arith
waiting_le (boolean b) depth = omega arith
waiting_le (contents octets) depth = omega arith
waiting_le opening depth = omega arith
waiting_le closing depth = omega arith

pub walk_goes_on : (start : List ℕ) (depth : ℕ) (rest : List ℕ) (t : PlainTag) (next : List ℕ) (more : ℕ) → Progress start depth rest → 0 < depth →
    TakesTag rest t next → more ≡ waiting t.content depth → Progress start more next
walk_goes_on start depth rest t next more p lt taken e = rw e record {
  up = λ ts after a b. p.up (t ∷ ts) after (next, taken, a) (closes_after t ts depth lt b);
  down = λ after c. let d = p.down after c in down_by_one rest next after t depth d.0 lt taken d.1 d.2;
  keeps_open = λ ts after a b. p.keeps_open (t ∷ ts) after (next, taken, a) (open_after t ts depth lt b);
  room = omega (arith, p.room, tag_shortens rest t next taken, waiting_le t.content depth);
}

pub walk_ends : (start rest : List ℕ) → Progress start 0 rest → ClosesBefore start rest
walk_ends start rest p = p.up [] rest refl tt

no_tags_close : (rest after : List ℕ) (ts : List PlainTag) (depth : ℕ) → 0 < depth → NoTag rest → TakesTags rest ts after → Closes ts depth → ⊥
no_tags_close rest after [] zero lt none a b = absurd (omega arith)
no_tags_close rest after [] (suc n) lt none a b = b
no_tags_close rest after (t ∷ ts) depth lt none a b = none.none a.1.0 a.0 t a.1.1 a.1.2

pub walk_is_stuck : (start : List ℕ) (depth : ℕ) (rest : List ℕ) → Progress start depth rest → 0 < depth → NoTag rest → NeverCloses start
walk_is_stuck start depth rest p lt none = record { none = λ after c. let d = p.down after c in no_tags_close rest after d.0 depth lt none d.1 d.2 }

nothing_closes : (depth : ℕ) → 0 < depth → StayOpen [] depth
nothing_closes zero lt = absurd (omega arith)
nothing_closes (suc n) lt = tt

pub walk_is_refused : (fault : Fault) (start : List ℕ) (depth : ℕ) (rest : List ℕ) → Progress start depth rest → 0 < depth → RefusesTag fault rest →
    RefusesInside fault start
walk_is_refused fault start depth rest p lt refused = record { rest = rest; reached = p.keeps_open [] rest refl (nothing_closes depth lt); refused = refused }
