-- A dump, read line by line.
use Rattle.std.proofs.Common.{true, false, ◌≡◌, ◌<◌, ◌≤◌, ◌+◌, ◌-◌, ◌/◌, ◌%◌, ℕ, zero, suc, List, [], ◌∷◌, ◌++◌, arith, drop, get_or, length, take}
use Rattle.std.proofs.Common.{refl, sym, ap, subst, ◌∙◌, append_assoc}
use Rattle.std.proofs.lemmas.List.{append-nil, length-append, length-drop}
use Rattle.std.proofs.Math.ListN.{drop_of_length-le}
use Rattle.std.proofs.Math.Seq.{drop-cons, take-length}
use Rattle.words.specs.HexText.{NoHex, OnlyHex, SpellsHex}
use Rattle.octet_texts.specs.Dumps.{IsDump, IsDumpLine, NoDump, NoDumpLine, NoOffset, OnlyDump, OnlyDumpLine, ReadsLine}
use Rattle.octet_texts.specs.Dumps.{SaysDump, SaysOffset}
use Rattle.std.specs.Str.Lines.{lines}
use Rattle.octet_texts.specs.Dumps.{after_spaces, before_column, begins_column, begins_with_space}

-- digits that spell no octets say no offset
pub no_digits : (offset : ℕ) (digits : List ℕ) → NoHex digits → NoOffset offset digits
no_digits offset digits n = record { none = λ h. n.none (offset / 256 ∷ offset % 256 ∷ []) h.spelled }

-- nor do those that spell others
pub other_octets : (offset : ℕ) (digits octets : List ℕ) → OnlyHex digits octets →
    (octets ≡ offset / 256 ∷ offset % 256 ∷ [] → ⊥) → NoOffset offset digits
other_octets offset digits octets o ne = record { none = λ h. ne (sym (o.only (offset / 256 ∷ offset % 256 ∷ []) h.spelled)) }

pub ruleset offset_laws = (no_digits, other_octets)

-- a line with an offset, a space and octets
pub a_line : (offset : ℕ) (line octets : List ℕ) → SaysOffset offset (take 4 line) → begins_with_space (drop 4 line) ≡ true →
    SpellsHex (before_column (after_spaces (drop 4 line))) octets → IsDumpLine offset line octets
a_line offset line octets o p h = record { offset_said = o; parted = p; octets_said = h }

-- .. says no others
pub only_line : (offset : ℕ) (line octets : List ℕ) → OnlyHex (before_column (after_spaces (drop 4 line))) octets →
    OnlyDumpLine offset line octets
only_line offset line octets o = record { only = λ other h. o.only other h.octets_said }

-- a line without any of these is none
pub short_line : (offset : ℕ) (line : List ℕ) → length line < 4 → NoDumpLine offset line
short_line offset [] lt = record { none = λ octets h. absurd (cc h.parted) }
short_line offset (a ∷ []) lt = record { none = λ octets h. absurd (cc h.parted) }
short_line offset (a ∷ b ∷ []) lt = record { none = λ octets h. absurd (cc h.parted) }
short_line offset (a ∷ b ∷ c ∷ []) lt = record { none = λ octets h. absurd (cc h.parted) }
short_line offset (a ∷ b ∷ c ∷ d ∷ line) lt = absurd (omega (arith, lt))

pub no_space : (offset : ℕ) (line : List ℕ) → begins_with_space (drop 4 line) ≡ false → NoDumpLine offset line
no_space offset line e = record { none = λ octets h. absurd (cc (sym e ∙ h.parted)) }

pub no_offset : (offset : ℕ) (line : List ℕ) → NoOffset offset (take 4 line) → NoDumpLine offset line
no_offset offset line n = record { none = λ octets h. n.none h.offset_said }

pub no_pairs : (offset : ℕ) (line : List ℕ) → NoHex (before_column (after_spaces (drop 4 line))) → NoDumpLine offset line
no_pairs offset line n = record { none = λ octets h. n.none octets h.octets_said }

pub ruleset line_laws = (a_line, only_line, short_line, no_space, no_offset, no_pairs)

-- a character before the column
before_it : (n : ℕ) (text : List ℕ) → n < length text → begins_column (drop n text) ≡ false →
    take n text ++ before_column (drop n text) ≡ take (suc n) text ++ before_column (drop (suc n) text)
unfolding before_column
before_it n [] lt e = absurd (omega (arith, lt))
before_it zero (c ∷ cs) lt e = rw e refl
before_it (suc n) (c ∷ cs) lt e = ap (λ (x : List ℕ). c ∷ x) (before_it n cs (omega (arith, lt)) e)

pub column_later : (n m : ℕ) (text : List ℕ) → m ≡ suc n → n < length text → begins_column (drop n text) ≡ false →
    take n text ++ before_column (drop n text) ≡ take m text ++ before_column (drop m text)
column_later n m text is lt e = rw is (before_it n text lt e)

-- the column begins
pub column_here : (n : ℕ) (text : List ℕ) → begins_column (drop n text) ≡ true →
    take n text ++ before_column (drop n text) ≡ take n text
unfolding before_column
column_here zero [] e = refl
column_here zero (c ∷ cs) e = rw e refl
column_here (suc n) [] e = refl
column_here (suc n) (c ∷ cs) e = ap (λ (x : List ℕ). c ∷ x) (column_here n cs e)

-- there is none
pub no_column : (n : ℕ) (text : List ℕ) → length text ≤ n → take n text ++ before_column (drop n text) ≡ take n text
unfolding before_column
no_column zero [] le = refl
no_column zero (c ∷ cs) le = absurd (omega (arith, le))
no_column (suc n) [] le = refl
no_column (suc n) (c ∷ cs) le = ap (λ (x : List ℕ). c ∷ x) (no_column n cs (omega (arith, le)))

-- what follows a place, as a slice
pub slice_from : (n : ℕ) (text : List ℕ) → take (length text - n) (drop n text) ≡ drop n text
slice_from n text = subst (λ (m : ℕ). take m (drop n text) ≡ drop n text) (length-drop n text) (take-length (drop n text))

-- octets continue those so far by the other lines
pub record Continues (octets : List ℕ) (left : List (List ℕ)) (other : List ℕ) : Type 0 where
  pub rest : List ℕ
  pub parts : other ≡ octets ++ rest
  pub dump : IsDump (length octets) left rest

-- lines so far hold octets: what is a dump of the other lines continues them, and each dump of all continues them so
pub record IsReadTo (all left : List (List ℕ)) (octets : List ℕ) : Type 0 where
  pub reads : (rest : List ℕ) → IsDump (length octets) left rest → IsDump 0 all (octets ++ rest)
  pub only : (other : List ℕ) → IsDump 0 all other → Continues octets left other

-- at first no line is read
pub read_none : (all : List (List ℕ)) → IsReadTo all all []
read_none all = record { reads = λ rest d. d; only = λ other d. record { rest = other; parts = refl; dump = d } }

-- a line more is read
pub read_more : (all left : List (List ℕ)) (line octets more : List ℕ) → IsReadTo all (line ∷ left) octets →
    IsDumpLine (length octets) line more → OnlyDumpLine (length octets) line more → IsReadTo all left (octets ++ more)
read_more all left line octets more so_far first alone = record {
  reads = λ rest d.
      subst (λ (x : List ℕ). IsDump 0 all x) (sym (append_assoc octets more rest))
      (so_far.reads (more ++ rest) (record {
        front = more;
        after = rest;
        first = first;
        others = subst (λ (n : ℕ). IsDump n left rest) (length-append octets more) d;
        parts = refl;
      }));
  only = λ other d. let c = so_far.only other d in let same = alone.only c.dump.front c.dump.first in record {
    rest = c.dump.after;
    parts =
        c.parts ∙ ap (λ (x : List ℕ). octets ++ x) (c.dump.parts ∙ ap (λ (x : List ℕ). x ++ c.dump.after) same)
        ∙ sym (append_assoc octets more c.dump.after);
    dump =
        subst (λ (n : ℕ). IsDump n left c.dump.after)
        (ap (λ (x : List ℕ). length octets + length x) same ∙ sym (length-append octets more)) c.dump.others;
  };
}

-- no line is left
pub lines_end : (all : List (List ℕ)) (n : ℕ) (octets : List ℕ) → IsReadTo all (drop n all) octets → n ≡ length all →
    IsReadTo all [] octets
lines_end all n octets r e =
    subst (λ (x : List (List ℕ)). IsReadTo all x octets) (drop_of_length-le all (omega (arith, e))) r

-- all lines are read
pub read_all : (text octets : List ℕ) → IsReadTo (lines text) [] octets → 0 < length octets → SaysDump text octets
read_all text octets r some = record {
  dump = subst (λ (x : List ℕ). IsDump 0 (lines text) x) (append-nil octets) (r.reads [] refl);
  some = some;
}

pub only_all : (text octets : List ℕ) → IsReadTo (lines text) [] octets → OnlyDump text octets
only_all text octets r = record {
  only = λ other s. let c = r.only other s.dump in c.parts ∙ ap (λ (x : List ℕ). octets ++ x) c.dump ∙ append-nil octets;
}

-- none are octets
pub nothing_read : (text octets : List ℕ) → IsReadTo (lines text) [] octets → length octets ≡ 0 → NoDump text
nothing_read text [] r e = record {
  none = λ other s. let c = r.only other s.dump in let same = c.parts ∙ c.dump in
      let none = ap (λ (x : List ℕ). length x) same in let some = s.some in omega (arith, none, some);
}
nothing_read text (o ∷ octets) r e = absurd (cc e)

-- a line is none of a dump
pub line_faulty : (text : List ℕ) (line octets : List ℕ) (left : List (List ℕ)) → IsReadTo (lines text) (line ∷ left) octets →
    NoDumpLine (length octets) line → NoDump text
line_faulty text line octets left r n = record {
  none = λ other s. let c = r.only other s.dump in n.none c.dump.front c.dump.first;
}

-- a line continues octets
pub continued : (line old new more : List ℕ) → new ≡ old ++ more → IsDumpLine (length old) line more →
    OnlyDumpLine (length old) line more → ReadsLine line old new
continued line old new more e first alone = record { more = more; parts = e; is_line = first; alone = alone }

-- the next line of all
pub line_at : (all : List (List ℕ)) (n : ℕ) (line octets : List ℕ) → IsReadTo all (drop n all) octets → n < length all →
    line ≡ get_or all n line → IsReadTo all (line ∷ drop (suc n) all) octets
line_at all n line octets r lt is =
    subst (λ (x : List (List ℕ)). IsReadTo all x octets)
    (drop-cons all n line lt ∙ ap (λ (x : List ℕ). x ∷ drop (suc n) all) (sym is)) r

-- it is read
pub next_read : (all : List (List ℕ)) (n m : ℕ) (line old new : List ℕ) → IsReadTo all (drop n all) old →
    (n < length all) × (line ≡ get_or all n line) → m ≡ suc n → ReadsLine line old new → IsReadTo all (drop m all) new
next_read all n m line old new r at is l =
    subst (λ (x : List ℕ). IsReadTo all (drop m all) x) (sym l.parts)
    (subst (λ (k : ℕ). IsReadTo all (drop k all) (old ++ l.more)) (sym is)
    (read_more all (drop (suc n) all) line old l.more (line_at all n line old r at.0 at.1) l.is_line l.alone))

-- it is none of a dump
pub next_faulty : (text line old : List ℕ) (n : ℕ) → IsReadTo (lines text) (drop n (lines text)) old →
    (n < length (lines text)) × (line ≡ get_or (lines text) n line) → NoDumpLine (length old) line → NoDump text
next_faulty text line old n r at none =
    line_faulty text line old (drop (suc n) (lines text)) (line_at (lines text) n line old r at.0 at.1) none

pub ruleset dump_laws = (read_none)
