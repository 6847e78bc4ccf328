-- A log that is appended to begins as it was, and one that forgets keeps what may still matter.
use Rattle.std.proofs.Common.{◌≡◌, ◌∙◌, refl, sym, ap, append-nil, arith, ℕ, ◌+◌, ◌≤◌, List, [], ◌++◌, drop, length, take}
use Rattle.carry_ends.specs.carry_world.PlainWorld.{Key}
use Rattle.traffic.specs.Recent.{KeepsRecent}
use Rattle.traffic.specs.declared.item.Item.{Item}
use Rattle.world_log.proofs.PutLaws.{take_all, take_front, take_on}
use Rattle.world_log.specs.Growing.{WorldHistory}
use Rattle.world_log.specs.Issues.{KeepsKeys}
use Rattle.world_log.specs.Log.{Forgets, GoesOn, LogState}
use Rattle.world_log.specs.declared.saying.SaidMessage.{SaidMessage}

pub goes_on_same : {A : Type 0} (a : LogState A) → GoesOn a a
goes_on_same {A} a = ap (λ (is : List (Item A)). record a { items = is }) (take_all a.items)

pub goes_on_further : {A : Type 0} (a b c : LogState A) → GoesOn a b → GoesOn b c → GoesOn a c
goes_on_further {A} a b c g h =
    ap (λ (is : List (Item A)). record c { items = is })
    (take_on a.items b.items c.items (ap (λ (l : LogState A). l.items) g) (ap (λ (l : LogState A). l.items) h))
    ∙ ap (λ (l : LogState A). record l { items = a.items }) h ∙ ap (λ (l : LogState A). record l { items = a.items }) g

-- items were put behind, and nothing else has changed
pub each_goes_on : {A : Type 0} (a b : LogState A) → b.first_item ≡ a.first_item →
    take (length a.items) b.items ≡ a.items → b.keys ≡ a.keys → b.first_entry ≡ a.first_entry →
    b.history ≡ a.history → b.first_said ≡ a.first_said → b.said ≡ a.said → GoesOn a b
each_goes_on {A} a b e f g h i j k =
    ap (λ (n : ℕ). record b { first_item = n; items = take (length a.items) b.items }) e
    ∙ ap (λ (is : List (Item A)). record b { first_item = a.first_item; items = is }) f
    ∙ ap (λ (ks : List Key). record b { first_item = a.first_item; items = a.items; keys = ks }) g
    ∙ ap (λ (n : ℕ). record a { first_entry = n; history = b.history; first_said = b.first_said; said = b.said }) h
    ∙ ap (λ (es : WorldHistory A). record a { history = es; first_said = b.first_said; said = b.said }) i
    ∙ ap (λ (n : ℕ). record a { first_said = n; said = b.said }) j
    ∙ ap (λ (ms : List (SaidMessage A)). record a { said = ms }) k

pub ruleset log_rules = (take_all, take_front, take_on, goes_on_same, goes_on_further, each_goes_on)

-- all that was said is forgotten, or nothing of it
module _ {A : Type 0} (now : ℕ) (old new : LogState A) (first_item : old.first_item ≤ new.first_item)
    (items : KeepsRecent now old.items new.items) (left : drop new.first_item new.items ≡ drop new.first_item old.items)
    (keys : KeepsKeys old.keys new.keys) (first_entry : new.first_entry ≡ old.first_entry)
    (history : new.history ≡ old.history) where
  forgets : (gone : List (SaidMessage A)) → old.said ≡ gone ++ new.said →
      new.first_said ≡ old.first_said + length gone → Forgets now old new
  forgets gone said first_said = record {
    first_item = first_item;
    items = items;
    left = left;
    keys = keys;
    first_entry = first_entry;
    history = history;
    gone = gone;
    said = said;
    first_said = first_said;
  }

  pub forgets_said : new.said ≡ [] → new.first_said ≡ old.first_said + length old.said → Forgets now old new
  forgets_said none first_said = forgets old.said
      (sym (append-nil old.said) ∙ ap (λ (ms : List (SaidMessage A)). old.said ++ ms) (sym none)) first_said

  pub forgets_else : new.said ≡ old.said → new.first_said ≡ old.first_said → Forgets now old new
  forgets_else same first_said = forgets [] (sym same) (let e : old.first_said + 0 ≡ old.first_said = omega arith in
      first_said ∙ sym e)

pub ruleset forgetting_rules = (forgets_said, forgets_else)
