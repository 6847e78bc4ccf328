-- What comes of a step: the two forms that each line of the table has, and the choice between lines.
use Rattle.std.proofs.Common.{◌≡◌, ◌⊎◌, ⊎_elim, inl, inr, refl, sym, ap, subst, ℕ, Bool, true, false, if◌then◌else◌, List, [], ◌∷◌, Some}
use Rattle.history.proofs.Lists.{has}
use Rattle.history.specs.Lists.{Has}
use Rattle.mstp_frame.specs.FrameType.{IsNamed}
use Rattle.mstp_frame.specs.declared.frame_type.FrameType.{FrameType}
use Rattle.mstp_frame.specs.declared.frame_type.FrameType.TheVariants.{PollForMaster as Poll, Token}
use Rattle.profile.specs.Ages.{is_heard_in_time}
use Rattle.mstp_table.specs.Laws.{IsAccounted, IsControl, IsOfWaiting, IsRound, PassesOrPolls, is_data}
use Rattle.mstp_table.specs.Node.{NodeState, Outcome, PutOut}
use Rattle.mstp_table.specs.Table.{data_of, gives_token, polls, says, says_first}
use Rattle.mstp_table.specs.declared.waiting.Waiting.{Waiting}

-- either way of a choice
pub either : {X : Type 0} (P : X → Type 0) (b : Bool) (x y : X) → P x → P y → P (if b then x else y)
either P true x y p q = p
either P false x y p q = q

-- nothing, or one such frame
abbrev pub AtMostOne : (PutOut → Type 0) → List PutOut → Type 0
AtMostOne P [] = Unit {0}
AtMostOne P (o ∷ []) = P o
AtMostOne P (o ∷ (p ∷ more)) = ⊥

-- at most one such frame goes out, and what waits, the address and the moment stay
pub record Keeps {A : Type 0} (P : PutOut → Type 0) (ts moment : ℕ) (queue : List (Waiting A)) (o : Outcome A) : Type 0 where
  pub says : AtMostOne P o.frames
  pub queue_is : o.left.queue ≡ queue
  pub ts_is : o.left.ts ≡ ts
  pub moment_is : o.left.moment ≡ moment

-- what goes out is a round, what waits is accounted for, and the address and the moment stay
pub record Accounts {A : Type 0} (may : Bool) (now ts moment : ℕ) (queue : List (Waiting A)) (o : Outcome A) : Type 0 where
  pub round : IsRound may now ts queue o.frames
  pub kept : (w : Waiting A) → Has queue w → IsAccounted now ts o.left.queue o.frames w
  pub came : (w : Waiting A) → Has o.left.queue w → Has queue w
  pub ts_is : o.left.ts ≡ ts
  pub moment_is : o.left.moment ≡ moment

pass_is_control : (now ts : ℕ) (o : PutOut) → PassesOrPolls now ts o → IsControl now ts o
pass_is_control now ts o p = record {
  kind = ⊎_elim (λ (e : o.frame.frame_type ≡ Token). ap is_data e) (λ (e : o.frame.frame_type ≡ Poll). ap is_data e) p.kind;
  named = ⊎_elim (λ (e : o.frame.frame_type ≡ Token). subst IsNamed (sym e) tt) (λ (e : o.frame.frame_type ≡ Poll). subst IsNamed (sym e) tt) p.kind;
  source = p.source;
  stamp = p.stamp;
}

passes_are_control : (now ts : ℕ) (os : List PutOut) → AtMostOne (PassesOrPolls now ts) os → AtMostOne (IsControl now ts) os
passes_are_control now ts [] h = tt
passes_are_control now ts (o ∷ []) h = pass_is_control now ts o h
passes_are_control now ts (o ∷ (p ∷ more)) h = absurd h

module _ {A : Type 0} where
  control_round : (may : Bool) (now ts : ℕ) (queue : List (Waiting A)) (os : List PutOut) → AtMostOne (IsControl now ts) os →
      IsRound may now ts queue os
  control_round may now ts queue [] h = tt
  control_round may now ts queue (o ∷ []) h = inr h
  control_round may now ts queue (o ∷ (p ∷ more)) h = absurd h

  data_round : (now ts : ℕ) (queue : List (Waiting A)) (o : PutOut) (os : List PutOut) → IsOfWaiting now ts queue o →
      AtMostOne (PassesOrPolls now ts) os → IsRound true now ts queue (o ∷ os)
  data_round now ts queue o [] h k = inl (refl, h)
  data_round now ts queue o (p ∷ []) h k = (refl, h, k)
  data_round now ts queue o (p ∷ (q ∷ more)) h k = absurd k

  pub quiet_keeps : (P : PutOut → Type 0) (up : Bool) (t : NodeState A) → Keeps P t.ts t.moment t.queue (record { up = up; left = t; frames = [] })
  quiet_keeps P up t = record { says = tt; queue_is = refl; ts_is = refl; moment_is = refl }

  pub says_keeps : (kind : FrameType) (destination : ℕ) (contents : List ℕ) (t : NodeState A) (now : ℕ) → is_data kind ≡ false → IsNamed kind →
      Keeps (IsControl now t.ts) t.ts t.moment t.queue (says kind destination contents t now)
  says_keeps kind destination contents t now e named = record {
    says = record { kind = e; named = named; source = refl; stamp = refl };
    queue_is = refl;
    ts_is = refl;
    moment_is = refl;
  }

  pub token_keeps : (t : NodeState A) (now : ℕ) → Keeps (PassesOrPolls now t.ts) t.ts t.moment t.queue (gives_token t now)
  token_keeps t now = record {
    says = record { kind = inl refl; source = refl; stamp = refl };
    queue_is = refl;
    ts_is = refl;
    moment_is = refl;
  }

  pub poll_keeps : (ps : ℕ) (t : NodeState A) (now : ℕ) → Keeps (PassesOrPolls now t.ts) t.ts t.moment t.queue (polls ps t now)
  poll_keeps ps t now = record {
    says = record { kind = inr refl; source = refl; stamp = refl };
    queue_is = refl;
    ts_is = refl;
    moment_is = refl;
  }

  pub pass_control : {now ts moment : ℕ} {queue : List (Waiting A)} {o : Outcome A} → Keeps (PassesOrPolls now ts) ts moment queue o →
      Keeps (IsControl now ts) ts moment queue o
  pass_control {now} {ts} {moment} {queue} {o} k = record {
    says = passes_are_control now ts o.frames k.says;
    queue_is = k.queue_is;
    ts_is = k.ts_is;
    moment_is = k.moment_is;
  }

  -- what keeps all that isn't too old accounts for it
  pub rest_accounts : (may : Bool) (now ts moment : ℕ) (queue rest : List (Waiting A)) (o : Outcome A) →
      ((x : Waiting A) → Has queue x → Has rest x ⊎ (is_heard_in_time x.stamp now ≡ false)) →
      ((x : Waiting A) → Has rest x → Has queue x) → Keeps (IsControl now ts) ts moment rest o →
      Accounts may now ts moment queue o
  rest_accounts may now ts moment queue rest o split back k = record {
    round = control_round may now ts queue o.frames k.says;
    kept = λ x h. record {
      is = ⊎_elim (λ (left : Has rest x). inl (subst (λ q. Has q x) (sym k.queue_is) left))
          (λ (old : is_heard_in_time x.stamp now ≡ false). inr (inl old)) (split x h);
    };
    came = λ x h. back x (subst (λ q. Has q x) k.queue_is h);
    ts_is = k.ts_is;
    moment_is = k.moment_is;
  }

  -- what keeps the queue accounts for it
  pub control_accounts : (may : Bool) (now ts moment : ℕ) (queue : List (Waiting A)) (o : Outcome A) →
      Keeps (IsControl now ts) ts moment queue o → Accounts may now ts moment queue o
  control_accounts may now ts moment queue o k = rest_accounts may now ts moment queue queue o (λ x h. inl h) (λ x h. h) k

  pub pass_accounts : (may : Bool) (now ts moment : ℕ) (queue : List (Waiting A)) (o : Outcome A) →
      Keeps (PassesOrPolls now ts) ts moment queue o → Accounts may now ts moment queue o
  pass_accounts may now ts moment queue o k = rest_accounts may now ts moment queue queue o (λ x h. inl h) (λ x h. h) (pass_control k)

  -- so do data of one that waits, before what keeps the rest
  pub data_accounts : (now ts moment : ℕ) (queue rest : List (Waiting A)) (kind : FrameType) (w : Waiting A) (o : Outcome A) →
      is_data kind ≡ true → Has queue w × (is_heard_in_time w.stamp now ≡ true) →
      ((x : Waiting A) → Has queue x → (w ≡ x) ⊎ (Has rest x ⊎ (is_heard_in_time x.stamp now ≡ false))) →
      ((x : Waiting A) → Has rest x → Has queue x) → Keeps (PassesOrPolls now ts) ts moment rest o →
      Accounts true now ts moment queue (says_first (data_of kind ts w) o)
  data_accounts now ts moment queue rest kind w o e there split back k = record {
    round = data_round now ts queue (data_of kind ts w) o.frames
        (record { kind = kind; waiting = w; is_data = e; queued = there.0; young = there.1; is = refl }) k.says;
    kept = λ x h. record {
      is = ⊎_elim (λ (same : w ≡ x). inr (inr (kind, has 0 (ap (λ z. Some (data_of kind ts z)) same))))
          (λ (other : Has rest x ⊎ (is_heard_in_time x.stamp now ≡ false)). ⊎_elim
          (λ (left : Has rest x). inl (subst (λ q. Has q x) (sym k.queue_is) left))
          (λ (old : is_heard_in_time x.stamp now ≡ false). inr (inl old)) other)
          (split x h);
    };
    came = λ x h. back x (subst (λ q. Has q x) k.queue_is h);
    ts_is = k.ts_is;
    moment_is = k.moment_is;
  }
