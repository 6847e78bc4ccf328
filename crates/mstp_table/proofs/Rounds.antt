-- What goes out at each input, and what waits then.
use Rattle.std.proofs.Common.{◌≡◌, ◌⊎◌, ⊎_elim, inl, inr, refl, subst, ℕ, ◌+◌, ◌-◌, ◌==◌, ◌&&◌, ◌||◌, not, Bool, true, false, if◌then◌else◌, List, [], ◌∷◌, Some, None}
use Rattle.std.specs.Prelude.{Option, nat_le, nat_lt}
use Rattle.history.proofs.Lists.{has, has_cons, has_front, has_next, has_split, none_has}
use Rattle.history.specs.Lists.{Has}
use Rattle.mstp_frame.specs.FrameType.{IsNamed}
use Rattle.mstp_frame.specs.declared.frame_type.FrameType.{FrameType}
use Rattle.mstp_frame.specs.declared.frame_type.FrameType.TheVariants.{Token, PollForMaster as Poll, ReplyToPollForMaster, TestRequest, TestResponse, BacnetDataExpectingReply, BacnetDataNotExpectingReply, ReplyPostponed}
use Rattle.profile.specs.Ages.{is_heard_in_time}
use Rattle.profile.specs.Limits.{N_POLL, N_RETRY_TOKEN}
use Rattle.profile.specs.Times.{T_REPLY_DELAY_MS}
use Rattle.mstp_table.proofs.Leaves.{Accounts, Keeps, control_accounts, data_accounts, either, pass_accounts, pass_control, poll_keeps, quiet_keeps, rest_accounts, says_keeps, token_keeps}
use Rattle.mstp_table.proofs.Picking.{Picks, in_young, picks, stays_young}
use Rattle.mstp_table.specs.Laws.{EachIsRound, IsControl, KeepsPlace, PassesOrPolls, QueueCame, QueueIsKept, hears_as_idle, is_data, is_token, may_say_data, uses_at_tick}
use Rattle.mstp_table.specs.Node.{NamedFrame, NodeState, Outcome, Picked, after, expects_reply, first_to, is_broadcast, silence, waiting_of, whom, young}
use Rattle.mstp_table.specs.Table.{Queued, Octets, Frame, Tick, after_frame, after_octets, after_queued, after_tick, answer_ticks, answers, at_moment, done, hears_in, idle_hears, is_due, pass_ticks, poll_hears, poll_ticks, polls, gives_token, handed_up, quiet, says, step, ticks_in, use_token, used, wait_hears}
use Rattle.mstp_table.specs.declared.state.State.{State}
use Rattle.mstp_table.specs.declared.state.State.TheVariants.{Idle, WaitForReply, DoneWithToken, PassToken, NoToken, PollForMaster, AnswerDataRequest}
use Rattle.mstp_table.specs.declared.state.Whom.{Whom}
use Rattle.mstp_table.specs.declared.state.Whom.TheVariants.{ToUs, ToAll}
use Rattle.mstp_table.specs.declared.waiting.Waiting.{Waiting}

module _ {A : Type 0} where
  done_keeps : (s : NodeState A) (now : ℕ) → Keeps (PassesOrPolls now s.ts) s.ts s.moment s.queue (done s now)
  unfolding done
  done_keeps s now =
      let P : Outcome A → Type 0 = λ o. Keeps (PassesOrPolls now s.ts) s.ts s.moment s.queue o in
      either P (nat_lt s.count (N_POLL - 1) && s.sole) _ _ (quiet_keeps (PassesOrPolls now s.ts) false (record s { state = DoneWithToken; count = s.count + 1 }))
      (either P (nat_lt s.count (N_POLL - 1) && s.ns == s.ts) _ _ (poll_keeps (after s.ts) s now)
      (either P (nat_lt s.count (N_POLL - 1)) _ _ (token_keeps (record s { count = s.count + 1; retries = 0 }) now)
      (either P (not (after s.ps == s.ns)) _ _ (poll_keeps (after s.ps) s now)
      (either P (not s.sole) _ _ (token_keeps (record s { ps = s.ts; count = 1; retries = 0 }) now)
      (poll_keeps (after s.ns) (record s { ns = s.ts; count = 1 }) now)))))

  -- at most one of those that may be young waits no longer
  used_accounts : (s : NodeState A) (ws : List (Waiting A)) (now : ℕ) (queue : List (Waiting A)) →
      ((w : Waiting A) → Has ws w → Has queue w × (is_heard_in_time w.stamp now ≡ true)) →
      ((w : Waiting A) → Has queue w → Has ws w ⊎ (is_heard_in_time w.stamp now ≡ false)) →
      Accounts true now s.ts s.moment queue (used s ws now)
  unfolding used
  used_accounts s [] now queue there left =
      rest_accounts true now s.ts s.moment queue [] _ left (λ x h. absurd (none_has h)) (pass_control (done_keeps (record s { queue = [] }) now))
  used_accounts s (w ∷ rest) now queue there left =
      let P : Outcome A → Type 0 = λ o. Accounts true now s.ts s.moment queue o in
      let split : (x : Waiting A) → Has queue x → (w ≡ x) ⊎ (Has rest x ⊎ (is_heard_in_time x.stamp now ≡ false)) = λ x h. ⊎_elim
      (λ (k : Has (w ∷ rest) x). ⊎_elim (λ (same : w ≡ x). inl same) (λ (other : Has rest x). inr (inl other)) (has_cons w rest k))
      (λ (old : is_heard_in_time x.stamp now ≡ false). inr (inr old)) (left x h) in
      let back : (x : Waiting A) → Has rest x → Has queue x = λ x h. (there x (has_next w rest h)).0 in
      either P (expects_reply w.npdu && not (is_broadcast w)) _ _
      (data_accounts now s.ts s.moment queue rest BacnetDataExpectingReply w _ refl (there w (has 0 refl)) split back
      (quiet_keeps (PassesOrPolls now s.ts) false (record s { state = WaitForReply; queue = rest; last = now })))
      (data_accounts now s.ts s.moment queue rest BacnetDataNotExpectingReply w _ refl (there w (has 0 refl)) split back
      (done_keeps (record s { queue = rest; last = now }) now))

  use_accounts : (s : NodeState A) (now : ℕ) → Accounts true now s.ts s.moment s.queue (use_token s now)
  unfolding use_token
  use_accounts s now = used_accounts (record s { queue = young s.queue now }) (young s.queue now) now s.queue (in_young s.queue now) (stays_young s.queue now)

  -- what is only told accounts for what waits
  quiet_accounts : (may up : Bool) (now : ℕ) (t : NodeState A) → Accounts may now t.ts t.moment t.queue (record { up = up; left = t; frames = [] })
  quiet_accounts may up now t = control_accounts may now t.ts t.moment t.queue _ (quiet_keeps (IsControl now t.ts) up t)

  says_accounts : (may : Bool) (kind : FrameType) (destination : ℕ) (contents : List ℕ) (t : NodeState A) (now : ℕ) → is_data kind ≡ false → IsNamed kind →
      Accounts may now t.ts t.moment t.queue (says kind destination contents t now)
  says_accounts may kind destination contents t now e named =
      control_accounts may now t.ts t.moment t.queue _ (says_keeps kind destination contents t now e named)

  token_accounts : (may : Bool) (t : NodeState A) (now : ℕ) → Accounts may now t.ts t.moment t.queue (gives_token t now)
  token_accounts may t now = pass_accounts may now t.ts t.moment t.queue _ (token_keeps t now)

  poll_accounts : (may : Bool) (ps : ℕ) (t : NodeState A) (now : ℕ) → Accounts may now t.ts t.moment t.queue (polls ps t now)
  poll_accounts may ps t now = pass_accounts may now t.ts t.moment t.queue _ (poll_keeps ps t now)

  done_accounts : (may : Bool) (s : NodeState A) (now : ℕ) → Accounts may now s.ts s.moment s.queue (done s now)
  done_accounts may s now = pass_accounts may now s.ts s.moment s.queue _ (done_keeps s now)

  -- .. also where data are handed up
  up_accounts : (may : Bool) (now ts moment : ℕ) (queue : List (Waiting A)) (o : Outcome A) → Accounts may now ts moment queue o →
      Accounts may now ts moment queue (handed_up o)
  up_accounts may now ts moment queue o a = record { round = a.round; kept = a.kept; came = a.came; ts_is = a.ts_is; moment_is = a.moment_is }

  idle_accounts : (s : NodeState A) (f : NamedFrame) (kind : FrameType) (to : Whom) (now : ℕ) →
      Accounts (is_token kind to) now s.ts s.moment s.queue (idle_hears s f kind to now)
  unfolding idle_hears
  idle_accounts s f Token ToUs now = use_accounts s now
  idle_accounts s f Poll ToUs now = says_accounts false ReplyToPollForMaster f.source [] s now refl tt
  idle_accounts s f TestRequest ToUs now = says_accounts false TestResponse f.source f.contents s now refl tt
  idle_accounts s f BacnetDataNotExpectingReply ToUs now = quiet_accounts false true now s
  idle_accounts s f BacnetDataNotExpectingReply ToAll now = quiet_accounts false true now s
  idle_accounts s f BacnetDataExpectingReply ToAll now = quiet_accounts false true now s
  idle_accounts s f BacnetDataExpectingReply ToUs now = quiet_accounts false true now (record s { state = AnswerDataRequest f.source })
  idle_accounts s f kind to now = quiet_accounts false false now s

  wait_accounts : (s : NodeState A) (kind : FrameType) (to : Whom) (now : ℕ) → Accounts false now s.ts s.moment s.queue (wait_hears s kind to now)
  unfolding wait_hears
  wait_accounts s BacnetDataNotExpectingReply ToUs now = up_accounts false now s.ts s.moment s.queue (done s now) (done_accounts false s now)
  wait_accounts s TestResponse ToUs now = done_accounts false s now
  wait_accounts s ReplyPostponed ToUs now = done_accounts false s now
  wait_accounts s kind to now = quiet_accounts false false now (record s { state = Idle })

  polled_accounts : (s : NodeState A) (f : NamedFrame) (kind : FrameType) (to : Whom) (now : ℕ) →
      Accounts false now s.ts s.moment s.queue (poll_hears s f kind to now)
  unfolding poll_hears
  polled_accounts s f ReplyToPollForMaster ToUs now =
      token_accounts false (record s { sole = false; ns = f.source; ps = s.ts; count = 0; retries = 0 }) now
  polled_accounts s f kind to now = quiet_accounts false false now (record s { state = Idle })

  hears_accounts : (state : State) (s : NodeState A) (f : NamedFrame) (now : ℕ) →
      Accounts (hears_as_idle state && is_token f.frame_type (whom s.ts f.destination)) now s.ts s.moment s.queue (hears_in state s f now)
  unfolding hears_in
  hears_accounts Idle s f now = idle_accounts s f f.frame_type (whom s.ts f.destination) now
  hears_accounts (AnswerDataRequest asker) s f now =
      idle_accounts (record s { state = Idle }) f f.frame_type (whom s.ts f.destination) now
  hears_accounts WaitForReply s f now = wait_accounts s f.frame_type (whom s.ts f.destination) now
  hears_accounts PollForMaster s f now = polled_accounts s f f.frame_type (whom s.ts f.destination) now
  hears_accounts state s f now = quiet_accounts false false now s

  -- a tick in Poll_For_Master, by its lines
  by_lines : (P : Bool → Outcome A → Type 0) (b c d : Bool) (u p q v : Outcome A) → P true u → P false p → P false q → P true v →
      P (b || (c && d)) (if b then u else if not c then p else if not d then q else v)
  by_lines P true c d u p q v one two three four = one
  by_lines P false false d u p q v one two three four = two
  by_lines P false true false u p q v one two three four = three
  by_lines P false true true u p q v one two three four = four

  poll_ticks_accounts : (s : NodeState A) (now : ℕ) →
      Accounts (s.sole || ((s.ns == s.ts) && (after s.ps == s.ts))) now s.ts s.moment s.queue (poll_ticks s now)
  unfolding poll_ticks
  poll_ticks_accounts s now =
      by_lines (λ may o. Accounts may now s.ts s.moment s.queue o) s.sole (s.ns == s.ts) (after s.ps == s.ts) _ _ _ _
      (use_accounts s now) (token_accounts false (record s { retries = 0 }) now) (poll_accounts false (after s.ps) s now)
      (use_accounts (record s { sole = true }) now)

  pass_ticks_accounts : (s : NodeState A) (now : ℕ) → Accounts false now s.ts s.moment s.queue (pass_ticks s now)
  unfolding pass_ticks
  pass_ticks_accounts s now = either (λ (o : Outcome A). Accounts false now s.ts s.moment s.queue o) (nat_lt s.retries N_RETRY_TOKEN) _ _
      (token_accounts false (record s { retries = s.retries + 1 }) now) (poll_accounts false (after s.ns) (record s { ns = s.ts; count = 0 }) now)

  answers_accounts : (asker : ℕ) (s : NodeState A) (o : Option (Picked A)) (now : ℕ) (queue : List (Waiting A)) →
      ((w : Waiting A) → Has s.queue w → Has queue w × (is_heard_in_time w.stamp now ≡ true)) →
      ((w : Waiting A) → Has queue w → Has s.queue w ⊎ (is_heard_in_time w.stamp now ≡ false)) → Picks asker s.queue o →
      Accounts true now s.ts s.moment queue (answers asker s o now)
  unfolding answers
  answers_accounts asker s (Some x) now queue there left k =
      data_accounts now s.ts s.moment queue x.rest BacnetDataNotExpectingReply x.picked _ refl (there x.picked k.0)
      (λ w h. ⊎_elim
      (λ (was : Has s.queue w). ⊎_elim (λ (same : x.picked ≡ w). inl same) (λ (other : Has x.rest w). inr (inl other)) (k.2 w was))
      (λ (old : is_heard_in_time w.stamp now ≡ false). inr (inr old)) (left w h))
      (λ w h. (there w (k.3 w h)).0)
      (quiet_keeps (PassesOrPolls now s.ts) false (record s { state = Idle; queue = x.rest; last = now }))
  answers_accounts asker s None now queue there left k =
      rest_accounts true now s.ts s.moment queue s.queue _ left (λ w h. (there w h).0)
      (either (λ (o : Outcome A). Keeps (IsControl now s.ts) s.ts s.moment s.queue o) (nat_le T_REPLY_DELAY_MS (silence s now)) _ _
      (says_keeps ReplyPostponed asker [] (record s { state = Idle }) now refl tt) (quiet_keeps (IsControl now s.ts) false s))

  ticks_accounts : (state : State) (s : NodeState A) (now : ℕ) →
      Accounts (uses_at_tick state s) now s.ts s.moment s.queue (ticks_in state s now)
  unfolding ticks_in answer_ticks
  ticks_accounts Idle s now = quiet_accounts false false now (record s { state = NoToken; heard = 0 })
  ticks_accounts WaitForReply s now = done_accounts false s now
  ticks_accounts DoneWithToken s now = use_accounts s now
  ticks_accounts PassToken s now = pass_ticks_accounts s now
  ticks_accounts NoToken s now = poll_accounts false (after s.ts) (record s { ns = s.ts; count = 0 }) now
  ticks_accounts PollForMaster s now = poll_ticks_accounts s now
  ticks_accounts (AnswerDataRequest asker) s now =
      answers_accounts asker (record s { queue = young s.queue now }) (first_to asker (young s.queue now)) now s.queue
      (in_young s.queue now) (stays_young s.queue now) (picks asker (young s.queue now))

  uses_same : (state : State) (s : NodeState A) (now : ℕ) → uses_at_tick state (at_moment s now) ≡ uses_at_tick state s
  uses_same PollForMaster s now = refl
  uses_same state s now = refl

  tick_accounts : (s : NodeState A) (now : ℕ) → Accounts (uses_at_tick s.state s) now s.ts now s.queue (after_tick s now)
  unfolding after_tick
  tick_accounts s now = either (λ (o : Outcome A). Accounts (uses_at_tick s.state s) now s.ts now s.queue o) (is_due s now) _ _
      (subst (λ b. Accounts b now s.ts now s.queue (ticks_in s.state (at_moment s now) now)) (uses_same s.state s now)
      (ticks_accounts s.state (at_moment s now) now))
      (quiet_accounts (uses_at_tick s.state s) false now (at_moment s now))

  frame_accounts : (s : NodeState A) (f : NamedFrame) (now : ℕ) → Accounts (may_say_data s (Frame f now)) now s.ts now s.queue (after_frame f s now)
  unfolding after_frame
  frame_accounts s f now = hears_accounts s.state (at_moment s now) f now

  octets_accounts : (s : NodeState A) (count now : ℕ) → Accounts false now s.ts now s.queue (quiet (after_octets count s now))
  unfolding after_octets
  octets_accounts s count now = either (λ (t : NodeState A). Accounts false now s.ts now s.queue (quiet t)) (count == 0) _ _
      (quiet_accounts false false now (at_moment s now)) (quiet_accounts false false now (record s { state = _; heard = _; last = now; moment = now }))

  pub each_is_round : EachIsRound A
  unfolding step after_queued
  each_is_round s (Queued p) = tt
  each_is_round s (Octets count now) = (octets_accounts s count now).round
  each_is_round s (Frame f now) = (frame_accounts s f now).round
  each_is_round s (Tick now) = (tick_accounts s now).round

  pub queue_is_kept : QueueIsKept A
  unfolding step after_queued
  queue_is_kept s (Queued p) w h = record { is = inl (has_front s.queue (waiting_of p ∷ []) h) }
  queue_is_kept s (Octets count now) w h = (octets_accounts s count now).kept w h
  queue_is_kept s (Frame f now) w h = (frame_accounts s f now).kept w h
  queue_is_kept s (Tick now) w h = (tick_accounts s now).kept w h

  pub queue_came : QueueCame A
  unfolding step after_queued
  queue_came s (Queued p) w h = has_split s.queue (waiting_of p) h
  queue_came s (Octets count now) w h = inl ((octets_accounts s count now).came w h)
  queue_came s (Frame f now) w h = inl ((frame_accounts s f now).came w h)
  queue_came s (Tick now) w h = inl ((tick_accounts s now).came w h)

  pub keeps_place : KeepsPlace A
  unfolding step after_queued
  keeps_place s (Queued p) = (refl, refl)
  keeps_place s (Octets count now) = ((octets_accounts s count now).ts_is, (octets_accounts s count now).moment_is)
  keeps_place s (Frame f now) = ((frame_accounts s f now).ts_is, (frame_accounts s f now).moment_is)
  keeps_place s (Tick now) = ((tick_accounts s now).ts_is, (tick_accounts s now).moment_is)
