-- What a frame that isn't for this station leads to, what is handed up, whom a tick answers, and how a parcel waits.
use Rattle.std.proofs.Common.{◌≡◌, ◌≢◌, ⊎_elim, ◌∙◌, arith, refl, sym, ap, subst, ℕ, ◌-◌, ◌==◌, ◌&&◌, not, Bool, true, false, cond, List, [], ◌∷◌, ◌++◌, map, Some, None}
use Rattle.std.proofs.lemmas.Bool.{eqb-true, ltb-true, ne_eqb}
use Rattle.std.proofs.lemmas.List.{map-append}
use Rattle.std.specs.Prelude.{Option, nat_le, nat_lt}
use Rattle.history.proofs.Lists.{has_cons, none_has}
use Rattle.history.specs.Lists.{Has}
use Rattle.link.specs.Limits.{is_target}
use Rattle.mstp_frame.specs.declared.frame_type.FrameType.{FrameType}
use Rattle.mstp_frame.specs.declared.frame_type.FrameType.TheVariants.{Token, PollForMaster as Poll, ReplyToPollForMaster, TestRequest, TestResponse, BacnetDataExpectingReply, BacnetDataNotExpectingReply, ReplyPostponed}
use Rattle.npdu.specs.declared.mac.Mac.TheVariants.{One as Octet, Six}
use Rattle.npdu.specs.declared.mac.Target.{Target}
use Rattle.npdu.specs.declared.mac.Target.TheVariants.{One, All}
use Rattle.npdu.specs.declared.parcel.Parcel.{Parcel}
use Rattle.profile.specs.Limits.{N_POLL, N_RETRY_TOKEN}
use Rattle.profile.specs.Times.{T_REPLY_DELAY_MS}
use Rattle.mstp_table.proofs.Leaves.{either}
use Rattle.mstp_table.proofs.Picking.{Picks, picks}
use Rattle.mstp_table.specs.Laws.{AnswersTheAsker, HandsUpData, IdlesUntilDue, OthersAreQuiet, QueuedWaits, is_data}
use Rattle.mstp_table.specs.Node.{ALL_NODES, IsForBus, NamedFrame, NodeState, Outcome, Picked, PutOut, after, destination_of, expects_reply, first_to, is_broadcast, parcel_of, silence, target_of, waiting_of, whom, young}
use Rattle.mstp_table.specs.Table.{Queued, Octets, Frame, Tick, after_frame, after_queued, after_tick, answer_ticks, answers, at_moment, data_of, done, hears_in, idle_hears, is_due, pass_ticks, poll_hears, poll_ticks, quiet, says, step, ticks_in, use_token, used, wait_hears}
use Rattle.mstp_table.specs.declared.state.State.{State}
use Rattle.mstp_table.specs.declared.state.State.TheVariants.{Idle, WaitForReply, DoneWithToken, PassToken, NoToken, PollForMaster, AnswerDataRequest}
use Rattle.mstp_table.specs.declared.state.Whom.{Whom}
use Rattle.mstp_table.specs.declared.state.Whom.TheVariants.{ToUs, ToAll, ToOthers}
use Rattle.mstp_table.specs.declared.waiting.Waiting.{Waiting}

false_true : false ≡ true → ⊥
false_true e = cc

all_others : ToAll ≡ ToOthers → ⊥
all_others e = cc

us_others : ToUs ≡ ToOthers → ⊥
us_others e = cc

and_second : (a b : Bool) → (a && b) ≡ true → b ≡ true
and_second true b e = e
and_second false b e = absurd (false_true e)

not_all : (address : ℕ) → nat_lt address 128 ≡ true → (address == ALL_NODES) ≡ false
not_all address h = ne_eqb address ALL_NODES (λ e. omega (arith, ltb-true address 128 h, e))

target_back : (ts : ℕ) (to : Target) → is_target (Octet ts) to ≡ true → target_of (destination_of to) ≡ to
target_back ts All h = refl
target_back ts (One (Octet address)) h = ap (λ (b : Bool). cond b All (One (Octet address))) (not_all address h)
target_back ts (One (Six octets)) h = absurd (false_true h)

module _ {A : Type 0} where
  -- of a frame of this type for this: nothing is put out unless it is for us, and only data for us are handed up
  record Hears (kind : FrameType) (to : Whom) (o : Outcome A) : Type 0 where
    quiet : to ≢ ToUs → o.frames ≡ []
    up : o.up ≡ true → (is_data kind ≡ true) × (to ≢ ToOthers)

  ours : (kind : FrameType) (o : Outcome A) → (o.up ≡ true → is_data kind ≡ true) → Hears kind ToUs o
  ours kind o up = record { quiet = λ other. absurd (other refl); up = λ e. (up e, us_others) }

  dropped : (kind : FrameType) (to : Whom) (t : NodeState A) → Hears kind to (quiet t)
  dropped kind to t = record { quiet = λ other. refl; up = λ e. absurd (false_true e) }

  for_all : (kind : FrameType) (t : NodeState A) → is_data kind ≡ true → Hears kind ToAll (record { up = true; left = t; frames = [] })
  for_all kind t e = record { quiet = λ other. refl; up = λ up. (e, all_others) }

  done_up : (s : NodeState A) (now : ℕ) → (done s now).up ≡ false
  unfolding done
  done_up s now =
      let P : Outcome A → Type 0 = λ o. o.up ≡ false in
      either P (nat_lt s.count (N_POLL - 1) && s.sole) _ _ refl
      (either P (nat_lt s.count (N_POLL - 1) && s.ns == s.ts) _ _ refl
      (either P (nat_lt s.count (N_POLL - 1)) _ _ refl
      (either P (not (after s.ps == s.ns)) _ _ refl
      (either P (not s.sole) _ _ refl refl))))

  used_up : (s : NodeState A) (ws : List (Waiting A)) (now : ℕ) → (used s ws now).up ≡ false
  unfolding used
  used_up s [] now = done_up (record s { queue = [] }) now
  used_up s (w ∷ rest) now = either (λ (o : Outcome A). o.up ≡ false) (expects_reply w.npdu && not (is_broadcast w)) _ _ refl
      (done_up (record s { queue = rest; last = now }) now)

  use_up : (s : NodeState A) (now : ℕ) → (use_token s now).up ≡ false
  unfolding use_token
  use_up s now = used_up (record s { queue = young s.queue now }) (young s.queue now) now

  -- what hands nothing up
  silent : (kind : FrameType) (o : Outcome A) → o.up ≡ false → Hears kind ToUs o
  silent kind o none = ours kind o (λ e. absurd (false_true (sym none ∙ e)))

  idle_hears_it : (s : NodeState A) (f : NamedFrame) (kind : FrameType) (to : Whom) (now : ℕ) → Hears kind to (idle_hears s f kind to now)
  unfolding idle_hears
  idle_hears_it s f Token ToUs now = silent Token _ (use_up s now)
  idle_hears_it s f Poll ToUs now = silent Poll _ refl
  idle_hears_it s f TestRequest ToUs now = silent TestRequest _ refl
  idle_hears_it s f BacnetDataNotExpectingReply ToUs now = ours BacnetDataNotExpectingReply _ (λ e. refl)
  idle_hears_it s f BacnetDataNotExpectingReply ToAll now = for_all BacnetDataNotExpectingReply s refl
  idle_hears_it s f BacnetDataExpectingReply ToAll now = for_all BacnetDataExpectingReply s refl
  idle_hears_it s f BacnetDataExpectingReply ToUs now = ours BacnetDataExpectingReply _ (λ e. refl)
  idle_hears_it s f kind to now = dropped kind to s

  wait_hears_it : (s : NodeState A) (kind : FrameType) (to : Whom) (now : ℕ) → Hears kind to (wait_hears s kind to now)
  unfolding wait_hears
  wait_hears_it s BacnetDataNotExpectingReply ToUs now = ours BacnetDataNotExpectingReply _ (λ e. refl)
  wait_hears_it s TestResponse ToUs now = silent TestResponse _ (done_up s now)
  wait_hears_it s ReplyPostponed ToUs now = silent ReplyPostponed _ (done_up s now)
  wait_hears_it s kind to now = dropped kind to (record s { state = Idle })

  poll_hears_it : (s : NodeState A) (f : NamedFrame) (kind : FrameType) (to : Whom) (now : ℕ) → Hears kind to (poll_hears s f kind to now)
  unfolding poll_hears
  poll_hears_it s f ReplyToPollForMaster ToUs now = silent ReplyToPollForMaster _ refl
  poll_hears_it s f kind to now = dropped kind to (record s { state = Idle })

  hears_it : (state : State) (s : NodeState A) (f : NamedFrame) (now : ℕ) → Hears f.frame_type (whom s.ts f.destination) (hears_in state s f now)
  unfolding hears_in
  hears_it Idle s f now = idle_hears_it s f f.frame_type (whom s.ts f.destination) now
  hears_it (AnswerDataRequest asker) s f now = idle_hears_it (record s { state = Idle }) f f.frame_type (whom s.ts f.destination) now
  hears_it WaitForReply s f now = wait_hears_it s f.frame_type (whom s.ts f.destination) now
  hears_it PollForMaster s f now = poll_hears_it s f f.frame_type (whom s.ts f.destination) now
  hears_it state s f now = dropped f.frame_type (whom s.ts f.destination) s

  pub others_are_quiet : OthersAreQuiet A
  unfolding step after_frame
  others_are_quiet s f now other = (hears_it s.state (at_moment s now) f now).quiet other

  answers_up : (asker : ℕ) (t : NodeState A) (x : Option (Picked A)) (now : ℕ) → (answers asker t x now).up ≡ false
  unfolding answers
  answers_up asker t (Some x) now = refl
  answers_up asker t None now = either (λ (o : Outcome A). o.up ≡ false) (nat_le T_REPLY_DELAY_MS (silence t now)) _ _ refl refl

  -- a tick hands nothing up
  ticks_up : (state : State) (s : NodeState A) (now : ℕ) → (ticks_in state s now).up ≡ false
  unfolding ticks_in answer_ticks pass_ticks poll_ticks
  ticks_up Idle s now = refl
  ticks_up WaitForReply s now = done_up s now
  ticks_up DoneWithToken s now = use_up s now
  ticks_up PassToken s now = either (λ (o : Outcome A). o.up ≡ false) (nat_lt s.retries N_RETRY_TOKEN) _ _ refl refl
  ticks_up NoToken s now = refl
  ticks_up PollForMaster s now =
      let P : Outcome A → Type 0 = λ o. o.up ≡ false in
      either P s.sole _ _ (use_up s now) (either P (not (s.ns == s.ts)) _ _ refl
      (either P (not (after s.ps == s.ts)) _ _ refl (use_up (record s { sole = true }) now)))
  ticks_up (AnswerDataRequest asker) s now = answers_up asker (record s { queue = young s.queue now }) (first_to asker (young s.queue now)) now

  tick_up : (s : NodeState A) (now : ℕ) → (after_tick s now).up ≡ false
  unfolding after_tick
  tick_up s now = either (λ (o : Outcome A). o.up ≡ false) (is_due s now) _ _ (ticks_up s.state (at_moment s now) now) refl

  pub hands_up_data : HandsUpData A
  unfolding step after_frame
  hands_up_data s (Queued p) e = false_true e
  hands_up_data s (Octets count now) e = false_true e
  hands_up_data s (Frame f now) e = (hears_it s.state (at_moment s now) f now).up e
  hands_up_data s (Tick now) e = false_true (sym (tick_up s now) ∙ e)

  answers_it : (asker : ℕ) (t : NodeState A) (ws : List (Waiting A)) (x : Option (Picked A)) (now : ℕ) (o : PutOut) → Picks asker ws x →
      Has (answers asker t x now).frames o → o.frame.destination ≡ asker
  unfolding answers
  answers_it asker t ws (Some x) now o k h = ⊎_elim
      (λ (same : data_of BacnetDataNotExpectingReply t.ts x.picked ≡ o). sym (ap (λ (p : PutOut). p.frame.destination) same)
      ∙ eqb-true x.picked.destination asker (and_second (not (is_broadcast x.picked)) (x.picked.destination == asker) k.1))
      (λ (more : Has [] o). absurd (none_has more)) (has_cons _ [] h)
  answers_it asker t ws None now o k h = either (λ (r : Outcome A). Has r.frames o → o.frame.destination ≡ asker)
      (nat_le T_REPLY_DELAY_MS (silence t now)) (says ReplyPostponed asker [] (record t { state = Idle }) now) (quiet t)
      (λ there. ⊎_elim (λ same. sym (ap (λ (p : PutOut). p.frame.destination) same)) (λ (more : Has [] o). absurd (none_has more)) (has_cons _ [] there))
      (λ there. absurd (none_has there)) h

  ticks_answer : (state : State) (asker : ℕ) (s : NodeState A) (now : ℕ) (o : PutOut) → state ≡ AnswerDataRequest asker →
      Has (ticks_in state s now).frames o → o.frame.destination ≡ asker
  unfolding ticks_in answer_ticks
  ticks_answer state asker s now o e = subst (λ z. Has (ticks_in z s now).frames o → o.frame.destination ≡ asker) (sym e)
      (λ h. answers_it asker (record s { queue = young s.queue now }) (young s.queue now) (first_to asker (young s.queue now)) now o
      (picks asker (young s.queue now)) h)

  pub answers_the_asker : AnswersTheAsker A
  unfolding step after_tick
  answers_the_asker s asker now o e = either (λ (r : Outcome A). Has r.frames o → o.frame.destination ≡ asker) (is_due s now)
      (ticks_in s.state (at_moment s now) now) (quiet (at_moment s now))
      (ticks_answer s.state asker (at_moment s now) now o e) (λ h. absurd (none_has h))

  pub idles_until_due : IdlesUntilDue A
  unfolding step after_tick
  idles_until_due s now e = ap (λ (b : Bool). cond b (ticks_in s.state (at_moment s now) now) (quiet (at_moment s now))) e

  -- a parcel for the bus waits as it is
  waits_as_it_is : (ts : ℕ) (p : Parcel A) → IsForBus ts p → parcel_of ts (waiting_of p) ≡ p
  waits_as_it_is ts p h =
      ap (λ from. record { from = from; to = target_of (destination_of p.to); npdu = p.npdu; stamp = p.stamp }) (sym h.from)
      ∙ ap (λ to. record { from = p.from; to = to; npdu = p.npdu; stamp = p.stamp }) (target_back ts p.to h.to)

  pub queued_waits : QueuedWaits A
  unfolding step after_queued
  queued_waits s p h = map-append (parcel_of s.ts) s.queue (waiting_of p ∷ [])
      ∙ ap (λ q. map (parcel_of s.ts) s.queue ++ q ∷ []) (waits_as_it_is s.ts p h)
