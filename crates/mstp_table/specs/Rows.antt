-- Runs that a slip in the table would break: a node at MAC 1, alone on a bus, with a tick each millisecond from 0.
use Rattle.std.specs.Prelude.{◌≡◌, refl, ℕ, zero, suc, true, false, List, [], ◌∷◌, ◌++◌, drop}
use Rattle.mstp_frame.specs.Frame.{canonical}
use Rattle.mstp_frame.specs.Remainder.{sum, divided, bits_of, number_of, dividend, remainder, header_remainder}
use Rattle.mstp_frame.specs.declared.frame_type.FrameType.{FrameType}
use Rattle.mstp_frame.specs.declared.frame_type.FrameType.TheVariants.{Token, PollForMaster as Poll}
use Rattle.mstp_frame.specs.declared.frame_type.FrameType.TheVariants.{ReplyToPollForMaster}
use Rattle.mstp_table.specs.Node.{NamedFrame, NodeState, Outcome, PutOut, plain}
use Rattle.mstp_table.specs.Table.{Octets, Frame, Tick, after_frame, after_octets, after_queued, after_tick}
use Rattle.mstp_table.specs.Table.{answer_ticks, answers, done, hears_in, idle_hears, made, pass_ticks, poll_hears}
use Rattle.mstp_table.specs.Table.{poll_ticks, step, ticks_in, use_token, used, wait_hears}

-- a frame of no data from MAC 1, and when it was put out
put_at : (moment : ℕ) → FrameType → (destination : ℕ) → PutOut
put_at moment kind destination = record {
  frame = record { frame_type = kind; destination = destination; source = 1; contents = [] };
  stamp = moment;
}

-- a node, and what it has put out
record Run : Type 0 where
  node : NodeState (Unit {0})
  out : List PutOut

-- .. after an input
then : Run → Outcome (Unit {0}) → Run
then r o = record { node = o.left; out = r.out ++ o.frames }

-- so many ticks, one each millisecond from a moment on
ticks : ℕ → (from : ℕ) → Run → Run
ticks zero from r = r
ticks (suc n) from r = ticks n (suc from) (then r (step r.node (Tick from)))

fresh : Run
fresh = record { node = made 1 0; out = [] }

-- nothing is put out through 509
row_quiet : (ticks 510 0 fresh).out ≡ []
unfolding after_frame after_octets after_queued after_tick answer_ticks answers done hears_in idle_hears pass_ticks
    poll_hears poll_ticks step ticks_in use_token used wait_hears put_at then ticks fresh
row_quiet = refl

-- at 510 MAC 2 is polled, and the next each 20 ms
row_polls : (ticks 571 0 fresh).out ≡ put_at 510 Poll 2 ∷ put_at 530 Poll 3 ∷ put_at 550 Poll 4 ∷ put_at 570 Poll 5 ∷ []
unfolding after_frame after_octets after_queued after_tick answer_ticks answers done hears_in idle_hears pass_ticks
    poll_hears poll_ticks step ticks_in use_token used wait_hears put_at then ticks fresh
row_polls = refl

-- the 127th poll is the last before it is the sole master, at 3030, of MAC 0
row_last_poll : drop 126 (ticks 3060 0 fresh).out ≡ put_at 3030 Poll 0 ∷ []
unfolding after_frame after_octets after_queued after_tick answer_ticks answers done hears_in idle_hears pass_ticks
    poll_hears poll_ticks step ticks_in use_token used wait_hears put_at then ticks fresh
row_last_poll = refl

-- it is the sole master from 3050 on
row_not_sole : (ticks 3050 0 fresh).node.sole ≡ false
unfolding after_frame after_octets after_queued after_tick answer_ticks answers done hears_in idle_hears pass_ticks
    poll_hears poll_ticks step ticks_in use_token used wait_hears put_at then ticks fresh
row_not_sole = refl

row_sole : (ticks 3051 0 fresh).node.sole ≡ true
unfolding after_frame after_octets after_queued after_tick answer_ticks answers done hears_in idle_hears pass_ticks
    poll_hears poll_ticks step ticks_in use_token used wait_hears put_at then ticks fresh
row_sole = refl

-- MAC 2 replies at 515, in eight octets: it is given the token at once
replied : Run
replied =
    let polled = ticks 515 0 fresh in
    let told = then polled (step polled.node (Octets 8 515)) in
    let reply : NamedFrame = record { frame_type = ReplyToPollForMaster; destination = 1; source = 2; contents = [] } in
    then told (step told.node (Frame reply 515))

row_token : replied.out ≡ put_at 510 Poll 2 ∷ put_at 515 Token 2 ∷ []
unfolding after_frame after_octets after_queued after_tick answer_ticks answers done hears_in idle_hears pass_ticks
    poll_hears poll_ticks step ticks_in use_token used wait_hears put_at then ticks fresh replied
row_token = refl

-- the octets of the poll, of the reply and of the Token
row_poll_octets : canonical (plain (put_at 510 Poll 2).frame)
    ≡ 0x55 ∷ 0xFF ∷ 0x01 ∷ 0x02 ∷ 0x01 ∷ 0x00 ∷ 0x00 ∷ 0xF5 ∷ []
unfolding sum divided bits_of number_of dividend remainder header_remainder put_at
row_poll_octets = refl

row_reply_octets : canonical (record { frame_type = 2; destination = 1; source = 2; contents = [] })
    ≡ 0x55 ∷ 0xFF ∷ 0x02 ∷ 0x01 ∷ 0x02 ∷ 0x00 ∷ 0x00 ∷ 0x4F ∷ []
unfolding sum divided bits_of number_of dividend remainder header_remainder
row_reply_octets = refl

row_token_octets : canonical (plain (put_at 515 Token 2).frame)
    ≡ 0x55 ∷ 0xFF ∷ 0x00 ∷ 0x02 ∷ 0x01 ∷ 0x00 ∷ 0x00 ∷ 0x73 ∷ []
unfolding sum divided bits_of number_of dividend remainder header_remainder put_at
row_token_octets = refl
