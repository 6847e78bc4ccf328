-- What goes on sending a message cuts it as before, whatever is heard of it and whenever it wakes.
use Rattle.std.proofs.Common.{◌≡◌, refl, ℕ, ◌==◌, Bool, true, false}
use Rattle.segments.specs.Sender.{SenderState, acknowledges_if, has_ended, hears, hears_if, is_heard, is_timed_out, wakes, wakes_if}

acknowledges_cut : (b : Bool) (now number window : ℕ) (c : SenderState) → (acknowledges_if b now number window c).state.chunk ≡ c.chunk
acknowledges_cut true now number window c = refl
acknowledges_cut false now number window c = refl

hears_by : (ended heard : Bool) (now number window : ℕ) (c : SenderState) → (hears_if ended heard now number window c).state.chunk ≡ c.chunk
hears_by true heard now number window c = refl
hears_by false heard now number window c = acknowledges_cut heard now number window c

-- after a SegmentACK
pub hears_cut : (now number window : ℕ) (nak : Bool) (c : SenderState) → (hears now number window nak c).state.chunk ≡ c.chunk
unfolding hears
hears_cut now number window nak c = hears_by (has_ended now c) (is_heard number nak c) now number window c

wakes_by : (new ended timed : Bool) (now : ℕ) (c : SenderState) → (wakes_if new ended timed now c).state.chunk ≡ c.chunk
wakes_by true ended timed now c = refl
wakes_by false true timed now c = refl
wakes_by false false true now c = refl
wakes_by false false false now c = refl

-- after a wake
pub wakes_cut : (now : ℕ) (c : SenderState) → (wakes now c).state.chunk ≡ c.chunk
unfolding wakes
wakes_cut now c = wakes_by (c.sent == 0) (has_ended now c) (is_timed_out now c) now c
