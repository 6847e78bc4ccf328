-- The client of transactions: what it knows, and what changes of it (5.4.1, 5.4.4).
use Rattle.std.specs.Prelude.{◌≡◌, ℕ, ◌+◌, ◌%◌, ◌==◌, ◌&&◌, not, option_map, Bool, false, List, [], ◌∷◌, ◌++◌, remove}
use Rattle.std.specs.Prelude.{replicate, Option, Some, None, slice_get, slice_index, slice_set}
use Rattle.std.specs.List.{list_any}
use Rattle.segments.specs.Receiver.{Joined, ReceiverState, granted_window, joins, nothing_joined}
use Rattle.segments.specs.Sender.{SenderState}
use Rattle.profile.specs.Ages as age
use Rattle.profile.specs.Times.{REUSE_MS}
use Rattle.apdu.specs.declared.apdu.Segment.{Segment}
use Rattle.bindings.specs.Accepts.{PlainAccepts}
use Rattle.client_tsm.specs.Open.{Open}
use Rattle.client_tsm.specs.Waking.{all_left}
use Rattle.client_tsm.specs.declared.gathering.Gathering.{Gathering}
use Rattle.client_tsm.specs.declared.plan.ClientTsmChange.{ClientTsmChange}
use Rattle.client_tsm.specs.declared.plan.ClientTsmChange.TheVariants.{Stays, Opens, Sends, Gathers, Renews, Ends}
use Rattle.client_tsm.specs.declared.plan.ClientTsmChange.TheVariants.{Wakes}

-- accepts: what it takes of an answer; next: the next invoke ID; free_from: for each invoke ID the moment from which it
-- may be given again; open_ones: the transactions that have no end, in order of issue; moment: that of the last change
pub record ClientTsmState (A : Type 0) : Type 0 where
  pub accepts : PlainAccepts
  pub next : ℕ
  pub free_from : List ℕ
  pub open_ones : List (Open A)
  pub moment : ℕ

-- no invoke ID was given yet: each may be given from the moment 0 on
unfoldable pub never_given : List ℕ
never_given = replicate 256 0

-- a client that has asked nothing
abbrev pub new_client : {A : Type 0} → PlainAccepts → ClientTsmState A
new_client accepts =
    record { accepts = accepts; next = 0; free_from = never_given; open_ones = []; moment = 0 }

-- a transaction under this invoke ID has no end yet
abbrev pub is_open : {A : Type 0} → ℕ → List (Open A) → Bool
is_open id os = list_any (λ o. o.invoke_id == id) os

-- the invoke IDs of the transactions differ from each other (5.4.1)
abbrev pub AreApart : {A : Type 0} → List (Open A) → Type 0
AreApart [] = Unit {0}
AreApart (o ∷ os) = (is_open o.invoke_id os ≡ false) × AreApart os

-- the next invoke ID may be given: it was last given long enough ago, and no transaction has it (5.4.1)
abbrev pub may_issue : {A : Type 0} → ℕ → ClientTsmState A → Bool
may_issue now st = age.is_free (slice_index st.free_from st.next) now && not (is_open st.next st.open_ones)

-- the transactions with one more, under the next invoke ID; IDs are given 0, 1, .. 255, 0, .. in turn (5.4.1)
abbrev pub opens : {A : Type 0} → ℕ → Open A → ClientTsmState A → ClientTsmState A
opens now o st =
    record st {
      next = (st.next + 1) % 256;
      free_from = slice_set st.free_from st.next (now + REUSE_MS);
      open_ones = st.open_ones ++ o ∷ [];
      moment = now;
    }

-- more of the request came, and this goes on sending it (5.4.4.2)
abbrev pub sends_on : {A : Type 0} → ℕ → Option SenderState → Open A → Open A
sends_on now sending o = record o { sent = now; sending = sending }

-- what gathers the segments of an answer, where this window is proposed (5.4.4.3)
abbrev pub receiver_of : {A : Type 0} → Option (Gathering A) → ℕ → ReceiverState
receiver_of None window = nothing_joined (granted_window window)
receiver_of (Some g) window = g.receiver

-- what gathers the segments of the answer, after this one, and what it does (5.4.4.4)
abbrev pub gathered_at : {A : Type 0} → ℕ → Open A → Segment → List ℕ → Joined
gathered_at now o s octets = joins now s.sequence_number s.more_follows octets (receiver_of o.gathering s.window)

-- a segment of the answer came: the request came whole (5.4.4.4)
abbrev pub gathers : {A : Type 0} → ℕ → Segment → List ℕ → Open A → Open A
gathers now s octets o =
    record o { sending = None; gathering = Some (record { receiver = (gathered_at now o s octets).state; at = now }) }

-- the same segments, one of which was heard at this moment
abbrev pub heard_at : {A : Type 0} → ℕ → Gathering A → Gathering A
heard_at now g = record { receiver = g.receiver; at = now }

-- a segment of the answer was heard and not taken
abbrev pub renews : {A : Type 0} → ℕ → Open A → Open A
renews now o = record o { sending = None; gathering = option_map (heard_at now) o.gathering }

-- the same, but for the one that was found at this place
abbrev pub changed_if : {X : Type 0} → Option X → ℕ → (X → X) → List X → List X
changed_if None place f xs = xs
changed_if (Some x) place f xs = slice_set xs place (f x)

-- the same, but for the one at this place, if there is one
abbrev pub changed_at : {X : Type 0} → ℕ → (X → X) → List X → List X
changed_at place f xs = changed_if (slice_get xs place) place f xs

-- these transactions, after an input at this moment
abbrev pub with_open : {A : Type 0} → ℕ → List (Open A) → ClientTsmState A → ClientTsmState A
with_open now os st = record st { open_ones = os; moment = now }

-- what a change leaves
abbrev pub committed : {A : Type 0} → ℕ → ClientTsmChange A → ClientTsmState A → ClientTsmState A
committed now Stays st = with_open now st.open_ones st
committed now (Opens o) st = opens now o st
committed now (Sends place sending) st = with_open now (changed_at place (sends_on now sending) st.open_ones) st
committed now (Gathers place s octets) st = with_open now (changed_at place (gathers now s octets) st.open_ones) st
committed now (Renews place) st = with_open now (changed_at place (renews now) st.open_ones) st
committed now (Ends place) st = with_open now (remove st.open_ones place) st
committed now Wakes st = with_open now (all_left now st.open_ones) st
