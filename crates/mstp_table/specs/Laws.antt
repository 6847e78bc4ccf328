-- What holds of every step of a master node, whatever its state (9.5).
use Rattle.std.specs.Prelude.{◌≡◌, ◌≢◌, ◌⊎◌, ℕ, ◌==◌, ◌&&◌, ◌||◌, Bool, true, false, List, [], ◌∷◌, ◌++◌}
use Rattle.history.specs.Lists.{Has}
use Rattle.mstp_frame.specs.FrameType.{IsNamed}
use Rattle.mstp_frame.specs.declared.frame_type.FrameType.{FrameType}
use Rattle.mstp_frame.specs.declared.frame_type.FrameType.TheVariants.{Token, PollForMaster as Poll}
use Rattle.mstp_frame.specs.declared.frame_type.FrameType.TheVariants.{BacnetDataExpectingReply}
use Rattle.mstp_frame.specs.declared.frame_type.FrameType.TheVariants.{BacnetDataNotExpectingReply}
use Rattle.npdu.specs.declared.parcel.Parcel.{Parcel}
use Rattle.profile.specs.Ages.{is_heard_in_time}
use Rattle.mstp_table.specs.Node.{IsForBus, NamedFrame, NodeState, PutOut, after, parcels_in, waiting_of, whom}
use Rattle.mstp_table.specs.Table.{Input, Queued, Octets, Frame, Tick, at_moment, data_of, is_due, quiet, step}
use Rattle.mstp_table.specs.declared.state.State.{State}
use Rattle.mstp_table.specs.declared.state.State.TheVariants.{Idle, DoneWithToken, PollForMaster, AnswerDataRequest}
use Rattle.mstp_table.specs.declared.state.Whom.{Whom}
use Rattle.mstp_table.specs.declared.state.Whom.TheVariants.{ToUs, ToOthers}
use Rattle.mstp_table.specs.declared.waiting.Waiting.{Waiting}

-- the types whose data are an NPDU (9.3.6, 9.3.7)
abbrev pub is_data : FrameType → Bool
is_data BacnetDataExpectingReply = true
is_data BacnetDataNotExpectingReply = true
is_data kind = false

-- the moment of an input; a parcel is queued at none of its own
abbrev pub moment_of : {A : Type 0} → NodeState A → Input A → ℕ
moment_of s (Queued p) = s.moment
moment_of s (Octets count now) = now
moment_of s (Frame f now) = now
moment_of s (Tick now) = now

-- a Token to this station
abbrev pub is_token : FrameType → Whom → Bool
is_token Token ToUs = true
is_token kind to = false

-- in these states a frame is taken as in Idle
abbrev pub hears_as_idle : State → Bool
hears_as_idle Idle = true
hears_as_idle (AnswerDataRequest asker) = true
hears_as_idle state = false

-- a tick leads to Use_Token, or finds the node in Answer_Data_Request
abbrev pub uses_at_tick : {A : Type 0} → State → NodeState A → Bool
uses_at_tick DoneWithToken s = true
uses_at_tick PollForMaster s = s.sole || ((s.ns == s.ts) && (after s.ps == s.ts))
uses_at_tick (AnswerDataRequest asker) s = true
uses_at_tick state s = false

-- the input leads to Use_Token, or finds the node in Answer_Data_Request
abbrev pub may_say_data : {A : Type 0} → NodeState A → Input A → Bool
may_say_data s (Frame f now) = hears_as_idle s.state && is_token f.frame_type (whom s.ts f.destination)
may_say_data s (Tick now) = uses_at_tick s.state s
may_say_data s input = false

-- data of one that waits and is at most LIFE old, with its destination, octets and stamp, from this station
pub record IsOfWaiting {A : Type 0} (now ts : ℕ) (queue : List (Waiting A)) (o : PutOut) : Type 0 where
  pub kind : FrameType
  pub waiting : Waiting A
  pub is_data : is_data kind ≡ true
  pub queued : Has queue waiting
  pub young : is_heard_in_time waiting.stamp now ≡ true
  pub is : o ≡ data_of kind ts waiting

-- a frame of another type, which has a name, from this station, said now
pub record IsControl (now ts : ℕ) (o : PutOut) : Type 0 where
  pub kind : is_data o.frame.frame_type ≡ false
  pub named : IsNamed o.frame.frame_type
  pub source : o.frame.source ≡ ts
  pub stamp : o.stamp ≡ now

-- a Token or a Poll For Master, from this station, said now
pub record PassesOrPolls (now ts : ℕ) (o : PutOut) : Type 0 where
  pub kind : (o.frame.frame_type ≡ Token) ⊎ (o.frame.frame_type ≡ Poll)
  pub source : o.frame.source ≡ ts
  pub stamp : o.stamp ≡ now

-- what goes out at an input: nothing, one frame, or data and then a frame that passes the token or polls; data only
-- where they may go out
abbrev pub IsRound : {A : Type 0} → (may : Bool) → (now ts : ℕ) → List (Waiting A) → List PutOut → Type 0
IsRound may now ts queue [] = Unit {0}
IsRound may now ts queue (o ∷ []) = ((may ≡ true) × IsOfWaiting now ts queue o) ⊎ IsControl now ts o
IsRound may now ts queue (o ∷ (p ∷ [])) = (may ≡ true) × IsOfWaiting now ts queue o × PassesOrPolls now ts p
IsRound may now ts queue (o ∷ (p ∷ (q ∷ more))) = ⊥

-- of every step: data go out in Use_Token or Answer_Data_Request alone, one frame of them at most
abbrev pub EachIsRound : Type 0 → Type 0
EachIsRound A = (s : NodeState A) (i : Input A) →
    IsRound (may_say_data s i) (moment_of s i) s.ts s.queue (step s i).frames

-- what becomes of one that waits: it waits still, is too old, or was put out
pub record IsAccounted {A : Type 0} (now ts : ℕ) (left : List (Waiting A)) (frames : List PutOut) (w : Waiting A) :
    Type 0 where
  pub is : Has left w ⊎ ((is_heard_in_time w.stamp now ≡ false) ⊎ ((kind : FrameType) × Has frames (data_of kind ts w)))

abbrev pub QueueIsKept : Type 0 → Type 0
QueueIsKept A = (s : NodeState A) (i : Input A) (w : Waiting A) → Has s.queue w →
    IsAccounted (moment_of s i) s.ts (step s i).left.queue (step s i).frames w

-- the input queues this
abbrev pub Queues : {A : Type 0} → Input A → Waiting A → Type 0
Queues (Queued p) w = waiting_of p ≡ w
Queues input w = ⊥

-- what waits then waited before, or was queued
abbrev pub QueueCame : Type 0 → Type 0
QueueCame A = (s : NodeState A) (i : Input A) (w : Waiting A) → Has (step s i).left.queue w → Has s.queue w ⊎ Queues i w

-- a parcel that may be queued waits as it is, behind the others
abbrev pub QueuedWaits : Type 0 → Type 0
QueuedWaits A = (s : NodeState A) (p : Parcel A) → IsForBus s.ts p →
    parcels_in (step s (Queued p)).left ≡ parcels_in s ++ p ∷ []

-- a node keeps its address, and its moment is that of its last input
abbrev pub KeepsPlace : Type 0 → Type 0
KeepsPlace A = (s : NodeState A) (i : Input A) →
    ((step s i).left.ts ≡ s.ts) × ((step s i).left.moment ≡ moment_of s i)

-- a frame that isn't for this station alone puts nothing out
abbrev pub OthersAreQuiet : Type 0 → Type 0
OthersAreQuiet A = (s : NodeState A) (f : NamedFrame) (now : ℕ) → whom s.ts f.destination ≢ ToUs →
    (step s (Frame f now)).frames ≡ []

-- the input is data that are for this station
abbrev pub BringsData : {A : Type 0} → NodeState A → Input A → Type 0
BringsData s (Frame f now) = (is_data f.frame_type ≡ true) × (whom s.ts f.destination ≢ ToOthers)
BringsData s input = ⊥

-- only data that are for this station are handed up
abbrev pub HandsUpData : Type 0 → Type 0
HandsUpData A = (s : NodeState A) (i : Input A) → (step s i).up ≡ true → BringsData s i

-- in Answer_Data_Request a tick puts out to the asker alone
abbrev pub AnswersTheAsker : Type 0 → Type 0
AnswersTheAsker A = (s : NodeState A) (asker now : ℕ) (o : PutOut) → s.state ≡ AnswerDataRequest asker →
    Has (step s (Tick now)).frames o → o.frame.destination ≡ asker

-- where nothing is due, a tick puts nothing out, and changes the moment alone
abbrev pub IdlesUntilDue : Type 0 → Type 0
IdlesUntilDue A = (s : NodeState A) (now : ℕ) → is_due s now ≡ false → step s (Tick now) ≡ quiet (at_moment s now)
