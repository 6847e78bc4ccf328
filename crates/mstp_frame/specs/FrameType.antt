-- The types of frames (9.3.1 to 9.3.8).
use Rattle.std.specs.Prelude.{ℕ, ◌≤◌}
use Rattle.mstp_frame.specs.declared.frame_type.FrameType.{FrameType}
use Rattle.mstp_frame.specs.declared.frame_type.FrameType.TheVariants.{Token, PollForMaster, ReplyToPollForMaster}
use Rattle.mstp_frame.specs.declared.frame_type.FrameType.TheVariants.{TestRequest, TestResponse}
use Rattle.mstp_frame.specs.declared.frame_type.FrameType.TheVariants.{BacnetDataExpectingReply}
use Rattle.mstp_frame.specs.declared.frame_type.FrameType.TheVariants.{BacnetDataNotExpectingReply, ReplyPostponed}
use Rattle.mstp_frame.specs.declared.frame_type.FrameType.TheVariants.{Other}

-- the octet of a type (9.3)
abbrev pub type_number : FrameType → ℕ
type_number Token = 0
type_number PollForMaster = 1
type_number ReplyToPollForMaster = 2
type_number TestRequest = 3
type_number TestResponse = 4
type_number BacnetDataExpectingReply = 5
type_number BacnetDataNotExpectingReply = 6
type_number ReplyPostponed = 7
type_number (Other n) = n

-- a type that has a name goes by it
abbrev pub IsNamed : FrameType → Type 0
IsNamed (Other n) = 8 ≤ n
IsNamed _ = Unit {0}
