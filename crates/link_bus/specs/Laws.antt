-- What the data that a node puts out carry (9.3).
use Rattle.std.specs.Prelude.{◌≡◌, ℕ, true}
use Rattle.carry.specs.Frames.{IsFrameOf}
use Rattle.mstp_frame.specs.Frame.{IsSound}
use Rattle.mstp_frame.specs.declared.frame_type.FrameType.{FrameType}
use Rattle.mstp_table.specs.Laws.{is_data}
use Rattle.mstp_table.specs.Node.{parcel_of, plain, sent}
use Rattle.mstp_table.specs.Table.{data_of}
use Rattle.mstp_table.specs.declared.waiting.Waiting.{Waiting}

-- the octets of such data carry the parcel that waited, where the fields of their frame are octets
abbrev pub DataCarry : Type 0 → Type 0
DataCarry A = (ts : ℕ) (kind : FrameType) (w : Waiting A) → is_data kind ≡ true →
    IsSound (plain (data_of kind ts w).frame) →
    IsFrameOf (sent {A = A} (data_of kind ts w)).octets w.stamp (parcel_of ts w)
