-- What a frame of MS/TP carries from one node to another (9.3).
use Rattle.std.specs.Prelude.{◌≡◌, ℕ, ◌==◌, ◌||◌, Bool, true, false, cond, List, [], ◌∷◌, Option, Some, None, refl}
use Rattle.mstp_frame.specs.Frame.{PlainFrame, Spells}
use Rattle.mstp_frame.specs.FrameType.{type_number}
use Rattle.mstp_frame.specs.declared.frame_type.FrameType.TheVariants as frame_type
use Rattle.npdu.specs.declared.mac.Mac.TheVariants.{One as Octet}
use Rattle.npdu.specs.declared.mac.Target.{Target}
use Rattle.npdu.specs.declared.mac.Target.TheVariants.{One, All}
use Rattle.npdu.specs.declared.parcel.Parcel.{Parcel}
use Rattle.carry.specs.Datagrams.{parcel}

-- the destination that is all nodes of a bus (9.3)
abbrev pub TO_ALL_NODES : ℕ
TO_ALL_NODES = 255

-- whom a frame is for (9.3)
abbrev pub framed_to : ℕ → Target
framed_to destination = cond (destination == TO_ALL_NODES) All (One (Octet destination))

-- frames of this type carry an NPDU: BACnet Data, whether a reply is expected or not (9.3.6, 9.3.7)
abbrev pub is_data : ℕ → Bool
is_data number = (number == type_number frame_type.BacnetDataExpectingReply)
    || (number == type_number frame_type.BacnetDataNotExpectingReply)

-- what a frame carries, where it is data
abbrev pub carried_if : {A : Type 0} → (carries : Bool) → (stamp : ℕ) → PlainFrame → Option (Parcel A)
carried_if true stamp f = Some (parcel (Octet f.source) (framed_to f.destination) f.contents stamp)
carried_if false stamp f = None

-- what a frame carries (9.3)
abbrev pub carried_in : {A : Type 0} → (stamp : ℕ) → PlainFrame → Option (Parcel A)
carried_in stamp f = carried_if (is_data f.frame_type) stamp f

-- rows that a slip in a definition would break: data from 05 to 10, data from 05 to all, and a Token
row_data : {A : Type 0} →
    carried_in {A = A} 7 (record { frame_type = 6; destination = 0x10; source = 0x05; contents = 0x01 ∷ [] })
    ≡ Some (parcel (Octet 0x05) (One (Octet 0x10)) (0x01 ∷ []) 7)
row_data = refl

row_to_all : {A : Type 0} →
    carried_in {A = A} 7 (record { frame_type = 5; destination = 0xFF; source = 0x05; contents = 0x01 ∷ [] })
    ≡ Some (parcel (Octet 0x05) All (0x01 ∷ []) 7)
row_to_all = refl

row_token : {A : Type 0} →
    carried_in {A = A} 7 (record { frame_type = 0; destination = 0x10; source = 0x05; contents = [] }) ≡ None
row_token = refl

-- octets spell a frame that carries this parcel (9.3)
pub record IsFrameOf {A : Type 0} (octets : List ℕ) (stamp : ℕ) (p : Parcel A) : Type 0 where
  pub frame : PlainFrame
  pub spelled : Spells octets frame
  pub carries : carried_in stamp frame ≡ Some p

-- a frame has a parcel's NPDU, from its source to its target (9.3)
pub record IsFramed {A : Type 0} (p : Parcel A) (f : PlainFrame) : Type 0 where
  pub from : p.from ≡ Octet f.source
  pub to : p.to ≡ framed_to f.destination
  pub npdu : p.npdu ≡ f.contents
