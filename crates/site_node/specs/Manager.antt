-- What a manager as a node does of a datagram: what it puts out, and what it knows then (J.2, J.4.5, J.5).
use Rattle.std.specs.Prelude.{◌≡◌, ℕ, false, List, [], Option}
use Rattle.bbmd_manager.specs.Manager as manager
use Rattle.bbmd_manager.specs.Manager.{IsFound, is_too_long, left_of, said_of}
use Rattle.bbmd_manager.specs.State.{ManagerState}
use Rattle.bvll.specs.Address.{address_at}
use Rattle.bvll.specs.Datagram.{Datagram}
use Rattle.bvll.specs.declared.address.Address.{Address}
use Rattle.link.specs.Step.{PortSent}
use Rattle.npdu.specs.declared.mac.Mac.{Mac}
use Rattle.npdu.specs.declared.mac.Mac.TheVariants.{One, Six}
use Rattle.site_node.specs.Node.{NodeState}
use Rattle.site_node.specs.Part.{silence}
use Rattle.site_node.specs.Stamping.{put_out}
use Rattle.site_node.specs.declared.part.Part.TheVariants.{Manager}
use Rattle.site_node.specs.declared.told.PartTold.{PartTold}

-- what comes of a datagram from an address: what the manager says of it goes out, each with its stamp
pub record HearsFrom {A : Type 0} (now : ℕ) (from : Address) (octets : List ℕ) (stamp : ℕ) (m : ManagerState)
    (out : List (PortSent A)) (left : ManagerState) : Type 0 where
  pub found : Option Datagram
  pub means : IsFound octets found
  pub fits : is_too_long (said_of now from m found) ≡ false
  pub says : out ≡ put_out stamp now (said_of now from m found)
  pub leaves : left ≡ left_of now from m found

-- octets from an address, said at a moment: those from an address of another kind are dropped (J.1.2)
abbrev pub HearsOctets : {A : Type 0} → (now : ℕ) → Mac → List ℕ → (stamp : ℕ) → ManagerState → List (PortSent A) →
    ManagerState → Type 0
HearsOctets now (Six from) octets stamp m out left = HearsFrom now (address_at from) octets stamp m out left
HearsOctets now (One from) octets stamp m out left = (out ≡ []) × (left ≡ m)

-- a manager of a network hears them: its application entity, which it has not, says nothing
pub record ManagerHears {A : Type 0} (now : ℕ) (from : Mac) (octets : List ℕ) (stamp net : ℕ) (m : ManagerState)
    (old : NodeState A) (told : PartTold A) (out : List (PortSent A)) (new : NodeState A) : Type 0 where
  pub silent : told ≡ silence
  pub left : ManagerState
  pub is : new ≡ record old { part = Manager net left }
  pub hears : HearsOctets now from octets stamp m out left

-- octets spell what is too long to be carried on
abbrev pub IsTooLong : (now : ℕ) → Mac → List ℕ → ManagerState → Type 0
IsTooLong now (Six from) octets m = manager.IsTooLong now (address_at from) octets m
IsTooLong now (One from) octets m = ⊥
