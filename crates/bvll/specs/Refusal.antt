-- When a datagram is refused, and for what, octet by octet.
use Rattle.std.specs.Prelude.{◌≡◌, ◌≢◌, ℕ, ◌<◌, ◌≤◌, ◌%◌, ◌^◌, ◌⊎◌, List, [], ◌∷◌, ◌++◌, length}
use Rattle.tags.specs.declared.fault.Fault.{Fault}
use Rattle.tags.specs.declared.fault.Fault.TheVariants.{Short, BadTag, BadLength, BadVersion}
use Rattle.bvll.specs.declared.function.Function.{Function}
use Rattle.bvll.specs.declared.function.Function.TheVariants as f
use Rattle.bvll.specs.Datagram.{BACNET_IP, Datagram, header, function, contents, HasFields}

-- the contents of a datagram of this function
pub record HasContents (k : Function) (octets : List ℕ) (d : Datagram) : Type 0 where
  pub fields : HasFields d
  pub function : function d ≡ k
  pub contents : octets ≡ contents d

-- the lengths of a function's contents
abbrev pub IsLength : Function → ℕ → Type 0
IsLength f.Result n = n ≡ 2
IsLength f.WriteBroadcastDistributionTable n = n % 10 ≡ 0
IsLength f.ReadBroadcastDistributionTable n = n ≡ 0
IsLength f.ReadBroadcastDistributionTableAck n = n % 10 ≡ 0
IsLength f.ForwardedNpdu n = 6 ≤ n
IsLength f.RegisterForeignDevice n = n ≡ 2
IsLength f.ReadForeignDeviceTable n = n ≡ 0
IsLength f.ReadForeignDeviceTableAck n = n % 10 ≡ 0
IsLength f.DeleteForeignDeviceTableEntry n = n ≡ 6
IsLength _ n = Unit {0}

-- another first octet
pub record IsOtherVersion (octets : List ℕ) : Type 0 where
  pub first : ℕ
  pub rest : List ℕ
  pub front : octets ≡ first ∷ rest
  pub other : first ≢ BACNET_IP

-- the second octet is none of the twelve functions
pub record IsUnknown (octets : List ℕ) : Type 0 where
  pub number : ℕ
  pub rest : List ℕ
  pub front : octets ≡ BACNET_IP ∷ (number ∷ rest)
  pub unknown : 11 < number

-- some octets behind would complete the header
pub record IsCut (octets : List ℕ) : Type 0 where
  pub function : Function
  pub whole : ℕ
  pub more : List ℕ
  pub some : more ≢ []
  pub completed : octets ++ more ≡ header function whole

-- the header stands, and its length is not the datagram's or not one of its function
pub record IsMisfit (octets : List ℕ) : Type 0 where
  pub function : Function
  pub whole : ℕ
  pub rest : List ℕ
  pub fits : whole < 2 ^ 16
  pub front : octets ≡ header function whole ++ rest
  pub misfit : (whole ≢ length octets) ⊎ (IsLength function (length rest) → ⊥)

-- what each refusal stands for
abbrev pub Refuses : Fault → List ℕ → Type 0
Refuses BadVersion octets = IsOtherVersion octets
Refuses BadTag octets = IsUnknown octets
Refuses Short octets = IsCut octets
Refuses BadLength octets = IsMisfit octets
Refuses _ octets = ⊥
