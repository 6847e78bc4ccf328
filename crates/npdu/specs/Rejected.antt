-- The contents of a Reject-Message-To-Network (6.4.4).
use Rattle.std.specs.Prelude.{◌≡◌, ℕ, ◌<◌, ◌^◌, List, ◌∷◌}
use Rattle.byteorder.specs.Endian.{big_bytes}
use Rattle.npdu.specs.Message.{reason_number}
use Rattle.npdu.specs.declared.rejected.Rejected.{Rejected}

-- the reason, and the number of the network (6.4.4)
abbrev pub rejected_octets : Rejected → List ℕ
rejected_octets r = reason_number r.reason ∷ big_bytes 2 r.net

-- octets spell these contents
pub record SpellsRejected (octets : List ℕ) (r : Rejected) : Type 0 where
  pub net : r.net < 2 ^ 16
  pub parts : octets ≡ rejected_octets r

-- octets are these contents and no others
pub record OnlyRejected (octets : List ℕ) (r : Rejected) : Type 0 where
  pub only : (x : Rejected) → SpellsRejected octets x → r ≡ x

-- octets spell no such contents
pub record NoRejected (octets : List ℕ) : Type 0 where
  pub none : (r : Rejected) → SpellsRejected octets r → ⊥
