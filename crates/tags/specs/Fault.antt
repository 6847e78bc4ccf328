-- The names and numbers of the refusals.
use Rattle.std.specs.Prelude.{ℕ, List, codes}
use Rattle.tags.specs.declared.fault.Fault.{Fault}
use Rattle.tags.specs.declared.fault.Fault.TheVariants.{Memory, Short, BadTag, BadLength, BadVersion, TooLong}
use Rattle.tags.specs.declared.fault.Fault.TheVariants.{NoInvokeId, Unbound, NoRoute, TableFull, Expired, Forged}
use Rattle.tags.specs.declared.fault.Fault.TheVariants.{NoSuch, Wire, BadSite}

-- the number that a refusal is printed with
abbrev pub number_of : Fault → ℕ
number_of Memory = 1
number_of Short = 2
number_of BadTag = 3
number_of BadLength = 4
number_of BadVersion = 5
number_of TooLong = 6
number_of NoInvokeId = 7
number_of Unbound = 8
number_of NoRoute = 9
number_of TableFull = 10
number_of Expired = 11
number_of Forged = 12
number_of NoSuch = 13
number_of Wire = 14
number_of BadSite = 15

-- the name that a refusal is printed with
abbrev pub name_of : Fault → List ℕ
name_of Memory = codes "Memory"
name_of Short = codes "Short"
name_of BadTag = codes "BadTag"
name_of BadLength = codes "BadLength"
name_of BadVersion = codes "BadVersion"
name_of TooLong = codes "TooLong"
name_of NoInvokeId = codes "NoInvokeId"
name_of Unbound = codes "Unbound"
name_of NoRoute = codes "NoRoute"
name_of TableFull = codes "TableFull"
name_of Expired = codes "Expired"
name_of Forged = codes "Forged"
name_of NoSuch = codes "NoSuch"
name_of Wire = codes "Wire"
name_of BadSite = codes "BadSite"
