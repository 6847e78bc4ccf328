-- The standard's numbers of error classes and codes (18, 21).
use Rattle.std.specs.Prelude.{◌≡◌, ◌≢◌, ◌<◌, ℕ}
use Rattle.primitives.specs.declared.error.ErrorClass.{ErrorClass}
use Rattle.primitives.specs.declared.error.ErrorClass.TheVariants as class
use Rattle.primitives.specs.declared.error.ErrorCode.{ErrorCode}
use Rattle.primitives.specs.declared.error.ErrorCode.TheVariants as code

-- BACnet error classes (18.1 to 18.8, 21)
abbrev pub class_number : ErrorClass → ℕ
class_number class.Device = 0
class_number class.Object = 1
class_number class.Property = 2
class_number class.Resources = 3
class_number class.Security = 4
class_number class.Services = 5
class_number (class.Other n) = n

-- a class stands under its name where it has one (18.1 to 18.8)
abbrev pub IsNamedClass : ErrorClass → Type 0
IsNamedClass (class.Other n) = 5 < n
IsNamedClass c = Unit {0}

-- the class of this number (18.1 to 18.8)
abbrev pub IsClassOf : ℕ → ErrorClass → Type 0
IsClassOf n c = (class_number c ≡ n) × IsNamedClass c

-- BACnet error codes (18.1 to 18.8, 21)
abbrev pub code_number : ErrorCode → ℕ
code_number code.InvalidDataType = 9
code_number code.NoSpaceToWriteProperty = 20
code_number code.UnknownObject = 31
code_number code.UnknownProperty = 32
code_number code.ValueOutOfRange = 37
code_number code.WriteAccessDenied = 40
code_number code.CharacterSetNotSupported = 41
code_number code.InvalidArrayIndex = 42
code_number code.PropertyIsNotAnArray = 50
code_number (code.Other n) = n

-- none of the codes that have a name here (18.1 to 18.8)
abbrev pub IsOtherCode : ℕ → Type 0
IsOtherCode n = (n ≢ 9) × (n ≢ 20) × (n ≢ 31) × (n ≢ 32) × (n ≢ 37) × (n ≢ 40) × (n ≢ 41) × (n ≢ 42) × (n ≢ 50)

-- a code stands under its name where it has one here (18.1 to 18.8)
abbrev pub IsNamedCode : ErrorCode → Type 0
IsNamedCode (code.Other n) = IsOtherCode n
IsNamedCode c = Unit {0}

-- the code of this number (18.1 to 18.8)
abbrev pub IsCodeOf : ℕ → ErrorCode → Type 0
IsCodeOf n c = (code_number c ≡ n) × IsNamedCode c

-- classes of one number that stand under their names are one (18.1 to 18.8)
abbrev pub OneClass : Type 0
OneClass = (c d : ErrorClass) → class_number c ≡ class_number d → IsNamedClass c → IsNamedClass d → c ≡ d

-- codes of one number that stand under their names are one (18.1 to 18.8)
abbrev pub OneCode : Type 0
OneCode = (c d : ErrorCode) → code_number c ≡ code_number d → IsNamedCode c → IsNamedCode d → c ≡ d
