-- An error class and an error code stand under one name (18).
use Rattle.std.proofs.Common.{◌≡◌, ℕ, refl, ap, arith}
use Rattle.primitives.specs.Errors.{class_number, code_number, IsNamedClass, IsNamedCode}
use Rattle.primitives.specs.declared.error.ErrorClass.{ErrorClass}
use Rattle.primitives.specs.declared.error.ErrorClass.TheVariants as class
use Rattle.primitives.specs.declared.error.ErrorCode.{ErrorCode}
use Rattle.primitives.specs.declared.error.ErrorCode.TheVariants as code

pub one_class : (c d : ErrorClass) → class_number c ≡ class_number d → IsNamedClass c → IsNamedClass d → c ≡ d
one_class class.Device class.Device e n m = refl
one_class class.Object class.Object e n m = refl
one_class class.Property class.Property e n m = refl
one_class class.Resources class.Resources e n m = refl
one_class class.Security class.Security e n m = refl
one_class class.Services class.Services e n m = refl
one_class (class.Other a) (class.Other b) e n m = ap (λ (k : ℕ). class.Other k) e
one_class c d e n m = grind arith

pub one_code : (c d : ErrorCode) → code_number c ≡ code_number d → IsNamedCode c → IsNamedCode d → c ≡ d
one_code code.InvalidDataType code.InvalidDataType e n m = refl
one_code code.NoSpaceToWriteProperty code.NoSpaceToWriteProperty e n m = refl
one_code code.UnknownObject code.UnknownObject e n m = refl
one_code code.UnknownProperty code.UnknownProperty e n m = refl
one_code code.ValueOutOfRange code.ValueOutOfRange e n m = refl
one_code code.WriteAccessDenied code.WriteAccessDenied e n m = refl
one_code code.CharacterSetNotSupported code.CharacterSetNotSupported e n m = refl
one_code code.InvalidArrayIndex code.InvalidArrayIndex e n m = refl
one_code code.PropertyIsNotAnArray code.PropertyIsNotAnArray e n m = refl
one_code (code.Other a) (code.Other b) e n m = ap (λ (k : ℕ). code.Other k) e
one_code c d e n m = grind arith
