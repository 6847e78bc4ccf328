use Rattle.std.proofs.Common.{inl, inr}
use Rattle.words.proofs.Unsaid.{no_bits, no_bool_value, no_built, no_enum, no_object, no_other, no_signed, no_unsigned}
use Rattle.words.proofs.Unsaid.{refused, refused_or}
use Rattle.words.proofs.value.any_value.Goals as goal

pub returns-in_err-flag-in-bool-clause-refused : goal.returns-in_err-flag-in-bool-clause-refused
returns-in_err-flag-in-bool-clause-refused g c =
    let cut = c.in-Some.ensures in
    refused c.from_residual-in_err-flag-in-bool.result c.args.words.now
    (no_bool_value c.args.words.now c.in-Some.kind.now c.in-Some.rest.now cut.parted cut.front cut.rest c.in-bool.is
    c.in_err-flag-in-bool.ensures.refused)

pub returns-in_err-parse_u32-in-unsigned-clause-refused : goal.returns-in_err-parse_u32-in-unsigned-clause-refused
returns-in_err-parse_u32-in-unsigned-clause-refused g c =
    let cut = c.in-Some.ensures in
    refused c.from_residual-in_err-parse_u32-in-unsigned.result c.args.words.now
    (no_unsigned c.args.words.now c.in-Some.kind.now c.in-Some.rest.now cut.parted cut.front cut.rest c.in-unsigned.is
    c.in_err-parse_u32-in-unsigned.ensures.refused.1)

pub returns-in_err-parse_i32-in-signed-clause-refused : goal.returns-in_err-parse_i32-in-signed-clause-refused
returns-in_err-parse_i32-in-signed-clause-refused g c =
    let cut = c.in-Some.ensures in
    refused c.from_residual-in_err-parse_i32-in-signed.result c.args.words.now
    (no_signed c.args.words.now c.in-Some.kind.now c.in-Some.rest.now cut.parted cut.front cut.rest c.in-signed.is
    c.in_err-parse_i32-in-signed.ensures.refused.1)

pub returns-in_err-enumerated-in-enum-clause-refused : goal.returns-in_err-enumerated-in-enum-clause-refused
returns-in_err-enumerated-in-enum-clause-refused g c =
    let cut = c.in-Some.ensures in
    refused c.from_residual-in_err-enumerated-in-enum.result c.args.words.now
    (no_enum c.args.words.now c.in-Some.kind.now c.in-Some.rest.now cut.parted cut.front cut.rest c.in-enum.is
    c.in_err-enumerated-in-enum.ensures.refused)

pub returns-in_err-parse_object-in-object-clause-refused : goal.returns-in_err-parse_object-in-object-clause-refused
returns-in_err-parse_object-in-object-clause-refused g c =
    let cut = c.in-Some.ensures in
    refused c.from_residual-in_err-parse_object-in-object.result c.args.words.now
    (no_object c.args.words.now c.in-Some.kind.now c.in-Some.rest.now cut.parted cut.front cut.rest c.in-object.is
    c.in_err-parse_object-in-object.ensures.refused)

pub returns-in_err-unused-in-bits-clause-refused : goal.returns-in_err-unused-in-bits-clause-refused
returns-in_err-unused-in-bits-clause-refused g c =
    let cut = c.in-Some.ensures in
    refused_or c.from_residual-in_err-unused-in-bits.result c.args.words.now c.in_err-unused-in-bits.field-0.0 c.from_residual-in_err-unused-in-bits.ensures.1
    (elim c.in_err-unused-in-bits.ensures.refused [
      | inl memory ↦ inl memory
      | inr none ↦ inr (no_bits c.args.words.now c.in-Some.kind.now c.in-Some.rest.now
          cut.parted cut.front cut.rest c.in-bits.is none)
    ])

pub returns-in_err-tag-in-other-clause-refused : goal.returns-in_err-tag-in-other-clause-refused
returns-in_err-tag-in-other-clause-refused g c =
    let cut = c.in-Some.ensures in
    refused_or c.from_residual-in_err-tag-in-other.result c.args.words.now c.in_err-tag-in-other.field-0.0 c.from_residual-in_err-tag-in-other.ensures.1
    (elim c.in_err-tag-in-other.ensures.refused [
      | inl memory ↦ inl memory
      | inr none ↦ inr (no_other c.args.words.now c.in-Some.kind.now c.in-Some.rest.now
          cut.parted cut.front cut.rest c.in-other.is none)
    ])

pub returns-in_err-parse_octets-in-built-clause-refused : goal.returns-in_err-parse_octets-in-built-clause-refused
returns-in_err-parse_octets-in-built-clause-refused g c =
    let cut = c.in-Some.ensures in
    refused_or c.from_residual-in_err-parse_octets-in-built.result c.args.words.now c.in_err-parse_octets-in-built.field-0.0 c.from_residual-in_err-parse_octets-in-built.ensures.1
    (elim c.in_err-parse_octets-in-built.ensures.refused [
      | inl memory ↦ inl memory
      | inr none ↦ inr (no_built c.args.words.now c.in-Some.kind.now c.in-Some.rest.now
          cut.parted cut.front cut.rest c.in-built.is none.1)
    ])
