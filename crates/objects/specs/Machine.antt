-- The object machine: what a device replies to a request, and what the request leaves (12, 15, 19).
use Rattle.std.specs.Prelude.{List, map, Option, Some, None, Result, Ok, Err}
use Rattle.object_model.specs.tags.declared.value.Value.{Value}
use Rattle.primitives.specs.declared.plain_data.Reply.{Reply}
use Rattle.primitives.specs.declared.plain_data.Reply.TheVariants.{Values, Many, Done, Error}
use Rattle.primitives.specs.declared.plain_data.Request.{Request}
use Rattle.primitives.specs.declared.plain_data.Request.TheVariants.{Read, ReadMany, Write, WriteMany}
use Rattle.object_model.specs.Objects.{PlainTable}
use Rattle.object_model.specs.Reading.{Refusal, read, results_of}
use Rattle.object_model.specs.Writing.{Outcome, write, write_all, in_order}

-- the reply to a ReadProperty: what was read, or the error (15.5.2)
abbrev pub reading_reply : {A : Type 0} → Result (List (Value A)) Refusal → Reply A
reading_reply (Ok values) = Values values
reading_reply (Err e) = Error (e.0) (e.1)

-- the reply to a WriteProperty that is refused or not (15.9.1)
abbrev pub written_reply : {A : Type 0} → Option Refusal → Reply A
written_reply None = Done
written_reply (Some e) = Error (e.0) (e.1)

-- the outcome of a WriteProperty: an error changes nothing (15.9.2)
abbrev pub write_outcome : {A : Type 0} → PlainTable A → Result (PlainTable A) Refusal → Outcome A
write_outcome t (Ok written) = record { table = written; reply = Done }
write_outcome t (Err e) = record { table = t; reply = Error (e.0) (e.1) }

-- the outcome of a request, by its service; reading leaves the table as it is (15.5.2, 15.7.2, 15.9.2, 15.10.2)
abbrev pub outcome : {A : Type 0} → PlainTable A → Request A → Outcome A
outcome t (Read object property index) = record { table = t; reply = reading_reply (read t object property index) }
outcome t (ReadMany asked) = record { table = t; reply = Many (map (results_of t) asked) }
outcome t (Write object property index values priority) =
    write_outcome t (write t object (record {
      property = property;
      index = index;
      values = values;
      priority = priority;
    }))
outcome t (WriteMany asked) = write_all t (in_order asked)

-- what the device replies
abbrev pub reply : {A : Type 0} → PlainTable A → Request A → Reply A
reply t q = (outcome t q).reply

-- what the request leaves
abbrev pub after : {A : Type 0} → PlainTable A → Request A → PlainTable A
after t q = (outcome t q).table
