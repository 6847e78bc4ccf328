-- The standard's numbers and their names (18, 21).
use Rattle.std.specs.Prelude.{ℕ, List, [], ◌∷◌, codes}
use Rattle.names.specs.declared.tables.Row.{Row}

-- a number and its name
abbrev pub row_of : Row → ℕ × List ℕ
row_of row = (row.number, row.name.now)

-- object types (21, BACnetObjectType)
abbrev pub object_types : List (ℕ × List ℕ)
object_types =
    (5, codes "binary-value") ∷
    (8, codes "device") ∷
    (19, codes "multi-state-value") ∷
    (40, codes "characterstring-value") ∷
    (45, codes "integer-value") ∷ []

-- properties (21, BACnetPropertyIdentifier); `all`, `optional` and `required` stand for several (15.7.3.1.2)
abbrev pub properties : List (ℕ × List ℕ)
properties =
    (8, codes "all") ∷
    (10, codes "apdu-segment-timeout") ∷
    (11, codes "apdu-timeout") ∷
    (12, codes "application-software-version") ∷
    (28, codes "description") ∷
    (30, codes "device-address-binding") ∷
    (36, codes "event-state") ∷
    (44, codes "firmware-revision") ∷
    (62, codes "max-apdu-length-accepted") ∷
    (70, codes "model-name") ∷
    (73, codes "number-of-apdu-retries") ∷
    (74, codes "number-of-states") ∷
    (75, codes "object-identifier") ∷
    (76, codes "object-list") ∷
    (77, codes "object-name") ∷
    (79, codes "object-type") ∷
    (80, codes "optional") ∷
    (81, codes "out-of-service") ∷
    (85, codes "present-value") ∷
    (87, codes "priority-array") ∷
    (96, codes "protocol-object-types-supported") ∷
    (97, codes "protocol-services-supported") ∷
    (98, codes "protocol-version") ∷
    (104, codes "relinquish-default") ∷
    (105, codes "required") ∷
    (107, codes "segmentation-supported") ∷
    (111, codes "status-flags") ∷
    (112, codes "system-status") ∷
    (117, codes "units") ∷
    (120, codes "vendor-identifier") ∷
    (121, codes "vendor-name") ∷
    (139, codes "protocol-revision") ∷
    (155, codes "database-revision") ∷
    (167, codes "max-segments-accepted") ∷ []

-- error classes (18, 21, Error)
abbrev pub error_classes : List (ℕ × List ℕ)
error_classes =
    (0, codes "device") ∷
    (1, codes "object") ∷
    (2, codes "property") ∷
    (3, codes "resources") ∷
    (4, codes "security") ∷
    (5, codes "services") ∷ []

-- error codes (18, 21, Error)
abbrev pub error_codes : List (ℕ × List ℕ)
error_codes =
    (9, codes "invalid-data-type") ∷
    (20, codes "no-space-to-write-property") ∷
    (31, codes "unknown-object") ∷
    (32, codes "unknown-property") ∷
    (37, codes "value-out-of-range") ∷
    (40, codes "write-access-denied") ∷
    (41, codes "character-set-not-supported") ∷
    (42, codes "invalid-array-index") ∷
    (50, codes "property-is-not-an-array") ∷ []

-- reasons of a Reject (18.9, 21, BACnetRejectReason)
abbrev pub reject_reasons : List (ℕ × List ℕ)
reject_reasons =
    (3, codes "invalid-parameter-data-type") ∷
    (4, codes "invalid-tag") ∷
    (5, codes "missing-required-parameter") ∷
    (6, codes "parameter-out-of-range") ∷
    (7, codes "too-many-arguments") ∷
    (9, codes "unrecognized-service") ∷ []

-- reasons of an Abort (18.10, 21, BACnetAbortReason)
abbrev pub abort_reasons : List (ℕ × List ℕ)
abort_reasons =
    (1, codes "buffer-overflow") ∷
    (4, codes "segmentation-not-supported") ∷
    (9, codes "out-of-resources") ∷ []

-- the states of a binary value (21, BACnetBinaryPV)
abbrev pub binary_values : List (ℕ × List ℕ)
binary_values =
    (0, codes "inactive") ∷
    (1, codes "active") ∷ []
