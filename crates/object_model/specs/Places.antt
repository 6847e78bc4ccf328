-- Where an identifier stands in a list of them.
use Rattle.std.specs.Prelude.{ℕ, suc, if◌then◌else◌, List, [], ◌∷◌, Option, Some, None, option_map}
use Rattle.std.specs.declared.cmp.Ordering.{Ordering}
use Rattle.std.specs.Ordering.{nat_cmp, ordering_then}
use Rattle.primitives.specs.tags.declared.object_id.ObjectId.{ObjectId}
use Rattle.object_model.specs.Identifiers.{same_id}

-- the index at which an identifier first stands in a list
abbrev pub place_of : List ObjectId → ObjectId → Option ℕ
place_of [] id = None
place_of (p ∷ ps) id = if same_id p id then Some 0 else option_map suc (place_of ps id)

-- the order of identifiers: by type, then by instance
abbrev pub id_cmp : ObjectId → ObjectId → Ordering
id_cmp p q = ordering_then (nat_cmp p.object_type q.object_type) (nat_cmp p.instance q.instance)

-- where an identifier first stands once another is put at a place behind all: where it stood, or there if it is that
-- one
abbrev pub also_at : Option ℕ → ObjectId → ℕ → ObjectId → Option ℕ
also_at (Some found) put place id = Some found
also_at None put place id = if same_id put id then Some place else None
