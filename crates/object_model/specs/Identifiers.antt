-- Identifiers of objects.
use Rattle.std.specs.Prelude.{◌==◌, ◌&&◌, Bool}
use Rattle.primitives.specs.tags.declared.object_id.ObjectId.{ObjectId}

-- whether two identifiers are one (20.2.14)
abbrev pub same_id : ObjectId → ObjectId → Bool
same_id p q = (p.object_type == q.object_type) && (p.instance == q.instance)
