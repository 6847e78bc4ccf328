-- Numbers and object identifiers, as the contents octets of a tag (20.2.4, 20.2.5, 20.2.14).
pub use Rattle.contents_octets.specs.Number.{AreOctets, bit, SpellsUnsigned, SpellsSigned, IsSoundObject, SpellsObject}
pub use Rattle.contents_octets.specs.Number.{object_octets, unsigned_octets, distance, signed_octets}
unfoldable pub use Rattle.contents_octets.specs.Number.{width, signed_width}
