-- One parameter of a service: a tag of the class and number that must stand there (20.2.15).
pub use Rattle.apdu_fields.specs.Parameter.{carrying, opening_tag, closing_tag, IsObject, Takes, Only, Lacks}
pub use Rattle.apdu_fields.specs.Parameter.{CarriesOther, NoContents, NoBracket}
