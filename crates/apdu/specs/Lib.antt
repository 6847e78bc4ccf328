pub mod Numbers
pub mod PduType
pub mod Sizes
pub mod Parameter
pub mod ParameterWriting
pub mod ServiceError
pub mod Apdu
pub mod ApduRefusal
pub mod ApduWriting
pub mod Unconfirmed
pub mod ApduLaws
-- What the layers above cite of those below.
pub use Rattle.apdu_fields.specs.tags as tags
