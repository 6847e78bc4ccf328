pub mod OneName
pub mod ServiceErrors
pub mod ApduLaws
pub mod CanonicalLaws
pub mod UnconfirmedLaws
pub mod RefusalLaws
pub mod ShortestLaws
