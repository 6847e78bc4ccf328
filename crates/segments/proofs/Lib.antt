pub mod PieceLaws
pub mod ReceiverLaws
