pub mod SendersLaws
