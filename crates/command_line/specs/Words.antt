-- Whether the standard's numbers are printed, or its names.
pub use Rattle.command_tools.specs.Words.{spelling_of}
