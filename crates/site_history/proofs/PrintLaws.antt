-- What is printed, one line after another.
pub use Rattle.site_trace.proofs.TraceLaws.{appends_more, appends_nothing, texts_from}

pub ruleset print_rules = (appends_nothing, appends_more)
