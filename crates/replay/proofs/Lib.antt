pub mod ScriptsLemmas
pub mod LinesLemmas
pub mod MeaningLemmas
pub mod RunsLemmas
