pub mod Folds
pub mod Induct
pub mod LabelReadings
pub mod NamedLemmas
pub mod StmtFolds
pub mod WellMadeProofs
pub mod WordLaws
pub mod WordProofs
