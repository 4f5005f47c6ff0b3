-- Laws of decisions: of any decision (DecidedLaws), and of one that sets a feature (FeatureLaws).
pub mod DecidedLaws
pub mod FeatureLaws
