-- What a decision means.
pub mod DecisionMeaning
