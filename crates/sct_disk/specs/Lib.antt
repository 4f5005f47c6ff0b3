-- What a step reports in addition to the store's definitions.
pub mod Result
