-- Laws of a key as the code reads it.
pub mod SumLaws
pub mod VerdictLaws
