-- What the code's verdict on a key means.
pub mod VerdictMeaning
