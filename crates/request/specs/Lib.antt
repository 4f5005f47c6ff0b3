-- What the code's request means.
pub mod RequestMeaning
