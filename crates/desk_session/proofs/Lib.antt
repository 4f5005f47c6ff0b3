-- Laws of one record of a session.
pub mod TurnLaws
