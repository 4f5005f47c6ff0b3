-- Laws of the checks of take, serve, give and work.
pub mod CheckLaws
