-- Laws of what power-on restores.
pub mod RestoreLaws
