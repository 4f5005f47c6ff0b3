-- What a reply's struct means.
pub mod ReplyMeaning
