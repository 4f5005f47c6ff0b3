-- Laws of take, serve, give and work, in reading order.
pub mod VisibleLaws
pub mod ResultLaws
