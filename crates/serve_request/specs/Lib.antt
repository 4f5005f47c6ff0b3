-- The buffers after a request is carried out.
pub mod Served
