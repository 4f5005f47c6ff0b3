-- Laws of the buffers after a request is carried out: a decision performed (PerformLaws), a slot served (ServeLaws).
pub mod PerformLaws
pub mod ServeLaws
