-- Laws of the owner steps.
pub mod OwnerStepLaws
