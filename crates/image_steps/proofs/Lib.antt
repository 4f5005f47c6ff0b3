-- Laws of the steps with a saved image.
pub mod ImageStepLaws
