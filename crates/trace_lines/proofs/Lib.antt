-- Laws of a trace's lines.
pub mod LinesLaws
pub mod PrintedLaws
pub mod WorkedExamples
