-- Laws of the repair step.
pub mod RepairLaws
