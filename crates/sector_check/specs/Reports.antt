-- The code's enum of reports, by the numbers of W-202.
use Rattle.std.specs.Prelude.{ℕ}
use Rattle.sector_check.specs.declared.repairing.Report.{Report}
use Rattle.sector_check.specs.declared.repairing.Report.TheVariants.{Equal, Flipped, Uncorrectable}

abbrev pub report_number : Report → ℕ
report_number Equal = 0
report_number Flipped = 1
report_number Uncorrectable = 2
