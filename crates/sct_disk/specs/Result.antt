-- The result of a step that reports a number: what is reported, and answer and report as one number for C.
use Rattle.std.specs.Prelude.{ℕ, ◌+◌, ◌*◌, Result, Ok, Err}
use Rattle.std.specs.Result.{result_unwrap_or}
use Rattle.sector_check.specs.declared.repairing.Report.{Report}
use Rattle.sector_check.specs.Reports.{report_number}
use Rattle.layout.specs.declared.answer.Refusal.{Refusal}

-- the sectors that a work step wrote; a refused step reports 0
abbrev pub reported : Result ℕ Refusal → ℕ
reported outcome = result_unwrap_or outcome 0

-- the same of a repair, whose report has a number
abbrev pub repair_reported : Result Report Refusal → ℕ
repair_reported (Ok report) = report_number report
repair_reported (Err refusal) = 0

-- the answer in bits 32 to 63; in bits 0 to 31 the sectors that a work step wrote, or the report of a repair
abbrev pub result_of : ℕ → ℕ → ℕ
result_of answer number = 4294967296 * answer + number
