-- The answers by number, from document 01's table "No. Meaning".
use Rattle.std.specs.Prelude.{ℕ, Result, Ok, Err}
use Rattle.layout.specs.declared.answer.Refusal.{Refusal}
use Rattle.layout.specs.declared.answer.Refusal.TheVariants.{BadPort, BadLength, BadStage, BadRecord, BadValue, BadImage, OtherDisk, ImageFull, OtherTimers}

abbrev pub number_of : Refusal → ℕ
number_of BadPort = 1
number_of BadLength = 2
number_of BadStage = 3
number_of BadRecord = 4
number_of BadValue = 5
number_of BadImage = 6
number_of OtherDisk = 7
number_of ImageFull = 8
number_of OtherTimers = 9

-- 0 for a call that was done, whatever it gives
abbrev pub answer_of : {A : Type 0} → Result A Refusal → ℕ
answer_of (Ok given) = 0
answer_of (Err refusal) = number_of refusal
