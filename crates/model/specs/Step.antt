-- The steps of the machine: what each is fed, why it is refused, what it does and what is seen of it; lists of steps.
use Rattle.std.specs.Prelude.{Bool, true, false, ℕ, ◌+◌, List, [], ◌∷◌, length, eqb, ltb}
use Rattle.wire.specs.Choice.{between, Check, first_failed, Guarded, attempt}
use Rattle.model.specs.Sizes.{port_count, mailbox_size, entry_size, done, bad_port, bad_length, bad_stage, bad_value}
use Rattle.model.specs.Device.{Device}
use Rattle.model.specs.Disk.{Disk, native_size}
use Rattle.model.specs.Fill.{Volume, work_count}
use Rattle.model.specs.Fill.{work as work_volume}
use Rattle.model.specs.Decide.{Serving, Decision, decide}
use Rattle.model.specs.Perform.{volume_after, fill_sector_after, reply_of}
use Rattle.model.specs.Owner.{set_lock, sample as sample_device}
use Rattle.model.specs.Owner.{set_visible as set_visible_device}
use Rattle.model.specs.Repair.{repair_report}
use Rattle.model.specs.Repair.{repair as repair_volume}
use Rattle.model.specs.Image.{save_checks, saved_image, power_on_checks, restored}
use Rattle.model.specs.Image.{power_on as power_on_device}
use Rattle.model.specs.Machine.{Port, empty, request, reply, Machine, machine, with_port, held_bytes}
use Rattle.model.specs.Buffers.{Image, Mailbox}

-- the owner steps that change only the device
pub data OwnerStep : Type 0 where
  lock : OwnerStep
  unlock : OwnerStep
  set_visible : ℕ → OwnerStep
  sample : ℕ → OwnerStep

-- "fed only port, n, V, reading, mailbox and image with its used length"; W-202: "the mending owner step, its LBA fed"
pub data Step : Type 0 where
  take : ℕ → Mailbox → Step
  serve : Serving → Step
  give : ℕ → Mailbox → Step
  work : ℕ → Step
  owner : OwnerStep → Step
  repair : ℕ → Step
  save : Image → ℕ → Step
  power_on : Image → ℕ → Step

-- What the firmware sees of a step: the answer number, the count of sectors written, the report of a repair, the mailbox, the image and
-- its used length afterwards. A step that has no count or report, or is given no mailbox or image, has 0 and [] there.
pub record Seen : Type 0 where
  pub answer : ℕ
  pub count : ℕ
  pub report : ℕ
  pub mailbox : Mailbox
  pub image : Image
  pub used : ℕ

pub record Outcome (S : Type 0) : Type 0 where
  pub state : S
  pub seen : Seen

-- ---- refusals

abbrev pub is_empty : Port → Bool
is_empty empty = true
is_empty (request m) = false
is_empty (reply m) = false

abbrev pub is_request : Port → Bool
is_request empty = false
is_request (request m) = true
is_request (reply m) = false

abbrev pub is_reply : Port → Bool
is_reply empty = false
is_reply (request m) = false
is_reply (reply m) = true

-- value: "V asked is 0 or above N"
abbrev pub good_value : OwnerStep → Device → Bool
good_value lock d = true
good_value unlock d = true
good_value (set_visible v) d = between 1 v d.native
good_value (sample reading) d = true

-- Port: "port above 3"; length: "a lent buffer isn't of its size"; stage: "slot not in the stage the step needs"; value: "mending at or above V
-- is answer 5".
abbrev pub checks : Step → Machine → List Check
checks (take p m) M = (eqb (length m) mailbox_size, bad_length) ∷ (ltb p port_count, bad_port) ∷ (is_empty (M.ports p), bad_stage) ∷ []
checks (serve s) M = (ltb s.port port_count, bad_port) ∷ (is_request (M.ports s.port), bad_stage) ∷ []
checks (give p m) M = (eqb (length m) mailbox_size, bad_length) ∷ (ltb p port_count, bad_port) ∷ (is_reply (M.ports p), bad_stage) ∷ []
checks (work n) M = []
checks (owner x) M = (good_value x M.device, bad_value) ∷ []
checks (repair lba) M = (ltb lba M.device.visible, bad_value) ∷ []
checks (save image used) M = save_checks M.device.native image used
checks (power_on image used) M = power_on_checks M.disk image used

-- ---- what is seen

abbrev pub answer_only : ℕ → Seen
answer_only n = record { answer = n; count = 0; report = 0; mailbox = []; image = []; used = 0 }

-- a step that is done, with its count
abbrev pub counted : ℕ → Seen
counted n = record { answer = done; count = n; report = 0; mailbox = []; image = []; used = 0 }

-- .. and with its report
abbrev pub reported : ℕ → Seen
reported n = record { answer = done; count = 0; report = n; mailbox = []; image = []; used = 0 }

abbrev pub answered_mailbox : ℕ → Mailbox → Seen
answered_mailbox n m = record { answer = n; count = 0; report = 0; mailbox = m; image = []; used = 0 }

abbrev pub answered_image : ℕ → Image → ℕ → Seen
answered_image n image used = record { answer = n; count = 0; report = 0; mailbox = []; image = image; used = used }

-- an answer that leaves the buffers unchanged
abbrev pub unchanged : Step → ℕ → Seen
unchanged (take p m) n = answered_mailbox n m
unchanged (serve s) n = answer_only n
unchanged (give p m) n = answered_mailbox n m
unchanged (work k) n = answer_only n
unchanged (owner x) n = answer_only n
unchanged (repair lba) n = answer_only n
unchanged (save image used) n = answered_image n image used
unchanged (power_on image used) n = answered_image n image used

-- what is seen of a step that is done
abbrev pub seen_done : Step → Machine → Seen
seen_done (take p m) M = unchanged (take p m) done
seen_done (serve s) M = unchanged (serve s) done
seen_done (give p m) M = answered_mailbox done (held_bytes (M.ports p))
seen_done (work n) M = counted (work_count n M.device.command.fill)
seen_done (owner x) M = unchanged (owner x) done
seen_done (repair lba) M = reported (repair_report lba M.disk)
seen_done (save image used) M = answered_image done (saved_image M.device image used) (used + entry_size)
seen_done (power_on image used) M = unchanged (power_on image used) done

-- ---- what is done

abbrev pub volume : Machine → Volume
volume M = record { device = M.device; disk = M.disk }

-- "Serve carries it out whole by the rules above; the reply replaces it." It "answers the held request from the slot alone".
unfoldable pub serve_decided : ℕ → Decision → Machine → Machine
serve_decided p c M =
    let v = volume_after c M.disk in
    machine v.device (fill_sector_after c.effect.writes M.sector) (with_port p (reply (reply_of c v)) M.ports) v.disk

unfoldable pub served : Serving → Machine → Machine
served s M = serve_decided s.port (decide s (held_bytes (M.ports s.port)) M.device) M

-- "Work writes the fill's sector to the k places from next on and moves next by k"
unfoldable pub worked : ℕ → Machine → Machine
worked n M = let v = work_volume n M.sector (volume M) in machine v.device M.sector M.ports v.disk

-- "Owner steps go by their rules."
abbrev pub owner_rule : OwnerStep → Device → Device
owner_rule lock d = set_lock true d
owner_rule unlock d = set_lock false d
owner_rule (set_visible v) d = set_visible_device v d
owner_rule (sample reading) d = sample_device reading d

unfoldable pub repaired : ℕ → Machine → Machine
repaired lba M = let v = repair_volume lba (volume M) in machine v.device M.sector M.ports v.disk

-- "slots empty": the machine after a power-on with this disk and image
unfoldable pub powered_on : Disk → Image → ℕ → Machine
powered_on disk image used = machine (power_on_device (restored (native_size disk) image used)) [] (λ i. empty) disk

-- "Take copies all 528 bytes before anything is judged. Bytes torn by a core during the copy are simply the request.": 1,040 since W-202
-- "Take keeps the mailbox as the port's request. .. Give delivers it and clears the port."
abbrev pub does : Step → Machine → Machine
does (take p m) M = machine M.device M.sector (with_port p (request m) M.ports) M.disk
does (serve s) M = served s M
does (give p m) M = machine M.device M.sector (with_port p empty M.ports) M.disk
does (work n) M = worked n M
does (owner x) M = machine (owner_rule x M.device) M.sector M.ports M.disk
does (repair lba) M = repaired lba M
does (save image used) M = M
does (power_on image used) M = powered_on M.disk image used

-- ---- a step, and a list of steps

-- "A nonzero answer changes nothing anywhere; work then reports 0." "a refused mending reports 0"
abbrev pub guarded : Step → Machine → Guarded (Outcome Machine)
guarded x M =
    record {
      checks = checks x M;
      done = record { state = does x M; seen = seen_done x M };
      refused = λ n. record { state = M; seen = unchanged x n };
    }

unfoldable pub step : Step → Machine → Outcome Machine
step x M = attempt (guarded x M)

-- the outcome of every step of a list, each from the state that the previous one left
abbrev pub trace : {S : Type 0} → (Step → S → Outcome S) → List Step → S → List (Outcome S)
trace f [] s = []
trace f (x ∷ xs) s = f x s ∷ trace f xs (f x s).state

-- a first power-on: "Start with a power-on that answers 0", on any disk and image
unfoldable pub first_answer : Disk → Image → ℕ → ℕ
first_answer disk image used = first_failed (power_on_checks disk image used)
