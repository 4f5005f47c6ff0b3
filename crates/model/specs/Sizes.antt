-- Sizes, limits and answer numbers of document 01.
use Rattle.std.specs.Prelude.{ℕ, ◌+◌, ◌*◌, List, [], ◌∷◌}

-- "Disk: a lent run of 1 to 65,536 sectors of 512 bytes (native size N)."; W-207: "Raise the native limit to 16,777,216 sectors."
abbrev pub sector_size : ℕ
sector_size = 512

abbrev pub native_limit : ℕ
native_limit = 16777216

-- W-202: "a lent check area, two bytes a sector"
abbrev pub check_size : ℕ
check_size = 2

-- "Ports 0 to 3."
abbrev pub port_count : ℕ
port_count = 4

-- "16 of registers, then" the data: as many sectors as the longest transfer has. W-202: "A long transfer is two sectors, so mailboxes and slots
-- grow to 1,040 bytes"
abbrev pub registers_size : ℕ
registers_size = 16

abbrev pub long_sectors : ℕ
long_sectors = 2

abbrev pub data_size : ℕ
data_size = long_sectors * sector_size

abbrev pub mailbox_size : ℕ
mailbox_size = registers_size + data_size

-- "size 478 at 30; .. history from 34"
abbrev pub history_size : ℕ
history_size = 478

-- "Bytes are two's complement; 80h means missing."
abbrev pub missing : ℕ
missing = 0x80

-- W-203: "Both error recovery timers shall be 70 (7 seconds) at power-on."
abbrev pub power_on_timer : ℕ
power_on_timer = 70

-- "Entries of 560 bytes: 544 of body, a 16-byte trailer at the end."
abbrev pub body_size : ℕ
body_size = 544

abbrev pub trailer_size : ℕ
trailer_size = 16

abbrev pub entry_size : ℕ
entry_size = body_size + trailer_size

-- "image has 117 entries"; "The used length is a multiple of 560, at most 65,520"
abbrev pub entry_limit : ℕ
entry_limit = 117

-- ---- the answers: "No. Meaning"

abbrev pub done : ℕ
done = 0

abbrev pub bad_port : ℕ
bad_port = 1

abbrev pub bad_length : ℕ
bad_length = 2

abbrev pub bad_stage : ℕ
bad_stage = 3

abbrev pub bad_record : ℕ
bad_record = 4

abbrev pub bad_value : ℕ
bad_value = 5

abbrev pub bad_image : ℕ
bad_image = 6

abbrev pub other_disk : ℕ
other_disk = 7

abbrev pub image_full : ℕ
image_full = 8

-- W-204: "going back from timers other than 70 and 70 is answer 9"
abbrev pub other_timers : ℕ
other_timers = 9

-- "Order where several apply: 4, 2, 1, 5, 3, 6, 7, 8."; W-204: "answer 9, after 6"
abbrev pub refusal_order : List ℕ
refusal_order =
    bad_record ∷ bad_length ∷ bad_port ∷ bad_value ∷ bad_stage ∷ bad_image ∷ other_disk ∷ image_full ∷ other_timers ∷ []
