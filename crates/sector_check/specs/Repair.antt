-- What a repair reports, and the sector that it leaves.
use Rattle.std.specs.Prelude.{ℕ, ◌/◌, ◌%◌, List, eqb, if◌then◌else◌}
use Rattle.std.specs.Int.Bits.{bit_xor}
use Rattle.sector_check.specs.Check.{check_of, flip}

-- where the stored check and the computed one differ: a one for each bit that does; W-202: "the differing position" is its bits 0 to 11
unfoldable pub difference : ℕ → List ℕ → ℕ
difference stored s = bit_xor stored (check_of s)

-- W-202: "An owner step reports 0 (check equal), 1 (bit 12 differs, 13 to 15 don't ..) or 2 (else)".
-- In a number of 16 bits, what is above bits 0 to 11 is then 1.
unfoldable pub report_of : ℕ → List ℕ → ℕ
report_of stored s =
    if eqb stored (check_of s) then 0
    else if eqb (difference stored s / 4096) 1 then 1
    else 2

-- W-202: "it flips the data bit at the differing position"; "only 1 alters a sector"
unfoldable pub repaired_sector : ℕ → List ℕ → List ℕ
repaired_sector stored s =
    if eqb (report_of stored s) 1 then flip s (difference stored s % 4096) else s
