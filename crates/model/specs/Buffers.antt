-- Names for runs of bytes, by what they hold.
use Rattle.std.specs.Prelude.{ℕ, List}

-- registers, then data: a request or a reply, in a mailbox or in a slot
abbrev pub Mailbox : Type 0
Mailbox = List ℕ

-- a sector, or what it holds: a key, the status, the temperature table
abbrev pub Sector : Type 0
Sector = List ℕ

-- saved entries
abbrev pub Image : Type 0
Image = List ℕ
