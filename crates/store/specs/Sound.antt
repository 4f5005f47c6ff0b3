-- A record is sound if it is the record of values that meet document 01's clauses.
use Rattle.std.specs.Prelude.{Bool, true, not, ◌&&◌, ℕ, List, [], ◌∷◌, length, eqb, leb, ltb}
use Rattle.wire.specs.Bytes.{same}
use Rattle.model.specs.Sizes.{native_limit, history_size}
use Rattle.model.specs.Device.{Fill, idle, running, Transfer, none, table, fill_data, read_long, write_long, Command, Settings, Device}
use Rattle.model.specs.Key.{timer_named, states_named}
use Rattle.model.specs.Fill.{running_code}
use Rattle.model.specs.Valid.{pending_count, pending_limit}
use Rattle.store.specs.Areas.{record_size}
use Rattle.store.specs.Record.{encode, decode}
use Rattle.store.specs.Areas.{Record}

-- "if a fill runs, first ≤ next < end ≤ V"; "the stored code is FFFFh exactly while a fill runs"
abbrev pub fill_sound : ℕ → ℕ → Fill → Bool
fill_sound visible code idle = not (eqb code running_code)
fill_sound visible code (running first next end) = eqb code running_code && leb first next && ltb next end && leb end visible

-- "an owed fill has first < end ≤ V"; W-202: "In a sound record an owed Long transfer has its LBA below V."
abbrev pub transfer_sound : ℕ → Transfer → Bool
transfer_sound visible none = true
transfer_sound visible table = true
transfer_sound visible (fill_data first end) = ltb first end && leb end visible
transfer_sound visible (read_long lba) = ltb lba visible
transfer_sound visible (write_long lba) = ltb lba visible

abbrev pub pending_sound : ℕ → List Transfer → Bool
pending_sound visible [] = true
pending_sound visible (t ∷ ts) = transfer_sound visible t && pending_sound visible ts

-- "a fill and an owed transfer never coexist", and at most one transfer is pending
unfoldable pub command_sound : ℕ → Command → Bool
command_sound visible c =
    fill_sound visible c.code c.fill
    && pending_sound visible c.pending
    && leb (pending_count c.pending) (pending_limit c.fill)

-- "each timer is 0 or at least 10, the interval is 1 or more"; "every .. feature state has one of its named values"
unfoldable pub settings_sound : Settings → Bool
settings_sound s =
    timer_named s.read_timer
    && timer_named s.write_timer
    && states_named s.write_cache.state s.reordering.state s.log_interval.state

-- "1 ≤ V ≤ N ≤ 65,536"; W-207: "Sound records .. take the new limit"; "minutes counted are below it, the history index is at most 477"
unfoldable pub device_sound : Device → Bool
device_sound d =
    (leb 1 d.visible && leb d.visible d.native && leb d.native native_limit)
    && command_sound d.visible d.command
    && settings_sound d.settings
    && (ltb d.thermal.minutes d.settings.log_interval.state && ltb d.thermal.index history_size)

-- "it has 1,024 bytes"; "every stage, port, mark, flag .. has one of its named values; spare bytes are zero": what the record decodes to
-- encodes to the same bytes.
unfoldable pub sound : Record → Bool
sound r = eqb (length r) record_size && same (encode (decode r)) r && device_sound (decode r).device
