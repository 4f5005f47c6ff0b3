-- A record in which the bytes that no write changes have their values.
use Rattle.std.specs.Prelude.{◌≡◌, true, ℕ, List, length}
use Rattle.store.specs.Areas.{record_size, head_size}
use Rattle.store.specs.RecordTests.{spare_runs, zero_runs, table_fixed}

pub record Framed (r : List ℕ) : Type 0 where
  pub size : length r ≡ record_size
  pub spare : zero_runs spare_runs r ≡ true
  pub fixed : table_fixed r head_size ≡ true
