-- Numbers in runs of bytes, low byte first.
use Rattle.std.specs.Prelude.{ℕ, zero, suc, ◌+◌, ◌*◌, ◌/◌, ◌%◌, List, [], ◌∷◌, get_or}
use Rattle.std.proofs.lemmas.List.Edits.{sets}

-- the k bytes of v
unfoldable pub le : ℕ → ℕ → List ℕ
le zero v = []
le (suc k) v = v % 256 ∷ le k (v / 256)

-- the number whose k bytes are in s from at
unfoldable pub get : ℕ → List ℕ → ℕ → ℕ
get zero s at = 0
get (suc k) s at = get_or s at 0 + 256 * get k s (suc at)

-- s with the k bytes of v stored from at
unfoldable pub put : ℕ → List ℕ → ℕ → ℕ → List ℕ
put k s at v = sets s at (le k v)
