-- Parts of runs of bytes.
use Rattle.std.specs.Prelude.{ℕ, zero, suc, ◌-◌, List, [], ◌++◌, length, take, drop, replicate}

-- n bytes of l, from b
abbrev pub part : List ℕ → ℕ → ℕ → List ℕ
part l b n = take n (drop b l)

abbrev pub zeros : ℕ → List ℕ
zeros n = replicate n 0

-- l, and zeros up to n bytes in all
unfoldable pub padded : ℕ → List ℕ → List ℕ
padded n l = l ++ zeros (n - length l)

-- n times l
unfoldable pub repeated : ℕ → List ℕ → List ℕ
repeated zero l = []
repeated (suc n) l = l ++ repeated n l
