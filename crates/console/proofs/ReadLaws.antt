-- Laws of reading into a buffer, one read after the other.
use mathlib.Core.Path.{◌≡◌, sym, ap, ◌∙◌, subst}
use Prim.Native.Nat.{ℕ, ◌+◌, ◌≤◌}
use native.Mathlib.Omega.{arith}
use mathlib.Core.List.{List, ◌++◌}
use lib.ListN.{length, take, drop}
use lib.Seq.{take-add, drop_at, length-take-le, take-append-le}
use Rattle.std.proofs.lemmas.Slice.{take-put_mid_below}
use borrow.Rule.Slice.PartMut.{put_mid, post_of}
use Rattle.std.specs.declared.option.Option.{Option}
use Rattle.std.specs.Io.KnownBytes.{Consumes}
use Rattle.std.proofs.KnownBytes.{Consumes-trans}

-- a buffer whose first `done` bytes stay, and after which a read put n bytes: its start is these, one after the other
filled-further : (done room n : ℕ) (buf more : List ℕ) → done ≤ length buf → n ≤ length more
    → take (done + n) (put_mid done room buf more) ≡ take done buf ++ take n more
filled-further done room n buf more h m =
    let after = post_of done room buf in
    take-add done n (put_mid done room buf more)
    ∙ ap (λ (l : List ℕ). l ++ take n (drop done (put_mid done room buf more))) (take-put_mid_below done room buf more done (omega arith) h)
    ∙ ap (λ (l : List ℕ). take done buf ++ take n l) (drop_at (take done buf) (more ++ after) done (length-take-le done buf h))
    ∙ ap (λ (l : List ℕ). take done buf ++ l) (take-append-le n more after m)

pub read_further : (done room n : ℕ) (buf more : List ℕ) (first mid last : Option (List ℕ)) → done ≤ length buf → n ≤ length more
    → Consumes first mid (take done buf) → Consumes mid last (take n more)
    → Consumes first last (take (done + n) (put_mid done room buf more))
read_further done room n buf more first mid last h m u w =
    subst (Consumes first last) (sym (filled-further done room n buf more h m)) (Consumes-trans _ _ _ _ _ u w)
