-- Where the buckets stand. Assumes nothing.
use Prim.Native.Nat.{ℕ, ◌≤◌}
use native.Mathlib.Omega.{arith}
use mathlib.Core.Path.{◌≡◌, ◌∙◌}
use mathlib.Core.List.{List}
use lib.ListN.{length, get_or}
use Rattle.layout.specs.Table.{bucket_at, list_at}
use Rattle.layout.proofs.Laws.{bucket-order}
use Rattle.strings.specs.inner.Held.{Held, held_table}
use Rattle.strings.specs.declared.Strings.{Strings}

-- the first bucket stands before the address count, by what is read as its start
pub buckets_held : (b : List ℕ) (s : Strings) (segments buckets : List ℕ) → Held b s segments buckets → {x : ℕ} → x ≡ get_or buckets 0 0
    → (x ≡ bucket_at (held_table b s buckets) 0) × (x ≤ s.list)
unfolding list_at
buckets_held b s segments buckets h {x} e =
    let z : x ≡ bucket_at (held_table b s buckets) 0 = e ∙ h.bucket_starts.at 0 h.some-bucket in
    (z, omega (arith, z, h.list, bucket-order (held_table b s buckets) 0 (length buckets) h.some-bucket))
