use Rattle.prefetch.proofs.Rights.{RowsTrusted}
use Prim.Native.Nat.{ℕ, ◌+◌, ◌-◌, ◌*◌, ◌≤◌, ◌<◌}
use mathlib.Core.Path.{◌≡◌}
use lib.ListN.{length}
use Rattle.region.specs.Region.{start_of}
use Rattle.layout.specs.Edition.{attribute_size}
use Rattle.layout.specs.Layout.{attributes_at}
use Rattle.layout.specs.declared.Edition.TheVariants.{Bits64}
use Rattle.memo.specs.inner.Memo.{Remembers}
use Rattle.nodes.specs.inner.Doubts.{Trusted}
use Rattle.nodes.specs.inner.Noted.{noted}
use Rattle.prefetch.proofs.all.find_doubts.Given as goal

abbrev pub invariant-loop-el : goal.invariant-loop-el
invariant-loop-el l = (l.el ≤ l.used) × (length l.slots ≡ 64) × RowsTrusted Bits64 l.b l.doubts.places l._seg × ((i : ℕ) → i < l.el → Trusted Bits64 l.b l.doubts.places (l.at + 8 + i * attribute_size Bits64)) × Remembers (noted l.b) l.memo

abbrev pub decreases-loop-el : goal.decreases-loop-el
decreases-loop-el l = l.used - l.el

abbrev pub invariant-loop-seg : goal.invariant-loop-seg
invariant-loop-seg l = (l.at ≡ start_of (attribute_size Bits64) l.b (attributes_at l.b) l._seg) × (length l.slots ≡ 64) × RowsTrusted Bits64 l.b l.doubts.places l._seg × Remembers (noted l.b) l.memo
