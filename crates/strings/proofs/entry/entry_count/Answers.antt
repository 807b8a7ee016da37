use Prim.Native.Nat.{◌+◌, ◌*◌}
use mathlib.Core.Path.{◌≡◌, ◌∙◌}
use native.Mathlib.Omega.{arith}
use Rattle.layout.specs.Table.{entries}
use Rattle.strings.specs.inner.Lent.{lent_table}
use Rattle.strings.proofs.Places.{ends_at, last_end}
use Rattle.strings.proofs.entry.entry_count.Goals as goal
use Rattle.strings.proofs.entry.entry_count.Goals.{Joined-k-table, then-k-table, else-k-table}

-- the bucket ends where the next one starts, or the address count stands
ends : (c : Joined-k-table) → let a = c.args in c.if-k-table.end ≡ c.wide-at.result + 4 + 16 * entries (lent_table a.table.now) a.k
ends c = let h = c.args.table.now.held in
    ends_at _ _ _ _ h _ _ _ c.requires c.wide-at.ensures.0
    (elim c.if-k-table.branch [
      | then-k-table w ↦ w.end-is ∙ w.wide-end.ensures.0 ∙ h.bucket_starts.at _ w.if-k-table.true
      | else-k-table w ↦ w.end-is ∙ last_end _ _ _ _ h _ c.requires w.if-k-table.false
    ])

pub overflow_sub-result : goal.overflow_sub-result
overflow_sub-result c = omega (arith, ends (goal.at.overflow_sub-result c).Joined-k-table)

pub overflow_sub-result-2 : goal.overflow_sub-result-2
overflow_sub-result-2 c = omega (arith, ends (goal.at.overflow_sub-result-2 c).Joined-k-table)

pub returns : goal.returns
returns c = omega (arith, ends (goal.at.returns c).Joined-k-table)
