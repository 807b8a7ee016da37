use Prim.Native.Nat.{◌-◌}
use native.Mathlib.Omega.{arith}
use mathlib.Core.Path.{◌≡◌}
use Rattle.verdict.proofs.Gives.{gives_err}
use Rattle.layout.specs.Table.{count}
use Rattle.layout.specs.declared.Edition.TheVariants.{Bits64}
use Rattle.strings.specs.inner.Lent.{lent_table}
use Rattle.strings.proofs.Places.{list_is}
use Rattle.keys.specs.Names.{name_count}
use Rattle.keys.proofs.Laws.{name-count, named_root, named_value, root_top, value_top, too_few, root_alone, value_alone, other_top, not-special}
use Rattle.keys.proofs.special.check_special.Goals as goal
use Rattle.keys.proofs.special.check_special.Goals.{After-u32_at-n, else-listed_is-via-then-listed_is+else-listed_is-2, else-listed_is-via-else-listed_is, else-listed_is-3-via-then-listed_is-3+else-listed_is-4, else-listed_is-3-via-else-listed_is-3, then-n-ge2+else-listed_is+else-listed_is-3, else-n-ge2}

-- the address count that was read, and the highest index by it
counted : (c : After-u32_at-n) → let a = c.args in c.u32_at-n.result ≡ count (lent_table a.checked.now.table)
counted c = list_is _ _ _ _ c.args.checked.now.table.held _ c.u32_at-n.ensures.0

highest : (c : After-u32_at-n) → c.u32_at-n.result - 1 ≡ name_count Bits64 c.args.checked.now.table.file.now
highest c = name-count Bits64 _ _ c.requires _ (counted c)

pub overflow_sub-n : goal.overflow_sub-n
overflow_sub-n c = omega (arith, counted (goal.at.overflow_sub-n c).After-u32_at-n, c.args.checked.now.table.held.laid.some)

pub listed_is-requires : goal.listed_is-requires
listed_is-requires c =
    (omega arith, omega (arith, counted (goal.at.listed_is-requires c).After-u32_at-n))

pub listed_is-requires-then-listed_is : goal.listed_is-requires-then-listed_is
listed_is-requires-then-listed_is c =
    (omega arith, omega (arith, counted (goal.at.listed_is-requires-then-listed_is c).After-u32_at-n))

pub returns-then-listed_is-2 : goal.returns-then-listed_is-2
returns-then-listed_is-2 c =
    root_top Bits64 _ _ c.requires _ (highest (goal.at.returns-then-listed_is-2 c).After-u32_at-n) c.args.checked.now.checked c.if-n-ge2.true
    ((named_root Bits64 _ _ c.requires _ c.listed_is.ensures).so c.if-listed_is.true)
    ((named_value Bits64 _ _ c.requires _ c.listed_is-then-listed_is.ensures).so c.if-listed_is-2.true)

pub listed_is-requires-then-n-ge2 : goal.listed_is-requires-then-n-ge2
listed_is-requires-then-n-ge2 c =
    (omega arith, omega (arith, counted (goal.at.listed_is-requires-then-n-ge2 c).After-u32_at-n))

pub listed_is-requires-then-listed_is-3 : goal.listed_is-requires-then-listed_is-3
listed_is-requires-then-listed_is-3 c =
    (omega arith, omega (arith, counted (goal.at.listed_is-requires-then-listed_is-3 c).After-u32_at-n))

pub returns-then-listed_is-4 : goal.returns-then-listed_is-4
returns-then-listed_is-4 c =
    value_top Bits64 _ _ c.requires _ (highest (goal.at.returns-then-listed_is-4 c).After-u32_at-n) c.args.checked.now.checked c.if-n-ge2.true
    ((named_value Bits64 _ _ c.requires _ c.listed_is-then-n-ge2.ensures).so c.if-listed_is-3.true)
    ((named_root Bits64 _ _ c.requires _ c.listed_is-then-listed_is-3.ensures).so c.if-listed_is-4.true)

pub returns : goal.returns
returns c =
    let e = highest (goal.at.returns c).After-u32_at-n in
    let s = c.requires in
    gives_err (not-special Bits64 _ _ s _ c.args.checked.now.table.held.list
    (elim c.if-n-ge2.branch [
      | then-n-ge2+else-listed_is+else-listed_is-3 u ↦
          let root = named_root Bits64 _ _ s _ u.listed_is.ensures in
          elim u.else-listed_is.branch [
            | else-listed_is-via-then-listed_is+else-listed_is-2 w ↦
                root_alone Bits64 _ _ s _ e (root.so w.if-listed_is.true)
                ((named_value Bits64 _ _ s _ w.listed_is-then-listed_is.ensures).not w.if-listed_is-2.false)
            | else-listed_is-via-else-listed_is w ↦ elim u.else-listed_is-3.branch [
              | else-listed_is-3-via-then-listed_is-3+else-listed_is-4 v ↦
                  value_alone Bits64 _ _ s _ e (root.not w.if-listed_is.false)
                  ((named_root Bits64 _ _ s _ v.listed_is-then-listed_is-3.ensures).not v.if-listed_is-4.false)
              | else-listed_is-3-via-else-listed_is-3 v ↦
                  other_top Bits64 _ _ s _ e (root.not w.if-listed_is.false)
                  ((named_value Bits64 _ _ s _ u.listed_is-then-n-ge2.ensures).not v.if-listed_is-3.false)
            ]
          ]
      | else-n-ge2 u ↦ too_few Bits64 _ _ s _ e u.if-n-ge2.false
    ]))
