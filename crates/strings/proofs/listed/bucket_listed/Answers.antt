use Prim.Native.Nat.{ℕ}
use native.Mathlib.Omega.{arith}
use mathlib.Core.Path.{refl}
use borrow.Author.Rules.{rules}
use borrow.Author.Tests.{tests}
use Rattle.strings.specs.Rules.{Indexed}
use Rattle.strings.specs.inner.Lent.{lent_table}
use Rattle.strings.proofs.Every.{every}
use Rattle.strings.proofs.listed.bucket_listed.Goals as goal

pub returns : goal.returns
returns c = λ z j l.
    let a = c.args in
    every _ _ c.all.result c.entry_count-n.result (λ (x : ℕ). Indexed (lent_table a.table.now) a.k x) refl c.all.ensures.ran
    (λ x q k. search (rules, tests)) z j (omega (arith, c.entry_count-n.ensures))
