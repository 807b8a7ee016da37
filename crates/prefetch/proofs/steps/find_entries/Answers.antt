use Prim.Native.Nat.{ℕ}
use lib.ListN.{get_or}
use borrow.Author.Rules.{rules}
use native.Mathlib.Omega.{arith}
use Rattle.std.proofs.lemmas.Iterator.{cases_from_all, YieldsList-from_range}
use Rattle.strings.specs.Rules.{EntryAddress}
use Rattle.strings.specs.inner.Lent.{lent_table}
use Rattle.nodes.specs.Attribute.{text_segment, text_element}
use Rattle.prefetch.proofs.Rights.{found_at, sure_below}
use Rattle.prefetch.proofs.steps.find_entries.Goals as goal

pub returns : goal.returns
returns c =
    let g = c.args in
    let Yes : ℕ → Type 0 = λ x. EntryAddress (lent_table g.table.now) (text_segment g.table.now.file.now (get_or g.slots.now x 0)) (text_element g.table.now.file.now (get_or g.slots.now x 0)) in
    sure_below _ _ _ (cases_from_all _ _ _ Yes (λ x. Unit {0}) c.all.ensures.ran (YieldsList-from_range 0 g.n g.n (cc) (omega arith)) (λ x q k. search (rules, found_at)) (λ x q k. tt))
