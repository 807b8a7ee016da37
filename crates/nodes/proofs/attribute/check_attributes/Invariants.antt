use mathlib.Core.Path.{◌≡◌}
use Rattle.verdict.specs.Checks.{first_fault}
use Rattle.memo.specs.inner.Memo.{Remembers}
use Rattle.layout.specs.declared.Edition.TheVariants.{Bits64}
use Rattle.nodes.specs.Order.{node_attribute_checks}
use Rattle.nodes.specs.inner.Noted.{noted}
use Rattle.nodes.proofs.Attributes.{attributes_left}
use Rattle.nodes.proofs.attribute.check_attributes.Given as goal

abbrev pub invariant-loop-i : goal.invariant-loop-i
invariant-loop-i l = (first_fault (node_attribute_checks Bits64 l.values.checked.table.file.now l.p) ≡ attributes_left Bits64 l.values.checked.table.file.now l.p l.i) × Remembers (noted l.values.checked.table.file.now) l.memo
