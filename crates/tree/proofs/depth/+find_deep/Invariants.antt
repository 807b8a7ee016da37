use Prim.Native.Nat.{◌+◌, ◌-◌}
use mathlib.Core.Path.{◌≡◌}
use Rattle.layout.specs.declared.Edition.TheVariants.{Bits64}
use Rattle.tree.specs.Chain.{ends}
use Rattle.tree.specs.File.{tree_of}
use Rattle.tree.specs.inner.Marking.{first_place}
use Rattle.tree.proofs.Deepest.{deep_from}
use Rattle.tree.proofs.depth.+find_deep.Given as goal

abbrev pub decreases-find_deep : goal.decreases-find_deep
decreases-find_deep l = l.left

abbrev pub invariant-loop-j : goal.invariant-loop-j
invariant-loop-j l = first_place Bits64 l.nodes.file.now (ends (tree_of Bits64 l.nodes.file.now) l.left l.a) ≡ deep_from Bits64 l.nodes.file.now (l.left - 1) (l.k.first + l.j) (l.k.count - l.j)
