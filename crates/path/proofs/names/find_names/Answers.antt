use Prim.Native.Nat.{ℕ}
use mathlib.Core.Path.{◌≡◌, subst}
use native.Mathlib.Omega.{arith}
use Rattle.text.specs.Text.{chars}
use Rattle.strings.specs.inner.Lent.{lent_table}
use Rattle.lookup.specs.Kinds.{told_in}
use Rattle.lookup.specs.declared.Kind.TheVariants.{Name}
use Rattle.lookup.proofs.Parts.{slice_text}
use Rattle.layout.specs.declared.Edition.TheVariants.{Bits64}
use Rattle.tree.specs.Chain.{deepest_level}
use Rattle.path.specs.inner.Indices.{WantedIs}
use Rattle.path.proofs.Bearers.{found_bears, unfound_bears, index-low}
use Rattle.path.proofs.Lookups.{sofar_start, sofar_more, sofar_absent, sofar_long, sofar_all}
use Rattle.path.proofs.names.find_names.Goals as goal
use Rattle.path.proofs.names.find_names.Goals.{After-find_text}

-- what the lookup tells, of the name's characters
told : (c : After-find_text) → let a = c.args in c.find_text.result ≡ told_in Name (lent_table a.checked.now.table) (chars a.path.now c.loop-count.at c.name_length-n.result)
told c = rw (slice_text c.args.path.now c.loop-count.at c.name_length-n.result (omega (arith, c.name_length-n.ensures.within))) at c.find_text.ensures

pub loop-count-init : goal.loop-count-init
loop-count-init c = sofar_start Bits64 _ _

pub returns-then-at-path : goal.returns-then-at-path
returns-then-at-path c = sofar_all c.requires.1 c.loop-count.invariant c.if-at-path.true

pub returns-then-at-path-2 : goal.returns-then-at-path-2
returns-then-at-path-2 c = sofar_long c.requires.1 c.loop-count.invariant c.if-at-path-2.true (omega (arith, c.loop-count.invariant.few))

pub returns : goal.returns
returns c =
    let w = c.loop-count.invariant in
    let e : c.loop-count.count ≡ deepest_level = omega (arith, w.few) in
    subst (λ (k : ℕ). WantedIs Bits64 c.args.checked.now.table.file.now c.args.path.now (record { count = k; indices = c.loop-count.indices })) e (sofar_all c.requires.1 w (omega (arith, c.if-at-path-2.false, w.within)))

pub returns-in_default : goal.returns-in_default
returns-in_default c = sofar_absent c.requires.1 c.loop-count.invariant _ c.name_length-n.ensures
    (unfound_bears Bits64 _ _ c.args.checked.now.checked c.requires.0 (told (goal.at.returns-in_default c).After-find_text) c.in_default.not-Found)

pub overflow_cast-indices : goal.overflow_cast-indices
overflow_cast-indices c = record { fits = index-low Bits64 _ _ _ _ c.requires.0 c.args.checked.now.table.held.laid (found_bears Bits64 _ _ c.args.checked.now.checked c.requires.0 (told (goal.at.overflow_cast-indices c).After-find_text) c.in-Found.is) }

pub loop-count-preserved : goal.loop-count-preserved
loop-count-preserved c =
    sofar_more c.requires.1 c.loop-count.invariant _ c.name_length-n.ensures c.loop-count-test.true _ (found_bears Bits64 _ _ c.args.checked.now.checked c.requires.0 (told (goal.at.loop-count-preserved c).After-find_text) c.in-Found.is)
