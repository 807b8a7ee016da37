use mathlib.Core.Path.{◌∙◌}
use native.Mathlib.Omega.{arith}
use Rattle.frames.proofs.Pairs.{count_start, count_end, count_newline, count_single, count_other, count_more, count-all}
use Rattle.frames.proofs.count_bytes.Goals as goal

pub loop-k-init : goal.loop-k-init
loop-k-init c = count_start c.requires

pub returns-then-input-at : goal.returns-then-input-at
returns-then-input-at c = count_end c.loop-k.invariant c.if-input-at.true

pub returns-then-input-at-eq10 : goal.returns-then-input-at-eq10
returns-then-input-at-eq10 c = count_newline c.loop-k.invariant c.if-input-at.false c.if-input-at-eq10.true (omega arith)

pub returns-then-input-at-lt2 : goal.returns-then-input-at-lt2
returns-then-input-at-lt2 c = count_single c.loop-k.invariant c.if-input-at.false c.if-input-at-lt2.true c.if-input-at-eq10.false

pub returns-in_err-digit_pair : goal.returns-in_err-digit_pair
returns-in_err-digit_pair c = c.from_residual.ensures ∙ count_other c.loop-k.invariant c.if-input-at-lt2.false c.if-input-at-eq10.false c.digit_pair.ensures c.in_err-digit_pair.was

pub loop-k-preserved : goal.loop-k-preserved
loop-k-preserved c = count_more c.loop-k.invariant _ (omega arith) (omega arith) c.if-input-at-lt2.false c.digit_pair.ensures c.in_ok-digit_pair.was

pub returns : goal.returns
returns c = count-all c.loop-k.invariant c.loop-k-test.false
