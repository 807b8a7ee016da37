use native.Mathlib.Omega.{arith}
use mathlib.Core.Path.{◌≡◌, sym, ◌∙◌}
use borrow.Author.Rules.{rules}
use Rattle.std.specs.Prelude.{Some}
use Rattle.frames.proofs.Written.{write_start, write_next, write_more, write_end}
use Rattle.frames.proofs.write_bytes.Goals as goal

pub loop-i-init : goal.loop-i-init
loop-i-init c = write_start c.requires.input_value c.requires.input_len c.requires.k_in_bounds

pub overflow_add-p : goal.overflow_add-p
overflow_add-p c = record { fits = let x = write_next c.loop-i.invariant c.loop-i-test.true in omega (arith, x.room) }

pub digit_pair-requires : goal.digit_pair-requires
digit_pair-requires c = (write_next c.loop-i.invariant c.loop-i-test.true).room

pub unwrap-requires : goal.unwrap-requires
unwrap-requires c = let x = write_next c.loop-i.invariant c.loop-i-test.true in let e : c.digit_pair.result ≡ Some x.value = c.digit_pair.ensures ∙ x.pair in search rules

pub loop-i-preserved : goal.loop-i-preserved
loop-i-preserved c = write_more c.loop-i.invariant _ c.unwrap.result (omega arith) c.loop-i-test.true (sym c.unwrap.ensures ∙ c.digit_pair.ensures)

pub returns : goal.returns
returns c = write_end c.loop-i.invariant c.loop-i-test.false
