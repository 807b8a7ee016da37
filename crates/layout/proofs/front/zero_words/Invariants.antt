-- What is left to find wrong from word i on is what is to be found wrong in all.
use Prim.Native.Nat.{◌+◌, ◌-◌, ◌*◌, ◌≤◌}
use mathlib.Core.Path.{◌≡◌}
use lib.ListN.{length}
use Rattle.verdict.specs.Checks.{first_fault, each}
use Rattle.layout.specs.Header.{zero_word_checks}
use Rattle.layout.proofs.front.zero_words.Given as goal

abbrev pub invariant-loop-i : goal.invariant-loop-i
invariant-loop-i l = record {
  inside : 16 + 4 * l.i ≤ length l.b;
  rest : first_fault (each (zero_word_checks l.b) 4 0) ≡ first_fault (each (zero_word_checks l.b) (4 - l.i) l.i);
}
