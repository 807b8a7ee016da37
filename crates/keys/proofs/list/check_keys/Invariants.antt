use mathlib.Core.Path.{◌≡◌}
use Rattle.verdict.specs.Checks.{first_fault}
use Rattle.layout.specs.declared.Edition.TheVariants.{Bits64}
use Rattle.keys.specs.Order.{all_key_checks}
use Rattle.keys.proofs.Laws.{keys_left}
use Rattle.keys.proofs.list.check_keys.Given as goal

abbrev pub invariant-loop-k : goal.invariant-loop-k
invariant-loop-k l = first_fault (all_key_checks Bits64 l.b) ≡ keys_left Bits64 l.b l.k
