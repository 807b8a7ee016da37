use Rattle.lookup.proofs.Told.{tells_name, tells_value}
use native.Mathlib.Omega.{arith}
use Rattle.lookup.proofs.result_at.Goals as goal

pub returns-in-Name : goal.returns-in-Name
returns-in-Name c = tells_name _ _ _ c.in-Name.is (omega arith)

pub returns-in-Value : goal.returns-in-Value
returns-in-Value c = tells_value _ _ _ c.in-Value.is (omega arith)
