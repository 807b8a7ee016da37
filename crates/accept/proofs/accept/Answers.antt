-- `accept::accept` meets its contract: the layout first, then all else. Assumes nothing.
use Rattle.verdict.proofs.Gives.{gives_exit, refuses}
use Rattle.layout.specs.declared.Edition.TheVariants.{Bits64}
use Rattle.accept.proofs.Groups.{layout_refused}
use Rattle.accept.proofs.accept.Goals as goal

pub returns-in_err-v : goal.returns-in_err-v
returns-in_err-v c = let s = layout_refused Bits64 _ _ (refuses c.check_layout.ensures c.in_err-v.was) in
    record { answer = gives_exit _ _ c.from_residual.ensures.1 s.0; workspace = s.1 }
