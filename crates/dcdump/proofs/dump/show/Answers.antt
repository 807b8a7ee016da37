use mathlib.Core.Path.{ap}
use Prim.Native.Nat.{ℕ}
use Rattle.print.proofs.Puts.{put_same}
use Rattle.verdict.specs.Checks.{first_fault}
use Rattle.verdict.specs.Verdict.{answer_of}
use Rattle.verdict.proofs.Gives.{given, refuses}
use Rattle.outline.specs.Outlined.{outline_checks}
use Rattle.dcdump.specs.Output.{report_accepted}
use Rattle.dcdump.proofs.Written.{reported, shown-fits, shown-accepted}
use Rattle.layout.specs.declared.Edition.TheVariants.{Bits64}
use Rattle.dcdump.proofs.dump.show.Goals as goal

pub put_outline-requires : goal.put_outline-requires
put_outline-requires c = let o = c.write_outline in
    shown-fits _ _ c.zeros-text.ensures (given (rw c.from-source.ensures at o.ensures.answer) c.in-Ok.is) o.new.out o.auto.out

pub returns-in-Ok : goal.returns-in-Ok
returns-in-Ok c = let o = c.write_outline in
    let e = c.from-source.ensures in
    put_same (shown-accepted _ _ c.zeros-text.ensures (given (rw e at o.ensures.answer) c.in-Ok.is) _ _ (rw e at o.ensures.buffer) (ap answer_of c.in-Ok.is)) c.put_outline.ensures

pub returns-in-Err : goal.returns-in-Err
unfolding report_accepted
returns-in-Err c = let x = c.args.accepted.now.file.now in
    put_same (reported (report_accepted x) (λ (r : ℕ). first_fault (outline_checks Bits64 x r)) (refuses (rw c.from-source.ensures at c.write_outline.ensures.answer) c.in-Err.is) c.zeros-text.ensures)
    c.put_refused.ensures
