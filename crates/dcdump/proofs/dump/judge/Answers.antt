use Rattle.print.proofs.Puts.{put_same}
use Rattle.verdict.proofs.Gives.{given, refuses}
use Rattle.accept.proofs.Accepted.{enough_room}
use Rattle.accept.specs.Verdict.{verdict_of}
use Rattle.dcdump.specs.Output.{report_file}
use Rattle.dcdump.proofs.Written.{reported}
use Rattle.layout.specs.declared.Edition.TheVariants.{Bits64}
use Rattle.dcdump.proofs.dump.judge.Goals as goal

pub invariant_of-show : goal.invariant_of-show
invariant_of-show c = let g = given c.accept.ensures.answer c.in-Ok.is in record { fits = g.1; accepted = enough_room Bits64 _ _ g.0 }

pub returns-in-Ok : goal.returns-in-Ok
unfolding report_file
returns-in-Ok c = put_same (reported (report_file _) (verdict_of Bits64 _) (given c.accept.ensures.answer c.in-Ok.is).0 c.zeros-ws.ensures) c.show.ensures

pub returns-in-Err : goal.returns-in-Err
unfolding report_file
returns-in-Err c = put_same (reported (report_file _) (verdict_of Bits64 _) (refuses c.accept.ensures.answer c.in-Err.is) c.zeros-ws.ensures) c.put_refused.ensures
