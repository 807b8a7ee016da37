use mathlib.Core.Path.{sym}
use Rattle.verdict.proofs.Gives.{gives_ok, gives_exit, given, refuses, clean_of, refused_of}
use Rattle.positions.proofs.Laws.{table-accepted, table-refused}
use Rattle.positions.proofs.check_table.Goals as goal

pub returns-in_err-begun : goal.returns-in_err-begun
returns-in_err-begun c = gives_exit _ _ c.from_residual.ensures.1 (sym (table-refused _ (refuses c.check_entries.ensures c.in_err-begun.was)))

pub check_positions-requires : goal.check_positions-requires
check_positions-requires c = (given c.check_entries.ensures c.in_ok-begun.was).0

pub returns-in_err-check_positions : goal.returns-in_err-check_positions
returns-in_err-check_positions c =
    let e = given c.check_entries.ensures c.in_ok-begun.was in
    gives_exit _ _ c.from_residual-in_err-check_positions.ensures.1
    (sym (table-accepted _ e.0 (sym (refused_of c.check_positions.ensures c.in_err-check_positions.was))))

pub is_packed-requires : goal.is_packed-requires
is_packed-requires c = let e = given c.check_entries.ensures c.in_ok-begun.was in (e.0, e.1)

pub returns : goal.returns
returns c =
    let e = given c.check_entries.ensures c.in_ok-begun.was in
    gives_ok (sym (table-accepted _ e.0 (sym (clean_of c.check_positions.ensures c.in_ok-check_positions.was)))) c.is_packed.ensures
