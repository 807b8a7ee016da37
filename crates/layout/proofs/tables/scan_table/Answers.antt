use native.Mathlib.Omega.{arith}
use mathlib.Core.Path.{sym, ◌∙◌}
use Rattle.verdict.proofs.Gives.{gives_ok, gives_exit, given, refuses}
use Rattle.layout.proofs.Laws.{bucket-first}
use Rattle.layout.proofs.Accepted.{region_end, list_in}
use Rattle.layout.proofs.Ways.{characters_stop, rows_stop, list_left}
use Rattle.layout.proofs.tables.scan_table.Goals as goal

pub returns-in_err-from : goal.returns-in_err-from
returns-in_err-from c = gives_exit _ _ c.from_residual.ensures.1 (characters_stop _ _ (refuses c.lay.ensures c.in_err-from.was))

pub check_buckets-requires : goal.check_buckets-requires
check_buckets-requires c = let r = given c.lay.ensures c.in_ok-from.was in
    (r.1 ∙ sym (bucket-first _), omega (arith, r.1, region_end _ _ _ r.0), c.requires.1)

pub returns-in_err-list : goal.returns-in_err-list
returns-in_err-list c = let r = given c.lay.ensures c.in_ok-from.was in
    gives_exit _ _ c.from_residual-in_err-list.ensures.1 (rows_stop _ _ r.0 (refuses c.check_buckets.ensures c.in_err-list.was))

pub check_list-requires : goal.check_list-requires
check_list-requires c = let r = given c.lay.ensures c.in_ok-from.was in
    let k = given c.check_buckets.ensures c.in_ok-list.was in
    (k.1.end, omega (arith, k.1.end, list_in _ r.0 k.0))

pub returns-in_err-end : goal.returns-in_err-end
returns-in_err-end c = let r = given c.lay.ensures c.in_ok-from.was in
    let k = given c.check_buckets.ensures c.in_ok-list.was in
    gives_exit _ _ c.from_residual-in_err-end.ensures.1 (list_left _ _ r.0 k.0 ∙ refuses c.check_list.ensures c.in_err-end.was)

pub returns : goal.returns
returns c = let r = given c.lay.ensures c.in_ok-from.was in
    let k = given c.check_buckets.ensures c.in_ok-list.was in
    let l = given c.check_list.ensures c.in_ok-end.was in
    gives_ok (list_left _ _ r.0 k.0 ∙ l.0) (record { list = k.1.end; end = l.1; buckets = k.1.buckets })
