use native.Mathlib.Omega.{arith}
use mathlib.Core.Path.{◌∙◌}
use Rattle.verdict.proofs.Gives.{gives_ok, gives_exit, given, refuses, clean_of, refused_of}
use Rattle.layout.specs.Layout.{names_at, footer_at}
use Rattle.layout.specs.declared.Edition.TheVariants.{Bits64}
use Rattle.layout.proofs.Accepted.{front_end, values_end, names_end, layout_iff}
use Rattle.layout.proofs.Ways.{values-scanned, names-scanned, front_refused, values-refused, names-refused, footer_left}
use Rattle.layout.proofs.whole.along.Goals as goal

pub returns-in_err-front : goal.returns-in_err-front
returns-in_err-front c = gives_exit _ _ c.from_residual.ensures.1 (front_refused Bits64 _ (refuses c.scan_front.ensures c.in_err-front.was))

pub scan_table-requires : goal.scan_table-requires
scan_table-requires c = let f = given c.scan_front.ensures c.in_ok-front.was in
    let e = front_end Bits64 _ f.0 in
    (omega (arith, f.1.end), e.1)

pub returns-in_err-values : goal.returns-in_err-values
returns-in_err-values c = let f = given c.scan_front.ensures c.in_ok-front.was in
    let v = values-scanned Bits64 _ f.1.end c.requires.0 c.scan_table.ensures in
    gives_exit _ _ c.from_residual-in_err-values.ensures.1 (values-refused Bits64 _ f.0 (refuses v c.in_err-values.was))

pub scan_table-requires-2 : goal.scan_table-requires-2
unfolding names_at
scan_table-requires-2 c = let f = given c.scan_front.ensures c.in_ok-front.was in
    let v = given (values-scanned Bits64 _ f.1.end c.requires.0 c.scan_table.ensures) c.in_ok-values.was in
    (omega (arith, v.1.end, values_end Bits64 _ v.0), (front_end Bits64 _ f.0).1)

pub returns-in_err-names : goal.returns-in_err-names
unfolding names_at
returns-in_err-names c = let f = given c.scan_front.ensures c.in_ok-front.was in
    let v = given (values-scanned Bits64 _ f.1.end c.requires.0 c.scan_table.ensures) c.in_ok-values.was in
    let m = names-scanned Bits64 _ v.1.end c.requires.1 c.scan_table-2.ensures in
    gives_exit _ _ c.from_residual-in_err-names.ensures.1 (names-refused Bits64 _ f.0 v.0 (refuses m c.in_err-names.was))

pub footer-requires : goal.footer-requires
unfolding names_at footer_at
footer-requires c = let f = given c.scan_front.ensures c.in_ok-front.was in
    let v = given (values-scanned Bits64 _ f.1.end c.requires.0 c.scan_table.ensures) c.in_ok-values.was in
    let m = given (names-scanned Bits64 _ v.1.end c.requires.1 c.scan_table-2.ensures) c.in_ok-names.was in
    (m.1.end, omega (arith, m.1.end, names_end Bits64 _ m.0))

pub returns-in_err-footer : goal.returns-in_err-footer
unfolding names_at
returns-in_err-footer c = let f = given c.scan_front.ensures c.in_ok-front.was in
    let v = given (values-scanned Bits64 _ f.1.end c.requires.0 c.scan_table.ensures) c.in_ok-values.was in
    let m = given (names-scanned Bits64 _ v.1.end c.requires.1 c.scan_table-2.ensures) c.in_ok-names.was in
    gives_exit _ _ c.from_residual-in_err-footer.ensures.1 (footer_left Bits64 _ f.0 v.0 m.0 ∙ refused_of c.footer.ensures c.in_err-footer.was)

pub returns : goal.returns
unfolding names_at
returns c = let f = given c.scan_front.ensures c.in_ok-front.was in
    let v = given (values-scanned Bits64 _ f.1.end c.requires.0 c.scan_table.ensures) c.in_ok-values.was in
    let m = given (names-scanned Bits64 _ v.1.end c.requires.1 c.scan_table-2.ensures) c.in_ok-names.was in
    let z = footer_left Bits64 _ f.0 v.0 m.0 ∙ clean_of c.footer.ensures c.in_ok-footer.was in
    gives_ok z (
    record {
      laid = (layout_iff Bits64 _).0 z;
      attributes-at = f.1.attributes-at;
      nodes-at = f.1.nodes-at;
      values-at = f.1.end;
      value_list = v.1.list;
      names-at = v.1.end;
      name_list = m.1.list;
      value_buckets = v.1.buckets;
      name_buckets = m.1.buckets;
    }
    )
