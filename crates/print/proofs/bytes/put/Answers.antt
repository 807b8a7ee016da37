use mathlib.Core.Path.{sym}
use Rattle.print.specs.inner.Put.{sat}
use Rattle.print.proofs.Puts.{overlay-one, overlay-past}
use Rattle.print.proofs.bytes.put.Goals as goal
use Rattle.print.proofs.bytes.put.Goals.{then-at-out, else-at-out}

pub returns : goal.returns
unfolding sat
returns c = record {
  next_is = c.saturating_add.ensures;
  bytes_are = elim c.if-at-out.branch [
    | then-at-out w ↦ rw w.out-is (overlay-one c.args.out.now c.args.at c.args.c w.if-at-out.true)
    | else-at-out w ↦ rw w.out-is (sym (overlay-past c.args.out.now c.args.at _ w.if-at-out.false))
  ];
}
