use Rattle.print.proofs.Puts.{put_same}
use Rattle.outline.proofs.Written.{true_is, false_is}
use Rattle.outline.proofs.values.put_truth.Goals as goal

pub returns-then-t : goal.returns-then-t
returns-then-t c = put_same (true_is _ c.if-t.true) c.put_bytes.ensures

pub returns : goal.returns
returns c = put_same (false_is _ c.if-t.false) c.put_bytes-2.ensures
