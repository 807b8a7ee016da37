use mathlib.Core.Path.{◌≡◌}
use Rattle.verdict.specs.Checks.{first_fault}
use Rattle.verdict.specs.Verdict.{Accepted, answer_of}
use Rattle.region.specs.Region.{start_of}
use Rattle.layout.specs.Edition.{node_size}
use Rattle.layout.specs.Layout.{nodes_at}
use Rattle.layout.specs.declared.Edition.TheVariants.{Bits64}
use Rattle.memo.specs.inner.Memo.{Remembers}
use Rattle.nodes.specs.inner.Noted.{noted}
use Rattle.nodes.specs.Order.{all_node_checks}
use Rattle.nodes.proofs.Left.{segments_left, nodes_left}
use Rattle.nodes.proofs.all.check_nodes.Given as goal

abbrev pub invariant-loop-el : goal.invariant-loop-el
invariant-loop-el l = record {
  none : answer_of l.answer ≡ Accepted;
  left : first_fault (all_node_checks Bits64 l.b) ≡ nodes_left Bits64 l.b l.seg l.el;
  memo : Remembers (noted l.b) l.memo;
}

abbrev pub invariant-segments : goal.invariant-segments
invariant-segments l = record {
  at_is : l.at ≡ start_of (node_size Bits64) l.b (nodes_at Bits64 l.b) l.seg;
  none : answer_of l.answer ≡ Accepted;
  left : first_fault (all_node_checks Bits64 l.b) ≡ segments_left Bits64 l.b l.seg;
  memo : Remembers (noted l.b) l.memo;
}
