use native.Mathlib.Omega.{arith}
use mathlib.Core.Path.{◌∙◌}
use Rattle.verdict.proofs.Laws.{pass, stop}
use Rattle.verdict.proofs.Gives.{gives_ok, gives_err, gives_exit, given, refuses}
use Rattle.verdict.proofs.Scans.{each_more, each_stop, each_end}
use Rattle.region.specs.Region.{count_of}
use Rattle.region.specs.Checks.{region_checks}
use Rattle.region.proofs.Accepted.{segment_in, region_open, region_end}
use Rattle.region.proofs.Samples.{start_zero}
use Rattle.region.proofs.lay.Goals as goal

pub returns-then-b-at-lt-COUNT_SIZE : goal.returns-then-b-at-lt-COUNT_SIZE
unfolding region_checks
returns-then-b-at-lt-COUNT_SIZE c = gives_err (stop _ _ _ _ _ (λ h. omega arith))

pub returns-then-n-gt65535 : goal.returns-then-n-gt65535
unfolding region_checks count_of
returns-then-n-gt65535 c = gives_err (pass _ _ _ _ _ (omega arith) ∙ stop _ _ _ _ _ (λ h. omega arith))

pub loop-s-init : goal.loop-s-init
loop-s-init c = record {
  inside = omega arith;
  place = start_zero _ _ _;
  rest = region_open _ _ _ _ (omega arith) (omega arith) (omega arith);
}

pub returns-in_err-p : goal.returns-in_err-p
returns-in_err-p c =
    gives_exit _ _ c.from_residual.ensures.1 (c.loop-s.invariant.rest ∙ each_stop _ _ _ (omega arith) (refuses c.check_segment.ensures c.in_err-p.was))

pub loop-s-preserved : goal.loop-s-preserved
loop-s-preserved c = let t = given c.check_segment.ensures c.in_ok-p.was in
    record {
      inside = omega (arith, segment_in _ _ _ _ t.0);
      place = t.1;
      rest = c.loop-s.invariant.rest ∙ each_more _ _ _ _ (omega arith) t.0;
    }

pub returns : goal.returns
returns c = let l = c.loop-s in
    gives_ok (l.invariant.rest ∙ each_end _ _ _ (omega arith)) (region_end _ _ _ l.s _ (omega arith) l.invariant.place)
