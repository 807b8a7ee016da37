use Prim.Native.Nat.{ℕ, ◌+◌, ◌-◌, ◌^◌, ◌<◌}
use native.Mathlib.Nat.{add-zero}
use native.Mathlib.Omega.{arith}
use mathlib.Core.Path.{◌≡◌, ap, ◌∙◌}
use lib.Bits.{bit_and}
use Rattle.region.specs.Region.{before_of, number_of}
use Rattle.region.proofs.Samples.{segment-fits, mask_le, sample_read, start_more, before_more, count_low}
use Rattle.region.proofs.number.Goals as goal
use Rattle.region.proofs.number.Goals.{At-loop}

low : (c : At-loop) → c.loop.n < 2 ^ 32
low c =
    count_low _ _ _ c.requires.mapped.0 _ _ (omega (arith, mask_le c.requires.mapped.0.stride c.args.seg)) c.loop.invariant.before

pub loop-init : goal.loop-init
loop-init c = let m = c.requires.mapped in
    let s = c.args.seg in record {
      place = rw add-zero (sample_read m.0.stride _ s _ c.requires.seg_lt_count.0 m.0.count_is m.1.sampled);
      before = rw add-zero (sample_read m.0.stride _ s _ c.requires.seg_lt_count.0 m.0.count_is m.2.sampled);
    }

pub overflow_add-n : goal.overflow_add-n
overflow_add-n c = record { fits = omega (arith, low (goal.at.overflow_add-n c).At-loop) }

pub next_start-p-requires : goal.next_start-p-requires
next_start-p-requires c =
    segment-fits _ _ _ c.requires.mapped.0 _ _ (omega (arith, mask_le c.requires.mapped.0.stride c.args.seg)) c.loop.invariant.place

pub loop-preserved : goal.loop-preserved
loop-preserved c = let i = c.loop.invariant in record {
  place = start_more _ _ _ _ _ _ _ (omega arith) i.place c.next_start-p.ensures;
  before = before_more _ _ _ _ _ _ _ _ (omega arith) i.place i.before c.used_count-n.ensures.0;
}

pub overflow_add-result : goal.overflow_add-result
overflow_add-result c = record { fits = omega (arith, low (goal.at.overflow_add-result c).At-loop) }

pub returns : goal.returns
unfolding number_of
returns c = let a = c.args in
    let e : a.seg - bit_and a.seg a.r.mask + c.loop.counter ≡ a.seg = omega (arith, mask_le c.requires.mapped.0.stride c.args.seg) in
    ap (λ (x : ℕ). x + a.el) (c.loop.invariant.before ∙ ap (before_of a.size a.b.now a.r.at) e)
