use native.Mathlib.Omega.{arith}
use lib.Dec.{lit<}
use mathlib.Core.Path.{refl}
use Rattle.std.proofs.lemmas.Grind.{div_ceil_times}
use Rattle.region.specs.Region.{count_of}
use Rattle.region.proofs.Samples.{stride_made}
use Rattle.region.proofs.mapped.Goals as goal

pub next_power_of_two-spacing-requires : goal.next_power_of_two-spacing-requires
next_power_of_two-spacing-requires c = omega (arith, c.div_ceil.ensures, div_ceil_times c.u32_at-count.result 1024 (lit< tt), c.u32_at-count.ensures)

pub returns : goal.returns
unfolding count_of
returns c =
    let x = c.next_power_of_two-spacing.ensures in
    let d = div_ceil_times c.u32_at-count.result 1024 (lit< tt) in
    record {
      solid = c.requires.0;
      thin = c.requires.1;
      short = c.requires.2;
      at_is = refl;
      count_is = c.u32_at-count.ensures.0;
      laid = c.requires.3;
      stride = stride_made _ _ _ _ x.power.1 (omega (arith, x.lower_bound, d, c.div_ceil.ensures)) (omega (arith, x.upper_bound, d, c.div_ceil.ensures, c.u32_at-count.ensures.0, c.requires.3.few)) c.ilog2.ensures.power_le c.ilog2.ensures.next_power_gt;
    }
