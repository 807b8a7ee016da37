use Prim.Native.Nat.{◌+◌, ◌*◌, ◌/◌}
use mathlib.Core.Path.{◌≡◌, refl}
use lib.Bits.{bit_and}
use Rattle.hash.proofs.Laws.{char_lt}
use Rattle.hash.proofs.Halves.{fold_one}
use Rattle.text.proofs.Passed.{folded_start, value-rest}
use Rattle.text.proofs.Words.{Two, first_two, next_two, value_none, value-one, folded_pair}
use native.Mathlib.Omega.{arith}
use borrow.Author.Rules.{rules}
use Rattle.text.proofs.value_run.Goals as goal
use Rattle.text.proofs.value_run.Goals.{After-u32_at-w}

first : (c : After-u32_at-w)
    → let s = c.args in
    Two s.b.now s.p s.n (4 * c.loop-k.k) (bit_and c.u32_at-v.result 65535) c.u32_at-v.result
first c =
    first_two _ _ _ _ _ (λ i. search rules) (omega arith) c.u32_at-v.ensures.0

next : (c : After-u32_at-w)
    → let s = c.args in
    Two s.b.now s.p s.n (4 * c.loop-k.k + 2) (bit_and c.u32_at-w.result 65535) c.u32_at-w.result
next c =
    next_two _ _ _ _ _ (λ i. search rules) (omega arith) c.u32_at-w.ensures.0

pub loop-k-init : goal.loop-k-init
loop-k-init c = folded_start _ _ _ _ c.requires.1

pub returns-then-v-eq0 : goal.returns-then-v-eq0
returns-then-v-eq0 c = value_none (first (goal.at.returns-then-v-eq0 c).After-u32_at-w) c.loop-k.invariant c.if-v-eq0.true c.low_14.ensures

pub char_on-requires : goal.char_on-requires
char_on-requires c = (c.loop-k.invariant.small, (fold_one _ _ c.if-v-lt65536.true c.fold_quad-f.ensures.0).1)

pub returns-then-v-lt65536 : goal.returns-then-v-lt65536
returns-then-v-lt65536 c = value-one (first (goal.at.returns-then-v-lt65536 c).After-u32_at-w) c.loop-k.invariant c.if-v-eq0.false c.if-v-lt65536.true c.fold_quad-f.ensures.0 c.char_on.ensures
    c.low_14-then-v-lt65536.ensures

pub returns-then-w-eq0 : goal.returns-then-w-eq0
returns-then-w-eq0 c = let k = folded_pair (first (goal.at.returns-then-w-eq0 c).After-u32_at-w) _ c.loop-k.invariant c.if-v-eq0.false c.if-v-lt65536.false c.fold_quad-f.ensures.0 refl c.pair_on.ensures in
    value_none (next (goal.at.returns-then-w-eq0 c).After-u32_at-w) k c.if-w-eq0.true c.low_14-then-w-eq0.ensures

pub char_on-requires-then-w-lt65536 : goal.char_on-requires-then-w-lt65536
char_on-requires-then-w-lt65536 c = (c.pair_on-then-w-lt65536.ensures.1, (fold_one _ _ c.if-w-lt65536.true c.fold_quad-f.ensures.1).1)

pub returns-then-w-lt65536 : goal.returns-then-w-lt65536
returns-then-w-lt65536 c = let k = folded_pair (first (goal.at.returns-then-w-lt65536 c).After-u32_at-w) _ c.loop-k.invariant c.if-v-eq0.false c.if-v-lt65536.false c.fold_quad-f.ensures.0 refl c.pair_on-then-w-lt65536.ensures in
    value-one (next (goal.at.returns-then-w-lt65536 c).After-u32_at-w) k c.if-w-eq0.false c.if-w-lt65536.true c.fold_quad-f.ensures.1 c.char_on-then-w-lt65536.ensures c.low_14-then-w-lt65536.ensures

pub loop-k-preserved : goal.loop-k-preserved
loop-k-preserved c = let i = c.loop-k.invariant in
    let k = folded_pair (first (goal.at.loop-k-preserved c).After-u32_at-w) _ i c.if-v-eq0.false c.if-v-lt65536.false c.fold_quad-f.ensures.0 refl (refl, char_lt _ _ (char_lt _ _ i.small)) in
    folded_pair (next (goal.at.loop-k-preserved c).After-u32_at-w) _ k c.if-w-eq0.false c.if-w-lt65536.false c.fold_quad-f.ensures.1 (omega arith) c.quad_on-g.ensures

pub returns : goal.returns
returns c = let e : c.loop-k.k ≡ c.args.n / 4 = omega arith in
    value-rest _ _ _ _ _ _ _ (rw e at c.loop-k.invariant) c.value_run_few.ensures
