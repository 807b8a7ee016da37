use Prim.Native.Nat.{◌+◌, ◌-◌, ◌*◌, ◌/◌}
use mathlib.Core.Path.{◌≡◌, refl}
use lib.Bits.{bit_and}
use Rattle.hash.proofs.Laws.{char_lt}
use Rattle.text.proofs.Laws.{text_length_le}
use Rattle.text.proofs.Passed.{passed_start, measured_rest}
use Rattle.text.proofs.Words.{Two, first_two, next_two, measured_none, measured_one, passed_pair}
use native.Mathlib.Omega.{arith}
use borrow.Author.Rules.{rules}
use Rattle.text.proofs.measure.Goals as goal
use Rattle.text.proofs.measure.Goals.{After-u32_at-v, After-u32_at-w}

first : (c : After-u32_at-v)
    → Two c.args.b.now c.args.p c.args.n (4 * c.loop-k.k)
    (bit_and c.u32_at-v.result 65535) c.u32_at-v.result
first c =
    first_two _ _ _ _ _ (λ i. search rules) (omega arith) c.u32_at-v.ensures.0

next : (c : After-u32_at-w)
    → let s = c.args in
    Two s.b.now s.p s.n (4 * c.loop-k.k + 2) (bit_and c.u32_at-w.result 65535) c.u32_at-w.result
next c =
    next_two _ _ _ _ _ (λ i. search rules) (omega arith) c.u32_at-w.ensures.0

pub loop-k-init : goal.loop-k-init
loop-k-init c = passed_start _ _ _ _ (omega arith)

pub returns-then-v-eq0 : goal.returns-then-v-eq0
returns-then-v-eq0 c = measured_none (first (goal.at.returns-then-v-eq0 c).After-u32_at-v) c.loop-k.invariant c.if-v-eq0.true c.measured.ensures

pub returns-then-v-lt65536 : goal.returns-then-v-lt65536
returns-then-v-lt65536 c = measured_one (first (goal.at.returns-then-v-lt65536 c).After-u32_at-v) c.loop-k.invariant c.if-v-eq0.false c.if-v-lt65536.true c.char_on.ensures c.measured-then-v-lt65536.ensures

pub returns-then-w-eq0 : goal.returns-then-w-eq0
returns-then-w-eq0 c = let k = passed_pair (first (goal.at.returns-then-w-eq0 c).After-u32_at-v) _ c.loop-k.invariant c.if-v-eq0.false c.if-v-lt65536.false refl c.pair_on.ensures in
    measured_none (next (goal.at.returns-then-w-eq0 c).After-u32_at-w) k c.if-w-eq0.true c.measured-then-w-eq0.ensures

pub returns-then-w-lt65536 : goal.returns-then-w-lt65536
returns-then-w-lt65536 c = let k = passed_pair (first (goal.at.returns-then-w-lt65536 c).After-u32_at-v) _ c.loop-k.invariant c.if-v-eq0.false c.if-v-lt65536.false refl c.pair_on-then-w-lt65536.ensures in
    let e = c.measured-then-w-lt65536.ensures in
    measured_one (next (goal.at.returns-then-w-lt65536 c).After-u32_at-w) k c.if-w-eq0.false c.if-w-lt65536.true c.char_on-then-w-lt65536.ensures (omega arith, e.1)

pub loop-k-preserved : goal.loop-k-preserved
loop-k-preserved c = let i = c.loop-k.invariant in
    let k = passed_pair (first (goal.at.loop-k-preserved c).After-u32_at-v) _ i c.if-v-eq0.false c.if-v-lt65536.false refl (refl, char_lt _ _ (char_lt _ _ i.small)) in
    passed_pair (next (goal.at.loop-k-preserved c).After-u32_at-w) _ k c.if-w-eq0.false c.if-w-lt65536.false (omega arith) c.quad_on-h.ensures

pub overflow_add-i-2 : goal.overflow_add-i-2
overflow_add-i-2 c = let s = c.args in
    let i = 4 * (s.n / 4) in
    omega (arith, c.measure_few-few.ensures.long, text_length_le s.b.now (s.p + 2 * i) (s.n - i))

pub returns : goal.returns
returns c = let e : c.loop-k.k ≡ c.args.n / 4 = omega arith in
    measured_rest _ _ _ _ _ _ _ _ (rw e at c.loop-k.invariant) c.measure_few-few.ensures c.measured-2.ensures
