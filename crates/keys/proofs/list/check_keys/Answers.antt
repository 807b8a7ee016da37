use mathlib.Core.Path.{◌≡◌, sym, ◌∙◌}
use native.Mathlib.Omega.{arith}
use Rattle.layout.specs.Header.{keys_at, key_count}
use Rattle.layout.specs.declared.Edition.TheVariants.{Bits64}
use Rattle.layout.proofs.Laws.{keys_fit}
use Rattle.keys.proofs.Laws.{keys_start, keys_more, keys_stop, keys_none}
use Rattle.keys.proofs.list.check_keys.Goals as goal
use Rattle.keys.proofs.list.check_keys.Goals.{After-u32_at-n}

-- the number of keys is read where the header has it
count_is : (c : After-u32_at-n) → c.u32_at-n.result ≡ key_count c.args.b.now
unfolding key_count keys_at
count_is c = c.u32_at-n.ensures.0

pub u32_at-n-requires : goal.u32_at-n-requires
unfolding keys_at
u32_at-n-requires c = keys_fit Bits64 _ c.requires.0

pub loop-k-init : goal.loop-k-init
loop-k-init c = keys_start Bits64 _

pub key_right-requires : goal.key_right-requires
key_right-requires c = let p = c.requires in (p.0, p.1, omega (arith, count_is (goal.at.key_right-requires c).After-u32_at-n))

pub returns-then-not-key_right : goal.returns-then-not-key_right
returns-then-not-key_right c =
    let n = count_is (goal.at.returns-then-not-key_right c).After-u32_at-n in
    sym (c.loop-k.invariant ∙ keys_stop Bits64 _ _ (omega (arith, n)) (c.key_right.ensures.not c.if-not-key_right.true))

pub loop-k-preserved : goal.loop-k-preserved
loop-k-preserved c =
    let n = count_is (goal.at.loop-k-preserved c).After-u32_at-n in
    c.loop-k.invariant ∙ keys_more Bits64 _ _ (omega (arith, n)) (c.key_right.ensures.so c.if-not-key_right.false)

pub returns : goal.returns
returns c = let n = count_is (goal.at.returns c).After-u32_at-n in sym (c.loop-k.invariant ∙ keys_none Bits64 _ _ (omega (arith, n)))
