use Prim.Native.Nat.{◌+◌, ◌-◌, ◌*◌, ◌≤◌}
use mathlib.Core.Path.{sym, ◌∙◌}
use Rattle.verdict.proofs.Laws.{tells_no, tells_eqb}
use Rattle.text.proofs.OneByOne.{alike-chars, chars-alike, alike-none, four_number, four_chars, alike_four}
use native.Mathlib.Omega.{arith}
use borrow.Author.Rules.{rules}
use Rattle.text.proofs.alike.Goals as goal

pub loop-k-init : goal.loop-k-init
loop-k-init c = alike-none _ _ _ _ 0

pub returns-then-u64_at : goal.returns-then-u64_at
returns-then-u64_at c = tells_no
    (λ e. c.if-u64_at.true
    (c.u64_at.ensures
    ∙ four_number _ _ _ _ _ (λ j l m. chars-alike _ _ _ _ _ e j (omega arith))
    ∙ sym c.u64_at-in-loop-k.ensures))

pub loop-k-preserved : goal.loop-k-preserved
loop-k-preserved c = let e = sym c.u64_at.ensures ∙ c.if-u64_at.false ∙ c.u64_at-in-loop-k.ensures in
    let f = four_chars _ _ _ _ _ (λ k. search rules) (λ k. search rules) e in
    alike_four _ _ _ _ _ _ (omega arith) _ (omega arith) c.loop-k.invariant f

pub returns : goal.returns
returns c = let s = c.args in
    let u = c.u64_at-2.ensures in
    let v = c.u64_at-3.ensures in
    let l = c.loop-k-test.false in
    let m = c.if-n-lt4.false in
    let g : s.n ≤ s.n - 4 + 4 = omega arith in
    let h : s.n - 4 ≤ 4 * c.loop-k.k = omega arith in
    tells_eqb _ _
    (λ e. alike-chars _ _ _ _ _
    (alike_four _ _ _ _ (s.n - 4) s.n g _ h c.loop-k.invariant
    (four_chars _ _ _ _ _ (λ k. search rules) (λ k. search rules) (sym u ∙ e ∙ v))))
    (λ e. u ∙ four_number _ _ _ _ (s.n - 4) (λ j x y. chars-alike _ _ _ _ s.n e j (omega arith)) ∙ sym v)
