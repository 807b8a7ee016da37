use Prim.Native.Nat.{◌*◌, ◌/◌}
use mathlib.Core.Path.{◌≡◌, refl, sym, ◌∙◌}
use Rattle.text.proofs.Words.{first_two, next_two}
use Rattle.text.proofs.AsBytes.{folded_start, folded_two, folded-rest}
use native.Mathlib.Omega.{arith}
use borrow.Author.Rules.{rules}
use Rattle.text.proofs.parts.fold_fours.Goals as goal

pub loop-k-init : goal.loop-k-init
loop-k-init c = (omega arith, folded_start _ _ _ _)

pub quad_on-g-requires : goal.quad_on-g-requires
quad_on-g-requires c = let f = c.fold_quad-f.ensures in
    (c.loop-k.invariant.0, f.0.small, f.1.small)

pub loop-k-preserved : goal.loop-k-preserved
loop-k-preserved c = let s = c.args in
    let i = 4 * c.loop-k.k in
    let a = first_two s.s.now s.p s.n i _ (λ i. search rules) (omega arith) c.u32_at.ensures.0 in
    let b = next_two s.s.now s.p s.n i _ (λ i. search rules) (omega arith) c.u32_at-in-loop-k.ensures.0 in (
      c.quad_on-g.ensures.1,
      c.loop-k.invariant.1
          ∙ folded_two _ _ _ _ _ _ _ _ _ _ a c.fold_quad-f.ensures.0 refl refl
          ∙ folded_two _ _ _ _ _ _ _ _ _ _ b c.fold_quad-f.ensures.1 (omega arith) c.quad_on-g.ensures.0,
    )

pub returns : goal.returns
returns c = let e : c.loop-k.k ≡ c.args.n / 4 = omega arith in
    c.fold_each.ensures ∙ folded-rest _ _ _ _ _ ∙ sym (rw e at c.loop-k.invariant.1)
