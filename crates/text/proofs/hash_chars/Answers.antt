use Prim.Native.Nat.{◌*◌, ◌/◌}
use mathlib.Core.Path.{◌≡◌, refl, ap, sym, ◌∙◌}
use Rattle.hash.specs.Hash.{hash_on}
use Rattle.text.proofs.Walk.{chars_start, hash-rest}
use Rattle.text.proofs.Words.{first_two, next_two, chars_pair}
use native.Mathlib.Omega.{arith}
use borrow.Author.Rules.{rules}
use Rattle.text.proofs.hash_chars.Goals as goal

pub loop-j-init : goal.loop-j-init
loop-j-init c = (search rules, ap (hash_on _) (sym (chars_start _ _ _)))

pub loop-j-preserved : goal.loop-j-preserved
loop-j-preserved c = let s = c.args in
    let i = 4 * c.loop-j.j in
    let q = first_two s.s.now s.p s.k i _ (λ i. search rules) (omega arith) c.u32_at-v.ensures.0 in
    let r = next_two s.s.now s.p s.k i _ (λ i. search rules) (omega arith) c.u32_at.ensures.0 in (
      c.quad_on-g.ensures.1,
      c.loop-j.invariant.1 ∙ chars_pair q _ _ _ refl refl ∙ chars_pair r _ _ _ (omega arith) c.quad_on-g.ensures.0,
    )

pub returns : goal.returns
returns c = let e : c.loop-j.j ≡ c.args.k / 4 = omega arith in
    (hash-rest _ _ _ _ _ _ _ (rw e at c.loop-j.invariant.1) c.hash_few.ensures.0, c.hash_few.ensures.1)
