use Prim.Native.Nat.{ℕ, ◌<◌}
use native.Mathlib.Omega.{arith}
use mathlib.Core.Path.{◌≡◌, ap}
use mathlib.Core.List.{List}
use lib.ListN.{length, get_or, set}
use lib.Seq.{get_or-set_same}
use Rattle.nodes.proofs.doubts.Doubts.doubt.Goals as goal

-- a place set to 1 holds it
placed : (d : List ℕ) (p i : ℕ) → p ≡ i → p < length d → (0 < get_or (set d p 1) i 0) × (set d p 1 ≡ set d i 1)
placed d p i e l =
    let s = ap (λ (k : ℕ). get_or (set d p 1) k 0) e in
    (omega (arith, get_or-set_same d p 1 0 l, s), ap (λ (k : ℕ). set d k 1) e)

pub returns : goal.returns
returns c = let e = c.place.ensures in
    let l = c.args.self.now.long in
    placed _ _ _ e.0 (omega (arith, e.1, l))
