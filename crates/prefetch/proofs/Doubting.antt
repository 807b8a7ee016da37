-- How attributes come to be doubted, and what is known of the others. Assumes nothing.
use Prim.Native.Nat.{ℕ, ◌<◌}
use native.Mathlib.Decide.{ℕ_discrete}
use native.Mathlib.Omega.{arith}
use mathlib.Core.Path.{◌≡◌, ap, sym, ◌∙◌}
use mathlib.Core.List.{List}
use lib.ListN.{get_or, set}
use lib.Seq.{get_or-set_other}
use Rattle.layout.specs.declared.Edition.{Edition}
use Rattle.nodes.specs.inner.Doubts.{doubt_of, Doubted, Trusted}
use Rattle.prefetch.specs.inner.Examined.{Kept}

-- what was trusted still is when more is doubted
pub still : {ed : Edition} {b d d' : List ℕ} {q : ℕ} → Kept d d' → Trusted ed b d q → Trusted ed b d' q
still k t = record { right = λ z. t.right (k.kept _ z) }

-- a place set to 1, where that is read there, and any place after that
module _ (d : List ℕ) (i : ℕ) (l : 0 < get_or (set d i 1) i 0) where
  set_other : (k : ℕ) → (k ≡ i → ⊥) → get_or (set d i 1) k 0 ≡ get_or d k 0
  set_other k e = get_or-set_other d i k 1 0 e

  zero-was : (k : ℕ) → get_or (set d i 1) k 0 ≡ 0 → get_or d k 0 ≡ 0
  zero-was k e = go (ℕ_discrete k i)
    where
      go : Dec (k ≡ i) → get_or d k 0 ≡ 0
      go (yes z) = let w = ap (λ (x : ℕ). get_or (set d i 1) x 0) z in absurd (omega (arith, w, e, l))
      go (no z) = sym (set_other k z) ∙ e

-- an attribute that is doubted, and no doubt is taken back
pub trusted_doubted : (ed : Edition) (b d : List ℕ) (q : ℕ) {d' : List ℕ} → Doubted d' q → d' ≡ set d (doubt_of q) 1 → Trusted ed b d' q × Kept d d'
trusted_doubted ed b d q h e =
    (record { right = λ z. absurd (omega (arith, h)) }, record { kept = λ k z. zero-was d (doubt_of q) (rw e at h) k (rw e at z) })
