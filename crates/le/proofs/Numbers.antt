-- The same number from the same bytes, and the same bytes from the same number. Assumes nothing.
use Prim.Native.Nat.{ℕ, ◌+◌, ◌<◌}
use native.Mathlib.Omega.{arith}
use mathlib.Core.Path.{◌≡◌, ap}
use mathlib.Core.List.{List}
use lib.ListN.{get_or}
use Rattle.le.specs.Le.{u16_at, u32_at, u64_at}

-- each is a byte
abbrev pub Bytes : List ℕ → Type 0
Bytes b = (k : ℕ) → get_or b k 0 < 256

pub word_lt : (b : List ℕ) → Bytes b → (x : ℕ) → u32_at b x < 4294967296
unfolding u32_at
word_lt b f x = omega (arith, f x, f (x + 1), f (x + 2), f (x + 3))

module _ (a b : List ℕ) (x y : ℕ) where
  pub pairs : u16_at a x ≡ u16_at b y → u16_at a (x + 2) ≡ u16_at b (y + 2) → u32_at a x ≡ u32_at b y
  unfolding u16_at u32_at
  pairs e g =
      let h : x + 2 + 1 ≡ x + 3 = omega arith in
      let k : y + 2 + 1 ≡ y + 3 = omega arith in
      omega (arith, ap (λ (i : ℕ). get_or a i 0) h, ap (λ (i : ℕ). get_or b i 0) k)

  module _ (f : Bytes a) (g : Bytes b) where
    pub halves : u32_at a x ≡ u32_at b y → (u16_at a x ≡ u16_at b y) × (u16_at a (x + 2) ≡ u16_at b (y + 2))
    unfolding u16_at u32_at
    halves e =
        let h : x + 2 + 1 ≡ x + 3 = omega arith in
        let k : y + 2 + 1 ≡ y + 3 = omega arith in
        let u = ap (λ (i : ℕ). get_or a i 0) h in
        let v = ap (λ (i : ℕ). get_or b i 0) k in
        let c = f x in
        let d = f (x + 1) in
        let m = g y in
        let n = g (y + 1) in
        (omega arith, omega arith)

    pub words : u64_at a x ≡ u64_at b y → (u32_at a x ≡ u32_at b y) × (u32_at a (x + 4) ≡ u32_at b (y + 4))
    unfolding u64_at
    words e =
        let c = word_lt a f x in
        let d = word_lt b g y in
        (omega arith, omega arith)
