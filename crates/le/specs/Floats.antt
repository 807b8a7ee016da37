-- Floats by their bit patterns (FORMAT, "Header": bits unchanged, NaN included). The logic has one NaN, so the bits stand beside the float.
use Rattle.std.specs.Prelude.{ℕ, List}
use Rattle.std.specs.Float.Ieee.{of_bits}
use Rattle.std.specs.Float.{binary32, binary64}
use Rattle.le.specs.Le.{u64_at}
use Rattle.le.specs.declared.Float32.{Float32}
use Rattle.le.specs.declared.Float64.{Float64}

-- The single of a pattern, and the pattern.
unfoldable pub single_of : ℕ → Float32
single_of bits = record { value = of_bits binary32 bits; bits = bits }

-- The double at an offset, and its pattern.
unfoldable pub double_at : List ℕ → ℕ → Float64
double_at s at = record { value = of_bits binary64 (u64_at s at); bits = u64_at s at }
