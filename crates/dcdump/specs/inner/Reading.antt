-- How much is read.
use Rattle.std.specs.Prelude.{ℕ}

-- The most that is read: one byte more than the longest valid input has, which is 32,768 frames of one byte, 12 characters each.
-- What is not read then changes no output (proofs/Cut.antt).
abbrev pub read_most : ℕ
read_most = 393217
