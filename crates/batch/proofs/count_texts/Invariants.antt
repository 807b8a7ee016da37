use Prim.Native.Nat.{◌%◌}
use mathlib.Core.Path.{◌≡◌}
use Rattle.std.specs.Slice.Iter.{chunks_rest, chunks_size}
use Rattle.batch.proofs.Zeros.{Counting}
use Rattle.batch.proofs.count_texts.Given as goal

abbrev pub invariant-loop-block : goal.invariant-loop-block
invariant-loop-block l = record { size : chunks_size l.block-iterator % 2 ≡ 0; counting : Counting l.texts l.n (chunks_rest l.block-iterator) }
