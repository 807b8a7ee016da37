use Rattle.hash.proofs.Halves.{low_words}
use Rattle.hash.proofs.fold_quad.Goals as goal

pub fold_low-requires : goal.fold_low-requires
fold_low-requires c = (low_words _ _ c.requires c.if-v-w-eq0.true).0

pub fold_low-requires-then-v-w-eq0 : goal.fold_low-requires-then-v-w-eq0
fold_low-requires-then-v-w-eq0 c = (low_words _ _ c.requires c.if-v-w-eq0.true).1
