use Rattle.strings.proofs.Checks.{placed_elsewhere, placed_first, placed-later}
use Rattle.strings.proofs.Places.{hash_at, before_in, before_is}
use Rattle.strings.proofs.entry.placed.Goals as goal

pub returns-then-bucket-k : goal.returns-then-bucket-k
returns-then-bucket-k c = placed_elsewhere _ _ _ _ (hash_at _ _ _ _ _ c.entry_at-e.ensures.0 c.hash-h.ensures.0) _ c.bucket.ensures.0 c.if-bucket-k.true

pub returns-then-j-eq0 : goal.returns-then-j-eq0
returns-then-j-eq0 c = placed_first _ _ _ _ (hash_at _ _ _ _ _ c.entry_at-e.ensures.0 c.hash-h.ensures.0) _ c.bucket.ensures.0 c.if-bucket-k.false c.if-j-eq0.true

pub overflow_sub-e : goal.overflow_sub-e
overflow_sub-e c = before_in _ _ _ _ c.entry_at-e.ensures.0 c.if-j-eq0.false

pub returns : goal.returns
returns c = let q = c.entry_at-e.ensures.0 in
    placed-later _ _ _ _ (hash_at _ _ _ _ _ q c.hash-h.ensures.0) _ c.bucket.ensures.0 c.if-bucket-k.false _
    (hash_at _ _ _ _ _ (before_is _ _ _ _ q c.if-j-eq0.false) c.hash.ensures.0)
