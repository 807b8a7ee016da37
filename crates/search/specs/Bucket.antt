-- Request T-03: how a bucket is searched for a hash. proofs/Halves has the proof, `bucket_search`, for every table that passed 7 to 13.
use Rattle.std.specs.Prelude.{ℕ, ◌<◌}
use Rattle.laws.specs.Halving.{Rounds, HalvingLaws}
use Rattle.layout.specs.Table.{Table, entries, hash_of}

-- In any bucket, for any hash, with k the least number with 2 to the k above the bucket's count: the halving stops at the first entry whose hash is
-- not below the asked one, or at the bucket's end if there is none, after at most k rounds. A round reads one entry.
abbrev pub BucketSearch : Table → Type 0
BucketSearch t = (b h k : ℕ) → b < t.buckets → Rounds (entries t b) k → HalvingLaws (hash_of t b) (entries t b) h k
