use Rattle.strings.proofs.Places.{hash_at}
use Rattle.search.proofs.Runs.{read_over}
use Rattle.search.proofs.run.run_has.Goals as goal

pub returns-then-hash-h : goal.returns-then-hash-h
returns-then-hash-h c = let p = c.requires in
    read_over _ _ _ _ _ _ _ c.loop-j.invariant p.1 p.0 c.loop-j-test.true _
    (hash_at _ _ _ _ _ c.entry_at-e.ensures.0 c.hash.ensures.0) c.if-hash-h.true
