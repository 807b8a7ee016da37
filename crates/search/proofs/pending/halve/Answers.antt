use mathlib.Core.Path.{refl}
use Rattle.strings.proofs.Places.{hash_at}
use Rattle.search.proofs.Searches.{halve_up, halve_down}
use Rattle.search.proofs.pending.halve.Goals as goal

pub returns-then-hash-h : goal.returns-then-hash-h
returns-then-hash-h c = let h = hash_at _ _ _ _ _ c.entry_at-e.ensures.0 c.hash.ensures.0 in
    let s = c.requires in
    halve_up _ _ _ _ _ c.bucket-k.ensures.0 s c.if-x.false _ _ refl h c.if-hash-h.true

pub returns : goal.returns
returns c = let h = hash_at _ _ _ _ _ c.entry_at-e.ensures.0 c.hash.ensures.0 in
    let s = c.requires in
    halve_down _ _ _ _ _ c.bucket-k.ensures.0 s c.if-x.false _ _ refl h c.if-hash-h.false
