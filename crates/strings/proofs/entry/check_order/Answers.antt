use Rattle.strings.proofs.Checks.{refused_10, refused_11, refused_12, entry_passes}
use Rattle.strings.proofs.Runs.{sorted}
use Rattle.strings.proofs.entry.check_order.Goals as goal

pub returns-then-not-placed : goal.returns-then-not-placed
returns-then-not-placed c = refused_10 _ _ _ _ c.entry_at-e.ensures.0 c.requires.2 (c.placed.ensures.not c.if-not-placed.true)

pub returns-then-not-listed : goal.returns-then-not-listed
returns-then-not-listed c = let p = c.requires in
    refused_11 _ _ _ _ c.entry_at-e.ensures.0 p.2 (c.placed.ensures.so c.if-not-placed.false)
    (p.3.not c.if-not-listed.true)

pub duplicate-requires : goal.duplicate-requires
duplicate-requires c = let p = c.requires in
    (p.0, sorted _ _ _ p.1 p.2 (c.placed.ensures.so c.if-not-placed.false), p.4)

pub returns-then-duplicate : goal.returns-then-duplicate
returns-then-duplicate c = let p = c.requires in
    refused_12 _ _ _ _ c.entry_at-e.ensures.0 p.2 (c.placed.ensures.so c.if-not-placed.false)
    (p.3.so c.if-not-listed.false) (c.duplicate.ensures.so c.if-duplicate.true)

pub returns : goal.returns
returns c = let p = c.requires in
    entry_passes _ _ _ p.2 (c.placed.ensures.so c.if-not-placed.false)
    (p.3.so c.if-not-listed.false) (c.duplicate.ensures.not c.if-duplicate.false)
