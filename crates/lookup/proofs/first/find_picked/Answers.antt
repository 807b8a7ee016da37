use Rattle.lookup.specs.Lookup.{text_from}
use Rattle.lookup.proofs.Told.{told_there}
use native.Mathlib.Omega.{arith}
use Rattle.lookup.proofs.first.find_picked.Goals as goal

pub alike-requires : goal.alike-requires
alike-requires c = let e = rw c.in-Some.is at c.requires.picked_entry in (e.fits, omega arith)

pub returns : goal.returns
unfolding text_from
returns c = told_there _ _ _ c.args.checked.now.checked (rw c.in-Some.is at c.requires.picked_entry) (c.alike.ensures.so c.if-alike.true)
