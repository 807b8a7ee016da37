use mathlib.Core.Path.{refl}
use Rattle.laws.proofs.Halving.{rounds-of, round_up, round_down, round_end}
use Rattle.strings.proofs.Places.{hash_at}
use Rattle.search.proofs.lower_bound.Goals as goal

pub loop-lo-preserved-then-hash-h : goal.loop-lo-preserved-then-hash-h
loop-lo-preserved-then-hash-h c = let h = hash_at _ _ _ _ _ c.entry_at-e.ensures.0 c.hash.ensures.0 in
    round_up _ _ _ _ _ _ _ c.loop-lo.invariant c.loop-lo-test.true _ _ refl h c.if-hash-h.true

pub loop-lo-preserved : goal.loop-lo-preserved
loop-lo-preserved c = let h = hash_at _ _ _ _ _ c.entry_at-e.ensures.0 c.hash.ensures.0 in
    round_down _ _ _ _ _ _ _ c.loop-lo.invariant c.loop-lo-test.true _ _ refl h c.if-hash-h.false

pub returns : goal.returns
returns c = record {
  rounds = _;
  allowed = rounds-of _ _ _ c.entry_count-hi.ensures c.rounds-left.ensures;
  stops = round_end _ _ _ _ _ _ _ c.loop-lo.invariant c.loop-lo-test.false;
}
