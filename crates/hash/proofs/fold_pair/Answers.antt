use mathlib.Core.Path.{ap, ◌∙◌}
use lib.Bits.{and_mask, mask_lt}
use Rattle.hash.specs.Fold.{folded}
use Rattle.hash.proofs.Halves.{joined, low_halves}
use Rattle.hash.proofs.fold_pair.Goals as goal

pub fold_low-requires : goal.fold_low-requires
fold_low-requires c = low_halves c.args.w c.requires c.if-w-eq0.true

pub fold-requires : goal.fold-requires
fold-requires c = mask_lt c.args.w 16

pub fold_any-requires : goal.fold_any-requires
fold_any-requires c = mask_lt c.args.w 16

pub returns-then-w-eq0-2 : goal.returns-then-w-eq0-2
returns-then-w-eq0-2 c = let e = c.fold.ensures in
    joined _ _ _ c.requires (e.0 ∙ ap folded (and_mask c.args.w 16), e.1) c.fold-then-w-eq0-2.ensures

pub returns : goal.returns
returns c = let e = c.fold_any.ensures in
    joined _ _ _ c.requires (e.0 ∙ ap folded (and_mask c.args.w 16), e.1) c.fold-2.ensures
