use mathlib.Core.Path.{sym, ◌∙◌}
use borrow.Author.Rules.{rules}
use Rattle.frames.proofs.Framed.{counted}
use Rattle.frames.proofs.Steps.{line-short, offset_none, line_offset, line-bytes, line-none, line-room, line_frame}
use Rattle.frames.proofs.read_line.Goals as goal

pub returns-then-input-p-lt9 : goal.returns-then-input-p-lt9
returns-then-input-p-lt9 c = let both = line-short _ _ _ _ c.if-input-p-lt9.true in record { answer = both.0; bytes = both.1 }

pub returns-in_err-offset : goal.returns-in_err-offset
returns-in_err-offset c = let both = offset_none _ _ _ _ c.in_err-offset.ensures in record { answer = c.from_residual.ensures ∙ both.0; bytes = both.1 }

pub returns-then-branch-n : goal.returns-then-branch-n
returns-then-branch-n c = let both = line_offset _ _ _ _ c.in_ok-offset.ensures c.if-branch-n.true in record { answer = both.0; bytes = both.1 }

pub returns-in_err-k : goal.returns-in_err-k
returns-in_err-k c = let both = line-bytes _ _ _ _ c.in_err-k.ensures in record { answer = c.from_residual-in_err-k.ensures ∙ both.0; bytes = both.1 }

pub returns-then-k-eq0 : goal.returns-then-k-eq0
returns-then-k-eq0 c = let both = line-none _ _ _ _ c.in_ok-k.ensures c.if-k-eq0.true in record { answer = both.0; bytes = both.1 }

pub returns-then-n-k : goal.returns-then-n-k
returns-then-n-k c = let both = line-room _ _ _ _ c.in_ok-k.ensures c.requires.n_bound c.if-n-k.true in record { answer = both.0; bytes = both.1 }

pub write_bytes-requires : goal.write_bytes-requires
write_bytes-requires c = let x = counted _ _ (sym c.in_ok-k.ensures) in record { input_value = x.bytes; input_len = sym x.count; k_in_bounds = search rules }

pub returns : goal.returns
returns c = let both = line_frame _ _ _ _ c.in_ok-k.ensures
    c.in_ok-offset.ensures
    c.if-branch-n.false
    c.if-k-eq0.false
    c.requires.n_bound
    c.if-n-k.false
    c.write_bytes.ensures in record { answer = both.0; bytes = both.1 }
