use mathlib.Core.Path.{sym, ◌∙◌}
use Rattle.print.proofs.Puts.{put_same, put_then}
use Rattle.print.proofs.Texts.{plain-small, escape-plain, escape_other}
use native.Mathlib.Omega.{arith}
use Rattle.print.proofs.chars.put_char.Goals as goal

pub overflow_cast-c : goal.overflow_cast-c
overflow_cast-c c = omega (arith, plain-small c.args.c (sym c.is_plain.ensures ∙ c.if-is_plain.true))

pub returns-then-is_plain : goal.returns-then-is_plain
returns-then-is_plain c = put_same (escape-plain c.args.c (sym c.is_plain.ensures ∙ c.if-is_plain.true)) c.put.ensures

pub returns : goal.returns
returns c = put_same (escape_other c.args.c (sym c.is_plain.ensures ∙ c.if-is_plain.false))
    (put_then (omega arith) c.put-p.ensures c.put_hex.ensures)
