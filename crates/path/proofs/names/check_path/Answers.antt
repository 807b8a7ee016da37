use mathlib.Core.Path.{sym, ◌∙◌}
use mathlib.Core.Logic.{inl, inr}
use Rattle.path.proofs.Formed.{path_odd, path_open, path_formed}
use Rattle.path.proofs.names.check_path.Goals as goal
use Rattle.path.proofs.names.check_path.Goals.{else-n-ne0-2-via-then-n-ne0-2+else-u16_at-ne0, else-n-ne0-2-via-else-n-ne0-2}

pub returns-then-n-ne0 : goal.returns-then-n-ne0
returns-then-n-ne0 c = sym (path_odd _ c.if-n-ne0.true)

pub returns-then-u16_at-ne0 : goal.returns-then-u16_at-ne0
returns-then-u16_at-ne0 c = sym (path_open _ c.if-n-ne0.false c.if-n-ne0-2.true (λ z. c.if-u16_at-ne0.true (c.u16_at.ensures.0 ∙ z)))

pub returns : goal.returns
returns c = sym (path_formed _ c.if-n-ne0.false (elim c.else-n-ne0-2.branch [
  | else-n-ne0-2-via-then-n-ne0-2+else-u16_at-ne0 w ↦ inr (sym w.u16_at.ensures.0 ∙ w.if-u16_at-ne0.false)
  | else-n-ne0-2-via-else-n-ne0-2 w ↦ inl w.if-n-ne0-2.false
]))
