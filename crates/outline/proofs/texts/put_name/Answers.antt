use native.Mathlib.Omega.{arith}
use mathlib.Core.Path.{refl, ap}
use Rattle.print.specs.Text.{escaped}
use Rattle.print.proofs.Puts.{put_same}
use Rattle.outline.proofs.Addressed.{name_in, name_held, name-text}
use Rattle.outline.proofs.Rules.{rules_of}
use Rattle.outline.proofs.texts.put_name.Goals as goal

-- the list position lies in the file, here and in the four answers that follow
pub overflow_mul-x : goal.overflow_mul-x
overflow_mul-x c = let s = c.args.source.now in omega (arith, name_in (rules_of s) s.placed c.requires.0 c.requires.1 refl)

pub overflow_add-x : goal.overflow_add-x
overflow_add-x c = let s = c.args.source.now in omega (arith, name_in (rules_of s) s.placed c.requires.0 c.requires.1 refl)

pub u16_at-requires : goal.u16_at-requires
u16_at-requires c = let s = c.args.source.now in omega (arith, name_in (rules_of s) s.placed c.requires.0 c.requires.1 refl)

pub overflow_add-x-2 : goal.overflow_add-x-2
overflow_add-x-2 c = let s = c.args.source.now in omega (arith, name_in (rules_of s) s.placed c.requires.0 c.requires.1 refl)

pub u16_at-requires-2 : goal.u16_at-requires-2
u16_at-requires-2 c = let s = c.args.source.now in omega (arith, name_in (rules_of s) s.placed c.requires.0 c.requires.1 refl)

pub put_text-requires : goal.put_text-requires
put_text-requires c = let s = c.args.source.now in name_held (rules_of s) s.placed c.requires.0 c.requires.1 refl c.u16_at.ensures.0 c.u16_at-2.ensures.0 s.names

pub returns : goal.returns
returns c = let s = c.args.source.now in put_same (ap escaped (name-text (rules_of s) s.placed c.requires.0 c.requires.1 refl c.u16_at.ensures.0 c.u16_at-2.ensures.0)) c.put_text.ensures
