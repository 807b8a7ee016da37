use native.Mathlib.Omega.{arith}
use mathlib.Core.Path.{sym, ◌∙◌}
use borrow.Author.Rules.{rules}
use mir.Facts.{to_z-of_z}
use mir.Syntax.{w32}
use Rattle.layout.specs.declared.Edition.TheVariants.{Bits64}
use Rattle.print.proofs.Puts.{put_then, put_same}
use Rattle.outline.proofs.Addressed.{value_held, value-text}
use Rattle.outline.proofs.Rules.{rules_of}
use Rattle.outline.proofs.Written.{whole_is, truth_is, float_is, text_is}
use Rattle.outline.proofs.values.put_value.Goals as goal

pub put_text-requires : goal.put_text-requires
put_text-requires c = let s = c.args.source.now in value_held (rules_of s) s.placed c.requires (sym c.value_at-v.ensures ∙ c.in-Text.is) s.values

-- a buffer's length is a number of 64 bits, here and below
pub returns-in-Whole : goal.returns-in-Whole
returns-in-Whole c = put_same (whole_is Bits64 _ c.value_at-v.ensures c.in-Whole.is (to_z-of_z {w = w32} (search rules)))
    (put_then (omega arith) c.put_bytes-e.ensures c.put_whole.ensures)

pub returns-in-Truth : goal.returns-in-Truth
returns-in-Truth c = put_same (truth_is Bits64 _ c.value_at-v.ensures c.in-Truth.is) c.put_truth.ensures

pub returns-in-Float : goal.returns-in-Float
returns-in-Float c = put_same (float_is Bits64 _ c.value_at-v.ensures c.in-Float.is) (put_then (omega arith) c.put_bytes-e-in-Float.ensures c.put_hex.ensures)

pub returns-in-Text : goal.returns-in-Text
returns-in-Text c = let s = c.args.source.now in
    let e = c.value_at-v.ensures in
    let v = c.in-Text.is in
    put_same (text_is Bits64 _ e v (value-text (rules_of s) s.placed c.requires (sym e ∙ v))) (put_then (omega arith) c.put_bytes-e-in-Text.ensures c.put_text.ensures)
