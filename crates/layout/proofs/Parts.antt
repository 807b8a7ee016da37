-- The checks of a part as the code has them, with a local p for the part's offset, and what they tell. Assumes nothing.
use Prim.Native.Nat.{ℕ, ◌+◌, ◌-◌, ◌*◌}
use mathlib.Core.Path.{◌≡◌, sym}
use mathlib.Core.List.{List, [], ◌∷◌}
use lib.ListN.{length}
use Rattle.le.specs.Le.{u32_at}
use Rattle.verdict.specs.Checks.{Check, at_most, equal, first_fault}
use Rattle.verdict.specs.Verdict.{Verdict}
use Rattle.region.specs.Checks.{field}
use Rattle.layout.specs.Header.{zero_word_checks}
use Rattle.layout.specs.Table.{Table, bucket_at, entries, list_at, count, table_end, bucket_checks, list_checks}
use Rattle.layout.specs.Layout.{footer_at, footer_checks}
use Rattle.layout.specs.declared.Edition.{Edition}
use Rattle.layout.proofs.Laws.{bucket_next}

module _ (b : List ℕ) (i p : ℕ) (h : p ≡ 16 + 4 * i) where
  pub zero-told : {v : Verdict} → first_fault (field b p 4 ∷ equal 4 p (u32_at b p) 0 ∷ []) ≡ v → first_fault (zero_word_checks b i) ≡ v
  unfolding zero_word_checks
  zero-told q = rw h at q

module _ (t : Table) (k p : ℕ) (h : p ≡ bucket_at t k) where
  pub bucket-told : {v : Verdict} → first_fault (field t.bytes p 4 ∷ field t.bytes (p + 4) (16 * u32_at t.bytes p) ∷ []) ≡ v → first_fault (bucket_checks t k) ≡ v
  unfolding bucket_checks entries
  bucket-told q = rw h at q

  pub next_bucket : p + 4 + 16 * u32_at t.bytes p ≡ bucket_at t (k + 1)
  unfolding entries
  next_bucket = rw (h, bucket_next t k)

module _ (t : Table) (most p : ℕ) (h : p ≡ list_at t) where
  -- the checks of the address list whose count stands at p
  abbrev pub list_from : List Check
  list_from =
      field t.bytes p 4
      ∷ at_most 5 p 1 (u32_at t.bytes p)
      ∷ at_most 5 p (u32_at t.bytes p) most
      ∷ field t.bytes (p + 4) (4 * (u32_at t.bytes p - 1))
      ∷ []

  pub list-told : {v : Verdict} → first_fault list_from ≡ v → first_fault (list_checks t most) ≡ v
  unfolding list_checks count
  list-told q = rw h at q

  pub list_end : p + 4 + 4 * (u32_at t.bytes p - 1) ≡ table_end t
  unfolding table_end count
  list_end = rw h

module _ (ed : Edition) (b : List ℕ) (p : ℕ) (h : p ≡ footer_at ed b) where
  pub footer-told : {v : Verdict} → first_fault (field b p 4 ∷ equal 6 p (u32_at b p) 0 ∷ at_most 6 (p + 4) (length b) (p + 4) ∷ []) ≡ v
      → v ≡ first_fault (footer_checks ed b)
  unfolding footer_checks
  footer-told q = rw (sym q) (rw h)
