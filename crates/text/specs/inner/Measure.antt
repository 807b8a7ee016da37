-- What the code finds out about a text in one pass.
use Rattle.std.specs.Prelude.{ℕ, ◌+◌, ◌*◌, ◌^◌, ◌≤◌, ◌<◌, ◌≡◌, List, length}
use Rattle.std.specs.ControlFlow.{ForBreak, ForContinue}
use Rattle.std.specs.declared.ops.ControlFlow.{ControlFlow}
use Rattle.le.specs.Le.{u16_at}
use Rattle.hash.specs.Hash.{hash_on}
use Rattle.hash.specs.Fold.{fold_text, value_hash_of}
use Rattle.text.specs.Text.{text_in}
use Rattle.text.specs.declared.Extent.{Extent}

-- How many characters it has (the 0 not counted), and its hash, on from the hash h of what stands before it.
pub record MeasuredOn (b : List ℕ) (p n h : ℕ) (r : Extent) : Type 0 where
  pub long : r.length ≡ length (text_in b p n)
  pub hashed : r.hash ≡ hash_on h (text_in b p n)

-- The same of a text before which nothing stands.
abbrev pub Measured : List ℕ → ℕ → ℕ → Extent → Type 0
Measured b p n r = MeasuredOn b p n 0 r

-- The value hash, on from h, of the text in the n characters at p, where a 0 ends it: a `Break`. Otherwise the hash of the folded characters, which
-- are all n.
pub record ValueRun (b : List ℕ) (p n h : ℕ) (r : ControlFlow ℕ ℕ) : Type 0 where
  pub met : ForBreak r (λ v. (v ≡ value_hash_of (hash_on h (fold_text (text_in b p n)))) × (length (text_in b p n) < n))
  pub passed : ForContinue r (λ g. (g ≡ hash_on h (fold_text (text_in b p n))) × (length (text_in b p n) ≡ n))
  pub small : ForContinue r (λ g. g < 2 ^ 32)

-- Character i of the n at p, or 0 past them.
pub record CharOrEnd (b : List ℕ) (p n i r : ℕ) : Type 0 where
  pub within : i < n → r ≡ u16_at b (p + 2 * i)
  pub past : n ≤ i → r ≡ 0
  pub small : r < 65536
