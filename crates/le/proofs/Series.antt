-- Words written into a list of bytes one after the other, and taken back newest first: every byte is as it was.
-- Groundwork for request T-12, whose contract will use `old_word` and `series_back`. Assumes nothing.
use Prim.Native.Nat.{ℕ, ◌+◌, ◌^◌, ◌≤◌, ◌<◌}
use mathlib.Core.Path.{◌≡◌, refl, ◌∙◌}
use mathlib.Core.List.{List, [], ◌∷◌, ◌++◌}
use lib.ListN.{length}
use Rattle.laws.specs.inner.Lists.{splice}
use Rattle.le.specs.Le.{u32_at, le4}
use Rattle.le.proofs.Numbers.{Bytes}
use Rattle.le.proofs.Agree.{put_agree, put_read, put_bytes, put_back}

-- a change: the offset of four bytes, and the word to write there
pub record Change : Type 0 where
  pub at : ℕ
  pub word : ℕ

abbrev pub put : List ℕ → Change → List ℕ
put b m = splice b m.at (le4 m.word)

-- the change that takes m back: it writes the old value, the word that m overwrites
abbrev pub inverse : List ℕ → Change → Change
inverse b m = record { at = m.at; word = u32_at b m.at }

-- the old value of a second change at the same offset is the word of the first
pub old_word : (b : List ℕ) (m : Change) → m.at + 4 ≤ length b → m.word < 2 ^ 32 → (w : ℕ) → inverse (put b m) (record { at = m.at; word = w }) ≡ m
old_word b m h l w = rw (put_read b m.at h m.word l)

-- a series, the oldest change first
unfoldable pub after : List ℕ → List Change → List ℕ
after b [] = b
after b (m ∷ ms) = after (put b m) ms

-- the series that takes it back, the newest change first; each word is read just before its change
unfoldable pub inverses : List ℕ → List Change → List Change
inverses b [] = []
inverses b (m ∷ ms) = inverses (put b m) ms ++ inverse b m ∷ []

-- each change lies within n bytes; they may overlap
unfoldable pub Within : ℕ → List Change → Type 0
Within n [] = Unit
Within n (m ∷ ms) = (m.at + 4 ≤ n) × Within n ms

after-append : (b : List ℕ) (ms ns : List Change) → after b (ms ++ ns) ≡ after (after b ms) ns
unfolding after
after-append b [] ns = refl
after-append b (m ∷ ms) ns = after-append (put b m) ms ns

pub series_back : (b : List ℕ) (ms : List Change) → Bytes b → Within (length b) ms → after (after b ms) (inverses b ms) ≡ b
unfolding after inverses Within
series_back b [] f h = refl
series_back b (m ∷ ms) f h =
    let c = put b m in
    let k : Within (length c) ms = rw (put_agree b m.at h.0 m.word).long h.1 in
    after-append (after c ms) (inverses c ms) (inverse b m ∷ [])
    ∙ rw (series_back c ms (put_bytes b m.at h.0 f m.word) k) (put_back b m.at h.0 f m.word)
