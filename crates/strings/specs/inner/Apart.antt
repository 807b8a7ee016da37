-- Entries of one bucket whose texts are known to differ, so that no duplicate (12) is among them.
use Rattle.std.specs.Prelude.{ℕ, ◌+◌, ◌≤◌, ◌<◌, ◌^◌, ◌≡◌, Bool, true, false, List}
use Rattle.multimap.specs.inner.Multimap.{number_at, Filled}
use Rattle.text.specs.inner.Fingerprint.{fingerprint_of}
use Rattle.layout.specs.Table.{Table}
use Rattle.strings.specs.Texts.{text_of}
use Rattle.strings.specs.inner.Held.{TextPasses}

-- The texts of entries i and j differ, if both are right.
pub record Differ (t : Table) (k i j : ℕ) : Type 0 where
  pub texts : TextPasses t k i → TextPasses t k j → text_of t k i ≡ text_of t k j → ⊥

-- A truth that the code answers tells whether the two texts are the same.
pub record Compared (t : Table) (k i j : ℕ) (r : Bool) : Type 0 where
  pub so : r ≡ true → text_of t k i ≡ text_of t k j
  pub not : r ≡ false → Differ t k i j

-- The text of each entry from s on, before j, differs from that of j.
pub record Away (t : Table) (k s j : ℕ) : Type 0 where
  pub first : s ≤ j
  pub each : (i : ℕ) → s ≤ i → i < j → Differ t k i j

-- The texts of any two entries from s on, before e, differ.
pub record Apart (t : Table) (k s e : ℕ) : Type 0 where
  pub each : (i j : ℕ) → s ≤ i → i < j → j < e → Differ t k i j

-- x is the fingerprint of the text of entry j, if that is right.
pub record Fingerprinted (t : Table) (k j x : ℕ) : Type 0 where
  pub small : x < 2 ^ 16
  pub value : TextPasses t k j → x ≡ fingerprint_of (text_of t k j)

-- A multimap has the fingerprints of the n entries from s on.
pub record Collected (t : Table) (k s n : ℕ) (map : List ℕ) : Type 0 where
  pub filled : Filled n map
  pub each : (i : ℕ) → i < n → Fingerprinted t k (s + i) (number_at map i)

-- Entry j differs from each of the n entries from s on, if r is false; if r is true, there is at least one.
pub record Met (t : Table) (k s n j : ℕ) (r : Bool) : Type 0 where
  pub some : r ≡ true → 0 < n
  pub none : r ≡ false → (i : ℕ) → i < n → Differ t k (s + i) j

-- The n entries from s on differ, any two of them.
pub record Sifted (t : Table) (k s n most : ℕ) : Type 0 where
  pub some : 0 < most → 0 < n
  pub few : n ≤ most
  pub apart : Apart t k s (s + n)

-- Each of the n entries from s on differs from every one behind it, before e.
pub record Clear (t : Table) (k s n e : ℕ) : Type 0 where
  pub inside : s + n ≤ e
  pub each : (i j : ℕ) → s ≤ i → i < s + n → i < j → j < e → Differ t k i j

-- Where the entries from s on, before e, have different texts, those from r on, before j, have other texts than j.
pub record AwayWithin (s e r j : ℕ) : Type 0 where
  pub away : (t : Table) (k : ℕ) → Apart t k s e → Away t k r j
