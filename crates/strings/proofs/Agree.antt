-- A string table that stands behind four changed bytes keeps its texts, and obeys its rules as before. Groundwork for request T-12 of
-- the customer. Assumes nothing.
use Prim.Native.Nat.{ℕ, ◌+◌, ◌≤◌}
use mathlib.Core.Path.{◌≡◌, sym, ◌∙◌}
use mathlib.Core.List.{List}
use Rattle.le.proofs.Agree.{Agree}
use Rattle.region.proofs.Agree.{resolves_same}
use Rattle.text.proofs.Agree.{text_same}
use Rattle.layout.specs.Table.{table, segment_of, element_of}
use Rattle.layout.proofs.Agree.{AlikeTable, alike-table}
use Rattle.strings.specs.Texts.{text_to, text_of, listed_text}
use Rattle.strings.specs.Rules.{EntryRules, TableRules, Carried, EntryAddress}

module _ {b c : List ℕ} {x : ℕ} (a : Agree b c x) (at n : ℕ) (h : x + 4 ≤ at) where
  same : AlikeTable b c at n
  same = alike-table a at n h

  pub text_to_same : (seg el : ℕ) → text_to (table c at n) seg el ≡ text_to (table b at n) seg el
  unfolding text_to
  text_to_same seg el = text_same a at h seg el

  text-of-same : (k j : ℕ) → text_of (table c at n) k j ≡ text_of (table b at n) k j
  unfolding text_of
  text-of-same k j = rw (same.segment k j, same.element k j) (text_to_same (segment_of (table b at n) k j) (element_of (table b at n) k j))

  pub listed_same : (i : ℕ) → listed_text (table c at n) i ≡ listed_text (table b at n) i
  unfolding listed_text
  listed_same i = rw (same.listed-segment i, same.listed-element i) (text_to_same _ _)

  pub address_same : (seg el : ℕ) → EntryAddress (table b at n) seg el → EntryAddress (table c at n) seg el
  address_same seg el w =
      (w.0, w.1, (w.2.0, rw (same.entries w.0) w.2.1, (same.segment _ _ ∙ w.2.2.0, same.element _ _ ∙ w.2.2.1)))

  carried_same : (i : ℕ) → Carried (table b at n) i → Carried (table c at n) i
  carried_same i w = (w.0, w.1, (w.2.0, rw (same.entries w.0) w.2.1, same.index _ _ ∙ w.2.2))

  entry-rules : (k j : ℕ) → EntryRules (table b at n) k j → EntryRules (table c at n) k j
  entry-rules k j g =
      record {
        resolved = rw (same.segment k j, same.element k j) (resolves_same same.chars _ _ g.resolved);
        sized = rw (same.long k j, text-of-same k j) g.sized;
        hashed = rw (same.hash k j, text-of-same k j) g.hashed;
        bucket = rw (same.hash k j) g.bucket;
        indexed = record {
          low = rw (same.index k j) g.indexed.low;
          high = rw (same.index k j, same.count) g.indexed.high;
          segment = rw (same.index k j, same.segment k j, same.listed-segment) g.indexed.segment;
          element = rw (same.index k j, same.element k j, same.listed-element) g.indexed.element;
        };
      }

  pub table-rules : TableRules (table b at n) → TableRules (table c at n)
  table-rules g =
      record {
        entry = λ k j l m. entry-rules k j (g.entry k j l (rw (same.entries k) at m));
        ascending = λ k i j l m q. rw (same.hash k i, same.hash k j) (g.ascending k i j l (rw (same.entries k) at m) q);
        distinct = λ k i j l m q e. g.distinct k i j l (rw (same.entries k) at m) q (sym (text-of-same k i) ∙ e ∙ text-of-same k j);
        carried = λ i l m. carried_same i (g.carried i l (rw same.count at m));
      }
