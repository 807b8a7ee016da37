-- Laws of refusal 13. Assumes nothing.
use Prim.Native.Nat.{ℕ, ◌+◌, ◌-◌, ◌≤◌, ◌<◌}
use native.Mathlib.Omega.{arith}
use mathlib.Core.Path.{◌≡◌, refl, ap, sym, subst, ◌∙◌}
use mathlib.Core.List.{List}
use Rattle.verdict.specs.Checks.{first_fault, each}
use Rattle.verdict.specs.Verdict.{Verdict}
use Rattle.verdict.specs.Verdict.{Accepted, Refused}
use Rattle.verdict.proofs.Laws.{Clean, pass, stop, fault_none, fault_append, fault_keep}
use Rattle.verdict.proofs.Scans.{each_more, each_stop, each_end}
use Rattle.layout.specs.Table.{Table, entries, segment_of, element_of, count, position_at, listed_segment, listed_element}
use Rattle.region.specs.Region.{Resolves}
use Rattle.strings.specs.Texts.{spot_at}
use Rattle.strings.specs.Rules.{Carried}
use Rattle.strings.specs.Order.{all_entry_checks, position_checks, all_position_checks, string_checks}
use Rattle.strings.specs.inner.Held.{Held, held_table}
use Rattle.strings.specs.declared.Strings.{Strings}
use Rattle.strings.specs.declared.spot.Spot.{Spot}
use Rattle.strings.specs.Texts.{At}
use Rattle.strings.proofs.Accepted.{all_good}
use Rattle.strings.proofs.Spots.{Spotted, spot-text}
use Rattle.std.specs.Prelude.{Option}

-- the spot of the address at list position i, as it is found
pub spotted : {b : List ℕ} {s : Strings} {segments buckets : List ℕ} → Held b s segments buckets → (i : ℕ) {r : Option Spot}
    → r ≡ spot_at b s.chars.at (listed_segment (held_table b s buckets) i) (listed_element (held_table b s buckets) i) → {p n : ℕ} → r ≡ At p n
    → Spotted (held_table b s buckets) (listed_segment (held_table b s buckets) i) (listed_element (held_table b s buckets) i) p n
spotted {b} {s} {segments} {buckets} h i f g = spot-text (held_table b s buckets) _ _ h.laid.characters (sym f ∙ g)

-- ---- what a carried position has of its entry

module _ (t : Table) (i : ℕ) (ok : Clean (all_entry_checks t)) where
  -- what holds of each entry's address holds of that at a carried position
  pub carried-at : (P : ℕ → ℕ → Type 0) → ((k j : ℕ) → k < t.buckets → j < entries t k → P (segment_of t k j) (element_of t k j)) → Carried t i
      → P (listed_segment t i) (listed_element t i)
  carried-at P f c =
      let g = (all_good t ok c.0 c.2.0 c.1 c.2.1).indexed in
      let x : segment_of t c.0 c.2.0 ≡ listed_segment t i = sym g.segment ∙ ap (listed_segment t) c.2.2 in
      let y : element_of t c.0 c.2.0 ≡ listed_element t i = sym g.element ∙ ap (listed_element t) c.2.2 in
      subst (λ (a : ℕ). P a (listed_element t i)) x (subst (P (segment_of t c.0 c.2.0)) y (f c.0 c.2.0 c.1 c.2.1))

  pub carried_in : Carried t i → Resolves 2 t.bytes t.at (listed_segment t i) (listed_element t i)
  carried_in = carried-at (Resolves 2 t.bytes t.at) (λ k j h l. (all_good t ok k j h l).resolved)

-- ---- all list positions

-- from position i on
unfoldable pub positions_left : Table → ℕ → Verdict
positions_left t i = first_fault (each (position_checks t) (count t - i) i)

module _ (t : Table) where
  pub left_start : first_fault (all_position_checks t) ≡ positions_left t 1
  unfolding all_position_checks positions_left
  left_start = refl

  pub left_more : (i : ℕ) → i < count t → Carried t i → positions_left t i ≡ positions_left t (i + 1)
  unfolding positions_left position_checks
  left_more i h c = each_more (position_checks t) _ _ _ (omega arith) (pass _ _ _ _ _ c ∙ fault_none)

  pub left_stop : (i e : ℕ) → i < count t → e ≡ position_at t i → (Carried t i → ⊥) → positions_left t i ≡ Refused 13 e
  unfolding positions_left position_checks
  left_stop i e h p c = each_stop (position_checks t) _ _ (omega arith) (stop _ _ _ _ _ c) ∙ ap (Refused 13) (sym p)

  pub left_none : (i : ℕ) → count t ≤ i → positions_left t i ≡ Accepted
  unfolding positions_left
  left_none i h = each_end (position_checks t) _ _ (omega arith)

  -- ---- 7 to 12 of all entries, then 13

  pub table-accepted : {v : Verdict} → Clean (all_entry_checks t) → v ≡ first_fault (all_position_checks t) → v ≡ first_fault (string_checks t)
  unfolding string_checks
  table-accepted e q = q ∙ sym (fault_append (all_entry_checks t) (all_position_checks t) e)

  pub table-refused : {n p : ℕ} → first_fault (all_entry_checks t) ≡ Refused n p → Refused n p ≡ first_fault (string_checks t)
  unfolding string_checks
  table-refused e = sym (fault_keep (all_entry_checks t) (all_position_checks t) e)
