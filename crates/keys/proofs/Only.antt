-- Of a string table that passes 7 to 13: each list position has an address that resolves and a text that ends, and no two
-- have one text. Assumes nothing.
use Prim.Native.Nat.{ℕ, ◌≤◌, ◌<◌}
use mathlib.Core.Path.{◌≡◌, sym, ◌∙◌}
use Rattle.verdict.proofs.Laws.{Clean}
use Rattle.region.specs.Region.{Resolves}
use Rattle.layout.specs.Table.{Table, count, listed_segment, listed_element}
use Rattle.strings.specs.Texts.{listed_text}
use Rattle.strings.specs.Rules.{Carried}
use Rattle.strings.specs.Order.{string_checks}
use Rattle.strings.proofs.Accepted.{strings_parts, all-carried}
use Rattle.strings.proofs.Only.{text-of-index, one_index}
use Rattle.positions.proofs.Laws.{carried_in}

module _ (t : Table) (ok : Clean (string_checks t)) where
  carried : (i : ℕ) → 1 ≤ i → i < count t → Carried t i
  carried i l h = all-carried t (strings_parts t ok).1 i l h

  pub position_resolves : (i : ℕ) → 1 ≤ i → i < count t
      → Resolves 2 t.bytes t.at (listed_segment t i) (listed_element t i)
  position_resolves i l h = carried_in t i (strings_parts t ok).0 (carried i l h)

  pub one-position : (i j : ℕ) → 1 ≤ i → i < count t → 1 ≤ j → j < count t → listed_text t i ≡ listed_text t j → i ≡ j
  one-position i j l h m g e =
      let good = (strings_parts t ok).0 in
      let c = carried i l h in
      let d = carried j m g in
      let x = text-of-index t good c.0 c.2.0 i c.1 c.2.1 c.2.2 in
      let y = text-of-index t good d.0 d.2.0 j d.1 d.2.1 d.2.2 in
      sym c.2.2 ∙ one_index t good c.0 c.2.0 d.0 d.2.0 c.1 c.2.1 d.1 d.2.1 (x ∙ e ∙ sym y) ∙ d.2.2
