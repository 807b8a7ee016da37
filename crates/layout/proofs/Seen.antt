-- From a walk that met no refusal to the view of the file. Assumes nothing.
use Prim.Native.Nat.{ℕ, ◌^◌, ◌<◌}
use native.Mathlib.Omega.{arith}
use mathlib.Core.Path.{◌≡◌, sym, subst}
use mathlib.Core.List.{List}
use lib.ListN.{length}
use Rattle.region.specs.declared.Region.{Region}
use Rattle.region.specs.Region.{Laid, total_of}
use Rattle.region.specs.inner.Samples.{Mapped, Starts, Counts}
use Rattle.layout.specs.Edition.{attribute_size, node_size}
use Rattle.layout.specs.Layout.{attributes_at, nodes_at, values, names, LaidOut}
use Rattle.layout.specs.inner.View.{WalkFits}
use Rattle.layout.specs.declared.whole.Walk.{Walk}
use Rattle.layout.specs.declared.Edition.{Edition}

-- what the code says of a region at the offset that the region holds, said of the offset that it was mapped at
module _ {size : ℕ} {b : List ℕ} {at : ℕ} {r : Region} (m : Mapped size b at r) where
  pub own_mapped : Mapped size b r.at r
  own_mapped = subst (λ (a : ℕ). Mapped size b a r) (sym m.at_is) m

  pub own_starts : {s : ℕ} {xs : List ℕ} → Starts size b r.at s xs → Starts size b at s xs
  own_starts {s} {xs} h = subst (λ (a : ℕ). Starts size b a s xs) m.at_is h

  pub own_counts : {s : ℕ} {xs : List ℕ} → Counts size b r.at s xs → Counts size b at s xs
  own_counts {s} {xs} h = subst (λ (a : ℕ). Counts size b a s xs) m.at_is h

  pub own_total : {n : ℕ} → n ≡ total_of size b r.at → n ≡ total_of size b at
  own_total {n} h = subst (λ (a : ℕ). n ≡ total_of size b a) m.at_is h

-- each region of a walk is laid where the walk found it, and mapped there is mapped at its place in the file
module _ {ed : Edition} {b : List ℕ} {w : Walk} {vs ns : List ℕ} (g : WalkFits ed b vs ns w) where
  pub walk_laid : LaidOut ed b
  walk_laid = g.laid

  pub walk_short : length b < 2 ^ 32
  walk_short = omega (arith, walk_laid.small)

  module _ {r : Region} where
    pub attributes-mapped : Mapped (attribute_size ed) b w.attributes r → Mapped (attribute_size ed) b (attributes_at b) r
    attributes-mapped m = rw g.attributes-at at m

    pub nodes-mapped : Mapped (node_size ed) b w.nodes r → Mapped (node_size ed) b (nodes_at ed b) r
    nodes-mapped m = rw g.nodes-at at m

    pub values-mapped : Mapped 2 b w.values r → Mapped 2 b (values ed b).at r
    unfolding values
    values-mapped m = rw g.values-at at m

    pub names-mapped : Mapped 2 b w.names r → Mapped 2 b (names ed b).at r
    unfolding names
    names-mapped m = rw g.names-at at m

  pub values-laid : Laid 2 b w.values
  unfolding values
  values-laid = rw g.values-at walk_laid.values.characters

  pub names-laid : Laid 2 b w.names
  unfolding names
  names-laid = rw g.names-at walk_laid.names.characters
