-- The outline of a file that obeys its rules has fewer than 2 ^ 64 bytes: it has a line for each of some distinct used nodes. Assumes nothing.
use mathlib.Core.Path.{◌≡◌, refl, sym, subst}
use mathlib.Core.Logic.{⊎_elim}
use mathlib.Core.List.Memᴰ
use mathlib.Core.List.{List, [], ◌∷◌, map, flat_map, Memᴰ}
use Prim.Native.Nat.{ℕ, zero, suc, ◌*◌, ◌/◌, ◌%◌, ◌^◌, ◌≤◌, ◌<◌}
use native.Mathlib.Nat.{suc-mul, add-mul, mul-le-mul_right, le_trans, lt_irrefl}
use native.Mathlib.Omega.{arith}
use lib.ListN.{length, length-append, length-map}
use Rattle.laws.proofs.Pigeon.{Once, once-none, once_more, pigeon}
use Rattle.region.specs.Region.{Laid, count_of, start_of, full_of, end_of, before_of, total_of, number_of}
use Rattle.region.proofs.Laws.{number_lt, number_same, end_le}
use Rattle.layout.specs.Edition.{node_size}
use Rattle.layout.specs.Layout.{nodes_at}
use Rattle.layout.specs.declared.Edition.{Edition}
use Rattle.layout.proofs.Sizes.{nodes_wide}
use Rattle.tree.specs.Chain.{Tree, LiveIn, child, Chain, Before, deepest_level}
use Rattle.tree.specs.File.{node_of, Used, tree_of, used_node_count}
use Rattle.tree.proofs.Unique.{OneParent, chain-within, one-chain, one_parent}
use Rattle.accept.specs.Rules.{FileRules}
use Rattle.outline.specs.Outline.{line, outline_of}
use Rattle.outline.specs.Lined.{leads, Rising}
use Rattle.outline.proofs.Chains.{chains, chains-sound, chains-rising}
use Rattle.outline.proofs.Listed.{outline_rows}
use Rattle.outline.proofs.Widths.{line-short}

-- ---- lists of chains

-- lines of at most m bytes
flat_short : (f : List ℕ → List ℕ) (m : ℕ) (l : List (List ℕ)) → ((ps : List ℕ) → Memᴰ ps l → length (f ps) ≤ m)
    → length (flat_map f l) ≤ length l * m
unfolding flat_map
flat_short f m [] h = omega arith
flat_short f m (x ∷ l) h =
    rw length-append (omega (arith, suc-mul (length l) m, h x (Memᴰ.head refl), flat_short f m l (λ ps k. h ps (Memᴰ.tail k))))

before_irrefl : (ps : List ℕ) → Before ps ps → ⊥
unfolding Before
before_irrefl [] h = h
before_irrefl (p ∷ ps) h = ⊎_elim (λ l. lt_irrefl p l) (λ r. before_irrefl ps r.1) h

module _ (g : List ℕ → ℕ) where
  -- where no two chains of a list have one number, and they stand in document order, no number is there twice
  once-numbers : (l : List (List ℕ)) → ((ps qs : List ℕ) → Memᴰ ps l → Memᴰ qs l → g ps ≡ g qs → ps ≡ qs) → Rising l → Once (map g l)
  unfolding Rising
  once-numbers [] f r = once-none
  once-numbers (x ∷ l) f r =
      once_more (g x) (map g l)
      (λ m.
      let w = Memᴰ.of_map g l m in
      before_irrefl w.0 (subst (λ (ps : List ℕ). Before ps w.0) (f x w.0 (Memᴰ.head refl) (Memᴰ.tail w.1) (sym w.2)) (r.0 w.0 w.1)))
      (once-numbers l (λ ps qs h k. f ps qs (Memᴰ.tail h) (Memᴰ.tail k)) r.1)

  -- so there are at most as many chains as numbers
  few-chains : (n : ℕ) (l : List (List ℕ)) → ((ps : List ℕ) → Memᴰ ps l → g ps < n)
      → ((ps qs : List ℕ) → Memᴰ ps l → Memᴰ qs l → g ps ≡ g qs → ps ≡ qs) → Rising l → length l ≤ n
  few-chains n l low f r =
      rw length-map at (pigeon n (map g l) (once-numbers l f r) (λ e m. let w = Memᴰ.of_map g l m in rw (sym w.2) (low w.0 w.1)))

-- ---- the used elements of a region lie in the file

module _ (size : ℕ) (b : List ℕ) (r : ℕ) (g : Laid size b r) where
  before-fits : (s : ℕ) → s ≤ count_of b r → before_of size b r s * size ≤ start_of size b r s
  unfolding before_of start_of full_of
  before-fits zero h = omega arith
  before-fits (suc s) h = rw add-mul (omega (arith, before-fits s (omega arith), mul-le-mul_right size (g.used s h)))

  total_fits : total_of size b r * size ≤ length b
  unfolding total_of end_of
  total_fits = le_trans (before-fits (count_of b r) (omega arith)) (end_le size b r g)

-- ---- the nodes of the outline

-- where the first node is live, so is the last of a chain
chain-live : (t : Tree) (ps : List ℕ) (a e : ℕ) → LiveIn t a → Chain t ps a e → LiveIn t e
unfolding Chain
chain-live t [] a e h c = rw c h
chain-live t (j ∷ ps) a e h c = chain-live t ps (child t a j) e c.1.0 c.1.1

module _ (ed : Edition) (b : List ℕ) (r : FileRules ed b) where
  parents : OneParent (tree_of ed b) (Used ed b)
  parents = one_parent ed b r.laid.nodes r.nodes r.range

  root_live : LiveIn (tree_of ed b) 0
  unfolding tree_of node_of
  root_live z = omega (arith, ((r.nodes.each 0 0 r.nodes.root).node.root refl refl).named.low)

  -- the node where the places ps lead, and its running number
  abbrev at : List ℕ → ℕ
  at ps = leads (tree_of ed b) 0 ps

  abbrev number : List ℕ → ℕ
  number ps = number_of (node_size ed) b (nodes_at ed b) (at ps / 65536) (at ps % 65536)

  module _ (ps : List ℕ) (m : Memᴰ ps (chains (tree_of ed b) deepest_level 0)) where
    chain : Chain (tree_of ed b) ps 0 (at ps)
    chain = (chains-sound (tree_of ed b) deepest_level 0 ps m).1

    used : Used ed b (at ps)
    used = chain-within (tree_of ed b) (Used ed b) parents ps 0 (at ps) r.nodes.root chain

    number-low : number ps < used_node_count ed b
    unfolding used_node_count
    number-low = number_lt (node_size ed) b (nodes_at ed b) (at ps / 65536) (at ps % 65536) used

    shown-short : length (line ed b (length ps) (node_of ed b (at ps))) ≤ 2 ^ 36
    unfolding tree_of node_of
    shown-short =
        line-short ed b r (at ps / 65536) (at ps % 65536) (r.nodes.each _ _ used) (length ps) (chains-sound (tree_of ed b) deepest_level 0 ps m).0
        (chain-live (tree_of ed b) ps 0 (at ps) root_live chain)

  number-one : (ps qs : List ℕ) → Memᴰ ps (chains (tree_of ed b) deepest_level 0) → Memᴰ qs (chains (tree_of ed b) deepest_level 0) → number ps ≡ number qs → ps ≡ qs
  number-one ps qs m k q =
      let w = number_same (node_size ed) b (nodes_at ed b) _ _ _ _ (used ps m) (used qs k) q in
      let e : at ps ≡ at qs = omega (arith, w.0, w.1) in
      one-chain (tree_of ed b) (Used ed b) parents ps qs (at qs) (subst (Chain (tree_of ed b) ps 0) e (chain ps m)) (chain qs k)

  few-lines : length (chains (tree_of ed b) deepest_level 0) ≤ used_node_count ed b
  few-lines = few-chains number (used_node_count ed b) (chains (tree_of ed b) deepest_level 0) number-low number-one (chains-rising (tree_of ed b) deepest_level 0)

  few-nodes : used_node_count ed b ≤ 67108864
  unfolding used_node_count
  few-nodes = omega (arith, total_fits (node_size ed) b (nodes_at ed b) r.laid.nodes, nodes_wide ed (total_of (node_size ed) b (nodes_at ed b)), r.laid.small)

  pub outline-short : length (outline_of ed b) ≤ 67108864 * 2 ^ 36
  outline-short =
      rw (outline_rows ed)
      (le_trans
      (flat_short (λ ps. line ed b (length ps) (node_of ed b (at ps))) (2 ^ 36) (chains (tree_of ed b) deepest_level 0) shown-short)
      (mul-le-mul_right (2 ^ 36) (le_trans few-lines few-nodes)))

  pub outline-fits : length (outline_of ed b) < 2 ^ 64
  outline-fits = omega (arith, outline-short)
