-- An accepted file gives what specs/Given.antt says. Assumes nothing.
use Prim.Native.Nat.{ℕ, ◌/◌, ◌%◌, ◌≤◌}
use native.Mathlib.Omega.{arith}
use mathlib.Core.Path.{◌≡◌, ap}
use mathlib.Core.Logic.{⊎_elim}
use mathlib.Core.List.{List}
use Rattle.verdict.specs.Verdict.{Accepted}
use Rattle.region.proofs.Laws.{range-each}
use Rattle.layout.specs.Table.{Table}
use Rattle.layout.specs.Edition.{attribute_size}
use Rattle.layout.specs.Layout.{attributes_at, names, values}
use Rattle.layout.specs.declared.Edition.{Edition}
use Rattle.strings.specs.Rules.{TableRules, EntryAddress}
use Rattle.strings.proofs.Accepted.{strings_iff}
use Rattle.keys.specs.Names.{name_count}
use Rattle.keys.proofs.Only.{position_resolves}
use Rattle.tree.specs.Chain.{deepest_level}
use Rattle.tree.specs.File.{Used, node_of, tree_of}
use Rattle.tree.proofs.Depths.{no_longer}
use Rattle.tree.proofs.Unique.{one-chain, one_parent}
use Rattle.accept.specs.Verdict.{verdict_of}
use Rattle.accept.specs.Rules.{FileRules}
use Rattle.accept.specs.Given.{HasText, HasListed, TableGiven, NodeGiven, TreeGiven, Given}
use Rattle.accept.proofs.Accepted.{accepted_iff}

module _ (t : Table) (r : TableRules t) where
  table_given : TableGiven t
  table_given = record {
    entry = λ k j h l. (r.entry k j h l).resolved;
    position = λ i l h. position_resolves t ((strings_iff t).1 r) i l h;
  }

  -- an address that an entry has
  address-text : (seg el : ℕ) → EntryAddress t seg el → HasText t seg el
  address-text seg el a =
      rw (a.2.2.0, a.2.2.1) at (table_given.entry a.0 a.2.0 a.1 a.2.1)

module _ (ed : Edition) (b : List ℕ) (r : FileRules ed b) where
  -- a name index
  name-text : (i : ℕ) → 1 ≤ i → i ≤ name_count ed b → HasListed (names ed b) i
  unfolding name_count
  name-text i l h = (table_given (names ed b) r.name-table).position i l (omega arith)

  node_given : (a : ℕ) → Used ed b a → NodeGiven ed b a
  unfolding node_of
  node_given a u =
      let n = r.nodes.each (a / 65536) (a % 65536) u in
      record {
        name = λ l. name-text _ (omega (arith, l)) n.node.name;
        attribute = λ i l. ⊎_elim (λ z. absurd (omega arith)) (λ h. range-each (attribute_size ed) b (attributes_at b) _ _ _ i h l) n.attributes;
        attribute-name = λ i l. let x = n.attribute i l in name-text _ x.low x.high;
        text = λ i l z. address-text (values ed b) r.value-table _ _ (n.text i l z).entry;
      }

  tree_given : TreeGiven ed b
  tree_given =
      let p = one_parent ed b r.laid.nodes r.nodes r.range in
      record {
        root = p.root;
        child-used = p.within;
        rootless = p.rootless;
        one-range = λ a c j k h m l d q.
            let e = p.one a c j k h m l d q in
            let f = ap (tree_of ed b).first e in
            (e, omega (arith, q, f));
        one-chain = one-chain (tree_of ed b) (Used ed b) p;
        depth = λ ps e c. no_longer (tree_of ed b) deepest_level 0 ps e r.depth c;
      }

pub accepted_gives : (ed : Edition) (b : List ℕ) (room : ℕ) → verdict_of ed b room ≡ Accepted → Given ed b
accepted_gives ed b room e =
    let r = ((accepted_iff ed b room).0 e).0 in
    record {
      value-table = table_given (values ed b) r.value-table;
      name-table = table_given (names ed b) r.name-table;
      node = node_given ed b r;
      tree = tree_given ed b r;
    }
