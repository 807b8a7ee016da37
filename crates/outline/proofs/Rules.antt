-- What an accepted file gives to the writers: the tree's own record, and the rules of a live node. Assumes nothing.
use Prim.Native.Nat.{ℕ, ◌+◌, ◌/◌, ◌%◌, ◌≤◌, ◌<◌}
use native.Mathlib.Omega.{arith}
use mathlib.Core.Path.{◌≡◌}
use mathlib.Core.Logic.{⊎_elim}
use mathlib.Core.List.{List}
use lib.ListN.{length}
use Rattle.region.proofs.Laws.{range-each, place-fits}
use Rattle.layout.specs.Edition.{attribute_size, node_size}
use Rattle.layout.specs.Layout.{attributes_at}
use Rattle.layout.specs.declared.Edition.{Edition}
use Rattle.layout.specs.declared.Edition.TheVariants.{Bits64}
use Rattle.nodes.specs.Node.{Live, attribute_count, node_at, attribute_at}
use Rattle.nodes.specs.Rules.{NodeRules, AttributesReach}
use Rattle.tree.specs.File.{node_of, Used}
use Rattle.tree.specs.inner.Marking.{TreeReady}
use Rattle.tree.proofs.Children.{node-fits}
use Rattle.accept.specs.Rules.{FileRules}
use Rattle.accept.proofs.Accepted.{accepted_iff, nodes-clean}
use Rattle.outline.specs.inner.Ready.{NodeReady}
use Rattle.outline.specs.declared.source.Source.{Source}

module _ (ed : Edition) (b : List ℕ) (r : FileRules ed b) where
  -- an attribute of a range that resolves lies in the file
  attribute-fits : (x i : ℕ) → AttributesReach ed b x → i < attribute_count b x → attribute_at ed b x i + attribute_size ed ≤ length b
  unfolding attribute_at
  attribute-fits x i h l =
      ⊎_elim (λ z. absurd (omega arith))
      (λ w. omega (arith, place-fits (attribute_size ed) b (attributes_at b) r.laid.attributes _ _ (range-each (attribute_size ed) b (attributes_at b) _ _ _ i w l)))
      h

  rules_ready : (seg el : ℕ) → NodeRules ed b seg el → node_at ed b seg el + node_size ed ≤ length b → Live b (node_at ed b seg el) → NodeReady ed b (node_at ed b seg el)
  rules_ready seg el n f l = record {
    fits = f;
    live = l;
    name = n.node.name;
    attributes = n.attributes;
    attribute = λ i h. record {
      fits = attribute-fits _ i n.attributes h;
      low = (n.attribute i h).low;
      high = (n.attribute i h).high;
      typed = (n.attribute i h).typed;
      text = n.text i h;
    };
  }

-- what a source holds
module _ (s : Source) where
  pub rules_of : FileRules Bits64 s.file.now
  rules_of = ((accepted_iff Bits64 _ _).0 s.accepted).0

  pub tree_held : TreeReady Bits64 s.file.now s.view.now.places.nodes s.view.now.node_segments
  tree_held = record { laid = rules_of.laid; nodes = s.placed.nodes; sampled = s.nodes; accepted = nodes-clean Bits64 _ _ s.accepted }

  -- a live node, wherever it stands
  pub node_ready : (a x : ℕ) → Used Bits64 s.file.now a → x ≡ node_of Bits64 s.file.now a → Live s.file.now x → NodeReady Bits64 s.file.now x
  unfolding node_of
  node_ready a x u q l =
      let r = rules_of in
      rw q (rules_ready Bits64 s.file.now r (a / 65536) (a % 65536) (r.nodes.each _ _ u) (rw q at (node-fits tree_held a x u q)) (rw q at l))
