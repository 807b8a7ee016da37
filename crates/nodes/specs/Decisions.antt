-- How the rules of Rules.antt are decided: nothing to judge here, a decision is right by its type.
use Rattle.std.specs.Prelude.{ℕ, ◌-◌, List}
use Rattle.std.proofs.Math.Decide.{ℕ_discrete, dec_le, dec_lt}
use Rattle.std.proofs.Math.Logic.Dec.{and as dec_and, not as dec_not}
use Rattle.verdict.specs.Decide.{some_below?, dec_by, either?, implies?, all_below?}
use Rattle.words.specs.Words.{flags_of, key_index_of, type_of, extended_of}
use Rattle.hash.specs.Fold.{value_hash}
use Rattle.region.specs.Decisions.{resolves?, reaches?}
use Rattle.layout.specs.Header.{key_count}
use Rattle.layout.specs.Table.{Table, entries, segment_of, element_of}
use Rattle.layout.specs.Edition.{attribute_size, node_size}
use Rattle.layout.specs.Layout.{attributes_at, nodes_at, values}
use Rattle.layout.specs.declared.Edition.{Edition}
use Rattle.strings.specs.Texts.{text_to}
use Rattle.keys.specs.Names.{name_count, root_name, value_name}
use Rattle.keys.specs.Decisions.{bears?}
use Rattle.nodes.specs.Node.{node_name, key_word, attribute_field, attribute_segment, attribute_element, child_segment, child_element, Live, attribute_count, child_count, node_at, attribute_at, child_at}
use Rattle.nodes.specs.Attribute.{attribute_name, type_word, value_word, text_segment, text_element, Typed}
use Rattle.strings.specs.Rules.{EntryAddress}
use Rattle.nodes.specs.Rules.{RootUsed, RootRule, NodeRule, AttributesReach, AttributeRule, TextRight, ChildRule}

unfoldable pub root_used? : (ed : Edition) (b : List ℕ) → Dec (RootUsed ed b)
root_used? ed b = resolves? (node_size ed) b (nodes_at ed b) 0 0

unfoldable pub live? : (b : List ℕ) (p : ℕ) → Dec (Live b p)
live? b p = dec_not (ℕ_discrete (node_name b p) 0)

unfoldable pub root_rule? : (ed : Edition) (b : List ℕ) (p : ℕ) → Dec (RootRule ed b p)
root_rule? ed b p =
    dec_by (λ w. record { named = w.0; bare = w.1 }) (λ r. (r.named, r.bare))
    (dec_and (bears? ed b (node_name b p) root_name) (ℕ_discrete (attribute_field b p) 0))

unfoldable pub node_rule? : (ed : Edition) (b : List ℕ) (seg el : ℕ) → Dec (NodeRule ed b seg el)
node_rule? ed b seg el =
    dec_by (λ w. record { root = w.0; name = w.1.0; flags = w.1.1.0; key = w.1.1.1 }) (λ r. (r.root, (r.name, (r.flags, r.key))))
    (dec_and (implies? (ℕ_discrete seg 0) (implies? (ℕ_discrete el 0) (root_rule? ed b (node_at ed b seg el))))
    (dec_and (dec_le (node_name b (node_at ed b seg el)) (name_count ed b))
    (dec_and (implies? (live? b (node_at ed b seg el)) (dec_le (flags_of (key_word b (node_at ed b seg el))) 1))
    (implies? (live? b (node_at ed b seg el)) (dec_lt (key_index_of (key_word b (node_at ed b seg el))) (key_count b))))))

unfoldable pub attributes_reach? : (ed : Edition) (b : List ℕ) (p : ℕ) → Dec (AttributesReach ed b p)
attributes_reach? ed b p = reaches? (attribute_size ed) b (attributes_at b) (attribute_segment b p) (attribute_element b p) (attribute_count b p)

unfoldable pub typed? : (b : List ℕ) (q : ℕ) → Dec (Typed b q)
unfolding Typed
typed? b q =
    either?
    (dec_and (ℕ_discrete (type_of (type_word b q)) 1)
    (either? (ℕ_discrete (extended_of (type_word b q)) 0) (dec_and (ℕ_discrete (extended_of (type_word b q)) 1) (dec_le (value_word b q) 1))))
    (either? (dec_and (ℕ_discrete (type_of (type_word b q)) 2) (ℕ_discrete (extended_of (type_word b q)) 0)) (ℕ_discrete (type_of (type_word b q)) 3))

unfoldable pub attribute_rule? : (ed : Edition) (b : List ℕ) (p i : ℕ) → Dec (AttributeRule ed b p i)
attribute_rule? ed b p i =
    dec_by (λ w. record { low = w.0; high = w.1.0; above = w.1.1.0; typed = w.1.1.1.0; value = w.1.1.1.1 })
    (λ r. (r.low, (r.high, (r.above, (r.typed, r.value)))))
    (dec_and (dec_le 1 (attribute_name b (attribute_at ed b p i)))
    (dec_and (dec_le (attribute_name b (attribute_at ed b p i)) (name_count ed b))
    (dec_and (either? (ℕ_discrete i 0) (dec_lt (attribute_name b (attribute_at ed b p (i - 1))) (attribute_name b (attribute_at ed b p i))))
    (dec_and (typed? b (attribute_at ed b p i))
    (implies? (bears? ed b (attribute_name b (attribute_at ed b p i)) value_name) (ℕ_discrete (type_of (type_word b (attribute_at ed b p i))) 3))))))

unfoldable pub entry_address? : (t : Table) (seg el : ℕ) → Dec (EntryAddress t seg el)
entry_address? t seg el =
    some_below? t.buckets (λ k. some_below? (entries t k) (λ j. dec_and (ℕ_discrete (segment_of t k j) seg) (ℕ_discrete (element_of t k j) el)))

unfoldable pub text_right? : (ed : Edition) (b : List ℕ) (q : ℕ) → Dec (TextRight ed b q)
text_right? ed b q =
    implies? (ℕ_discrete (type_of (type_word b q)) 3)
    (dec_by (λ w. record { entry = w.0; hash = w.1 }) (λ r. (r.entry, r.hash))
    (dec_and (entry_address? (values ed b) (text_segment b q) (text_element b q))
    (ℕ_discrete (extended_of (type_word b q)) (value_hash (text_to (values ed b) (text_segment b q) (text_element b q))))))

unfoldable pub child_rule? : (ed : Edition) (b : List ℕ) (p : ℕ) → Dec (ChildRule ed b p)
child_rule? ed b p =
    dec_by (λ w. record { reach = w.0; rising = w.1 }) (λ r. (r.reach, r.rising))
    (dec_and (reaches? (node_size ed) b (nodes_at ed b) (child_segment ed b p) (child_element ed b p) (child_count b p))
    (all_below? (child_count b p) (λ j. all_below? j (λ i.
    implies? (live? b (child_at ed b p i)) (implies? (live? b (child_at ed b p j)) (dec_le (node_name b (child_at ed b p i)) (node_name b (child_at ed b p j))))))))
