-- Refusal 19 as it was before request T-10: with the value hash of the old fold. Kept for one law only (accept/specs/OldFold).
use Rattle.std.specs.Prelude.{ℕ, ◌≡◌, List, [], ◌∷◌, ◌++◌}
use Rattle.std.proofs.Math.Decide.{ℕ_discrete}
use Rattle.std.proofs.Math.Logic.Dec.{and as dec_and}
use Rattle.verdict.specs.Checks.{Check, check, each}
use Rattle.verdict.specs.Decide.{dec_by, implies?}
use Rattle.words.specs.Words.{type_of, extended_of}
use Rattle.hash.specs.Fold.{value_hash}
use Rattle.hash.specs.OldFold.{value_hash_before}
use Rattle.region.specs.Region.{count_of, used_of}
use Rattle.layout.specs.Edition.{node_size}
use Rattle.layout.specs.Layout.{nodes_at, values}
use Rattle.layout.specs.declared.Edition.{Edition}
use Rattle.strings.specs.Texts.{text_to}
use Rattle.strings.specs.Rules.{EntryAddress}
use Rattle.nodes.specs.Node.{attribute_count, node_at, attribute_at}
use Rattle.nodes.specs.Attribute.{type_word, text_segment, text_element}
use Rattle.nodes.specs.Rules.{RootUsed, NodeRule, AttributesReach, AttributeRule, ChildRule}
use Rattle.nodes.specs.Decisions.{root_used?, node_rule?, attributes_reach?, attribute_rule?, child_rule?, entry_address?}

-- The attribute at q is a text to which the two folds give different value hashes.
pub record FoldsDiffer (ed : Edition) (b : List ℕ) (q : ℕ) : Type 0 where
  pub text : type_of (type_word b q) ≡ 3
  pub apart : value_hash (text_to (values ed b) (text_segment b q) (text_element b q)) ≡ value_hash_before (text_to (values ed b) (text_segment b q) (text_element b q)) → ⊥

-- 19, as it was: the text is at a values entry's address, and the extended code is its value hash by the old fold.
pub record TextRuleBefore (ed : Edition) (b : List ℕ) (q : ℕ) : Type 0 where
  pub entry : EntryAddress (values ed b) (text_segment b q) (text_element b q)
  pub hash : extended_of (type_word b q) ≡ value_hash_before (text_to (values ed b) (text_segment b q) (text_element b q))

abbrev pub TextRightBefore : Edition → List ℕ → ℕ → Type 0
TextRightBefore ed b q = type_of (type_word b q) ≡ 3 → TextRuleBefore ed b q

unfoldable pub text_right_before? : (ed : Edition) (b : List ℕ) (q : ℕ) → Dec (TextRightBefore ed b q)
text_right_before? ed b q =
    implies? (ℕ_discrete (type_of (type_word b q)) 3)
    (dec_by (λ w. record { entry = w.0; hash = w.1 }) (λ r. (r.entry, r.hash))
    (dec_and (entry_address? (values ed b) (text_segment b q) (text_element b q))
    (ℕ_discrete (extended_of (type_word b q)) (value_hash_before (text_to (values ed b) (text_segment b q) (text_element b q))))))

-- The checks of the nodes, as they were: all but 19 are those of Order.antt, in that order.
unfoldable pub attribute_checks_before : Edition → List ℕ → ℕ → ℕ → List Check
attribute_checks_before ed b p i =
    check 18 (attribute_at ed b p i) (AttributeRule ed b p i) (attribute_rule? ed b p i)
    ∷ check 19 (attribute_at ed b p i) (TextRightBefore ed b (attribute_at ed b p i)) (text_right_before? ed b (attribute_at ed b p i))
    ∷ []

unfoldable pub node_checks_before : Edition → List ℕ → ℕ → ℕ → List Check
node_checks_before ed b seg el =
    check 16 (node_at ed b seg el) (NodeRule ed b seg el) (node_rule? ed b seg el)
    ∷ check 17 (node_at ed b seg el) (AttributesReach ed b (node_at ed b seg el)) (attributes_reach? ed b (node_at ed b seg el))
    ∷ (each (attribute_checks_before ed b (node_at ed b seg el)) (attribute_count b (node_at ed b seg el)) 0
    ++ (check 23 (node_at ed b seg el) (ChildRule ed b (node_at ed b seg el)) (child_rule? ed b (node_at ed b seg el)) ∷ []))

unfoldable pub all_node_checks_before : Edition → List ℕ → List Check
all_node_checks_before ed b =
    check 16 (nodes_at ed b) (RootUsed ed b) (root_used? ed b)
    ∷ each (λ seg. each (node_checks_before ed b seg) (used_of (node_size ed) b (nodes_at ed b) seg) 0) (count_of b (nodes_at ed b)) 0
