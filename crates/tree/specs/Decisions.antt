-- How the rules of Rules.antt are decided: nothing to judge here, a decision is right by its type.
use Rattle.std.specs.Prelude.{ℕ, zero, suc, ◌/◌, ◌%◌, ◌≡◌, refl, List, [], ◌∷◌, length}
use Rattle.std.proofs.Math.Decide.{ℕ_discrete}
use Rattle.std.proofs.Common.{arith, ap}
use Rattle.std.proofs.Math.Logic.Dec.{and as dec_and, not as dec_not}
use Rattle.verdict.specs.Checks.{SomeBelow}
use Rattle.verdict.specs.Decide.{some_below?, dec_by, implies?, all_below?}
use Rattle.region.specs.Decisions.{resolves?}
use Rattle.layout.specs.Edition.{node_size}
use Rattle.layout.specs.Layout.{nodes_at}
use Rattle.layout.specs.declared.Edition.{Edition}
use Rattle.tree.specs.Chain.{Tree, LiveIn, child, Chain, most_levels}
use Rattle.tree.specs.File.{Used, tree_of}
use Rattle.tree.specs.Rules.{RangeRule, Deep, DepthRule}

unfoldable pub used? : (ed : Edition) (b : List ℕ) (a : ℕ) → Dec (Used ed b a)
used? ed b a = resolves? (node_size ed) b (nodes_at ed b) (a / 65536) (a % 65536)

unfoldable pub range_rule? : (ed : Edition) (b : List ℕ) (a : ℕ) → Dec (RangeRule ed b a)
range_rule? ed b a =
    dec_by (λ w. record { rootless = w.0; fresh = w.1 }) (λ r. (r.rootless, r.fresh))
    (dec_and (all_below? ((tree_of ed b).count a) (λ j. dec_not (ℕ_discrete (child (tree_of ed b) a j) 0)))
    (all_below? a (λ c. implies? (used? ed b c) (all_below? ((tree_of ed b).count a) (λ j. all_below? ((tree_of ed b).count c) (λ k.
    dec_not (ℕ_discrete (child (tree_of ed b) a j) (child (tree_of ed b) c k))))))))

unfoldable pub deep? : (t : Tree) (n a : ℕ) → Dec (Deep t n a)
unfolding Chain
deep? t zero a = yes ([], a, refl, refl)
deep? t (suc n) a = dec_by down up (some_below? (t.count a) (λ j. dec_and (dec_not (ℕ_discrete (t.name (child t a j)) 0)) (deep? t n (child t a j))))
  where
    down : SomeBelow (t.count a) (λ j. LiveIn t (child t a j) × Deep t n (child t a j)) → Deep t (suc n) a
    down w = (w.0 ∷ w.2.1.0, w.2.1.1, ap suc w.2.1.2, (w.1, (w.2.0, w.2.1.3)))

    from : (ps : List ℕ) (e : ℕ) → length ps ≡ suc n → Chain t ps a e → SomeBelow (t.count a) (λ j. LiveIn t (child t a j) × Deep t n (child t a j))
    from [] e q c = absurd (omega arith)
    from (j ∷ ps) e q c = (j, c.0, (c.1.0, (ps, e, omega arith, c.1.1)))

    up : Deep t (suc n) a → SomeBelow (t.count a) (λ j. LiveIn t (child t a j) × Deep t n (child t a j))
    up d = from d.0 d.1 d.2 d.3

unfoldable pub depth_rule? : (ed : Edition) (b : List ℕ) → Dec (DepthRule ed b)
depth_rule? ed b = dec_not (deep? (tree_of ed b) most_levels 0)
