-- The numbers of the checks of a list: those before 20 are neither 21 nor 22, so their refusals leave the workspace. Assumes nothing.
use Prim.Native.Nat.{ℕ, zero, suc, ◌+◌}
use mathlib.Core.Path.{◌≡◌, refl, subst}
use mathlib.Core.Bool.{Bool, true, false, not, ◌||◌}
use mathlib.Core.List.{List, [], ◌∷◌, ◌++◌}
use lib.Dec.{T, eqb}
use Rattle.verdict.specs.Checks.{Check, check, first_fault, each}
use Rattle.verdict.specs.Verdict.{Refused}
use Rattle.verdict.proofs.Laws.{never}
use Rattle.region.specs.Checks.{segment_checks, region_checks}
use Rattle.layout.specs.Header.{zero_word_checks, header_checks, key_checks}
use Rattle.layout.specs.Table.{Table, bucket_checks, list_checks, table_checks}
use Rattle.layout.specs.Layout.{size_checks, footer_checks, front_checks, layout_checks}
use Rattle.layout.specs.declared.Edition.{Edition}
use Rattle.strings.specs.Order.{entry_checks, bucket_entry_checks, all_entry_checks, position_checks, all_position_checks, string_checks}
use Rattle.keys.specs.Order.{special_checks, key_rule_checks, all_key_checks}
use Rattle.nodes.specs.Order.{attribute_checks, node_attribute_checks, attribute_range_checks, node_checks, segment_node_checks, all_node_checks}
use Rattle.nodes.specs.Node.{node_at}
use Rattle.tree.specs.Outcome.{workspace_after}

abbrev pub clearing : ℕ → Bool
clearing n = eqb n 21 || eqb n 22

-- no check of the list clears the workspace
unfoldable pub Calm : List Check → Type 0
Calm [] = Unit
Calm (check n p P d ∷ cs) = T (not (clearing n)) × Calm cs

pub calm_none : Calm []
unfolding Calm
calm_none = tt

pub calm_more : (n p : ℕ) (P : Type 0) (d : Dec P) (cs : List Check) → T (not (clearing n)) → Calm cs → Calm (check n p P d ∷ cs)
unfolding Calm
calm_more n p P d cs t a = (t, a)

pub calm_append : (xs ys : List Check) → Calm xs → Calm ys → Calm (xs ++ ys)
unfolding Calm
calm_append [] ys a b = b
calm_append (check n p P d ∷ xs) ys a b = (a.0, calm_append xs ys a.1 b)

pub calm_each : (f : ℕ → List Check) (n i : ℕ) → ((j : ℕ) → Calm (f j)) → Calm (each f n i)
unfolding each
calm_each f zero i g = calm_none
calm_each f (suc n) i g = calm_append (f i) (each f n (i + 1)) (g i) (calm_each f n (i + 1) g)

-- so the workspace stays where such a list refuses
pub calm_number : (cs : List Check) {n p : ℕ} → Calm cs → first_fault cs ≡ Refused n p → T (not (clearing n))
unfolding first_fault Calm
calm_number [] a e = absurd (never e refl)
calm_number (check m q P (yes h) ∷ cs) a e = calm_number cs a.1 e
calm_number (check m q P (no h) ∷ cs) {n} a e = let z : m ≡ n = cc in subst (λ (x : ℕ). T (not (clearing x))) z a.0

stays : (ed : Edition) (b ws : List ℕ) (n p : ℕ) (t : Bool) → clearing n ≡ t → T (not t) → workspace_after ed b ws (Refused n p) ≡ ws
unfolding workspace_after
stays ed b ws n p true e h = absurd h
stays ed b ws n p false e h = rw e

pub calm_stays : (ed : Edition) (b ws : List ℕ) (cs : List Check) {n p : ℕ} → Calm cs → first_fault cs ≡ Refused n p → workspace_after ed b ws (Refused n p) ≡ ws
calm_stays ed b ws cs {n} {p} a e = stays ed b ws n p (clearing n) refl (calm_number cs a e)

-- ---- group by group

calm_segment : (size : ℕ) (b : List ℕ) (r s : ℕ) → Calm (segment_checks size b r s)
unfolding segment_checks
calm_segment size b r s = calm_more _ _ _ _ _ tt (calm_more _ _ _ _ _ tt (calm_more _ _ _ _ _ tt (calm_more _ _ _ _ _ tt (calm_more _ _ _ _ _ tt calm_none))))

calm_region : (size : ℕ) (b : List ℕ) (r : ℕ) → Calm (region_checks size b r)
unfolding region_checks
calm_region size b r = calm_more _ _ _ _ _ tt (calm_more _ _ _ _ _ tt (calm_each _ _ _ (calm_segment size b r)))

calm_bucket : (t : Table) (k : ℕ) → Calm (bucket_checks t k)
unfolding bucket_checks
calm_bucket t k = calm_more _ _ _ _ _ tt (calm_more _ _ _ _ _ tt calm_none)

calm_list : (t : Table) (most : ℕ) → Calm (list_checks t most)
unfolding list_checks
calm_list t most = calm_more _ _ _ _ _ tt (calm_more _ _ _ _ _ tt (calm_more _ _ _ _ _ tt (calm_more _ _ _ _ _ tt calm_none)))

calm_table : (t : Table) (most : ℕ) → Calm (table_checks t most)
unfolding table_checks
calm_table t most =
    calm_append _ _ (calm_region 2 t.bytes t.at) (calm_append _ _ (calm_each _ _ _ (calm_bucket t)) (calm_list t most))

calm_size : (b : List ℕ) → Calm (size_checks b)
unfolding size_checks
calm_size b = calm_more _ _ _ _ _ tt calm_none

calm_word : (b : List ℕ) (i : ℕ) → Calm (zero_word_checks b i)
unfolding zero_word_checks
calm_word b i = calm_more _ _ _ _ _ tt (calm_more _ _ _ _ _ tt calm_none)

calm_header : (b : List ℕ) → Calm (header_checks b)
unfolding header_checks
calm_header b = calm_more _ _ _ _ _ tt (calm_more _ _ _ _ _ tt (calm_more _ _ _ _ _ tt (calm_more _ _ _ _ _ tt (calm_each _ _ _ (calm_word b)))))

calm_key_list : (b : List ℕ) → Calm (key_checks b)
unfolding key_checks
calm_key_list b = calm_more _ _ _ _ _ tt (calm_more _ _ _ _ _ tt (calm_more _ _ _ _ _ tt (calm_more _ _ _ _ _ tt calm_none)))

calm_front : (ed : Edition) (b : List ℕ) → Calm (front_checks ed b)
unfolding front_checks
calm_front ed b =
    calm_append _ _ (calm_size b)
    (calm_append _ _ (calm_header b) (calm_append _ _ (calm_key_list b) (calm_append _ _ (calm_region _ b _) (calm_region _ b _))))

calm_footer : (ed : Edition) (b : List ℕ) → Calm (footer_checks ed b)
unfolding footer_checks
calm_footer ed b = calm_more _ _ _ _ _ tt (calm_more _ _ _ _ _ tt (calm_more _ _ _ _ _ tt calm_none))

pub calm_layout : (ed : Edition) (b : List ℕ) → Calm (layout_checks ed b)
unfolding layout_checks
calm_layout ed b =
    calm_append _ _ (calm_front ed b) (calm_append _ _ (calm_table _ _) (calm_append _ _ (calm_table _ _) (calm_footer ed b)))

calm_entry : (t : Table) (k j : ℕ) → Calm (entry_checks t k j)
unfolding entry_checks
calm_entry t k j = calm_more _ _ _ _ _ tt (calm_more _ _ _ _ _ tt (calm_more _ _ _ _ _ tt (calm_more _ _ _ _ _ tt (calm_more _ _ _ _ _ tt (calm_more _ _ _ _ _ tt calm_none)))))

calm_entries : (t : Table) (k : ℕ) → Calm (bucket_entry_checks t k)
unfolding bucket_entry_checks
calm_entries t k = calm_each _ _ _ (calm_entry t k)

calm_position : (t : Table) (i : ℕ) → Calm (position_checks t i)
unfolding position_checks
calm_position t i = calm_more _ _ _ _ _ tt calm_none

pub calm_strings : (t : Table) → Calm (string_checks t)
unfolding string_checks all_entry_checks all_position_checks
calm_strings t = calm_append _ _ (calm_each _ _ _ (calm_entries t)) (calm_each _ _ _ (calm_position t))

pub calm_special : (ed : Edition) (b : List ℕ) → Calm (special_checks ed b)
unfolding special_checks
calm_special ed b = calm_more _ _ _ _ _ tt calm_none

calm_key : (ed : Edition) (b : List ℕ) (k : ℕ) → Calm (key_rule_checks ed b k)
unfolding key_rule_checks
calm_key ed b k = calm_more _ _ _ _ _ tt calm_none

pub calm_keys : (ed : Edition) (b : List ℕ) → Calm (all_key_checks ed b)
unfolding all_key_checks
calm_keys ed b = calm_each _ _ _ (calm_key ed b)

calm_attribute : (ed : Edition) (b : List ℕ) (p i : ℕ) → Calm (attribute_checks ed b p i)
unfolding attribute_checks
calm_attribute ed b p i = calm_more _ _ _ _ _ tt (calm_more _ _ _ _ _ tt calm_none)

calm_node : (ed : Edition) (b : List ℕ) (seg el : ℕ) → Calm (node_checks ed b seg el)
unfolding node_checks attribute_range_checks node_attribute_checks
calm_node ed b seg el =
    calm_more _ _ _ _ _ tt (calm_more _ _ _ _ _ tt (calm_append _ _ (calm_each _ _ _ (calm_attribute ed b (node_at ed b seg el))) (calm_more _ _ _ _ _ tt calm_none)))

calm_segment_nodes : (ed : Edition) (b : List ℕ) (seg : ℕ) → Calm (segment_node_checks ed b seg)
unfolding segment_node_checks
calm_segment_nodes ed b seg = calm_each _ _ _ (calm_node ed b seg)

pub calm_nodes : (ed : Edition) (b : List ℕ) → Calm (all_node_checks ed b)
unfolding all_node_checks
calm_nodes ed b = calm_more _ _ _ _ _ tt (calm_each _ _ _ (calm_segment_nodes ed b))
