-- What a view that fits gives to the layers that hold its parts. Assumes nothing.
use Prim.Native.Nat.{ℕ, ◌≤◌}
use native.Mathlib.Omega.{arith}
use mathlib.Core.Path.{◌≡◌, ap, sym, ◌∙◌, subst}
use mathlib.Core.Bool.{Bool}
use mathlib.Core.List.{List}
use lib.ListN.{length}
use Rattle.verdict.specs.Checks.{first_fault}
use Rattle.std.specs.Prelude.{Result}
use Rattle.verdict.specs.inner.Gives.{Gives}
use Rattle.verdict.specs.inner.Tells.{Sure}
use Rattle.verdict.specs.Verdict.{Accepted}
use Rattle.verdict.specs.declared.Refusal.{Refusal}
use Rattle.region.specs.inner.Samples.{Mapped, Starts}
use Rattle.layout.specs.Table.{Table, table, list_at, TableLaid, BucketStarts}
use Rattle.layout.specs.Layout.{values, names, values_most, names_most}
use Rattle.layout.specs.inner.View.{Fits}
use Rattle.layout.specs.declared.View.{View}
use Rattle.layout.specs.declared.Edition.{Edition}
use Rattle.layout.proofs.Seen.{own_mapped}
use Rattle.strings.specs.inner.Held.{Held, held_table}
use Rattle.strings.specs.Order.{string_checks}
use Rattle.strings.specs.declared.Strings.{Strings}
use Rattle.positions.specs.inner.Packed.{Packed}
use Rattle.keys.specs.inner.Known.{Known}
use Rattle.keys.specs.declared.Names.{Names}
use Rattle.nodes.specs.inner.Held.{value_strings, Ready}
use Rattle.nodes.specs.Order.{all_node_checks}
use Rattle.tree.specs.File.{used_node_count}
use Rattle.tree.specs.inner.Marking.{TreeReady}
use Rattle.accept.specs.inner.Held.{name_strings}

-- a table laid at an offset, with its parts as the code holds them
module _ (b : List ℕ) (at n most : ℕ) (s : Strings) (segments buckets : List ℕ) (m : Mapped 2 b at s.chars) (k : BucketStarts (table b at n) buckets) where
  pub held-table : held_table b s buckets ≡ table b at n
  held-table = ap (λ (a : ℕ). table b a (length buckets)) m.at_is ∙ ap (λ (x : ℕ). table b at x) k.long

  pub held : length b ≤ 1073741824 → TableLaid (table b at n) most → most ≤ values_most → 1 ≤ n → Starts 2 b at s.chars.shift segments
      → s.list ≡ list_at (table b at n) → Held b s segments buckets
  held small g few some p l = record {
    small = small;
    laid = subst (λ (t : Table). TableLaid t values_most) (sym held-table) (record {
      characters = g.characters;
      bucket = g.bucket;
      list = g.list;
      some = g.some;
      few = omega (arith, g.few);
      positions = g.positions;
    });
    some-bucket = omega (arith, k.long);
    chars = own_mapped m;
    sampled = subst (λ (a : ℕ). Starts 2 b a s.chars.shift segments) (sym m.at_is) p;
    bucket_starts = subst (λ (t : Table). BucketStarts t buckets) (sym held-table) k;
    list = l ∙ ap list_at (sym held-table);
  }

-- what passes of a table passes of the same table
pub clean_same : {t u : Table} → t ≡ u → first_fault (string_checks u) ≡ Accepted → first_fault (string_checks t) ≡ Accepted
clean_same e h = ap (λ (x : Table). first_fault (string_checks x)) e ∙ h

-- what a check of a held table answers is what one of the table does
pub table_answer : {t u : Table} {r : Result Bool Refusal} → t ≡ u → Gives (first_fault (string_checks t)) (Sure (Packed t)) r
    → Gives (first_fault (string_checks u)) (Sure (Packed u)) r
table_answer {r = r} e g = subst (λ (x : Table). Gives (first_fault (string_checks x)) (Sure (Packed x)) r) e g

module _ (ed : Edition) (b : List ℕ) (v : View) (f : Fits ed b v) where
  pub values-table : held_table b (value_strings v.places) v.value_buckets ≡ values ed b
  unfolding values value_strings
  values-table = held-table b _ _ 0 (value_strings v.places) v.value_segments v.value_buckets f.places.value_chars f.value_buckets

  pub values_held : Held b (value_strings v.places) v.value_segments v.value_buckets
  unfolding values value_strings values_most
  values_held =
      held b _ _ values_most (value_strings v.places) v.value_segments v.value_buckets f.places.value_chars f.value_buckets
      f.laid.small f.laid.values (omega arith) (omega arith) f.value_segments f.places.value_list

  pub names_table : held_table b (name_strings v.places) v.name_buckets ≡ names ed b
  unfolding names name_strings
  names_table = held-table b _ _ 0 (name_strings v.places) v.name_segments v.name_buckets f.places.name_chars f.name_buckets

  pub names_held : Held b (name_strings v.places) v.name_segments v.name_buckets
  unfolding names name_strings names_most values_most
  names_held =
      held b _ _ names_most (name_strings v.places) v.name_segments v.name_buckets f.places.name_chars f.name_buckets
      f.laid.small f.laid.names (omega arith) (omega arith) f.name_segments f.places.name_list

  pub nodes_ready : (n : Names) → Known ed b n → first_fault (string_checks (values ed b)) ≡ Accepted
      → Ready ed b v.places n v.attribute_segments v.node_segments v.value_segments v.value_buckets
  nodes_ready n k e = record {
    laid = f.laid;
    placed = f.places;
    known = k;
    attributes = f.attribute_segments;
    nodes = f.node_segments;
    strings = values_held;
    table = values-table;
    accepted = e;
  }

  pub used-told : v.places.used_nodes ≡ used_node_count ed b
  unfolding used_node_count
  used-told = f.places.used_nodes

  pub tree_ready : first_fault (all_node_checks ed b) ≡ Accepted → TreeReady ed b v.places.nodes v.node_segments
  tree_ready e = record { laid = f.laid; nodes = f.places.nodes; sampled = f.node_segments; accepted = e }
