-- Groundwork for request T-12: changing a value of an attribute of type 1. The changed file obeys every rule, is accepted
-- in the same workspace with the same marks, and has the same view. Assumes nothing.
use Prim.Native.Nat.{ℕ, ◌<◌}
use mathlib.Core.Path.{◌≡◌}
use mathlib.Core.List.{List}
use Rattle.verdict.specs.Verdict.{Accepted}
use Rattle.layout.specs.Header.{key_count}
use Rattle.layout.specs.Layout.{LaidOut, values_at, values, names_at, names, value_bucket_count, name_bucket_count}
use Rattle.layout.specs.inner.View.{Fits}
use Rattle.layout.specs.declared.View.{View}
use Rattle.layout.specs.declared.Edition.{Edition}
use Rattle.layout.proofs.Agree.{alike_file, laid_out, fits-same, values_behind, names_behind}
use Rattle.strings.proofs.Agree.{table-rules}
use Rattle.keys.proofs.Agree.{special-same, key-same}
use Rattle.nodes.proofs.Agree.{Changed, inside, nodes-rules}
use Rattle.tree.proofs.Agree.{used_back, used-nodes-same, range_same, depth_same, marked-same}
use Rattle.tree.specs.Marks.{marked}
use Rattle.accept.specs.Verdict.{verdict_of}
use Rattle.accept.specs.Rules.{FileRules}
use Rattle.accept.proofs.Accepted.{accepted_iff}

pub changed_right : {ed : Edition} {b c : List ℕ} {seg el : ℕ} → FileRules ed b → Changed ed b c seg el → FileRules ed c
unfolding values names
changed_right {ed} {b} g d =
    let a = d.agree in
    let h = inside g.laid d in
    record {
      laid = laid_out a h g.laid;
      value-table = rw (alike_file a h).values-at (table-rules a (values_at ed b) value_bucket_count (values_behind a h) g.value-table);
      name-table = rw (alike_file a h).names-at (table-rules a (names_at ed b) name_bucket_count (names_behind a h) g.name-table);
      special = special-same a h g.special;
      key = λ k l. let m : k < key_count b = rw (alike_file a h).keys at l in key-same a h k m (g.key k m);
      nodes = nodes-rules g.laid d g.nodes;
      range = λ n u. range_same a h n (g.range n (used_back a h n u));
      depth = depth_same a h g.depth;
    }

pub changed_accepted : {ed : Edition} {b c : List ℕ} {seg el : ℕ} (room : ℕ) → Changed ed b c seg el → verdict_of ed b room ≡ Accepted → verdict_of ed c room ≡ Accepted
changed_accepted {ed} {b} {c} room d e =
    let p = (accepted_iff ed b room).0 e in
    (accepted_iff ed c room).1 (changed_right p.0 d, rw (used-nodes-same d.agree (inside p.0.laid d)) p.1)

pub changed_marks : {ed : Edition} {b c : List ℕ} {seg el : ℕ} (ws : List ℕ) → LaidOut ed b → Changed ed b c seg el → marked ed c ws ≡ marked ed b ws
changed_marks ws g d = marked-same d.agree (inside g d) ws

pub changed_view : {ed : Edition} {b c : List ℕ} {seg el : ℕ} {v : View} → Changed ed b c seg el → Fits ed b v → Fits ed c v
changed_view d g = fits-same d.agree (inside g.laid d) g
