-- The checks of a string table find nothing exactly when its rules hold. Assumes nothing.
use Prim.Native.Nat.{ℕ, zero, suc, ◌-◌, ◌≤◌, ◌<◌}
use native.Mathlib.Nat.{le_refl}
use native.Mathlib.Omega.{arith}
use mathlib.Core.Path.{◌≡◌, subst, ◌∙◌}
use mathlib.Core.Logic.{◌↔◌}
use Rattle.verdict.specs.Checks.{first_fault}
use Rattle.verdict.specs.Verdict.{Accepted}
use Rattle.verdict.proofs.Laws.{Clean, pass, clean_inv, fault_none, fault_append, append_inv, each_inv, each_clean}
use Rattle.layout.specs.Table.{Table, entries, hash_of, count}
use Rattle.strings.specs.Rules.{Resolved, Sized, Hashed, Placed, Indexed, Duplicate, Carried, TableRules}
use Rattle.strings.specs.inner.Held.{TextPasses}
use Rattle.strings.specs.Order.{entry_checks, bucket_entry_checks, all_entry_checks, position_checks, all_position_checks, string_checks}

-- an entry's six checks hold
pub record Good (t : Table) (k j : ℕ) : Type 0 where
  pub resolved : Resolved t k j
  pub sized : Sized t k j
  pub hashed : Hashed t k j
  pub placed : Placed t k j
  pub indexed : Indexed t k j
  pub alone : ¬ Duplicate t k j

-- among them those of its text
pub good_text : (t : Table) (k j : ℕ) → Good t k j → TextPasses t k j
good_text t k j g = record { resolved = g.resolved; sized = g.sized; hashed = g.hashed }

module _ (t : Table) where
  pub entry_good : (k j : ℕ) → Clean (entry_checks t k j) → Good t k j
  unfolding entry_checks
  entry_good k j e =
      let a = clean_inv _ _ _ _ _ e in
      let b = clean_inv _ _ _ _ _ a.1 in
      let c = clean_inv _ _ _ _ _ b.1 in
      let d = clean_inv _ _ _ _ _ c.1 in
      let f = clean_inv _ _ _ _ _ d.1 in
      let g = clean_inv _ _ _ _ _ f.1 in
      record { resolved = a.0; sized = b.0; hashed = c.0; placed = d.0; indexed = f.0; alone = g.0 }

  pub entry_clean : (k j : ℕ) → Good t k j → Clean (entry_checks t k j)
  unfolding entry_checks
  entry_clean k j g =
      pass _ _ _ _ _ g.resolved ∙ pass _ _ _ _ _ g.sized ∙ pass _ _ _ _ _ g.hashed ∙ pass _ _ _ _ _ g.placed
      ∙ pass _ _ _ _ _ g.indexed ∙ pass _ _ _ _ _ g.alone ∙ fault_none

  -- where all entries pass, each one's rules hold
  pub all_good : Clean (all_entry_checks t) → (k j : ℕ) → k < t.buckets → j < entries t k → Good t k j
  unfolding all_entry_checks bucket_entry_checks
  all_good e k j h l = entry_good k j (each_inv _ _ _ (each_inv _ _ _ e k (omega arith) (omega arith)) j (omega arith) (omega arith))

  pub entries_clean : ((k j : ℕ) → k < t.buckets → j < entries t k → Good t k j) → Clean (all_entry_checks t)
  unfolding all_entry_checks bucket_entry_checks
  entries_clean g = each_clean _ _ _ (λ k a h. each_clean _ _ _ (λ j b l. entry_clean k j (g k j (omega arith) (omega arith))))

  -- where all list positions pass, each is carried
  pub all-carried : Clean (all_position_checks t) → (i : ℕ) → 1 ≤ i → i < count t → Carried t i
  unfolding all_position_checks position_checks
  all-carried e i l h = (clean_inv _ _ _ _ _ (each_inv _ _ _ e i l (omega arith))).0

  pub positions_clean : ((i : ℕ) → 1 ≤ i → i < count t → Carried t i) → Clean (all_position_checks t)
  unfolding all_position_checks position_checks
  positions_clean g = each_clean _ _ _ (λ i l h. pass _ _ _ _ _ (g i l (omega arith)) ∙ fault_none)

  -- 7 to 12 of all entries, then 13
  pub strings_parts : Clean (string_checks t) → Clean (all_entry_checks t) × Clean (all_position_checks t)
  unfolding string_checks
  strings_parts e = append_inv (all_entry_checks t) (all_position_checks t) e

  accepted-rules : Clean (string_checks t) → TableRules t
  accepted-rules e =
      let p = strings_parts e in
      let good = all_good p.0 in record {
        entry = λ k j h l. let g = good k j h l in record {
          resolved = g.resolved;
          sized = g.sized;
          hashed = g.hashed;
          bucket = g.placed.bucket;
          indexed = g.indexed;
        };
        ascending = λ k i j h l q. let z : j - 1 ≡ i = omega arith in subst (λ (x : ℕ). hash_of t k x ≤ hash_of t k j) z (good k j h l).placed.ascends;
        distinct = λ k i j h l m q. (good k j h l).alone (i, m, q);
        carried = all-carried p.1;
      }

  before-first : TableRules t → (k j : ℕ) → k < t.buckets → j < entries t k → hash_of t k (j - 1) ≤ hash_of t k j
  before-first r k zero h l = le_refl (hash_of t k 0)
  before-first r k (suc j) h l = let z : suc j - 1 ≡ j = omega arith in rw z (r.ascending k j (suc j) h l (omega arith))

  rules-accepted : TableRules t → Clean (string_checks t)
  unfolding string_checks
  rules-accepted r = fault_append (all_entry_checks t) (all_position_checks t) (entries_clean good) ∙ positions_clean r.carried
    where
      good : (k j : ℕ) → k < t.buckets → j < entries t k → Good t k j
      good k j h l =
          let e = r.entry k j h l in record {
            resolved = e.resolved;
            sized = e.sized;
            hashed = e.hashed;
            placed = record { bucket = e.bucket; ascends = before-first r k j h l };
            indexed = e.indexed;
            alone = λ w. r.distinct k w.0 j h l w.1 w.2;
          }

  -- accepted exactly when the rules hold
  pub strings_iff : first_fault (string_checks t) ≡ Accepted ↔ TableRules t
  strings_iff = (accepted-rules, rules-accepted)
