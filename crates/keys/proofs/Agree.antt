-- The names of a file stay, and its keys obey their rules as before, where four bytes among the attributes change. Groundwork for request
-- T-12. Assumes nothing.
use Prim.Native.Nat.{ℕ, ◌<◌}
use native.Mathlib.Omega.{arith}
use mathlib.Core.Path.{◌≡◌, sym, ◌∙◌}
use mathlib.Core.Logic.{inl}
use mathlib.Core.List.{List}
use Rattle.le.proofs.Agree.{Agree, u16_same}
use Rattle.layout.specs.Header.{key_count}
use Rattle.layout.specs.Layout.{names_at, names, name_bucket_count}
use Rattle.layout.specs.declared.Edition.{Edition}
use Rattle.layout.proofs.Laws.{key_in}
use Rattle.layout.proofs.Agree.{Inside, alike_file, front, names_behind}
use Rattle.strings.proofs.Agree.{listed_same}
use Rattle.keys.specs.Names.{name_count, name_text, Bears, Special}
use Rattle.keys.specs.Keys.{key_name, KeyRule}

module _ {ed : Edition} {b c : List ℕ} {x : ℕ} (a : Agree b c x) (h : Inside ed b x) where
  pub name-count-same : name_count ed c ≡ name_count ed b
  unfolding name_count names
  name-count-same = rw ((alike_file a h).names-at, (alike_file a h).names.count)

  name-text-same : (i : ℕ) → name_text ed c i ≡ name_text ed b i
  unfolding name_text names
  name-text-same i = rw (alike_file a h).names-at (listed_same a (names_at ed b) name_bucket_count (names_behind a h) i)

  pub bears_same : {i : ℕ} {t : List ℕ} → Bears ed b i t → Bears ed c i t
  bears_same {i} g = record { low = g.low; high = rw name-count-same g.high; text = name-text-same i ∙ g.text }

  pub bears_back : {i : ℕ} {t : List ℕ} → Bears ed c i t → Bears ed b i t
  bears_back {i} g = record { low = g.low; high = rw name-count-same at g.high; text = sym (name-text-same i) ∙ g.text }

  pub special-same : Special ed b → Special ed c
  special-same g = record { two = rw name-count-same g.two; highest = simp (name-count-same, name-text-same) g.highest }

  key-name-same : (k f : ℕ) → k < key_count b → f < 4 → key_name c k f ≡ key_name b k f
  unfolding key_name
  key-name-same k f l m = u16_same a _ (inl (omega (arith, key_in b k l, front a h)))

  pub key-same : (k : ℕ) → k < key_count b → KeyRule ed b k → KeyRule ed c k
  key-same k l g f m =
      let e = key-name-same k f l m in
      record {
        zero-key = λ z. e ∙ (g f m).zero-key z;
        high = rw (e, name-count-same) (g f m).high;
        not-value = λ w. (g f m).not-value (bears_back (rw e at w));
      }
