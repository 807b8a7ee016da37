-- Entries whose texts are known to differ (specs/inner/Apart.antt). Assumes nothing.
use Prim.Native.Nat.{ℕ, ◌+◌, ◌-◌, ◌≤◌, ◌<◌, ◌^◌}
use native.Mathlib.Omega.{arith}
use mathlib.Core.Path.{◌≡◌, refl, ap, sym, subst, ◌∙◌}
use mathlib.Core.Bool.{Bool, true, false, true≢false, false≢true}
use mathlib.Core.Logic.{⊎_elim}
use mathlib.Core.List.{List}
use lib.ListN.{length}
use Rattle.std.specs.Prelude.{Option, None, Some}
use Rattle.std.specs.Option.{ForSome}
use Rattle.laws.proofs.Order.{le_or_lt}
use Rattle.verdict.specs.inner.Tells.{Tells}
use Rattle.multimap.specs.inner.Multimap.{number_at, Filled, LastWith, PutBehind}
use Rattle.text.specs.Text.{chars, text_in}
use Rattle.text.specs.inner.Fingerprint.{fingerprint_of}
use Rattle.text.proofs.Laws.{text-chars, text_length_le}
use Rattle.layout.specs.Table.{Table, length_of, segment_of, element_of}
use Rattle.strings.specs.Texts.{text_of}
use Rattle.strings.specs.inner.Held.{TextPasses, Sorted}
use Rattle.strings.specs.inner.Apart.{Differ, Compared, Away, Apart, Fingerprinted, Collected, Met, Clear, AwayWithin}
use Rattle.strings.proofs.Spots.{Spotted}
use Rattle.strings.proofs.Runs.{Alone}

module _ (t : Table) (k i j : ℕ) where
  pub compared_no : Differ t k i j → Compared t k i j false
  compared_no d = record { so = λ e. absurd (false≢true e); not = λ e. d }

  pub compared : {r : Bool} → Tells (text_of t k i ≡ text_of t k j) r → Compared t k i j r
  compared w = record { so = w.so; not = λ e. record { texts = λ a b. w.not e } }

-- ---- fingerprints

module _ (t : Table) (k j : ℕ) where
  pub fingerprint_none : (TextPasses t k j → ⊥) → Fingerprinted t k j 0
  fingerprint_none f = record { small = omega arith; value = λ r. absurd (f r) }

  module _ (p n w : ℕ) (s : Spotted t (segment_of t k j) (element_of t k j) p n) (q : w ≡ length_of t k j) where
    text-here : text_of t k j ≡ text_in t.bytes p n
    unfolding text_of
    text-here = sym s.text

    pub length_some : w ≡ 0 → TextPasses t k j → ⊥
    length_some z r = omega (arith, r.sized)

    pub length-few : n + 1 < w → TextPasses t k j → ⊥
    length-few l r = omega (arith, r.sized, ap length text-here, text_length_le t.bytes p n)

    pub fingerprint_some : (x : ℕ) → (x ≡ fingerprint_of (chars t.bytes p (w - 1))) × (x < 2 ^ 16) → Fingerprinted t k j x
    fingerprint_some x e = record {
      small = e.1;
      value = λ r.
          let d : w - 1 ≡ length (text_in t.bytes p n) = omega (arith, r.sized, ap length text-here) in
          e.0 ∙ ap fingerprint_of (ap (chars t.bytes p) d ∙ sym (text-chars t.bytes p n) ∙ sym text-here);
    }

-- ---- one entry against the collected ones

-- how many of them are left where c is the next to compare with
abbrev pub left : Option ℕ → ℕ
left None = 0
left (Some i) = i + 1

-- it differs from all of them behind c, and c is one with its fingerprint
pub record Meeting (t : Table) (k s n j x : ℕ) (map : List ℕ) (c : Option ℕ) : Type 0 where
  pub within : left c ≤ n
  pub rest : (i : ℕ) → left c ≤ i → i < n → Differ t k (s + i) j
  pub number : ForSome c (λ i. number_at map i ≡ x)

module _ {map : List ℕ} {n x : ℕ} where
  left_within : (c : Option ℕ) → LastWith map n x c → left c ≤ n
  left_within None w = omega arith
  left_within (Some i) w = omega (arith, (w.some i refl).within)

  none_behind : (c : Option ℕ) → LastWith map n x c → (i : ℕ) → left c ≤ i → i < n → number_at map i ≡ x → ⊥
  none_behind None w i l h = w.none refl i h
  none_behind (Some a) w i l h = (w.some a refl).after i (omega arith) h

  pub left_less : {c : Option ℕ} → c ≡ Some n → (d : Option ℕ) → LastWith map n x d → left d < left c
  left_less q d w = omega (arith, ap left q, left_within d w)

module _ (t : Table) (k s n j x : ℕ) (map : List ℕ) (f : Collected t k s n map) (p : Fingerprinted t k j x) where
  other_fingerprint : (i : ℕ) → i < n → (number_at map i ≡ x → ⊥) → Differ t k (s + i) j
  other_fingerprint i l d = record { texts = λ a b e. d ((f.each i l).value a ∙ ap fingerprint_of e ∙ sym (p.value b)) }

  pub meeting_start : (c : Option ℕ) → LastWith map n x c → Meeting t k s n j x map c
  meeting_start c w = record {
    within = left_within c w;
    rest = λ i l h. other_fingerprint i h (none_behind c w i l h);
    number = λ i q. (w.some i q).number;
  }

  module _ {c : Option ℕ} (m : Meeting t k s n j x map c) where
    pub meeting_here : (a : ℕ) → c ≡ Some a → a < n
    meeting_here a q = omega (arith, ap left q, m.within)

    pub meeting_next : (a : ℕ) (d : Option ℕ) → c ≡ Some a → Differ t k (s + a) j → LastWith map a x d → Meeting t k s n j x map d
    meeting_next a d q f w = record {
      within = omega (arith, left_within d w, meeting_here a q);
      rest = λ i g h.
          ⊎_elim
          (λ u. ⊎_elim (λ v. m.rest i (omega (arith, ap left q)) h) (λ v. let z : a ≡ i = omega arith in subst (λ (y : ℕ). Differ t k (s + y) j) z f)
          (le_or_lt (a + 1) i))
          (λ u. other_fingerprint i h (none_behind d w i g u))
          (le_or_lt a i);
      number = λ i e. (w.some i e).number;
    }

    pub met_some : (a : ℕ) → c ≡ Some a → Met t k s n j true
    met_some a q = record { some = λ e. omega (arith, meeting_here a q); none = λ e. absurd (true≢false e) }

    pub met-none : c ≡ None → Met t k s n j false
    met-none q = record { some = λ e. absurd (false≢true e); none = λ e i h. m.rest i (omega (arith, ap left q)) h }

-- what no collected entry met differs from each of them
met_none : (t : Table) (k s n e : ℕ) {r : Bool} → Met t k s n e r → r ≡ false → (i j : ℕ) → s ≤ i → i < s + n → e ≡ j → Differ t k i j
met_none t k s n e m q i j l g h =
    let y : s + (i - s) ≡ i = omega arith in
    subst (Differ t k i) h (subst (λ (v : ℕ). Differ t k v e) y (m.none q (i - s) (omega arith)))

-- ---- collecting

pub record Collecting (t : Table) (k s n most : ℕ) (map : List ℕ) : Type 0 where
  pub few : n ≤ most
  pub apart : Apart t k s (s + n)
  pub collected : Collected t k s n map

module _ (t : Table) (k s most : ℕ) where
  pub collecting_start : (map : List ℕ) → Filled 0 map → Collecting t k s 0 most map
  collecting_start map f = record {
    few = omega arith;
    apart = record { each = λ i j l g h. absurd (omega arith) };
    collected = record { filled = f; each = λ i l. absurd (omega arith) };
  }

  module _ (n : ℕ) (map : List ℕ) (f : Collecting t k s n most map) where
    -- the next differs from all collected ones
    next_apart : {r : Bool} → r ≡ false → Met t k s n (s + n) r → Apart t k s (s + (n + 1))
    next_apart q m = record {
      each = λ i j l g h.
          ⊎_elim
          (λ u. met_none _ _ _ _ _ m q i j l (omega arith) (omega arith))
          (λ u. f.apart.each i j l g u)
          (le_or_lt (s + n) j);
    }

    pub collecting_next : (x : ℕ) (after : List ℕ) {r : Bool} → n < most → Fingerprinted t k (s + n) x → r ≡ false → Met t k s n (s + n) r → PutBehind map n x after
        → Collecting t k s (n + 1) most after
    collecting_next x after l p q m w = record {
      few = omega arith;
      apart = next_apart q m;
      collected = record {
        filled = w.filled;
        each = λ i h.
            ⊎_elim
            (λ u. let z : n ≡ i = omega arith in
            subst (λ (y : ℕ). Fingerprinted t k (s + y) (number_at after y)) z (subst (Fingerprinted t k (s + n)) (sym w.number) p))
            (λ u. subst (Fingerprinted t k (s + i)) (sym (w.stay i u)) (f.collected.each i u))
            (le_or_lt n i);
      };
    }

-- ---- sifting

module _ (t : Table) (k s n : ℕ) where
  pub clear_start : Apart t k s (s + n) → Clear t k s n (s + n)
  clear_start a = record { inside = omega arith; each = λ i j l g h. a.each i j l h }

  pub clear_next : (e : ℕ) {r : Bool} → Clear t k s n e → r ≡ false → Met t k s n e r → Clear t k s n (e + 1)
  clear_next e c q m = record {
    inside = omega (arith, c.inside);
    each = λ i j l g h d.
        ⊎_elim
        (λ u. met_none _ _ _ _ _ m q i j l g (omega arith))
        (λ u. c.each i j l g h u)
        (le_or_lt e j);
  }

-- ---- rounds

pub record Rounds (t : Table) (k from done clear end : ℕ) : Type 0 where
  pub first : from ≤ done
  pub last : clear ≤ end
  pub each : (i j : ℕ) → from ≤ i → i < done → i < j → j < clear → Differ t k i j

module _ (t : Table) (k from end : ℕ) where
  pub rounds_start : Rounds t k from from end end
  rounds_start = record { first = omega arith; last = omega arith; each = λ i j l g. absurd (omega arith) }

  pub rounds_next : (done clear n e : ℕ) → Rounds t k from done clear end → Clear t k done n e → e ≤ clear → Rounds t k from (done + n) e end
  rounds_next done clear n e r c l = record {
    first = omega (arith, r.first);
    last = omega (arith, r.last);
    each = λ i j g h u v. ⊎_elim (λ w. c.each i j w h u v) (λ w. r.each i j g w u (omega arith)) (le_or_lt done i);
  }

  pub rounds_end : (done clear : ℕ) → Rounds t k from done clear end → clear ≤ done → Apart t k from clear
  rounds_end done clear r l = record { each = λ i j g h u. r.each i j g (omega arith) h u }

-- ---- what an entry is told

pub within_none : (s e j : ℕ) → AwayWithin s e j j
within_none s e j = record { away = λ t k a. record { first = omega arith; each = λ i l h. absurd (omega arith) } }

pub within-some : (s e j : ℕ) → s ≤ j → j < e → AwayWithin s e s j
within-some s e j l h = record { away = λ t k a. record { first = l; each = λ i g u. a.each i j g u h } }

module _ (t : Table) (k j : ℕ) where
  -- all texts up to j are right: none from s on is that of j
  pub away_alone : (s : ℕ) → Away t k s j → Sorted t k j → Alone t k j s
  unfolding Alone
  away_alone s a r m l h e = (a.each m l h).texts (r.right m (omega arith)) (r.right j (omega arith)) e

pub apart_none : (t : Table) (k : ℕ) → Apart t k 0 0
apart_none t k = record { each = λ i j l g h. absurd (omega arith) }
