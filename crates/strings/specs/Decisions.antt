-- How the rules of Rules.antt are decided: nothing to judge here, a decision is right by its type.
use Rattle.std.specs.Prelude.{ℕ, ◌-◌}
use Rattle.std.proofs.Math.Decide.{ℕ_discrete, dec_le, dec_lt}
use Rattle.std.proofs.Math.Logic.Dec.{and as dec_and, not as dec_not}
use Rattle.verdict.specs.Decide.{some_below?, dec_by, texts?}
use Rattle.hash.specs.Hash.{hash_text, bucket_of}
use Rattle.region.specs.Decisions.{resolves?}
use Rattle.layout.specs.Table.{Table, entries, hash_of, index_of, segment_of, element_of, count, listed_segment, listed_element}
use Rattle.strings.specs.Texts.{text_of}
use Rattle.strings.specs.Rules.{Resolved, Sized, Hashed, Placed, Indexed, Duplicate, Carried}

unfoldable pub resolved? : (t : Table) (k j : ℕ) → Dec (Resolved t k j)
resolved? t k j = resolves? 2 t.bytes t.at (segment_of t k j) (element_of t k j)

unfoldable pub sized? : (t : Table) (k j : ℕ) → Dec (Sized t k j)
sized? t k j = ℕ_discrete _ _

unfoldable pub hashed? : (t : Table) (k j : ℕ) → Dec (Hashed t k j)
hashed? t k j = ℕ_discrete (hash_of t k j) (hash_text (text_of t k j))

unfoldable pub placed? : (t : Table) (k j : ℕ) → Dec (Placed t k j)
placed? t k j =
    dec_by (λ p. record { bucket = p.0; ascends = p.1 }) (λ r. (r.bucket, r.ascends))
    (dec_and (ℕ_discrete (bucket_of t.buckets (hash_of t k j)) k) (dec_le (hash_of t k (j - 1)) (hash_of t k j)))

unfoldable pub indexed? : (t : Table) (k j : ℕ) → Dec (Indexed t k j)
indexed? t k j =
    dec_by (λ p. record { low = p.0; high = p.1.0; segment = p.1.1.0; element = p.1.1.1 }) (λ r. (r.low, (r.high, (r.segment, r.element))))
    (dec_and (dec_le 1 (index_of t k j))
    (dec_and (dec_lt (index_of t k j) (count t))
    (dec_and (ℕ_discrete (listed_segment t (index_of t k j)) (segment_of t k j)) (ℕ_discrete (listed_element t (index_of t k j)) (element_of t k j)))))

unfoldable pub alone? : (t : Table) (k j : ℕ) → Dec (¬ Duplicate t k j)
alone? t k j = dec_not (some_below? j (λ i. texts? (text_of t k i) (text_of t k j)))

unfoldable pub carried? : (t : Table) (i : ℕ) → Dec (Carried t i)
carried? t i = some_below? t.buckets (λ k. some_below? (entries t k) (λ j. ℕ_discrete (index_of t k j) i))
