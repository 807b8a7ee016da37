-- How the rules of Names.antt and Keys.antt are decided: nothing to judge here, a decision is right by its type.
use Rattle.std.specs.Prelude.{ℕ, ◌-◌, List}
use Rattle.std.proofs.Math.Decide.{ℕ_discrete, dec_le}
use Rattle.std.proofs.Math.Logic.Dec.{and as dec_and, not as dec_not}
use Rattle.verdict.specs.Decide.{dec_by, texts?, either?, all_below?, implies?}
use Rattle.layout.specs.declared.Edition.{Edition}
use Rattle.keys.specs.Names.{name_count, name_text, root_name, value_name, Bears, Special}
use Rattle.keys.specs.Keys.{key_name, KeyNameRule, KeyRule}

unfoldable pub bears? : (ed : Edition) (b : List ℕ) (i : ℕ) (x : List ℕ) → Dec (Bears ed b i x)
bears? ed b i x =
    dec_by (λ p. record { low = p.0; high = p.1.0; text = p.1.1 }) (λ r. (r.low, (r.high, r.text)))
    (dec_and (dec_le 1 i) (dec_and (dec_le i (name_count ed b)) (texts? (name_text ed b i) x)))

unfoldable pub special? : (ed : Edition) (b : List ℕ) → Dec (Special ed b)
special? ed b =
    dec_by (λ p. record { two = p.0; highest = p.1 }) (λ r. (r.two, r.highest))
    (dec_and (dec_le 2 (name_count ed b))
    (either? (dec_and (texts? (name_text ed b (name_count ed b)) root_name) (texts? (name_text ed b (name_count ed b - 1)) value_name))
    (dec_and (texts? (name_text ed b (name_count ed b)) value_name) (texts? (name_text ed b (name_count ed b - 1)) root_name))))

unfoldable pub key_name_rule? : (ed : Edition) (b : List ℕ) (k f : ℕ) → Dec (KeyNameRule ed b k f)
key_name_rule? ed b k f =
    dec_by (λ p. record { zero-key = p.0; high = p.1.0; not-value = p.1.1 }) (λ r. (r.zero-key, (r.high, r.not-value)))
    (dec_and (implies? (ℕ_discrete k 0) (ℕ_discrete (key_name b k f) 0))
    (dec_and (dec_le (key_name b k f) (name_count ed b)) (dec_not (bears? ed b (key_name b k f) value_name))))

unfoldable pub key_rule? : (ed : Edition) (b : List ℕ) (k : ℕ) → Dec (KeyRule ed b k)
key_rule? ed b k = all_below? 4 (key_name_rule? ed b k)
