-- How the rules of Region.antt are decided: nothing to judge here, a decision is right by its type.
use Rattle.std.specs.Prelude.{ℕ, ◌+◌, List}
use Rattle.std.proofs.Math.Decide.{ℕ_discrete, dec_le, dec_lt}
use Rattle.std.proofs.Math.Logic.Dec.{and as dec_and}
use Rattle.verdict.specs.Decide.{dec_by, either?}
use Rattle.region.specs.Region.{count_of, used_of, Resolves, Ranges, Reaches}

unfoldable pub resolves? : (size : ℕ) (b : List ℕ) (r seg el : ℕ) → Dec (Resolves size b r seg el)
resolves? size b r seg el =
    dec_by (λ p. record { seg_in = p.0; el_in = p.1 }) (λ h. (h.seg_in, h.el_in))
    (dec_and (dec_lt seg (count_of b r)) (dec_lt el (used_of size b r seg)))

unfoldable pub ranges? : (size : ℕ) (b : List ℕ) (r seg el n : ℕ) → Dec (Ranges size b r seg el n)
ranges? size b r seg el n =
    dec_by (λ p. record { seg_in = p.0; els_in = p.1 }) (λ h. (h.seg_in, h.els_in))
    (dec_and (dec_lt seg (count_of b r)) (dec_le (el + n) (used_of size b r seg)))

unfoldable pub reaches? : (size : ℕ) (b : List ℕ) (r seg el n : ℕ) → Dec (Reaches size b r seg el n)
reaches? size b r seg el n = either? (ℕ_discrete n 0) (ranges? size b r seg el n)
