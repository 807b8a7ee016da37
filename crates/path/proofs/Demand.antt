-- Demand 3, of the definitions that the contract of `list_path` cites: what a listing holds place by place, and when it is refused.
-- That the matches are the right nodes, each once and in document order, is `listed`. Assumes nothing.
use mathlib.Core.Path.{◌≡◌, refl, ap, ◌∙◌}
use mathlib.Core.List.{List, [], ◌∷◌, ◌++◌, Memᴰ}
use Prim.Native.Nat.{ℕ, zero, suc, ◌+◌, ◌*◌, ◌/◌, ◌^◌, ◌≤◌, ◌<◌}
use native.Mathlib.Nat.{not-suc-le-zero}
use native.Mathlib.Omega.{arith}
use lib.ListN.{length, get_or}
use Rattle.le.specs.Le.{u32_at, le4}
use Rattle.le.proofs.Four.{le4_front, shifted}
use Rattle.verdict.specs.Checks.{first_fault}
use Rattle.verdict.specs.Verdict.{Accepted, Refused}
use Rattle.verdict.proofs.Laws.{Clean, pass, stop, fault_none, fault_append}
use Rattle.layout.specs.declared.Edition.{Edition}
use Rattle.accept.specs.Rules.{FileRules}
use Rattle.path.specs.Names.{path_checks}
use Rattle.path.specs.Listing.{path_matches, encode, listing_checks, listing_after}
use Rattle.path.proofs.Few.{match_low}

-- place i of encoded nodes holds node i
encoded_at : (l t : List ℕ) → ((e : ℕ) → Memᴰ e l → e < 2 ^ 32) → (i : ℕ) → i < length l → u32_at (encode l ++ t) (4 * i) ≡ get_or l i 0
unfolding encode le4
encoded_at [] t f i h = absurd (not-suc-le-zero h)
encoded_at (a ∷ l) t f zero h = le4_front a (encode l ++ t) (f a (Memᴰ.head refl))
encoded_at (a ∷ l) t f (suc i) h =
    let e : 4 * suc i ≡ 4 + 4 * i = omega arith in
    ap (u32_at (le4 a ++ (encode l ++ t))) e
    ∙ shifted (le4 a) (encode l ++ t) (4 * i)
    ∙ encoded_at l t (λ x m. f x (Memᴰ.tail m)) i (omega arith)

module _ (ed : Edition) (b path list : List ℕ) where
  -- the first places hold the matches, in order
  pub place-holds : FileRules ed b → (i : ℕ) → i < length (path_matches ed b path) → u32_at (listing_after ed b path list Accepted) (4 * i) ≡ get_or (path_matches ed b path) i 0
  unfolding listing_after
  place-holds r i h = encoded_at (path_matches ed b path) _ (match_low ed b r path) i h

-- a well-formed path: the matches fit, or they outnumber the places
module _ (ed : Edition) (b path : List ℕ) (room : ℕ) (ok : Clean (path_checks path)) where
  pub room_fits : length (path_matches ed b path) ≤ room / 4 → Clean (path_checks path ++ listing_checks ed b path room)
  unfolding listing_checks
  room_fits h = fault_append _ _ ok ∙ pass _ _ _ _ _ h ∙ fault_none

  pub room_over : room / 4 < length (path_matches ed b path) → first_fault (path_checks path ++ listing_checks ed b path room) ≡ Refused 25 (length (path_matches ed b path))
  unfolding listing_checks
  room_over h = fault_append _ _ ok ∙ stop _ _ _ _ _ (λ l. omega arith)
