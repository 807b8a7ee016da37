-- The root, and writing the outline by its ways out. Assumes nothing.
use Prim.Native.Nat.{ℕ, ◌≤◌, ◌<◌}
use native.Mathlib.Omega.{arith}
use mathlib.Core.Path.{◌≡◌, refl, ap, sym, ◌∙◌}
use mathlib.Core.List.{List, ◌++◌}
use lib.ListN.{length, drop}
use Rattle.std.specs.Prelude.{Result, Ok, Err}
use Rattle.verdict.specs.Verdict.{Refused, answer_of}
use Rattle.verdict.specs.declared.Rule.TheVariants.{OutlineRoom}
use Rattle.verdict.specs.declared.Refusal.{Refusal}
use Rattle.verdict.proofs.Laws.{pass, stop, fault_none}
use Rattle.verdict.proofs.Gives.{gives_ok, gives_err}
use Rattle.layout.specs.declared.Edition.{Edition}
use Rattle.nodes.specs.Node.{Live, node_name}
use Rattle.tree.specs.Chain.{deepest_level}
use Rattle.tree.specs.File.{node_of, Used}
use Rattle.accept.specs.Rules.{FileRules}
use Rattle.print.specs.inner.Put.{Put}
use Rattle.print.proofs.Puts.{put_length, put_front}
use Rattle.outline.specs.Outline.{block, outline_of}
use Rattle.outline.specs.Outlined.{outline_checks, outline_after}
use Rattle.outline.specs.inner.Answer.{OutlineWritten}
use Rattle.outline.proofs.Fits.{outline-fits}

-- ---- the root is live

module _ {ed : Edition} {b : List ℕ} (r : FileRules ed b) where
  pub root-used : Used ed b 0
  root-used = r.nodes.root

  pub root_live : {x : ℕ} → x ≡ node_of ed b 0 → Live b x
  unfolding node_of
  root_live e z =
      let k = ((r.nodes.each 0 0 r.nodes.root).node.root refl refl).named.low in
      omega (arith, ap (node_name b) e)

-- ---- the ways out

-- the answer, and what is left in the buffer
abbrev pub Answered : Edition → List ℕ → List ℕ → Result ℕ Refusal → List ℕ → Type 0
Answered ed b out r out' = OutlineWritten ed b (length out) r × (out' ≡ outline_after ed b out (answer_of r))

module _ {ed : Edition} {b : List ℕ} (g : FileRules ed b) where
  pub length-told : {d d' : List ℕ} {n : ℕ} → Put d 0 (block ed b deepest_level 0 0) n d' → n ≡ length (outline_of ed b)
  unfolding outline_of
  length-told w = put_length w (omega (arith, outline-fits ed b g))

  module _ (out : List ℕ) where
    whole : {k : ℕ} {d : List ℕ} → Put out 0 (block ed b deepest_level 0 0) k d → length (outline_of ed b) ≤ length out → d ≡ outline_of ed b ++ drop (length (outline_of ed b)) out
    unfolding outline_of
    whole v l = put_front v l

    pub too_long : {n : ℕ} → n ≡ length (outline_of ed b) → length out < n → Answered ed b out (Err (record { 0 = OutlineRoom; 1 = n })) out
    unfolding outline_after outline_checks
    too_long {n} e h = (gives_err (stop _ _ _ _ _ (λ z. omega arith) ∙ ap (Refused 26) (sym e)), refl)

    pub all_written : {n m : ℕ} {out' : List ℕ} → n ≡ length (outline_of ed b) → n ≤ length out → Put out 0 (block ed b deepest_level 0 0) m out'
        → Answered ed b out (Ok m) out'
    unfolding outline_after outline_checks
    all_written e h w = (gives_ok (pass _ _ _ _ _ (omega arith) ∙ fault_none) (length-told w), whole w (omega arith))
