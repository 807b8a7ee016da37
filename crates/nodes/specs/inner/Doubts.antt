-- What is known of refusal 19 before the nodes are checked. Each attribute has a place among 4,096 doubts, by its offset; several may share one.
use Rattle.std.specs.Prelude.{ℕ, ◌/◌, ◌%◌, ◌<◌, ◌≡◌, List, get_or}
use Rattle.region.specs.Region.{Resolves, place_of}
use Rattle.layout.specs.Edition.{attribute_size}
use Rattle.layout.specs.Layout.{attributes_at}
use Rattle.layout.specs.declared.Edition.{Edition}
use Rattle.nodes.specs.Rules.{TextRight}

-- The place of the attribute at offset q.
unfoldable pub doubt_of : ℕ → ℕ
doubt_of q = q / 4 % 4096

-- The attribute at q is doubted, or one that shares its place.
abbrev pub Doubted : List ℕ → ℕ → Type 0
Doubted doubts q = 0 < get_or doubts (doubt_of q) 0

-- 19 holds of the attribute at q unless it is doubted: where its place holds 0, it does; otherwise nothing is known.
pub record Trusted (ed : Edition) (b doubts : List ℕ) (q : ℕ) : Type 0 where
  pub right : get_or doubts (doubt_of q) 0 ≡ 0 → TextRight ed b q

-- The same of every used attribute, whichever node has it.
abbrev pub AllTrusted : Edition → List ℕ → List ℕ → Type 0
AllTrusted ed b doubts = (seg el : ℕ) → Resolves (attribute_size ed) b (attributes_at b) seg el → Trusted ed b doubts (place_of (attribute_size ed) b (attributes_at b) seg el)

-- No attribute is doubted.
abbrev pub NoDoubt : List ℕ → Type 0
NoDoubt doubts = (i : ℕ) → get_or doubts i 0 ≡ 0
