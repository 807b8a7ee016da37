-- What acceptance answers: the verdict, or a view that fits.
use Rattle.std.specs.Prelude.{List, ℕ, length, Result}
use Rattle.verdict.specs.inner.Gives.{Gives}
use Rattle.verdict.specs.declared.Refusal.{Refusal}
use Rattle.layout.specs.inner.View.{Fits}
use Rattle.layout.specs.declared.Edition.{Edition}
use Rattle.layout.specs.declared.View.{View}
use Rattle.accept.specs.Verdict.{verdict_of}

abbrev pub Judged : Edition → List ℕ → List ℕ → Result View Refusal → Type 0
Judged ed b ws = Gives (verdict_of ed b (length ws)) (Fits ed b)
