-- Many lookups in one acceptance: the exported questions with many texts.
use Rattle.std.specs.Prelude.{ℕ, ◌+◌, ◌*◌, ◌≡◌, List, ◌++◌, length}
use Rattle.verdict.specs.Checks.{first_fault}
use Rattle.verdict.specs.Verdict.{Verdict}
use Rattle.le.specs.Le.{u32_at}
use Rattle.layout.specs.Layout.{values, names}
use Rattle.layout.specs.declared.Edition.{Edition}
use Rattle.lookup.specs.Lookup.{index_of_text, address_of_text}
use Rattle.lookup.specs.Kinds.{told_in, table_of}
use Rattle.lookup.specs.declared.Kind.{Kind}
use Rattle.path.specs.Names.{names_of, path_checks}
use Rattle.batch.specs.Places.{place_checks, answers_after}
use Rattle.accept.specs.Verdict.{accept_checks}
use Rattle.taplinen.specs.Answers.{answered}
use Rattle.taplinen.specs.declared.answer.Answer.{Answer}

-- Acceptance's refusals, then 24 of the texts as of a path, then 25 where there are fewer places than texts.
unfoldable pub batch_verdict : Edition → List ℕ → ℕ → List ℕ → ℕ → Verdict
batch_verdict ed b room texts answers = first_fault (accept_checks ed b room ++ (path_checks texts ++ place_checks texts answers))

-- The number of texts.
unfoldable pub batch_answer : Edition → List ℕ → ℕ → List ℕ → ℕ → Answer
batch_answer ed b room texts answers = answered (batch_verdict ed b room texts answers) 0 (length (names_of texts))

-- What is left in the answers, by the kind of the questions. The two exported questions follow; each is this one's (proofs).
unfoldable pub batch_places : Edition → Kind → List ℕ → ℕ → List ℕ → List ℕ → List ℕ
batch_places ed k b room texts answers = answers_after (told_in k (table_of ed k b)) texts answers (batch_verdict ed b room texts (length answers))

-- Names by text: in place i what name by text answers for text i.
unfoldable pub name_places : Edition → List ℕ → ℕ → List ℕ → List ℕ → List ℕ
name_places ed b room texts answers = answers_after (index_of_text (names ed b)) texts answers (batch_verdict ed b room texts (length answers))

-- Values by text: the same with value by text.
unfoldable pub value_places : Edition → List ℕ → ℕ → List ℕ → List ℕ → List ℕ
value_places ed b room texts answers = answers_after (address_of_text (values ed b)) texts answers (batch_verdict ed b room texts (length answers))

-- Place i of some answers holds what a question answered that was not refused.
pub record PlaceHolds (d : List ℕ) (i : ℕ) (r : Answer) : Type 0 where
  pub asked : r.refusal ≡ 0
  pub kind : u32_at d (8 * i) ≡ r.kind
  pub value : u32_at d (8 * i + 4) ≡ r.value
