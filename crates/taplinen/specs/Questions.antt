-- The exported questions (FORMAT, "Questions"): each takes the file and a workspace and accepts first.
use Rattle.std.specs.Prelude.{ℕ, List, ◌++◌, length}
use Rattle.verdict.specs.Checks.{first_fault}
use Rattle.verdict.specs.Verdict.{Verdict}
use Rattle.layout.specs.Header.{header_of}
use Rattle.layout.specs.Layout.{values, names}
use Rattle.layout.specs.declared.Edition.{Edition}
use Rattle.lookup.specs.Lookup.{text_from, index_of_text, address_of_text}
use Rattle.lookup.specs.Asked.{text_checks}
use Rattle.lookup.specs.Kinds.{told_in, table_of, kind_of, told_number}
use Rattle.lookup.specs.declared.Kind.{Kind}
use Rattle.path.specs.Names.{path_checks}
use Rattle.path.specs.Listing.{path_matches, listing_checks, listing_after}
use Rattle.tree.specs.File.{used_node_count}
use Rattle.tree.specs.Outcome.{workspace_after}
use Rattle.accept.specs.Verdict.{accept_checks, verdict_of}
use Rattle.outline.specs.Outline.{outline_of}
use Rattle.outline.specs.Outlined.{outline_checks, outline_after}
use Rattle.taplinen.specs.Answers.{answered, reported}
use Rattle.taplinen.specs.declared.answer.Answer.{Answer}
use Rattle.taplinen.specs.declared.header.HeaderReport.{HeaderReport}

-- The workspace after any question is as acceptance leaves it: a 24, 25 or 26 follows an acceptance.
unfoldable pub workspace_left : Edition → List ℕ → List ℕ → List ℕ
workspace_left ed b ws = workspace_after ed b ws (verdict_of ed b (length ws))

-- Accept: the used nodes.
unfoldable pub accept_answer : Edition → List ℕ → ℕ → Answer
accept_answer ed b room = answered (verdict_of ed b room) 0 (used_node_count ed b)

-- The header report.
unfoldable pub header_answer : Edition → List ℕ → ℕ → HeaderReport
header_answer ed b room = reported (verdict_of ed b room) (header_of b)

-- Acceptance's refusals, then 24 of a text.
unfoldable pub text_verdict : Edition → List ℕ → ℕ → List ℕ → Verdict
text_verdict ed b room q = first_fault (accept_checks ed b room ++ text_checks q)

-- What a text is told, by the kind of the question. The two exported questions follow; each is this one's (proofs).
unfoldable pub text_answer : Edition → Kind → List ℕ → ℕ → List ℕ → Answer
text_answer ed k b room q =
    answered (text_verdict ed b room q) (kind_of (told_in k (table_of ed k b) (text_from q))) (told_number (told_in k (table_of ed k b) (text_from q)))

-- Name by text: its index; absent; or collided, with the number of entries that have its hash.
unfoldable pub name_answer : Edition → List ℕ → ℕ → List ℕ → Answer
name_answer ed b room q = answered (text_verdict ed b room q) (kind_of (index_of_text (names ed b) (text_from q))) (told_number (index_of_text (names ed b) (text_from q)))

-- Value by text: its address; absent; or collided, with that number.
unfoldable pub value_answer : Edition → List ℕ → ℕ → List ℕ → Answer
value_answer ed b room q =
    answered (text_verdict ed b room q) (kind_of (address_of_text (values ed b) (text_from q))) (told_number (address_of_text (values ed b) (text_from q)))

-- Acceptance's refusals, then 24 of a path, then 25.
unfoldable pub path_verdict : Edition → List ℕ → ℕ → List ℕ → ℕ → Verdict
path_verdict ed b room path list = first_fault (accept_checks ed b room ++ (path_checks path ++ listing_checks ed b path list))

-- Path listing: the number of matches.
unfoldable pub path_answer : Edition → List ℕ → ℕ → List ℕ → ℕ → Answer
path_answer ed b room path list = answered (path_verdict ed b room path list) 0 (length (path_matches ed b path))

-- What it leaves in the listing.
unfoldable pub path_listing : Edition → List ℕ → ℕ → List ℕ → List ℕ → List ℕ
path_listing ed b room path list = listing_after ed b path list (path_verdict ed b room path (length list))

-- Acceptance's refusals, then 26.
unfoldable pub outline_verdict : Edition → List ℕ → ℕ → ℕ → Verdict
outline_verdict ed b room out = first_fault (accept_checks ed b room ++ outline_checks ed b out)

-- Outline: its length.
unfoldable pub outline_answer : Edition → List ℕ → ℕ → ℕ → Answer
outline_answer ed b room out = answered (outline_verdict ed b room out) 0 (length (outline_of ed b))

-- What it leaves in the buffer.
unfoldable pub outline_buffer : Edition → List ℕ → ℕ → List ℕ → List ℕ
outline_buffer ed b room out = outline_after ed b out (outline_verdict ed b room (length out))
