-- The three demands (docs/DEMANDS.md), stated about the definitions that the contracts of the exported functions (src) name. Each contract
-- says, for every input and without a precondition, that the answer and every buffer equal these definitions. That each call ends and
-- stays within its buffers is proved of each function and is not repeated here. proofs/Demands proves this page.
--
-- b: the bytes of the file. ws: the bytes of the workspace before the call; room: its length. q: the bytes of a text, a path or a list of
-- texts. d: the bytes of a listing, of answers or of an outline's buffer before the call; list, answers, out: its length.
use Rattle.std.specs.Prelude.{ℕ, ◌*◌, ◌/◌, ◌%◌, ◌≤◌, ◌<◌, ◌≡◌, ◌⊎◌, ◌↔◌, List, length, get_or, take, drop}
use Rattle.std.specs.Float.Ieee.{of_bits}
use Rattle.std.specs.Float.{binary64}
use Rattle.verdict.specs.Checks.{FirstBroken}
use Rattle.le.specs.Le.{u32_at, u64_at}
use Rattle.hash.specs.Hash.{hash_text}
use Rattle.region.specs.Region.{Resolves, number_of}
use Rattle.layout.specs.Table.{Table, index_of, segment_of, element_of}
use Rattle.layout.specs.Edition.{node_size}
use Rattle.layout.specs.Layout.{nodes_at, values, names}
use Rattle.layout.specs.declared.Edition.{Edition}
use Rattle.keys.specs.Names.{name_text}
use Rattle.tree.specs.Chain.{Chain}
use Rattle.tree.specs.File.{address, tree_of, used_node_count}
use Rattle.tree.specs.Marks.{IsChild}
use Rattle.accept.specs.Verdict.{accept_checks}
use Rattle.accept.specs.Rules.{FileRules}
use Rattle.accept.specs.Refusals.{Broken}
use Rattle.lookup.specs.Collisions.{hash_count}
use Rattle.lookup.specs.Lookup.{text_from, Borne, BorneWith}
use Rattle.lookup.specs.Cases.{Collides, Missing, OneOfThree}
use Rattle.path.specs.Names.{names_of, name_at, Closed}
use Rattle.path.specs.Matches.{Listed}
use Rattle.outline.specs.Outline.{outline_of}
use Rattle.outline.specs.Lined.{Lined}
use Rattle.taplinen.specs.Questions.{workspace_left, accept_answer, header_answer, name_answer, value_answer, path_answer, path_listing, outline_answer, outline_buffer}
use Rattle.taplinen.specs.Batches.{batch_answer, name_places, value_places, PlaceHolds}
use Rattle.taplinen.specs.declared.answer.Answer.{Answer}
use Rattle.taplinen.specs.declared.header.HeaderReport.{HeaderReport}

-- An answer refuses with number n at place p. A refusal has a number other than 0, and kind 0.
pub record Refuses (r : Answer) (n p : ℕ) : Type 0 where
  pub not_0 : n ≡ 0 → ⊥
  pub number : r.refusal ≡ n
  pub kind : r.kind ≡ 0
  pub place : r.value ≡ p

-- An answer that is not a lookup's: no refusal, kind 0, and the value v.
pub record Answers (r : Answer) (v : ℕ) : Type 0 where
  pub answered : r.refusal ≡ 0
  pub kind : r.kind ≡ 0
  pub value : r.value ≡ v

-- ---- Demand 1: an answer or one numbered refusal with its place

-- The refusal field is 0 (answered) or a number that satisfies P.
abbrev pub OneOf : (ℕ → Type 0) → ℕ → Type 0
OneOf P n = (n ≡ 0) ⊎ P n

-- The numbers of acceptance: 1 to 23.
abbrev pub OfFile : ℕ → Type 0
OfFile n = (1 ≤ n) × (n ≤ 23)

-- Every question can be refused with acceptance's numbers; a text also with 24; a path or a list of texts also with 24 or 25; the outline
-- also with 26.
pub record Numbers (ed : Edition) (b : List ℕ) (room : ℕ) : Type 0 where
  pub accept : OneOf OfFile (accept_answer ed b room).refusal
  pub header : OneOf OfFile (header_answer ed b room).refusal
  pub name : (q : List ℕ) → OneOf (λ n. OfFile n ⊎ (n ≡ 24)) (name_answer ed b room q).refusal
  pub value : (q : List ℕ) → OneOf (λ n. OfFile n ⊎ (n ≡ 24)) (value_answer ed b room q).refusal
  pub path : (q : List ℕ) (list : ℕ) → OneOf (λ n. OfFile n ⊎ ((n ≡ 24) ⊎ (n ≡ 25))) (path_answer ed b room q list).refusal
  pub texts : (q : List ℕ) (answers : ℕ) → OneOf (λ n. OfFile n ⊎ ((n ≡ 24) ⊎ (n ≡ 25))) (batch_answer ed b room q answers).refusal
  pub outline : (out : ℕ) → OneOf (λ n. OfFile n ⊎ (n ≡ 26)) (outline_answer ed b room out).refusal

-- Every question accepts the file first: where acceptance refuses, so does the question, with the same number and place.
pub record AcceptsFirst (ed : Edition) (b : List ℕ) (room n p : ℕ) : Type 0 where
  pub header : ((header_answer ed b room).refusal ≡ n) × ((header_answer ed b room).place ≡ p)
  pub name : (q : List ℕ) → Refuses (name_answer ed b room q) n p
  pub value : (q : List ℕ) → Refuses (value_answer ed b room q) n p
  pub path : (q : List ℕ) (list : ℕ) → Refuses (path_answer ed b room q list) n p
  pub texts : (q : List ℕ) (answers : ℕ) → Refuses (batch_answer ed b room q answers) n p
  pub outline : (out : ℕ) → Refuses (outline_answer ed b room out) n p

-- A path or a list of texts is well formed: an even number of bytes, and empty or ending in a 0 character.
abbrev pub WellFormed : List ℕ → Type 0
WellFormed q = (length q % 2 ≡ 0) × Closed q

-- On an accepted file, a text of an odd number of bytes, and a path or a list of texts that is not well formed, is refused with 24; the
-- place is its length in bytes.
pub record Malformed (ed : Edition) (b : List ℕ) (room : ℕ) (q : List ℕ) : Type 0 where
  pub name : (length q % 2 ≡ 0 → ⊥) → Refuses (name_answer ed b room q) 24 (length q)
  pub value : (length q % 2 ≡ 0 → ⊥) → Refuses (value_answer ed b room q) 24 (length q)
  pub path : (WellFormed q → ⊥) → (list : ℕ) → Refuses (path_answer ed b room q list) 24 (length q)
  pub texts : (WellFormed q → ⊥) → (answers : ℕ) → Refuses (batch_answer ed b room q answers) 24 (length q)

-- Refused means that the listing, the answers and the outline's buffer are as they were.
pub record Untouched (ed : Edition) (b : List ℕ) (room : ℕ) : Type 0 where
  pub listing : (q d : List ℕ) → ((path_answer ed b room q (length d)).refusal ≡ 0 → ⊥) → path_listing ed b room q d ≡ d
  pub names : (q d : List ℕ) → ((batch_answer ed b room q (length d)).refusal ≡ 0 → ⊥) → name_places ed b room q d ≡ d
  pub values : (q d : List ℕ) → ((batch_answer ed b room q (length d)).refusal ≡ 0 → ⊥) → value_places ed b room q d ≡ d
  pub outline : (d : List ℕ) → ((outline_answer ed b room (length d)).refusal ≡ 0 → ⊥) → outline_buffer ed b room d ≡ d

-- Whatever the answer, each lent buffer keeps its length.
pub record SameLength (ed : Edition) (b : List ℕ) (room : ℕ) : Type 0 where
  pub workspace : (ws : List ℕ) → length (workspace_left ed b ws) ≡ length ws
  pub listing : (q d : List ℕ) → length (path_listing ed b room q d) ≡ length d
  pub names : (q d : List ℕ) → length (name_places ed b room q d) ≡ length d
  pub values : (q d : List ℕ) → length (value_places ed b room q d) ≡ length d
  pub outline : (d : List ℕ) → length (outline_buffer ed b room d) ≡ length d

-- The workspace, byte by byte, after any question. It depends only on acceptance's answer, since 24, 25 and 26 follow an acceptance.
pub record Workspace (ed : Edition) (b ws : List ℕ) : Type 0 where
  -- Accepted: the byte of a used node is 1 exactly when the node is in some live node's child range, and 0 otherwise.
  pub one : (accept_answer ed b (length ws)).refusal ≡ 0 → (seg el : ℕ) → Resolves (node_size ed) b (nodes_at ed b) seg el
      → (get_or (workspace_left ed b ws) (number_of (node_size ed) b (nodes_at ed b) seg el) 0 ≡ 1) ↔ IsChild ed b (address seg el)
  pub else_zero : (accept_answer ed b (length ws)).refusal ≡ 0 → (seg el : ℕ) → Resolves (node_size ed) b (nodes_at ed b) seg el
      → (IsChild ed b (address seg el) → ⊥) → get_or (workspace_left ed b ws) (number_of (node_size ed) b (nodes_at ed b) seg el) 0 ≡ 0
  -- Acceptance refused with 21 or 22: the first U bytes are 0 (U: the number of used nodes).
  pub cleared : ((accept_answer ed b (length ws)).refusal ≡ 21) ⊎ ((accept_answer ed b (length ws)).refusal ≡ 22)
      → (i : ℕ) → i < used_node_count ed b → get_or (workspace_left ed b ws) i 0 ≡ 0
  -- Acceptance refused with any other number: every byte is as it was.
  pub untouched : ((accept_answer ed b (length ws)).refusal ≡ 0 → ⊥) → ((accept_answer ed b (length ws)).refusal ≡ 21 → ⊥)
      → ((accept_answer ed b (length ws)).refusal ≡ 22 → ⊥) → workspace_left ed b ws ≡ ws
  -- Whatever the answer, the bytes past the used nodes are as they were.
  pub later : drop (used_node_count ed b) (workspace_left ed b ws) ≡ drop (used_node_count ed b) ws

-- ---- Demand 2, first sentence

pub record Acceptance (ed : Edition) (b : List ℕ) (room : ℕ) : Type 1 where
  -- A file is accepted exactly when every rule holds of it and the workspace has a byte for each used node.
  pub accepted : ((accept_answer ed b room).refusal ≡ 0) ↔ (FileRules ed b × (used_node_count ed b ≤ room))
  -- Otherwise it is refused for the first fault in the stated order, which is that of accept_checks (accept/specs/Verdict): that rule is
  -- broken, and every rule before it holds.
  pub refused : (n p : ℕ) → Refuses (accept_answer ed b room) n p ↔ FirstBroken (accept_checks ed b room) n p
  -- Every refusal is a row of the table of refusals (accept/specs/Refusals): the rule with that number is broken at that place. Of an accepted file no row is broken.
  pub row : (n p : ℕ) → Refuses (accept_answer ed b room) n p → Broken ed b room n p
  pub no_row : (accept_answer ed b room).refusal ≡ 0 → (n p : ℕ) → Broken ed b room n p → ⊥
  -- Accepted: the value is the number of used nodes.
  pub value : (accept_answer ed b room).refusal ≡ 0 → Answers (accept_answer ed b room) (used_node_count ed b)

-- The header report of an accepted file: version, timestamp with its bits unchanged, revision.
pub record Reports (b : List ℕ) (r : HeaderReport) : Type 0 where
  pub answered : r.refusal ≡ 0
  pub place : r.place ≡ 0
  pub version : r.version ≡ u32_at b 0
  pub bits : r.timestamp_bits ≡ u64_at b 4
  pub timestamp : r.timestamp ≡ of_bits binary64 (u64_at b 4)
  pub has_revision : r.has_revision ≡ 1
  pub revision : r.revision ≡ u32_at b 12

-- ---- Demand 2, second sentence

-- r answers a lookup of the text x. f k j is the number answered for entry j of bucket k. Found (kind 0), with that number, exactly when
-- an entry bears that same text. Collided (kind 2), with the number of entries of the table that have its hash, exactly when no entry bears
-- it, it holds no 0, and some entry has its hash. Absent (kind 1), with 0, exactly when no entry
-- bears it, and either it holds a 0 or no entry has its hash. Of the three exactly one holds.
pub record Finds (t : Table) (f : ℕ → ℕ → ℕ) (x : List ℕ) (r : Answer) : Type 0 where
  pub answered : r.refusal ≡ 0
  pub found : (i : ℕ) → ((r.kind ≡ 0) × (r.value ≡ i)) ↔ BorneWith f t x i
  pub collided : (n : ℕ) → ((r.kind ≡ 2) × (r.value ≡ n)) ↔ (Collides t x × (n ≡ hash_count t (hash_text x)))
  pub absent : ((r.kind ≡ 1) × (r.value ≡ 0)) ↔ Missing t x
  pub one_of_three : OneOfThree (Borne t x) (Collides t x) (Missing t x)

-- On an accepted file, for a text of an even number of bytes: its index among the names, its address among the values.
pub record Lookups (ed : Edition) (b : List ℕ) (room : ℕ) (q : List ℕ) : Type 0 where
  pub name : Finds (names ed b) (index_of (names ed b)) (text_from q) (name_answer ed b room q)
  pub value : Finds (values ed b) (λ k j. address (segment_of (values ed b) k j) (element_of (values ed b) k j)) (text_from q) (value_answer ed b room q)
  -- A text holding a 0 is absent, also where an entry has its hash.
  pub zero : (i : ℕ) → i < length (text_from q) → get_or (text_from q) i 0 ≡ 0 → ((name_answer ed b room q).kind ≡ 1) × ((value_answer ed b room q).kind ≡ 1)

-- ---- Beyond the demands: many lookups in one acceptance

-- s: the bytes of text i of q, without its 0.
pub record TextIs (q : List ℕ) (i : ℕ) (s : List ℕ) : Type 0 where
  pub even : length s % 2 ≡ 0
  pub text : text_from s ≡ name_at (names_of q) i

-- On an accepted file, for a well-formed list of texts q and answers d of any length.
pub record Batch (ed : Edition) (b : List ℕ) (room : ℕ) (q d : List ℕ) : Type 0 where
  -- Refused for room exactly when there are more texts than places; the refusal's place is the number of texts.
  pub room-short : Refuses (batch_answer ed b room q (length d)) 25 (length (names_of q)) ↔ (length d / 8 < length (names_of q))
  -- Otherwise it answers their number, and place i holds what the question for text i alone answers; every byte after them stays.
  pub answered : length (names_of q) ≤ length d / 8 → Answers (batch_answer ed b room q (length d)) (length (names_of q))
  pub text : (i : ℕ) → i < length (names_of q) → (s : List ℕ) × TextIs q i s
  pub name : length (names_of q) ≤ length d / 8 → (i : ℕ) → i < length (names_of q) → (s : List ℕ) → TextIs q i s
      → PlaceHolds (name_places ed b room q d) i (name_answer ed b room s)
  pub value : length (names_of q) ≤ length d / 8 → (i : ℕ) → i < length (names_of q) → (s : List ℕ) → TextIs q i s
      → PlaceHolds (value_places ed b room q d) i (value_answer ed b room s)
  pub names-after : length (names_of q) ≤ length d / 8 → drop (8 * length (names_of q)) (name_places ed b room q d) ≡ drop (8 * length (names_of q)) d
  pub values-after : length (names_of q) ≤ length d / 8 → drop (8 * length (names_of q)) (value_places ed b room q d) ≡ drop (8 * length (names_of q)) d

-- ---- Demand 3

-- On an accepted file no node has two chains: any two that end at the same node are the same chain.
abbrev pub OneChain : Edition → List ℕ → Type 0
OneChain ed b = (ps qs : List ℕ) (e : ℕ) → Chain (tree_of ed b) ps 0 e → Chain (tree_of ed b) qs 0 e → ps ≡ qs

-- On an accepted file, for a well-formed path q and a listing d, whatever its length.
pub record Paths (ed : Edition) (b : List ℕ) (room : ℕ) (q d : List ℕ) : Type 0 where
  -- The matches: exactly the nodes whose chain from the root bears, below the root, exactly those names in that order; each once, in
  -- document order.
  pub matches : List ℕ
  pub listed : Listed (tree_of ed b) (name_text ed b) (names_of q) matches
  -- Refused for room exactly when the matches outnumber the places; the refusal's place is the number of matches; the buffer keeps every byte.
  pub room-short : Refuses (path_answer ed b room q (length d)) 25 (length matches) ↔ (length d / 4 < length matches)
  pub kept : length d / 4 < length matches → path_listing ed b room q d ≡ d
  -- Otherwise it answers their number; that many places from the first hold the matches in order; every byte after them stays.
  pub answered : length matches ≤ length d / 4 → Answers (path_answer ed b room q (length d)) (length matches)
  pub holds : length matches ≤ length d / 4 → (i : ℕ) → i < length matches → u32_at (path_listing ed b room q d) (4 * i) ≡ get_or matches i 0
  pub after : length matches ≤ length d / 4 → drop (4 * length matches) (path_listing ed b room q d) ≡ drop (4 * length matches) d

-- ---- The outline, in the same shape

-- On an accepted file, for a buffer d.
pub record Outlines (ed : Edition) (b : List ℕ) (room : ℕ) (d : List ℕ) : Type 0 where
  -- A line for each chain from the root, in document order.
  pub chains : List (List ℕ)
  pub lined : Lined ed b chains
  -- Refused exactly when it does not fit; the refusal's place is its length. Otherwise its length is answered, it stands in the buffer from the
  -- first byte on, and every later byte stays.
  pub room-short : Refuses (outline_answer ed b room (length d)) 26 (length (outline_of ed b)) ↔ (length d < length (outline_of ed b))
  pub answered : length (outline_of ed b) ≤ length d → Answers (outline_answer ed b room (length d)) (length (outline_of ed b))
  pub holds : length (outline_of ed b) ≤ length d → take (length (outline_of ed b)) (outline_buffer ed b room d) ≡ outline_of ed b
  pub after : length (outline_of ed b) ≤ length d → drop (length (outline_of ed b)) (outline_buffer ed b room d) ≡ drop (length (outline_of ed b)) d

-- ---- All of it

pub record Demands (ed : Edition) : Type 1 where
  pub numbers : (b : List ℕ) (room : ℕ) → Numbers ed b room
  pub accepts_first : (b : List ℕ) (room n p : ℕ) → Refuses (accept_answer ed b room) n p → AcceptsFirst ed b room n p
  pub malformed : (b : List ℕ) (room : ℕ) (q : List ℕ) → (accept_answer ed b room).refusal ≡ 0 → Malformed ed b room q
  pub untouched : (b : List ℕ) (room : ℕ) → Untouched ed b room
  pub same_length : (b : List ℕ) (room : ℕ) → SameLength ed b room
  pub workspace : (b ws : List ℕ) → Workspace ed b ws
  pub acceptance : (b : List ℕ) (room : ℕ) → Acceptance ed b room
  pub header : (b : List ℕ) (room : ℕ) → (accept_answer ed b room).refusal ≡ 0 → Reports b (header_answer ed b room)
  pub lookups : (b : List ℕ) (room : ℕ) (q : List ℕ) → (accept_answer ed b room).refusal ≡ 0 → length q % 2 ≡ 0 → Lookups ed b room q
  pub batches : (b : List ℕ) (room : ℕ) (q d : List ℕ) → (accept_answer ed b room).refusal ≡ 0 → WellFormed q → Batch ed b room q d
  pub one-chain : (b : List ℕ) (room : ℕ) → (accept_answer ed b room).refusal ≡ 0 → OneChain ed b
  pub paths : (b : List ℕ) (room : ℕ) (q d : List ℕ) → (accept_answer ed b room).refusal ≡ 0 → WellFormed q → Paths ed b room q d
  pub outlines : (b : List ℕ) (room : ℕ) (d : List ℕ) → (accept_answer ed b room).refusal ≡ 0 → Outlines ed b room d
