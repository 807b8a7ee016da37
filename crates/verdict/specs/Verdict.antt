-- What checks answer (FORMAT, "Refusals"): nothing was wrong, or the first fault's number and place.
use Rattle.std.specs.Prelude.{ℕ, Result, Ok, Err}
use Rattle.verdict.specs.declared.Rule.{Rule}
use Rattle.verdict.specs.declared.Rule.TheVariants.{FileSize, CutShort, Version, ZeroWord, Count, Footer, EntryAddress, EntryLength, EntryHash, EntryOrder, EntryIndex, Duplicate, ListPosition, SpecialNames, Key, Node, AttributeRange, Attribute, AttributeText, Workspace, ChildRange, Depth, Children, AskedText, AnswerRoom, OutlineRoom}
use Rattle.verdict.specs.declared.Refusal.{Refusal}

-- Nothing is wrong, or the first fault has a number and a place.
pub data Verdict : Type 0 where
  Accepted : Verdict
  Refused : ℕ → ℕ → Verdict

-- The number of each rule.
abbrev pub number : Rule → ℕ
number FileSize = 1
number CutShort = 2
number Version = 3
number ZeroWord = 4
number Count = 5
number Footer = 6
number EntryAddress = 7
number EntryLength = 8
number EntryHash = 9
number EntryOrder = 10
number EntryIndex = 11
number Duplicate = 12
number ListPosition = 13
number SpecialNames = 14
number Key = 15
number Node = 16
number AttributeRange = 17
number Attribute = 18
number AttributeText = 19
number Workspace = 20
number ChildRange = 21
number Depth = 22
number Children = 23
number AskedText = 24
number AnswerRoom = 25
number OutlineRoom = 26

-- What a refusal says.
abbrev pub refused : Refusal → Verdict
refused r = Refused (number r.0) r.1

-- What an answer says: a value comes where nothing is wrong.
abbrev pub answer_of : {T : Type 0} → Result T Refusal → Verdict
answer_of (Ok x) = Accepted
answer_of (Err r) = refused r
