-- Every rule but 20 (FORMAT, "Refusals"): what acceptance means for a file. 20 is about the workspace.
use Rattle.std.specs.Prelude.{ℕ, ◌<◌, List}
use Rattle.layout.specs.Header.{key_count}
use Rattle.layout.specs.Layout.{LaidOut, values, names}
use Rattle.layout.specs.declared.Edition.{Edition}
use Rattle.strings.specs.Rules.{TableRules}
use Rattle.keys.specs.Names.{Special}
use Rattle.keys.specs.Keys.{KeyRule}
use Rattle.nodes.specs.Rules.{NodesRules}
use Rattle.tree.specs.File.{Used}
use Rattle.tree.specs.Rules.{RangeRule, DepthRule}

-- 1 to 6; 7 to 13 of values and of names; 14; 15 of every key; 16 to 19 and 23 of every used node; 21 of every used node; 22.
pub record FileRules (ed : Edition) (b : List ℕ) : Type 0 where
  pub laid : LaidOut ed b
  pub value-table : TableRules (values ed b)
  pub name-table : TableRules (names ed b)
  pub special : Special ed b
  pub key : (k : ℕ) → k < key_count b → KeyRule ed b k
  pub nodes : NodesRules ed b
  pub range : (a : ℕ) → Used ed b a → RangeRule ed b a
  pub depth : DepthRule ed b
