-- The string table that a lent one is.
use Rattle.layout.specs.Table.{Table}
use Rattle.strings.specs.inner.Held.{held_table}
use Rattle.strings.specs.declared.StringTable.{StringTable}

-- The table that starts with the lent characters and has as many buckets as there are starts.
abbrev pub lent_table : StringTable → Table
lent_table t = held_table t.file.now t.parts t.buckets.now
