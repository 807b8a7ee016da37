-- The names table as the strings layer holds it.
use Rattle.layout.specs.declared.Places.{Places}
use Rattle.strings.specs.declared.Strings.{Strings}

unfoldable pub name_strings : Places → Strings
name_strings p = record { chars = p.name_chars; list = p.name_list }
