-- What the name in a line says before its command is done: whether there is a command, and whether it may change the chart.
use Rattle.std.specs.Prelude.{Bool, true, false, not, List, [], ◌∷◌, ℕ}
use Rattle.parsing.specs.Fields.{fields_of}
use Rattle.commands.specs.declared.names.Name.{Name}
use Rattle.commands.specs.declared.names.Name.TheVariants as name
use Rattle.commands.specs.Command.{first_field, is_comment, name_in}

abbrev pub is_command : List (List ℕ) → Bool
is_command [] = false
is_command (first ∷ fields) = not (is_comment first)

-- the line has a command. A line without one is passed over, unless it is too long (`no_command_lem` in `proofs/Named`)
unfoldable pub has_command : List ℕ → Bool
has_command line = is_command (fields_of line)

-- the name in the line's first field
unfoldable pub name_of : List ℕ → Name
name_of line = name_in (first_field (fields_of line))

-- the commands that may change the chart; the others leave it as it is (`only_reads` in `proofs/Named`)
abbrev pub changes : Name → Bool
changes (name.Changes c) = true
changes (name.Asks q) = false
changes name.Other = false

unfoldable pub may_change : List ℕ → Bool
may_change line = changes (name_of line)

-- a command's name
abbrev pub is_command_name : Name → Bool
is_command_name (name.Changes c) = true
is_command_name (name.Asks q) = true
is_command_name name.Other = false

unfoldable pub is_name : List ℕ → Bool
is_name word = is_command_name (name_in word)
