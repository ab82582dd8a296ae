-- What files of tables in memory show of themselves. The definitions are the project's own.
use Rattle.std.specs.Prelude.{List, Option}
use Rattle.auth_program.specs.declared.mem_tables.MemTables.{MemTables}

-- what the looks to come find, the next one first
abbrev pub looks_left : {S : Type 0} → MemTables S → List (Option (S × S))
looks_left tables = tables.looks.items
