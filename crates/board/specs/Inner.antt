-- Definitions. What stands past the end of a list of entries.
use Rattle.std.specs.Float.{nan}
use Rattle.std.specs.Prelude.{None}
use Rattle.board.specs.declared.Entry.{Entry}

-- what a list holds past its end
abbrev pub none : Entry
none = record { shot = 0; bay = 0; termination = None; contacts = 0; x = nan; z = nan }
