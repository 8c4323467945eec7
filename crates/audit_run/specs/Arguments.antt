-- What is found where a program's arguments can't be had.
use Rattle.std.specs.declared.io.ErrorKind.{ErrorKind}
use Rattle.std.specs.declared.io.ErrorKind.TheVariants.{OutOfMemory}
use Rattle.audit_run.specs.declared.found.Found.{Found}
use Rattle.audit_run.specs.declared.found.Found.TheVariants.{Usage, NoMemory}

-- want of memory, or a word is no text
abbrev pub found_by : ErrorKind → Found
found_by OutOfMemory = NoMemory
found_by kind = Usage
