-- The numbers by which kinds of faults are printed.
use Rattle.std.specs.Prelude.{ℕ}
use Rattle.snap_edit.specs.declared.fault.EditKind.{EditKind}
use Rattle.snap_edit.specs.declared.fault.EditKind.TheVariants.{NoNode, NotElement, NotText, NumberTaken, IntoItself, RootMoved, PlaceOut, Tree, TooManyEdits}

abbrev pub kind_number : EditKind → ℕ
kind_number NoNode = 1
kind_number NotElement = 2
kind_number NotText = 3
kind_number NumberTaken = 4
kind_number IntoItself = 5
kind_number RootMoved = 6
kind_number PlaceOut = 7
kind_number (Tree fault) = 8
kind_number TooManyEdits = 9
