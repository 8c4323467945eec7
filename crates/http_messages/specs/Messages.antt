-- What a message says whose head block was found.
use Rattle.std.specs.Prelude.{◌≡◌, ℕ, List, Some}
use Rattle.http_messages.specs.declared.head.Head.{Head}
use Rattle.http_messages.specs.declared.reading.Got.{Got}
use Rattle.http_messages.specs.Blocks.{block_end, window}
use Rattle.http_messages.specs.Talk.{bodied}
use Rattle.http_messages.specs.Reading.{Says, next_of}

-- the bytes said this, where their head block ends there
abbrev pub SaysFrom : ℕ → Got → List ℕ → List ℕ → Type 0
SaysFrom n g before now = block_end (window before) ≡ Some n → Says g before now

-- the bytes said this of a head that has a body of that length
abbrev pub SaysBody : Head → ℕ → Got → List ℕ → List ℕ → Type 0
SaysBody head n g before now = next_of g now ≡ bodied head before n
