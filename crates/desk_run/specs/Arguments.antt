-- What the arguments of the program give: the book, where the store is and the words of a command, or what it finds where
-- they give none.
use Rattle.std.specs.Prelude.{◌≡◌, ◌<◌, ℕ, List, ◌∷◌, length, codes, if◌then◌else◌, Result, Ok, Err}
use Rattle.std.specs.Str.{IsUtf8, bytes_eq}
use Rattle.audit_run.specs.declared.found.Found.{Found}
use Rattle.audit_run.specs.declared.found.Found.TheVariants.{Usage, StoreFault, NoMemory}
use Rattle.desk_run.specs.declared.arguments.BookName.{BookName}
use Rattle.desk_run.specs.declared.arguments.BookName.TheVariants.{Thirty, Forty}
use Rattle.desk_run.specs.declared.arguments.StorePlace.{StorePlace}
use Rattle.desk_run.specs.declared.arguments.StorePlace.TheVariants.{Memory, File}

-- what the program may find before it runs a command
abbrev pub IsRefusal : Found → Type 0
IsRefusal Usage = Unit {0}
IsRefusal StoreFault = Unit {0}
IsRefusal NoMemory = Unit {0}
IsRefusal other = ⊥

-- the book that a word before the store names: `forty` that of forty rules, and all else is the name of a store
abbrev pub named_book : List ℕ → BookName
named_book word = if bytes_eq word (codes "forty") then Forty else Thirty

-- the store of this name: `-` is the program's memory, and all else is a file
abbrev pub place_of : List ℕ → StorePlace
place_of name = if bytes_eq name (codes "-") then Memory else File name

-- where the store is that these bytes name; bytes that are no text name none
abbrev pub Places : List ℕ → Result StorePlace Found → Type 0
Places name (Ok place) = place ≡ place_of name
Places name (Err StoreFault) = ¬ (IsUtf8 name)
Places name (Err NoMemory) = Unit {0}
Places name (Err other) = ⊥

-- the arguments name the program (or, behind it, the book) and the store, and then one word or more
pub record NamesWords (args words : List (List ℕ)) : Type 0 where
  pub program : List ℕ
  pub store : List ℕ
  pub args_are : args ≡ program ∷ store ∷ words
  pub some : 0 < length words

-- the words that stand after the store's name, or why there are none
abbrev pub Starts : List (List ℕ) → Result (List (List ℕ)) Found → Type 0
Starts args (Ok words) = NamesWords args words
Starts args (Err Usage) = length args < 3
Starts args (Err NoMemory) = Unit {0}
Starts args (Err other) = ⊥
