-- The head block of a message: the bytes up to and with the first CR LF CR LF, which ends within the first
-- 16,384 of them.
use Rattle.std.specs.Prelude.{◌≡◌, ℕ, suc, ◌+◌, Bool, List, [], ◌∷◌, length, take, drop, if◌then◌else◌, codes, Option, Some, None, option_map}
use Rattle.std.specs.Str.{bytes_eq}
use Rattle.http_messages.specs.declared.blocks.TheConstants.{MOST_HEAD}

-- the end of a line and an empty line
abbrev pub mark : List ℕ
mark = codes "\r\n\r\n"

abbrev pub begins_mark : List ℕ → Bool
begins_mark bytes = bytes_eq mark (take (length mark) bytes)

-- the place after the first CR LF CR LF
abbrev pub block_end : List ℕ → Option ℕ
block_end [] = None
block_end (b ∷ bytes) = if begins_mark (b ∷ bytes) then Some (length mark) else option_map suc (block_end bytes)

-- the first 16,384 bytes, or all where there are fewer
unfoldable pub window : List ℕ → List ℕ
window bytes = take MOST_HEAD bytes

-- the head block, if there is one
abbrev pub head_block : List ℕ → Option (List ℕ)
head_block bytes = option_map (λ n. take n bytes) (block_end (window bytes))

-- no CR LF CR LF begins before this place, so that a search for it may start there
abbrev pub MayStart : ℕ → List ℕ → Type 0
MayStart start bytes = block_end bytes ≡ option_map (λ n. start + n) (block_end (drop start bytes))
