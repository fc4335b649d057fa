-- The frames of a journal.
use Rattle.std.specs.Prelude.{ℕ, zero, suc, ◌+◌, ◌-◌, ◌/◌, ◌%◌, ◌==◌, nat_lt, List, [], ◌∷◌, ◌++◌, sum, if◌then◌else◌}
use Rattle.std.specs.Int.{to_le_bytes, w64}
use Rattle.std.specs.List.{flat_map}
use Rattle.qp_model.specs.declared.journals.Journal.{Journal}
use Rattle.qp_model.specs.Output.{JournalItem, items_of}

-- where a frame ends, and what stands before an escaped byte
abbrev pub end_byte : ℕ
end_byte = 0x7E

abbrev pub escape_byte : ℕ
escape_byte = 0x7D

-- a number in groups of seven bits, the least significant first; each byte but the last has its high bit set
unfoldable pub groups : ℕ → ℕ → List ℕ
groups zero n = []
groups (suc left) n = if nat_lt n 128 then n ∷ [] else (n % 128 + 128) ∷ groups left (n / 128)

-- a number as eight bytes, or in form 2 in at most ten groups
abbrev pub number_bytes : ℕ → ℕ → List ℕ
number_bytes form n = if form == 2 then groups 10 n else to_le_bytes w64 n

-- the bytes of a frame before its checksum
abbrev pub frame_bytes : ℕ → ℕ → JournalItem → List ℕ
frame_bytes form sequence i = sequence ∷ i.id ∷ flat_map (number_bytes form) i.nums

-- the complement of the sum in eight bits
abbrev pub checksum : List ℕ → ℕ
checksum bytes = 255 - sum bytes % 256

-- the two bytes that have a meaning of their own are escaped
abbrev pub escaped : ℕ → List ℕ
escaped b =
    if b == end_byte then escape_byte ∷ 0x5E ∷ [] else (if b == escape_byte then escape_byte ∷ 0x5D ∷ [] else b ∷ [])

-- one frame: its bytes and their checksum, escaped, and the end byte
abbrev pub frame : ℕ → ℕ → JournalItem → List ℕ
frame form sequence i =
    let bytes = frame_bytes form sequence i in flat_map escaped (bytes ++ checksum bytes ∷ []) ++ end_byte ∷ []

-- the frames of items, the first with this sequence byte
abbrev pub frames_from : ℕ → ℕ → List JournalItem → List ℕ
frames_from form sequence [] = []
frames_from form sequence (i ∷ items) = frame form sequence i ++ frames_from form ((sequence + 1) % 256) items

-- the frames of a journal in a form
abbrev pub frames : ℕ → Journal → List ℕ
frames form j = frames_from form 1 (items_of form j)
