-- What a load answers.
use Rattle.std.specs.Prelude.{◌≡◌, ◌<◌, ◌≤◌, ℕ, Bool, true, false, List, length, Option, Some, None, IsSomeAnd, Result, Ok, Err, Vec, ⊤}
use Rattle.std.specs.declared.alloc.Global.{Global}
use Rattle.qp_base.specs.Limits.{file_limit}
use Rattle.qp_base.specs.declared.shelves.ShelfFault.{ShelfFault}
use Rattle.qp_base.specs.declared.shelves.ShelfFault.TheVariants.{Memory, Failed, Absent, TooLong}

-- the answer is true of what the shelf holds under the name
abbrev pub TellsOf : Option (List ℕ) → Result (Vec ℕ Global) ShelfFault → Type 0
TellsOf held (Ok file) = held ≡ Some file.items
TellsOf held (Err Memory) = ⊤
TellsOf held (Err Failed) = ⊤
TellsOf held (Err Absent) = held ≡ None
TellsOf held (Err (TooLong len)) = IsSomeAnd held (λ bytes. length bytes ≡ len)

-- a length that is stated as too long is beyond the limit
abbrev pub IsBeyondLimit : ShelfFault → Type 0
IsBeyondLimit Memory = ⊤
IsBeyondLimit Failed = ⊤
IsBeyondLimit Absent = ⊤
IsBeyondLimit (TooLong len) = file_limit < len

-- for want of memory, or since this length is beyond the limit
abbrev pub IsBeyondAt : ℕ → ShelfFault → Type 0
IsBeyondAt n Memory = ⊤
IsBeyondAt n Failed = ⊥
IsBeyondAt n Absent = ⊥
IsBeyondAt n (TooLong len) = (len ≡ n) × (file_limit < len)

-- a file that was loaded is within the limit, and one that is too long is beyond it
abbrev pub KeepsLimit : Result (Vec ℕ Global) ShelfFault → Type 0
KeepsLimit (Ok file) = length file.items ≤ file_limit
KeepsLimit (Err fault) = IsBeyondLimit fault

-- the load failed
abbrev pub is_failed : Result (Vec ℕ Global) ShelfFault → Bool
is_failed (Ok _) = false
is_failed (Err Memory) = false
is_failed (Err Failed) = true
is_failed (Err Absent) = false
is_failed (Err (TooLong _)) = false

-- the load found no file that it may load
abbrev pub is_missed : Result (Vec ℕ Global) ShelfFault → Bool
is_missed (Ok _) = false
is_missed (Err Memory) = false
is_missed (Err Failed) = false
is_missed (Err Absent) = true
is_missed (Err (TooLong _)) = true
