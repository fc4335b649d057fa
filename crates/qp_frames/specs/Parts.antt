-- The numbers of a frame, byte by byte.
use Rattle.std.specs.Prelude.{ℕ, ◌+◌, ◌-◌, ◌*◌, ◌^◌, ◌%◌, ◌==◌, nat_lt, nat_le, Bool, ◌&&◌, List, [], ◌∷◌, length, slice_index, if◌then◌else◌, ◌≤◌, ◌<◌, ⊤, Result, Ok, Err}
use Rattle.qp_frames.specs.declared.numbers.Part.{Part}
use Rattle.qp_frames.specs.declared.numbers.Part.TheVariants.{More, Whole, Wrong}

-- a byte of a number in form 1, at this place, behind bytes with this value
abbrev pub fixed_part : ℕ → ℕ → ℕ → Part
fixed_part place value b = if place == 7 then Whole (value + b * 256 ^ place) else More (value + b * 256 ^ place)

-- a byte of a number in form 2: a tenth one is 1, and the last is 0 only where it is the only one
abbrev pub group_part : ℕ → ℕ → ℕ → Part
group_part place value b =
    if place == 9 then (if b == 1 then Whole (value + 2 ^ 63) else Wrong)
    else (if nat_le 128 b then More (value + (b - 128) * 128 ^ place)
    else (if (b == 0) && nat_lt 0 place then Wrong else Whole (value + b * 128 ^ place)))

-- a byte of a number
abbrev pub part_of : ℕ → ℕ → ℕ → ℕ → Part
part_of form place value b = if form == 2 then group_part place value b else fixed_part place value b

-- the last place of a number, and how many values a byte of it adds
abbrev pub last_place : ℕ → ℕ
last_place form = if form == 2 then 9 else 7

abbrev pub base : ℕ → ℕ
base form = if form == 2 then 128 else 256

-- a number of which bytes before this place have this value
abbrev pub IsPart : ℕ → ℕ → ℕ → Type 0
IsPart form place value = (place ≤ last_place form) × (value < base form ^ place)

-- a number that goes on does so within its places
abbrev pub PartGoesOn : ℕ → ℕ → Part → Type 0
PartGoesOn form place (More value) = IsPart form (place + 1) value
PartGoesOn form place (Whole n) = ⊤
PartGoesOn form place Wrong = ⊤

-- a number before those that follow it
abbrev pub with_number_first : ℕ → Result (List ℕ) ℕ → Result (List ℕ) ℕ
with_number_first n (Ok nums) = Ok (n ∷ nums)
with_number_first n (Err got) = Err got

-- a byte leaves a number that goes on, ends one, or is wrong
abbrev pub by_part : ℕ → Part → (ℕ → Result (List ℕ) ℕ) → (ℕ → Result (List ℕ) ℕ) → Result (List ℕ) ℕ
by_part b (More value) more whole = more value
by_part b (Whole n) more whole = whole n
by_part b Wrong more whole = Err b

-- the numbers of these bytes, the first of which has this place and value; or the byte that shows a wrong one
abbrev pub numbers_from : ℕ → ℕ → ℕ → List ℕ → Result (List ℕ) ℕ
numbers_from form place value [] = Ok []
numbers_from form place value (b ∷ bytes) =
    by_part b (part_of form place value b) (λ v. numbers_from form (place + 1) v bytes) (λ n. with_number_first n (numbers_from form 0 0 bytes))

-- no number is cut off at its end
abbrev pub are_numbers_whole : ℕ → List ℕ → Bool
are_numbers_whole form bytes = if form == 2 then nat_lt (slice_index bytes (length bytes - 1)) 128 else length bytes % 8 == 0
