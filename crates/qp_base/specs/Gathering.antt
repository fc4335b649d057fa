-- What was put into a sink that gathers, and what of it went on.
use Rattle.std.specs.Prelude.{◌≡◌, ◌+◌, ◌-◌, ◌%◌, ◌^◌, ℕ, List, ◌++◌, length, take, Option, Some, None, ⊤}
use Rattle.std.specs.Option.{option_map}
use Rattle.std.specs.Coded.{Unit-prop}
use Rattle.std.proofs.Props.{props}
use Rattle.qp_base.specs.declared.course.Course.{Course}
use Rattle.qp_base.specs.declared.course.Course.TheVariants.{Open, Torn, Stopped}

-- a number of bytes, as 64 bits count them
abbrev pub in_64_bits : ℕ → ℕ
in_64_bits n = n % 2 ^ 64

-- how many bytes of a torn piece went on, where this went on in all, and so many bytes had gone before the piece
abbrev pub torn_part : ℕ → List ℕ → ℕ
torn_part gone w = in_64_bits (length w + (2 ^ 64 - in_64_bits gone))

-- what went on before a torn piece
abbrev pub whole_part : ℕ → List ℕ → List ℕ
whole_part gone w = take (length w - torn_part gone w) w

-- what was put, where w went on and this is held
unfoldable pub put_of : Course → ℕ → List ℕ → List ℕ → List ℕ
put_of Open gone held w = w ++ held
put_of Torn gone held w = whole_part gone w ++ held
put_of Stopped gone held w = w

-- the same, where the sink below tells what went on
unfoldable pub sink_told : Course → ℕ → List ℕ → Option (List ℕ) → Option (List ℕ)
unfolding put_of
sink_told course gone held below = option_map (put_of course gone held) below

-- how w went on: so many bytes of it, and of a torn piece some, from the first on
unfoldable pub Went : Course → ℕ → List ℕ → List ℕ → Type 0
Went Open gone held w = in_64_bits (length w) ≡ in_64_bits gone
Went Torn gone held w = w ≡ whole_part gone w ++ take (torn_part gone w) held
Went Stopped gone held w = ⊤

-- the same, where the sink below tells it
unfoldable pub GoesDown : Course → ℕ → List ℕ → Option (List ℕ) → Type 0
unfolding Went
GoesDown course gone held None = ⊤
GoesDown course gone held (Some w) = Went course gone held w

pub Goes-prop : (course : Course) (gone : ℕ) (held : List ℕ) (below : Option (List ℕ)) → IsProp (GoesDown course gone held below)
unfolding GoesDown Went
Goes-prop course gone held None = Unit-prop
Goes-prop Open gone held (Some w) = hlevel props
Goes-prop Torn gone held (Some w) = hlevel props
Goes-prop Stopped gone held (Some w) = Unit-prop

-- what went on is the first part of what was put
abbrev pub IsBegun : Option (List ℕ) → Option (List ℕ) → Type 0
IsBegun None put = ⊤
IsBegun (Some w) None = ⊥
IsBegun (Some w) (Some all) = (rest : List ℕ) × (all ≡ w ++ rest)
