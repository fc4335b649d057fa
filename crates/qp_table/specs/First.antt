-- The words and the services where nothing has happened.
use Rattle.std.specs.Prelude.{◌≡◌, ℕ, zero, suc, ◌-◌, ◌/◌, ◌%◌, ◌^◌, ◌<◌, ◌==◌, nat_lt, ◌&&◌, List, [], ◌∷◌, ◌++◌, length, slice_index, if◌then◌else◌}
use Rattle.qp_model.specs.declared.systems.System.{System}
use Rattle.qp_model.specs.Sites.{blocks_of}
use Rattle.qp_model.specs.Sound.{IsSound}
use Rattle.qp_model.specs.WordLaw.{is_pool, is_object}
use Rattle.qp_table.specs.Rule.{Holds, table_words}
use Rattle.qp_table.specs.After.{newcomer}
use Rattle.qp_table.specs.declared.view.Serve.{Serve}
use Rattle.qp_table.specs.Whole.{later_lanes}

-- the map of n blocks, all free
abbrev pub all_free : ℕ → ℕ
all_free n = (if nat_lt n 64 then 2 ^ n else 0) - 1

-- a pool's word has all its blocks free; all others are 0
abbrev pub first_word : System → ℕ → ℕ
first_word sys k = if nat_lt k 128 && (k % 8 == 0) && is_pool sys (k / 8) then all_free (blocks_of sys (k / 8)) else 0

-- an object of the system, without last-in posts and takes
abbrev pub first_serve : System → ℕ → List Serve
first_serve sys a = if is_object sys a then record { object = a; lifos = 0; takes = 0 } ∷ [] else []

-- the objects up to n
unfoldable pub first_serves : System → ℕ → List Serve
first_serves sys zero = []
first_serves sys (suc n) = first_serve sys (suc n) ++ first_serves sys n

abbrev pub IsFreshServe : Serve → Type 0
IsFreshServe x = (x.lifos ≡ 0) × (x.takes ≡ 0)

-- the first words of a sound system, and a view that has lane 0 and serves every object, meet the rule
abbrev pub SoundSystemsStart : Type 0
SoundSystemsStart = (sys : System) (words : List ℕ) → IsSound sys → length words ≡ table_words → ((k : ℕ) → k < table_words → slice_index words k ≡ first_word sys k) → Holds sys words (newcomer later_lanes (first_serves sys 32) ∷ [])
