-- The steps on pools and blocks: where they are allowed, and what they do.
use Rattle.std.specs.Prelude.{◌≡◌, ℕ, zero, suc, ◌+◌, ◌-◌, ◌/◌, ◌%◌, ◌^◌, ◌==◌, nat_lt, nat_le, Bool, not, ◌&&◌, ◌||◌, List, [], ◌∷◌, ◌++◌, length, slice_index, slice_set, slice_get, if◌then◌else◌}
use Rattle.std.specs.List.{list_any}
use Rattle.std.specs.Option.{option_map_or}
use Rattle.qp_model.specs.declared.record.Rec.{Rec}
use Rattle.qp_model.specs.declared.bodies.Entry.{Entry}
use Rattle.qp_model.specs.declared.systems.System.{System}
use Rattle.qp_model.specs.declared.bodies.Body.TheVariants.{Inc, Dec, Back, New}
use Rattle.qp_model.specs.Record.{item_of}
use Rattle.qp_model.specs.WordLaw.{is_pool, is_block}
use Rattle.qp_table.specs.Counting.{without}
use Rattle.qp_table.specs.Rule.{pool_at, block_at, event_word_at, is_ref, is_spot, gives_of, fills_of, fills_with}
use Rattle.qp_model.specs.Parts.{params_of}
use Rattle.qp_table.specs.After.{spot, ref, begun_give, fills_for}
use Rattle.qp_table.specs.declared.view.PendingGive.{PendingGive}
use Rattle.qp_table.specs.declared.view.Fill.{Fill}
use Rattle.qp_table.specs.declared.view.Glance.{Glance}
use Rattle.qp_core_steps.specs.Seats.{seat_may_act, may_add, glance, noting}
use Rattle.qp_core_steps.specs.declared.seats.Seat.{Seat}
use Rattle.qp_table.specs.Asked.{is_unfinished}

-- an addition to a word
abbrev pub added : ℕ → ℕ → ℕ
added w k = (w + k) % 18446744073709551616

-- a word's number, and what stands below it
abbrev pub number_of_word : ℕ → ℕ
number_of_word w = w / 4294967296

abbrev pub low_in : ℕ → ℕ
low_in w = w % 4294967296

-- the lowest bit that is 1, of so many
abbrev pub lowest : ℕ → ℕ → ℕ
lowest zero m = 0
lowest (suc n) m = if m % 2 == 1 then 0 else suc (lowest n (m / 2))

-- the bit of a block; a word has 64
abbrev pub bit_of : ℕ → ℕ
bit_of b = if nat_lt b 64 then 2 ^ b else 0

-- the size of a pool's blocks
abbrev pub block_size : System → ℕ → ℕ
block_size sys p = option_map_or (λ d. d.size) (slice_get sys.pools (p - 1)) 0

-- an event of the system for which the pool's blocks have room
abbrev pub fits : System → ℕ → ℕ → List ℕ → Bool
fits sys p sig pars = nat_le 4 sig && nat_lt sig (length sys.signals + 4) && (length pars == params_of sys sig) && nat_le (length pars) (block_size sys p)

-- a give is finished where the beginning of the life was read and no word is left to be written
abbrev pub has_left : List Fill → PendingGive → Bool
has_left fills g = list_any (fills_of g.pool g.block) fills

-- Give

abbrev pub may_give : System → ℕ → List ℕ → Seat → ℕ → ℕ → List ℕ → Bool
may_give sys lanes words x p sig pars = may_add lanes x && is_pool sys p && fits sys p sig pars && not (list_any (is_unfinished x.fills) x.gives) && not (low_in (slice_index words (pool_at p)) == 0)

abbrev pub with_give : Seat → Rec → Glance → ℕ → ℕ → ℕ → List ℕ → Seat
with_give x r g p b from event = record (noting r g x) {
  fresh = x.fresh ++ spot p b from ∷ [];
  gives = x.gives ++ begun_give p b event ∷ [];
  fills = x.fills ++ fills_for p b 0 event;
}

abbrev pub SeatGives : List ℕ → Seat → ℕ → ℕ → List ℕ → List ℕ → Seat → Type 0
SeatGives words x p sig pars words' x' =
    let w = slice_index words (pool_at p) in
    let b = lowest 32 (low_in w) in
    let from = number_of_word (slice_index words (block_at p b)) in
    (r : Rec) × (item_of r ≡ record { of = x.by; body = New p (number_of_word w) b from sig pars }) × (words' ≡ slice_set words (pool_at p) (added w 4294967296 - bit_of b)) × (x' ≡ with_give x r (glance (pool_at p) (added w 4294967296 - bit_of b)) p b from (sig ∷ pars))

-- Fill

abbrev pub asks_for : List Fill → ℕ → ℕ → ℕ → ℕ → PendingGive → Bool
asks_for fills p b j n g = gives_of p b g && is_unfinished fills g && nat_lt j (length g.event) && (slice_index g.event j == n)

abbrev pub may_fill : ℕ → Seat → ℕ → ℕ → ℕ → ℕ → Bool
may_fill lanes x p b j n = seat_may_act lanes x && list_any (asks_for x.fills p b j n) x.gives

abbrev pub Fills : List ℕ → Seat → ℕ → ℕ → ℕ → ℕ → List ℕ → Seat → Type 0
Fills words x p b j n words' x' = (words' ≡ slice_set words (event_word_at p b j) n) × (x' ≡ record x { fills = without (fills_with p b j n) x.fills })

-- Make

abbrev pub is_ref_to : ℕ → ℕ → Entry → Bool
is_ref_to p b e = (e.pool == p) && (e.block == b)

abbrev pub is_give_over : List Fill → ℕ → ℕ → PendingGive → Bool
is_give_over fills p b g = gives_of p b g && not (is_unfinished fills g)

abbrev pub has_ready : Seat → ℕ → ℕ → Bool
has_ready x p b = list_any (is_spot p b) x.fresh && list_any (is_give_over x.fills p b) x.gives

abbrev pub may_make : System → ℕ → Seat → ℕ → ℕ → Bool
may_make sys lanes x p b = may_add lanes x && is_block sys p b && (list_any (is_ref_to p b) x.hands || has_ready x p b)

-- the first reference ends the give
abbrev pub give_ended : Bool → ℕ → ℕ → Seat → Seat
give_ended more p b y = if more then y else record y { fresh = without (is_spot p b) y.fresh; gives = without (gives_of p b) y.gives }

abbrev pub with_ref : Seat → Rec → Glance → ℕ → ℕ → ℕ → Seat
with_ref x r g p b k = give_ended (list_any (is_ref_to p b) x.hands) p b (record (noting r g x) { hands = x.hands ++ ref p b k ∷ [] })

abbrev pub SeatMakes : List ℕ → Seat → ℕ → ℕ → List ℕ → Seat → Type 0
SeatMakes words x p b words' x' =
    let w = slice_index words (block_at p b) in
    (r : Rec) × (item_of r ≡ record { of = x.by; body = Inc p b (number_of_word w) }) × (words' ≡ slice_set words (block_at p b) (added w 4294967297)) × (x' ≡ with_ref x r (glance (block_at p b) (added w 4294967297)) p b (number_of_word w))

-- Drop

abbrev pub may_drop : System → ℕ → Seat → ℕ → ℕ → ℕ → Bool
may_drop sys lanes x p b k = may_add lanes x && is_block sys p b && list_any (is_ref p b k) x.hands

-- the seat after it: where the word counts no reference any more, the block is used
abbrev pub without_ref : Seat → ℕ → Rec → ℕ → ℕ → ℕ → Seat
without_ref x n r p b k = record (noting r (glance (block_at p b) n) x) {
  hands = without (is_ref p b k) x.hands;
  used = x.used ++ (if low_in n == 0 then spot p b (number_of_word n) ∷ [] else []);
}

abbrev pub SeatDrops : List ℕ → Seat → ℕ → ℕ → ℕ → List ℕ → Seat → Type 0
SeatDrops words x p b k words' x' =
    let w = slice_index words (block_at p b) in
    (r : Rec) × (item_of r ≡ record { of = x.by; body = Dec p b (number_of_word w) k }) × (words' ≡ slice_set words (block_at p b) (added w 4294967295)) × (x' ≡ without_ref x (added w 4294967295) r p b k)

-- Back

abbrev pub may_back : System → ℕ → Seat → ℕ → ℕ → Bool
may_back sys lanes x p b = may_add lanes x && is_block sys p b && list_any (is_spot p b) x.used

abbrev pub Backs : List ℕ → Seat → ℕ → ℕ → List ℕ → Seat → Type 0
Backs words x p b words' x' =
    let w = slice_index words (pool_at p) in
    (r : Rec) × (item_of r ≡ record { of = x.by; body = Back p (number_of_word w) b (number_of_word (slice_index words (block_at p b))) })
    × (words' ≡ slice_set words (pool_at p) (added w (4294967296 + bit_of b))) × (x' ≡ record (noting r (glance (pool_at p) (added w (4294967296 + bit_of b))) x) { used = without (is_spot p b) x.used })
