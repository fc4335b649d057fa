-- The steps on queues: where they are allowed, and what they do.
use Rattle.std.specs.Prelude.{◌≡◌, ℕ, ◌+◌, ◌*◌, ◌/◌, ◌%◌, ◌==◌, nat_lt, Bool, true, false, not, ◌&&◌, List, [], ◌∷◌, ◌++◌, map, slice_index, slice_set, if◌then◌else◌, Some, None}
use Rattle.std.specs.declared.option.Option.{Option}
use Rattle.std.specs.List.{list_any, find}
use Rattle.qp_model.specs.declared.record.Rec.{Rec}
use Rattle.qp_model.specs.declared.bodies.Entry.{Entry}
use Rattle.qp_model.specs.declared.systems.System.{System}
use Rattle.qp_model.specs.declared.bodies.Body.TheVariants.{Post, Lifo, Took}
use Rattle.qp_model.specs.Record.{item_of}
use Rattle.qp_model.specs.Parts.{is_static}
use Rattle.qp_model.specs.Sites.{ring_of}
use Rattle.qp_model.specs.WordLaw.{is_block, is_object}
use Rattle.qp_table.specs.Counting.{without}
use Rattle.qp_table.specs.Rule.{queue_at, cell_at, is_ref, is_place, is_serve, on_queue}
use Rattle.qp_table.specs.After.{place, hands_without, gained}
use Rattle.qp_table.specs.declared.view.CellPlace.{CellPlace}
use Rattle.qp_table.specs.declared.view.Glance.{Glance}
use Rattle.qp_table.specs.declared.view.Serve.{Serve}
use Rattle.qp_table.specs.QueueLaws.{f_in, l_in, m_in}
use Rattle.qp_core_steps.specs.Seats.{seat_may_act, may_add, glance, noting}
use Rattle.qp_core_steps.specs.Blocks.{added}
use Rattle.qp_core_steps.specs.declared.seats.Seat.{Seat}
use Rattle.qp_table.specs.Asked.{older}

-- the entry that a step names: pool 0 means the static signal `name`
abbrev pub entry_for : ℕ → ℕ → ℕ → Entry
entry_for p b k = if p == 0 then record { pool = 0; block = k; name = 0 } else record { pool = p; block = b; name = k }

-- it is a static signal of the system, with block 0, or its reference is in hand
abbrev pub in_hand : System → Seat → ℕ → ℕ → ℕ → Bool
in_hand sys x p b k = if p == 0 then (b == 0) && is_static sys k else is_block sys p b && list_any (is_ref p b k) x.hands

-- at these counts an entry of the ring and the front is free
abbrev pub has_free_entry : System → ℕ → ℕ → Bool
has_free_entry sys a w = nat_lt (f_in w + l_in w) (m_in w + (ring_of sys a + 1))

-- how many operations a queue's word shows
abbrev pub operations_in : ℕ → ℕ
operations_in w = f_in w + l_in w + m_in w

abbrev pub serves_it : Seat → ℕ → Bool
serves_it x a = list_any (is_serve a) x.serves

-- the lane's own counts of the queue, with so many last-in posts and takes more
abbrev pub serve_with : ℕ → ℕ → ℕ → Serve → Serve
serve_with a l m x = if x.object == a then record x { lifos = added x.lifos l; takes = added x.takes m } else x

abbrev pub bumped : ℕ → ℕ → ℕ → List Serve → List Serve
bumped a l m xs = map (serve_with a l m) xs

-- Claim

abbrev pub may_claim : System → ℕ → List ℕ → Seat → ℕ → ℕ → ℕ → ℕ → Bool
may_claim sys lanes words x a p b k = may_add lanes x && is_object sys a && in_hand sys x p b k && has_free_entry sys a (slice_index words (queue_at a))

abbrev pub with_claim : Seat → Rec → Glance → ℕ → ℕ → Entry → ℕ → Seat
with_claim x r g a j e n = record (noting r g x) { hands = hands_without e x.hands; claims = x.claims ++ place a j e n ∷ [] }

abbrev pub SeatClaims : System → List ℕ → Seat → ℕ → ℕ → ℕ → ℕ → List ℕ → Seat → Type 0
SeatClaims sys words x a p b k words' x' =
    let w = slice_index words (queue_at a) in
    (r : Rec) × (item_of r ≡ record { of = x.by; body = Post a (f_in w + 1) (l_in w) (m_in w) (entry_for p b k) }) × (words' ≡ slice_set words (queue_at a) (added w 1))
    × (x' ≡ with_claim x r (glance (queue_at a) (added w 1)) a (f_in w % (ring_of sys a + 1)) (entry_for p b k) (operations_in (added w 1)))

-- Lay

abbrev pub oldest_claim : ℕ → List CellPlace → Option CellPlace
oldest_claim a [] = None
oldest_claim a (x ∷ xs) = if x.queue == a then Some (older x (oldest_claim a xs)) else oldest_claim a xs

-- an entry as a cell has it
abbrev pub code_of_entry : Entry → ℕ
code_of_entry e = ((if e.pool == 0 then e.block else ((e.pool * 9007199254740992) % 18446744073709551616 + (e.block * 281474976710656) % 18446744073709551616) % 18446744073709551616 + e.name) % 18446744073709551616 + 9223372036854775808) % 18446744073709551616

abbrev pub is_claimed : Option CellPlace → Bool
is_claimed None = false
is_claimed (Some c) = true

abbrev pub may_lay : ℕ → Seat → ℕ → Bool
may_lay lanes x a = seat_may_act lanes x && is_claimed (oldest_claim a x.claims)

abbrev pub Lays : List ℕ → Seat → ℕ → List ℕ → Seat → Type 0
Lays words x a words' x' =
    (c : CellPlace) × (oldest_claim a x.claims ≡ Some c) × (words' ≡ slice_set words (cell_at a (c.cell % 256)) (code_of_entry c.entry)) × (x' ≡ record x { claims = without (is_place a c.cell c.entry) x.claims })

-- Empty

-- the cell of the front entry, and the one before it
abbrev pub front_at : System → ℕ → ℕ → ℕ
front_at sys a w = (m_in w + ring_of sys a * l_in w) % (ring_of sys a + 1)

abbrev pub before_at : System → ℕ → ℕ → ℕ
before_at sys a w = (m_in w + ring_of sys a * l_in w + ring_of sys a) % (ring_of sys a + 1)

-- the entry of which a cell has the code
abbrev pub decoded_entry : ℕ → Entry
decoded_entry c = if (c % 9223372036854775808) / 9007199254740992 == 0 then record { pool = 0; block = c % 9223372036854775808; name = 0 } else
    record { pool = (c % 9223372036854775808) / 9007199254740992; block = c % 9007199254740992 / 281474976710656; name = c % 281474976710656 }

abbrev pub front_cell_of : System → List ℕ → ℕ → ℕ
front_cell_of sys words a = cell_at a (front_at sys a (slice_index words (queue_at a)))

abbrev pub may_empty : System → ℕ → List ℕ → Seat → ℕ → Bool
may_empty sys lanes words x a = seat_may_act lanes x && is_object sys a && serves_it x a && not (list_any (on_queue a) x.takes) && not (slice_index words (front_cell_of sys words a) == 0)

abbrev pub SeatEmpties : System → List ℕ → Seat → ℕ → List ℕ → Seat → Type 0
SeatEmpties sys words x a words' x' =
    let j = front_at sys a (slice_index words (queue_at a)) in
    (words' ≡ slice_set words (cell_at a j) 0) × (x' ≡ record x { takes = x.takes ++ place a j (decoded_entry (slice_index words (cell_at a j))) 0 ∷ [] })

-- Free

abbrev pub may_free : System → ℕ → Seat → ℕ → Bool
may_free sys lanes x a = may_add lanes x && is_object sys a && is_claimed (find (on_queue a) x.takes)

abbrev pub without_take : Seat → Rec → Glance → ℕ → ℕ → Entry → Seat
without_take x r g a j e = record (noting r g x) { takes = without (is_place a j e) x.takes; hands = gained e x.hands; serves = bumped a 0 1 x.serves }

abbrev pub Frees : List ℕ → Seat → ℕ → List ℕ → Seat → Type 0
Frees words x a words' x' =
    let w = slice_index words (queue_at a) in
    (r : Rec) × (t : CellPlace) × (find (on_queue a) x.takes ≡ Some t) × (item_of r ≡ record { of = a; body = Took (f_in w) (l_in w) (m_in w + 1) t.entry })
    × (words' ≡ slice_set words (queue_at a) (added w 4398046511104)) × (x' ≡ without_take x r (glance (queue_at a) (added w 4398046511104)) a t.cell t.entry)

-- Lifo

abbrev pub may_lifo : System → ℕ → List ℕ → Seat → ℕ → ℕ → ℕ → ℕ → Bool
may_lifo sys lanes words x a p b k = may_add lanes x && is_object sys a && serves_it x a && not (list_any (on_queue a) x.takes) && in_hand sys x p b k && has_free_entry sys a (slice_index words (queue_at a))

abbrev pub with_lifo : Seat → Rec → Glance → ℕ → ℕ → Entry → ℕ → Seat
with_lifo x r g a j e n = record (noting r g x) { hands = hands_without e x.hands; claims = x.claims ++ place a j e n ∷ []; serves = bumped a 1 0 x.serves }

abbrev pub Lifos : System → List ℕ → Seat → ℕ → ℕ → ℕ → ℕ → List ℕ → Seat → Type 0
Lifos sys words x a p b k words' x' =
    let w = slice_index words (queue_at a) in
    (r : Rec) × (item_of r ≡ record { of = a; body = Lifo (f_in w) (l_in w + 1) (m_in w) (entry_for p b k) }) × (words' ≡ slice_set words (queue_at a) (added w 2097152))
    × (x' ≡ with_lifo x r (glance (queue_at a) (added w 2097152)) a (before_at sys a w) (entry_for p b k) (operations_in (added w 2097152)))
