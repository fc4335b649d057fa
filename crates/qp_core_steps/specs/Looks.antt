-- Looks: where they are allowed, and what they do.
use Rattle.std.specs.Prelude.{ℕ, zero, suc, ◌+◌, ◌-◌, ◌/◌, ◌%◌, ◌==◌, nat_le, Bool, true, false, ◌&&◌, List, slice_index, Some, None}
use Rattle.std.specs.declared.option.Option.{Option}
use Rattle.std.specs.List.{list_any}
use Rattle.qp_model.specs.declared.record.Rec.{Rec}
use Rattle.qp_model.specs.declared.systems.System.{System}
use Rattle.qp_model.specs.declared.words.Word.{Word}
use Rattle.qp_model.specs.declared.words.Word.TheVariants as word
use Rattle.qp_model.specs.declared.bodies.Body.{Body}
use Rattle.qp_model.specs.declared.bodies.Body.TheVariants.{Short, NoBlock, Nil, Seen, Full, NoEntry, NoLifo}
use Rattle.qp_model.specs.Record.{body_of}
use Rattle.qp_model.specs.Sites.{ring_of}
use Rattle.qp_model.specs.WordLaw.{is_block, is_object}
use Rattle.qp_table.specs.Rule.{pool_at, block_at, queue_at}
use Rattle.qp_table.specs.After.{reading}
use Rattle.qp_table.specs.QueueLaws.{f_in, l_in, m_in}
use Rattle.qp_table.specs.declared.view.Glance.{Glance}
use Rattle.qp_core_steps.specs.Seats.{seat_may_act, may_add, glance, seat_seeing, noting}
use Rattle.qp_core_steps.specs.Blocks.{number_of_word, low_in, block_size, is_ref_to}
use Rattle.qp_core_steps.specs.Queues.{serves_it}
use Rattle.qp_core_steps.specs.declared.seats.Seat.{Seat}
use Rattle.qp_table.specs.Words.{is_here, place_of}

abbrev pub word_in : List ℕ → Word → ℕ
word_in words (word.Pool p) = slice_index words (pool_at p)
word_in words (word.Block p b) = slice_index words (block_at p b)
word_in words (word.Queue a) = slice_index words (queue_at a)
word_in words _ = 0

-- how many of so many bits are 1
abbrev pub ones : ℕ → ℕ → ℕ
ones zero m = 0
ones (suc n) m = m % 2 + ones n (m / 2)

-- a record states the counts that a queue's word shows
abbrev pub counts_match : ℕ → ℕ → ℕ → ℕ → Bool
counts_match w f l m = (f == f_in w) && (l == l_in w) && (m == m_in w)

abbrev pub entry_count : ℕ → ℕ
entry_count w = f_in w + l_in w - m_in w

-- a record for object o that shows a pool's word: at most the reserve is free, or nothing is
abbrev pub states_pool : ℕ → ℕ → ℕ → ℕ → Body → Bool
states_pool w q by o (Short p n free reserve) = (o == by) && (p == q) && (n == number_of_word w) && (free == ones 32 (low_in w)) && nat_le free reserve
states_pool w q by o (NoBlock p n free) = (o == by) && (p == q) && (n == number_of_word w) && (free == 0) && (low_in w == 0)
states_pool w q by o _ = false

-- and one that shows a queue's word
abbrev pub states_queue : ℕ → ℕ → ℕ → ℕ → ℕ → Body → Bool
states_queue ring w q by o (Nil f l m) = (o == by) && (o == q) && counts_match w f l m && (f_in w + l_in w == m_in w)
states_queue ring w q by o (Seen p f l m) = (o == 0) && (p == q) && counts_match w f l m
states_queue ring w q by o (Full a f l m margin) = (o == by) && (a == q) && counts_match w f l m && nat_le (ring + 1 - entry_count w) margin
states_queue ring w q by o (NoEntry a f l m) = (o == by) && (a == q) && counts_match w f l m && (entry_count w == ring + 1)
states_queue ring w q by o (NoLifo a f l m) = (o == by) && (a == q) && counts_match w f l m && (entry_count w == ring + 1)
states_queue ring w q by o _ = false

abbrev pub states : System → List ℕ → Word → ℕ → Rec → Bool
states sys words (word.Pool q) by r = states_pool (slice_index words (pool_at q)) q by r.of (body_of r)
states sys words (word.Queue q) by r = states_queue (ring_of sys q) (slice_index words (queue_at q)) q by r.of (body_of r)
states sys words _ by r = false

-- Look

abbrev pub may_state : System → ℕ → List ℕ → Seat → Word → Option Rec → Bool
may_state sys lanes words x w None = true
may_state sys lanes words x w (Some r) = may_add lanes x && states sys words w x.by r

abbrev pub may_look : System → ℕ → List ℕ → Seat → Word → Option Rec → Bool
may_look sys lanes words x w rec = is_here sys w && may_state sys lanes words x w rec

-- what the word shows
abbrev pub shown : List ℕ → Word → Glance
shown words w = glance (place_of w) (word_in words w)

-- a look at a block's word reads where the life of a fresh block begins
abbrev pub looked : List ℕ → Seat → Word → Option Rec → Seat
looked words x w (Some r) = noting r (shown words w) x
looked words x (word.Block p b) None = record (seat_seeing (shown words (word.Block p b)) x) { gives = reading p b x.gives }
looked words x w None = seat_seeing (shown words w) x

-- Read and Peek

abbrev pub may_read : System → Seat → ℕ → ℕ → ℕ → Bool
may_read sys x p b j = is_block sys p b && list_any (is_ref_to p b) x.hands && nat_le j (block_size sys p)

abbrev pub may_peek : System → ℕ → Seat → ℕ → Bool
may_peek sys lanes x a = seat_may_act lanes x && is_object sys a && serves_it x a
