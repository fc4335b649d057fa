-- The tests of words on small journals, and on journals with a fault in one record.
use Rattle.std.proofs.Common.{◌≡◌, ℕ, true, false, List, [], ◌∷◌, ◌++◌, refl, Some, None}
use Rattle.qp_model.specs.declared.record.Rec.{Rec}
use Rattle.qp_model.specs.declared.words.Word.TheVariants as word
use Rattle.qp_model.specs.declared.bodies.Body.{Body}
use Rattle.qp_model.specs.declared.bodies.Body.TheVariants as body
use Rattle.qp_model.specs.Record.{Item, item_of, entry}
use Rattle.qp_model.specs.Lists.{never_falls}
use Rattle.qp_model.specs.History.{is_numbered, hist, marks, all_items}
use Rattle.qp_model.specs.Machine.{is_allowed, is_shown}
use Rattle.qp_model.specs.FreeBlocks.{free_blocks}
use Rattle.qp_model.specs.References.{references}
use Rattle.qp_model.specs.Line.{line}
use Rattle.qp_model.specs.Subscribers.{subscribers}
use Rattle.qp_model.specs.TimeEvents.{time_event}
use Rattle.qp_model.specs.Lives.{has_lives, edges_empty, lives_cover, lives_referred, life_of}
use Rattle.qp_model.specs.WordLaw.{keeps}
use Rattle.qp_model.specs.Knowing.{last_given}

rec : ℕ → ℕ → List ℕ → Rec
rec kind o nums = record { kind = kind; of = o; nums = record { items = nums } }

-- an object that posts a pooled event to itself last-in: of its steps, the records on words
lanes : List (List Rec)
unfolding rec
lanes =
    (rec 7 0 (1 ∷ 1 ∷ 0 ∷ 0 ∷ [])
    ∷ rec 5 1 (1 ∷ 0 ∷ 1 ∷ 0 ∷ 4 ∷ 0 ∷ [])
    ∷ rec 8 1 (1 ∷ 1 ∷ [])
    ∷ rec 15 1 (1 ∷ 0 ∷ 0 ∷ 0 ∷ 5 ∷ 3 ∷ [])
    ∷ rec 17 1 (1 ∷ 0 ∷ 0 ∷ [])
    ∷ rec 21 1 (1 ∷ 1 ∷ 1 ∷ 1 ∷ 0 ∷ 0 ∷ [])
    ∷ rec 14 1 []
    ∷ rec 7 0 (1 ∷ 1 ∷ 1 ∷ 1 ∷ [])
    ∷ rec 5 1 (1 ∷ 1 ∷ 2 ∷ 1 ∷ 0 ∷ 0 ∷ [])
    ∷ rec 8 1 (1 ∷ 2 ∷ [])
    ∷ rec 14 1 []
    ∷ rec 18 1 (1 ∷ 0 ∷ 1 ∷ 0 ∷ [])
    ∷ rec 19 1 (1 ∷ 1 ∷ 0 ∷ 2 ∷ [])
    ∷ rec 7 0 (1 ∷ 1 ∷ 1 ∷ 2 ∷ [])
    ∷ [])
    ∷ (rec 40 0 (1 ∷ 1 ∷ [])
    ∷ rec 20 0 (1 ∷ 1 ∷ 0 ∷ 0 ∷ 0 ∷ 4 ∷ 0 ∷ [])
    ∷ [])
    ∷ []

pool_keeps : keeps (free_blocks 2) (word.Pool 1) lanes ≡ true
unfolding keeps lanes rec
pool_keeps = refl

block_keeps : keeps references (word.Block 1 0) lanes ≡ true
unfolding keeps lanes rec
block_keeps = refl

queue_keeps : keeps (line 2) (word.Queue 1) lanes ≡ true
unfolding keeps lanes rec
queue_keeps = refl

block_lives : has_lives 0 (hist (word.Pool 1) (all_items lanes)) (hist (word.Block 1 0) (all_items lanes)) ≡ true
unfolding has_lives hist all_items lanes rec
block_lives = refl

-- the other block was never given out
other_lives : has_lives 1 (hist (word.Pool 1) (all_items lanes)) (hist (word.Block 1 1) (all_items lanes)) ≡ true
unfolding has_lives hist all_items lanes rec
other_lives = refl

event_found : last_given 0 0 None (hist (word.Pool 1) (all_items lanes)) ≡ Some (record { sig = 5; pars = 3 ∷ [] })
unfolding last_given hist all_items lanes rec
event_found = refl

-- Records read: another count of numbers says nothing; assertion 2 is read whatever size it states.
i : ℕ → Body → Item
i o b = record { of = o; body = b }

read_short : item_of (rec 5 1 (1 ∷ 0 ∷ 1 ∷ 0 ∷ 4 ∷ [])) ≡ i 1 body.Malformed
unfolding item_of rec i
read_short = refl

read_head : item_of (rec 3 0 (0 ∷ [])) ≡ i 0 body.Malformed
unfolding item_of rec i
read_head = refl

read_far : item_of (rec 47 0 []) ≡ i 0 body.Malformed
unfolding item_of rec i
read_far = refl

read_size : item_of (rec 42 1 (2 ∷ 1 ∷ 0 ∷ 5 ∷ [])) ≡ i 1 (body.NoBlock 1 0 5)
unfolding item_of rec i
read_size = refl

read_no_block : item_of (rec 42 1 (2 ∷ 1 ∷ 7 ∷ 0 ∷ [])) ≡ i 1 (body.NoBlock 1 7 0)
unfolding item_of rec i
read_no_block = refl

read_no_lifo : item_of (rec 42 1 (5 ∷ 1 ∷ 1 ∷ 0 ∷ 0 ∷ [])) ≡ i 1 (body.NoLifo 1 1 0 0)
unfolding item_of rec i
read_no_lifo = refl

-- Numbers: one is missing, one stands twice, one is none.
missing : is_numbered (word.Signal 5) (i 1 (body.Sub 5 1) ∷ []) ≡ false
unfolding is_numbered i
missing = refl

twice : is_numbered (word.Signal 5) (i 1 (body.Sub 5 0) ∷ i 2 (body.Sub 5 0) ∷ []) ≡ false
unfolding is_numbered i
twice = refl

no_counts : is_numbered (word.Queue 1) (i 1 (body.Post 1 0 0 0 (entry 0 4 0)) ∷ []) ≡ false
unfolding is_numbered i
no_counts = refl

in_two_lanes : is_numbered (word.Signal 5) (i 2 (body.Sub 5 1) ∷ i 1 (body.Sub 5 0) ∷ i 1 (body.Sub 6 0) ∷ []) ≡ true
unfolding is_numbered i
in_two_lanes = refl

-- Free blocks: not the least, one that is free already, one beyond the pool.
not_least : is_allowed (free_blocks 2) (i 1 (body.New 1 0 1 0 5 []) ∷ []) ≡ false
unfolding is_allowed i
not_least = refl

back_free : is_allowed (free_blocks 2) (i 1 (body.Back 1 0 1 2) ∷ []) ≡ false
unfolding is_allowed i
back_free = refl

back_beyond : is_allowed (free_blocks 2) (i 1 (body.Back 1 0 2 2) ∷ []) ≡ false
unfolding is_allowed i
back_beyond = refl

none_free : is_allowed (free_blocks 1) (i 1 (body.New 1 0 0 0 5 []) ∷ i 1 (body.New 1 1 0 0 5 []) ∷ []) ≡ false
unfolding is_allowed i
none_free = refl

short_wrong : is_shown (free_blocks 2) (word.Pool 1) (i 1 (body.Short 1 0 1 1) ∷ []) ≡ false
unfolding is_shown i
short_wrong = refl

short_above : is_shown (free_blocks 2) (word.Pool 1) (i 1 (body.Short 1 0 2 1) ∷ []) ≡ false
unfolding is_shown i
short_above = refl

short_at : is_shown (free_blocks 2) (word.Pool 1) (i 1 (body.Short 1 0 2 2) ∷ []) ≡ true
unfolding is_shown i
short_at = refl

blocks_left : is_shown (free_blocks 2) (word.Pool 1) (i 1 (body.NoBlock 1 0 0) ∷ []) ≡ false
unfolding is_shown i
blocks_left = refl

blocks_stated : is_shown (free_blocks 2) (word.Pool 1) (i 1 (body.NoBlock 1 0 2) ∷ []) ≡ false
unfolding is_shown i
blocks_stated = refl

size_wrong : is_shown (free_blocks 0) (word.Pool 1) (i 1 (body.NoBlock 1 0 1) ∷ []) ≡ false
unfolding is_shown i
size_wrong = refl

none_left : is_shown (free_blocks 0) (word.Pool 1) (i 1 (body.NoBlock 1 0 0) ∷ []) ≡ true
unfolding is_shown i
none_left = refl

-- References: one that doesn't stand is dropped, one is dropped twice.
never_made : is_allowed references (i 1 (body.Dec 1 0 0 0) ∷ []) ≡ false
unfolding is_allowed i
never_made = refl

dropped_twice : is_allowed references (i 1 (body.Inc 1 0 0) ∷ i 1 (body.Dec 1 0 1 0) ∷ i 1 (body.Dec 1 0 2 0) ∷ []) ≡ false
unfolding is_allowed i
dropped_twice = refl

-- Lines: a post beyond the ring, an entry that isn't in front, counts of another.
one_post : Item
unfolding i
one_post = i 0 (body.Post 1 1 0 0 (entry 0 4 0))

beyond_ring : is_allowed (line 0) (one_post ∷ i 0 (body.Post 1 2 0 0 (entry 0 5 0)) ∷ []) ≡ false
unfolding is_allowed one_post i
beyond_ring = refl

not_front : is_allowed (line 1) (one_post ∷ i 0 (body.Post 1 2 0 0 (entry 0 5 0)) ∷ i 1 (body.Took 2 0 1 (entry 0 5 0)) ∷ []) ≡ false
unfolding is_allowed one_post i
not_front = refl

in_front : is_allowed (line 1) (one_post ∷ i 1 (body.Lifo 1 1 0 (entry 0 5 0)) ∷ i 1 (body.Took 1 1 1 (entry 0 5 0)) ∷ []) ≡ true
unfolding is_allowed one_post i
in_front = refl

other_counts : is_allowed (line 1) (one_post ∷ i 0 (body.Post 1 1 1 0 (entry 0 5 0)) ∷ []) ≡ false
unfolding is_allowed one_post i
other_counts = refl

nothing_to_take : is_allowed (line 1) (i 1 (body.Took 0 0 1 (entry 0 4 0)) ∷ []) ≡ false
unfolding is_allowed i
nothing_to_take = refl

seen_future : is_shown (line 1) (word.Queue 1) (one_post ∷ i 0 (body.Seen 1 2 0 0) ∷ []) ≡ false
unfolding is_shown one_post i
seen_future = refl

seen_others : is_shown (line 1) (word.Queue 1) (one_post ∷ i 0 (body.Seen 1 0 1 0) ∷ []) ≡ false
unfolding is_shown one_post i
seen_others = refl

nil_full : is_shown (line 1) (word.Queue 1) (one_post ∷ i 1 (body.Nil 1 0 0) ∷ []) ≡ false
unfolding is_shown one_post i
nil_full = refl

full_room : is_shown (line 1) (word.Queue 1) (one_post ∷ i 0 (body.Full 1 1 0 0 0) ∷ []) ≡ false
unfolding is_shown one_post i
full_room = refl

full_at : is_shown (line 1) (word.Queue 1) (one_post ∷ i 0 (body.Full 1 1 0 0 1) ∷ []) ≡ true
unfolding is_shown one_post i
full_at = refl

entry_left : is_shown (line 1) (word.Queue 1) (one_post ∷ i 0 (body.NoEntry 1 1 0 0) ∷ []) ≡ false
unfolding is_shown one_post i
entry_left = refl

no_entry : is_shown (line 0) (word.Queue 1) (one_post ∷ i 0 (body.NoEntry 1 1 0 0) ∷ i 1 (body.NoLifo 1 1 0 0) ∷ []) ≡ true
unfolding is_shown one_post i
no_entry = refl

lifo_left : is_shown (line 1) (word.Queue 1) (one_post ∷ i 1 (body.NoLifo 1 1 0 0) ∷ []) ≡ false
unfolding is_shown one_post i
lifo_left = refl

-- Subscribers: one comes twice, one goes that isn't there, another set.
comes_twice : is_allowed subscribers (i 1 (body.Sub 5 0) ∷ i 1 (body.Sub 5 1) ∷ []) ≡ false
unfolding is_allowed i
comes_twice = refl

goes_first : is_allowed subscribers (i 2 (body.Sub 5 0) ∷ i 1 (body.Unsub 5 1) ∷ []) ≡ false
unfolding is_allowed i
goes_first = refl

set_shown : is_shown subscribers (word.Signal 5) (i 1 (body.Sub 5 0) ∷ i 3 (body.Sub 5 1) ∷ i 0 (body.Pub 5 2 5) ∷ i 0 (body.Pub 5 1 1) ∷ []) ≡ true
unfolding is_shown i
set_shown = refl

other_set : is_shown subscribers (word.Signal 5) (i 1 (body.Sub 5 0) ∷ i 0 (body.Pub 5 1 2) ∷ []) ≡ false
unfolding is_shown i
other_set = refl

-- an operation that isn't allowed is taken as stated, so that what is shown later has a meaning
as_stated : is_shown subscribers (word.Signal 5) (i 1 (body.Sub 5 0) ∷ i 1 (body.Sub 5 1) ∷ i 1 (body.Unsub 5 2) ∷ i 0 (body.Pub 5 3 0) ∷ []) ≡ true
unfolding is_shown i
as_stated = refl

-- Time events: armed twice, another former counter, disarmed when it isn't armed, a tick at 1 and a fire above it.
armed : Item
unfolding i
armed = i 1 (body.Arm 1 0 2 3)

armed_twice : is_allowed time_event (armed ∷ i 1 (body.Arm 1 1 2 0) ∷ []) ≡ false
unfolding is_allowed armed i
armed_twice = refl

other_former : is_allowed time_event (armed ∷ i 1 (body.Rearm 1 1 1 2) ∷ []) ≡ false
unfolding is_allowed armed i
other_former = refl

disarmed_idle : is_allowed time_event (i 1 (body.Disarm 1 0 0) ∷ []) ≡ false
unfolding is_allowed i
disarmed_idle = refl

tick_at_one : is_allowed time_event (i 1 (body.Arm 1 0 1 0) ∷ i 0 (body.Tick 1 1 0) ∷ []) ≡ false
unfolding is_allowed i
tick_at_one = refl

fire_above : is_allowed time_event (armed ∷ i 0 (body.Fire 1 1 3) ∷ []) ≡ false
unfolding is_allowed armed i
fire_above = refl

fire_reload : is_allowed time_event (armed ∷ i 0 (body.Tick 1 1 1) ∷ i 0 (body.Fire 1 2 0) ∷ []) ≡ false
unfolding is_allowed armed i
fire_reload = refl

ticks_down : is_allowed time_event (armed ∷ i 0 (body.Tick 1 1 1) ∷ i 0 (body.Fire 1 2 3) ∷ i 1 (body.Disarm 1 3 3) ∷ i 1 (body.Rearm 1 4 0 9) ∷ []) ≡ true
unfolding is_allowed armed i
ticks_down = refl

idle_armed : is_shown time_event (word.Timer 1) (armed ∷ i 0 (body.Idle 1 1) ∷ []) ≡ false
unfolding is_shown armed i
idle_armed = refl

armed_idle : is_shown time_event (word.Timer 1) (armed ∷ i 1 (body.Armed 1 0 0) ∷ []) ≡ false
unfolding is_shown armed i
armed_idle = refl

-- Marks of a lane: one that falls, drawn or shown.
mark_falls : never_falls (marks (word.Queue 1) (i 0 (body.Seen 1 1 0 0) ∷ i 0 (body.Seen 2 0 0 0) ∷ i 0 (body.Seen 1 0 0 0) ∷ [])) ≡ false
unfolding i
mark_falls = refl

mark_stays : never_falls (marks (word.Queue 1) (one_post ∷ i 0 (body.Seen 1 1 0 0) ∷ i 0 (body.Seen 2 0 0 0) ∷ [])) ≡ true
unfolding one_post i
mark_stays = refl

-- Lives: the block comes back while a reference stands, before its `new`, at another number, or lacks a reference inside its life.
pool_life : ℕ → List Item
unfolding i
pool_life to = i 1 (body.New 1 0 0 0 5 []) ∷ i 1 (body.Back 1 1 0 to) ∷ []

one_reference : List Item
unfolding i
one_reference = i 1 (body.Inc 1 0 0) ∷ i 1 (body.Dec 1 0 1 0) ∷ []

lives_whole : has_lives 0 (pool_life 2) one_reference ≡ true
unfolding has_lives pool_life one_reference i
lives_whole = refl

back_early : has_lives 0 (pool_life 1) one_reference ≡ false
unfolding has_lives pool_life one_reference i
back_early = refl

back_late : edges_empty 0 (pool_life 3) one_reference ≡ false
unfolding edges_empty pool_life one_reference i
back_late = refl

back_referred : edges_empty 0 (pool_life 1) one_reference ≡ false
unfolding edges_empty pool_life one_reference i
back_referred = refl

outside : lives_cover 0 (pool_life 1) one_reference ≡ false
unfolding lives_cover pool_life one_reference i
outside = refl

no_life : lives_cover 0 [] one_reference ≡ false
unfolding lives_cover one_reference i
no_life = refl

back_first : is_allowed (life_of 0) (i 1 (body.Back 1 0 0 2) ∷ []) ≡ false
unfolding is_allowed i
back_first = refl

empty_inside : lives_referred 0 (i 1 (body.New 1 0 0 0 5 []) ∷ []) (one_reference ++ i 1 (body.Inc 1 0 2) ∷ []) ≡ false
unfolding lives_referred one_reference i
empty_inside = refl

-- an open life may have no reference at its very end
empty_at_end : has_lives 0 (i 1 (body.New 1 0 0 0 5 []) ∷ []) one_reference ≡ true
unfolding has_lives one_reference i
empty_at_end = refl
