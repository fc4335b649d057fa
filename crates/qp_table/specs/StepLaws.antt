-- Each step of a lane keeps the rule of the event table and tells the lane what it found, whatever the other lanes are.
use Rattle.std.specs.Prelude.{◌≡◌, List, ℕ, ◌+◌, ◌%◌, ◌^◌, ◌<◌, ◌≤◌, eqb, Bool, length, IsTrue, IsFalse}
use Rattle.std.specs.declared.option.Option.{Option}
use Rattle.std.specs.Option.{unwrap_or}
use prog.Atomic.{either}
use Rattle.std.specs.List.{list_any}
use Rattle.qp_model.specs.declared.systems.System.{System}
use Rattle.qp_model.specs.declared.bodies.Entry.{Entry}
use Rattle.qp_model.specs.declared.words.Word.TheVariants as word
use Rattle.qp_model.specs.Sites.{ring_of}
use Rattle.qp_model.specs.WordLaw.{is_pool, is_object}
use Rattle.qp_table.specs.Counting.{many}
use Rattle.qp_table.specs.Rule.{pool_at, block_at, event_word_at, queue_at, cell_at, is_ref, is_spot, is_spot_at, fills_with, fills_of, is_place, on_queue, is_serve, is_lifo, is_take_of, records, code, IsContent}
use Rattle.qp_table.specs.After.{ref, HasRoom, InHand, WordSteps}
use Rattle.qp_table.specs.declared.view.View.{View}
use Rattle.qp_table.specs.QueueLaws.{cells_of, front_cell}
use Rattle.qp_table.specs.Words.{value_seen}
use Rattle.qp_table.specs.Lane.{has_content}
use Rattle.qp_table.specs.Asked.{size_of, is_unfinished, is_begun, is_asked, IsOldest}
use Rattle.qp_table.specs.Told.{ReadTold, EyePoolTold, IsLowest, GiveTold, DropTold, FirstTold, MoreTold, BackTold, FromTold, FillTold, LookTold, SeenTold, NilTold, free_in, EyeTold, TryTold, LayTold, SwapTold, FreeTold, EyeLastTold, LastTold}

-- Blocks.

abbrev pub DropsTell : Type 0
DropsTell = (sys : System) (id : ℕ) (v : View) → HasRoom v → (o p b k : ℕ) → 0 < p → 0 < many (is_ref p b k) v.hands → WordSteps sys id v (block_at p b) (λ n. (n + 4294967295) % 18446744073709551616) (DropTold sys o p b k v)

-- of a block whose give is finished: the beginning of its life was read, and its words are written
abbrev pub FirstReferencesTell : Type 0
FirstReferencesTell = (sys : System) (id : ℕ) (v : View) → HasRoom v → (o p b : ℕ) → 0 < many (is_spot p b) v.fresh → 0 < many (is_begun p b) v.gives → many (fills_of p b) v.fills ≡ 0 → WordSteps sys id v (block_at p b) (λ n. (n + 4294967297) % 18446744073709551616) (FirstTold sys o p b v)

abbrev pub MoreReferencesTell : Type 0
MoreReferencesTell = (sys : System) (id : ℕ) (v : View) → HasRoom v → (o p b k : ℕ) → 0 < p → 0 < many (is_ref p b k) v.hands → WordSteps sys id v (block_at p b) (λ n. (n + 4294967297) % 18446744073709551616) (MoreTold sys o p b v)

abbrev pub BacksTell : Type 0
BacksTell = (sys : System) (id : ℕ) (v : View) → HasRoom v → (o p b m k : ℕ) → k ≡ 4294967296 + 2 ^ b → k < 9000000000 → 0 < many (is_spot_at p b m) v.used → WordSteps sys id v (pool_at p) (λ n. (n + k) % 18446744073709551616) (BackTold sys o p b m k v)

abbrev pub BeginningsTell : Type 0
BeginningsTell = (sys : System) (id : ℕ) (v : View) (p b m : ℕ) → 0 < many (is_spot_at p b m) v.fresh → WordSteps sys id v (block_at p b) (λ n. n) (FromTold sys p b m v)

-- a value that a give of the block asks for
abbrev pub FillsTell : Type 0
FillsTell = (sys : System) (id : ℕ) (v : View) (p b j x : ℕ) → 0 < many (is_spot p b) v.fresh → j < 9 → 0 < many (fills_with p b j x) v.fills → IsTrue (list_any (is_asked p b j x) v.gives) → WordSteps sys id v (event_word_at p b j) (λ n. x) (FillTold p b j x v)

-- of a reference in hand whose event was learned
abbrev pub ReadsTell : Type 0
ReadsTell = (sys : System) (id : ℕ) (v : View) (p b k j : ℕ) → 0 < p → 0 < many (is_ref p b k) v.hands → IsTrue (has_content v.contents (ref p b k)) → WordSteps sys id v (event_word_at p b j) (λ n. n) (ReadTold sys p b k j v)

-- Pools.

abbrev pub PoolEyesTell : Type 0
PoolEyesTell = (sys : System) (id : ℕ) (v : View) → HasRoom v → (p : ℕ) → IsTrue (is_pool sys p) → (o : ℕ) (reserve : Option ℕ) → WordSteps sys id v (pool_at p) (λ n. n) (EyePoolTold sys p o reserve v)

-- where no give is unfinished, the pool's blocks have room for the event, and the map last seen has a block, the lowest of which is b
abbrev pub GivesTell : Type 0
GivesTell = (sys : System) (id : ℕ) (v : View) → HasRoom v → (p : ℕ) → IsTrue (is_pool sys p) → (o : ℕ) (reserve : Option ℕ) (b sig : ℕ) (pars : List ℕ) (old new : ℕ) → IsFalse (list_any (is_unfinished v.fills) v.gives) → length pars ≤ size_of sys p → IsContent sys sig pars → value_seen sys (word.Pool p) v.seen ≡ old → IsLowest b (old % 4294967296) → new + 2 ^ b ≡ old + 4294967296
    → WordSteps sys id v (pool_at p) (λ n. either (eqb n old) new n) (GiveTold sys p o reserve b sig pars v old new)

-- Queues.

abbrev pub LooksTell : Type 0
LooksTell = (sys : System) (id : ℕ) (v : View) (a : ℕ) → IsTrue (is_object sys a) → WordSteps sys id v (queue_at a) (λ n. n) (LookTold sys a v)

abbrev pub SeenCountsTell : Type 0
SeenCountsTell = (sys : System) (id : ℕ) (v : View) → HasRoom v → (a : ℕ) → IsTrue (is_object sys a) → WordSteps sys id v (queue_at a) (λ n. n) (SeenTold sys a v)

abbrev pub EmptyQueuesTell : Type 0
EmptyQueuesTell = (sys : System) (id : ℕ) (v : View) → HasRoom v → (a : ℕ) → IsTrue (is_object sys a) → (is_new : ℕ → Bool) → WordSteps sys id v (queue_at a) (λ n. n) (NilTold sys is_new a v)

abbrev pub EyesTell : Type 0
EyesTell = (sys : System) (id : ℕ) (v : View) → HasRoom v → (a : ℕ) → IsTrue (is_object sys a) → (o : ℕ) (margin : Option ℕ) → WordSteps sys id v (queue_at a) (λ n. n) (EyeTold sys a o margin v)

-- where more than the margin was free at the counts last seen
abbrev pub TriesTell : Type 0
TriesTell = (sys : System) (id : ℕ) (v : View) → HasRoom v → (a : ℕ) → IsTrue (is_object sys a) → (o : ℕ) (margin : Option ℕ) (e : Entry) (old : ℕ) → InHand sys e v → value_seen sys (word.Queue a) v.seen ≡ old → unwrap_or margin 0 < free_in (ring_of sys a) old
    → WordSteps sys id v (queue_at a) (λ n. either (eqb n old) (old + 1) n) (TryTold sys a o margin e v old)

-- of the lane's oldest claim on the queue
abbrev pub LaysTell : Type 0
LaysTell = (sys : System) (id : ℕ) (v : View) (a j : ℕ) (e : Entry) → IsTrue (is_object sys a) → j < cells_of sys a → 0 < many (is_place a j e) v.claims → IsOldest a j e v.claims → WordSteps sys id v (cell_at a j) (λ n. code e) (LayTold a j e v)

-- the front cell is known by the lane's own counts
abbrev pub SwapsTell : Type 0
SwapsTell = (sys : System) (id : ℕ) (v : View) (a l m : ℕ) → IsTrue (is_object sys a) → 0 < length v.logs → IsTrue (list_any (is_serve a) v.serves) → l ≡ records (is_lifo a) v.logs → m ≡ records (is_take_of a) v.logs → many (on_queue a) v.takes ≡ 0
    → WordSteps sys id v (cell_at a (front_cell sys a l m)) (λ n. 0) (SwapTold sys a (front_cell sys a l m) v)

abbrev pub FreesTell : Type 0
FreesTell = (sys : System) (id : ℕ) (v : View) → HasRoom v → (a j : ℕ) (e : Entry) → IsTrue (is_object sys a) → IsTrue (list_any (is_serve a) v.serves) → 0 < many (is_place a j e) v.takes → WordSteps sys id v (queue_at a) (λ n. (n + 4398046511104) % 18446744073709551616) (FreeTold sys a j e v)

abbrev pub LastEyesTell : Type 0
LastEyesTell = (sys : System) (id : ℕ) (v : View) → HasRoom v → (a : ℕ) → IsTrue (is_object sys a) → WordSteps sys id v (queue_at a) (λ n. n) (EyeLastTold sys a v)

abbrev pub LastTriesTell : Type 0
LastTriesTell = (sys : System) (id : ℕ) (v : View) → HasRoom v → (a : ℕ) → IsTrue (is_object sys a) → (e : Entry) (old : ℕ) → InHand sys e v → IsTrue (list_any (is_serve a) v.serves) → many (on_queue a) v.takes ≡ 0 → value_seen sys (word.Queue a) v.seen ≡ old → 0 < free_in (ring_of sys a) old
    → WordSteps sys id v (queue_at a) (λ n. either (eqb n old) (old + 2097152) n) (LastTold sys a e v old)
