-- What lawful words promise, in the words of the subject.
use Rattle.std.specs.Prelude.{◌≡◌, ◌≢◌, ℕ, zero, suc, ◌+◌, ◌==◌, ◌<◌, ◌≤◌, nat_lt, Bool, true, false, ◌&&◌, ◌↔◌, List, [], ◌∷◌, ◌++◌, length, drop, if◌then◌else◌, IsTrue, IsPermutation, Some, None}
use Rattle.std.specs.declared.option.Option.{Option}
use Rattle.std.specs.Option.{unwrap_or}
use Rattle.std.specs.List.{filter, filter_map, list_any, cons_option}
use Rattle.qp_chart.specs.StateTree.{has}
use Rattle.qp_model.specs.declared.record.Rec.{Rec}
use Rattle.qp_model.specs.declared.systems.System.{System}
use Rattle.qp_model.specs.declared.words.Word.{Word}
use Rattle.qp_model.specs.declared.words.Word.TheVariants as word
use Rattle.qp_model.specs.declared.bodies.Entry.{Entry}
use Rattle.qp_model.specs.declared.bodies.Body.{Body}
use Rattle.qp_model.specs.declared.bodies.Body.TheVariants.{New, Dec, Back, Post, Lifo, Took}
use Rattle.qp_model.specs.Record.{Item, entry}
use Rattle.qp_model.specs.Told.{Event}
use Rattle.qp_model.specs.Knowing.{event_of_entry}
use Rattle.qp_model.specs.History.{touch, drawn_as, total, hist, all_items}
use Rattle.qp_model.specs.Machine.{after}
use Rattle.qp_model.specs.FreeBlocks.{free_blocks}
use Rattle.qp_model.specs.References.{references}
use Rattle.qp_model.specs.Line.{line}
use Rattle.qp_model.specs.Lives.{refs_at}
use Rattle.qp_model.specs.Sites.{ring_of, blocks_of}
use Rattle.qp_model.specs.WordLaw.{Words, is_pool, is_block, is_object, is_signal, is_timer}

-- the operations of a word, in the order of their numbers
unfoldable pub operations : Word → List (List Rec) → List Item
unfolding all_items hist
operations w lanes = hist w (all_items lanes)

-- Where block b of a pool was given out: it was free after the pool's operations before, and no reference stood after the operations of
-- its own word that the record states.
pub record WasFree (blocks b from : ℕ) (earlier block : List Item) : Type 0 where
  pub free : IsTrue (has (after (free_blocks blocks) earlier).free b)
  pub counted : from ≤ length block
  pub unreferenced : refs_at from block ≡ []

-- a block is given out only while no reference to it stands
abbrev pub GivenOutUnreferenced : Type 0
GivenOutUnreferenced =
    (sys : System) (lanes : List (List Rec)) → Words sys lanes → (p b : ℕ) → IsTrue (is_block sys p b)
    → (earlier later : List Item) (o n from sig : ℕ) (pars : List ℕ) → operations (word.Pool p) lanes ≡ earlier ++ record { of = o; body = New p n b from sig pars } ∷ later
    → WasFree (blocks_of sys p) b from earlier (operations (word.Block p b) lanes)

-- no reference is dropped twice, and one that is dropped was made before and still stood
abbrev pub DroppedOnce : Type 0
DroppedOnce =
    (sys : System) (lanes : List (List Rec)) → Words sys lanes → (p b : ℕ) → IsTrue (is_block sys p b)
    → (earlier between later : List Item) (o q d e k l : ℕ)
    → operations (word.Block p b) lanes ≡ earlier ++ record { of = o; body = Dec p b d k } ∷ between ++ record { of = q; body = Dec p b e l } ∷ later
    → k ≢ l

abbrev pub DroppedStood : Type 0
DroppedStood =
    (sys : System) (lanes : List (List Rec)) → Words sys lanes → (p b : ℕ) → IsTrue (is_block sys p b)
    → (earlier later : List Item) (o d k : ℕ) → operations (word.Block p b) lanes ≡ earlier ++ record { of = o; body = Dec p b d k } ∷ later
    → IsTrue (has (after references earlier).names k)

abbrev pub back_of : ℕ → Body → Option ℕ
back_of b (Back p n c to) = if c == b then Some to else None
back_of b _ = None

-- where a life of block b that has begun ends: at the `to` of the next `back` of b, or, where none follows, with the block's history
unfoldable pub life_end : ℕ → ℕ → List Item → ℕ
life_end b history [] = history
life_end b history (i ∷ later) = unwrap_or (back_of b i.body) (life_end b history later)

-- Number r of block b lies in a life of the event: a `new` of b with this event states a `from` of at most r, and r is below the end of
-- the life that it begins. `pool` are the pool's operations, and `block` the block's own.
pub record LiesInLife (p b r : ℕ) (ev : Event) (pool block : List Item) : Type 0 where
  pub earlier : List Item
  pub later : List Item
  pub by : ℕ
  pub number : ℕ
  pub from : ℕ
  pub given : pool ≡ earlier ++ record { of = by; body = New p number b from ev.sig ev.pars } ∷ later
  pub begun : from ≤ r
  pub going : r < life_end b (length block) later

-- an entry of a block has the event of the life which holds its reference, and none where no life does
abbrev pub EventIsOfItsLife : Type 0
EventIsOfItsLife =
    (sys : System) (lanes : List (List Rec)) → Words sys lanes → (p b : ℕ) → IsTrue (is_block sys p b) → (r : ℕ) (ev : Event)
    → (event_of_entry (record { sys = sys; items = all_items lanes }) (entry p b r) ≡ Some ev)
    ↔ LiesInLife p b r ev (operations (word.Pool p) lanes) (operations (word.Block p b) lanes)

-- The operations of a word are numbered 0, 1, 2 and so on: of the records of all lanes exactly one draws each number below their count,
-- none draws another, and in the word's operations each stands at its number.
pub record NumberedOnce (w : Word) (lanes : List (List Rec)) : Type 0 where
  pub once : (n : ℕ) → n < total w (all_items lanes) → (i : Item) × (filter (λ j. drawn_as w n (touch j)) (all_items lanes) ≡ i ∷ [])
  pub placed : (earlier later : List Item) (i : Item) → operations w lanes ≡ earlier ++ i ∷ later → IsTrue (drawn_as w (length earlier) (touch i))
  pub all : length (operations w lanes) ≡ total w (all_items lanes)

-- so are those of all words of a system
pub record WordsAreNumbered (sys : System) (lanes : List (List Rec)) : Type 0 where
  pub pools : (p : ℕ) → IsTrue (is_pool sys p) → NumberedOnce (word.Pool p) lanes
  pub blocks : (p b : ℕ) → IsTrue (is_block sys p b) → NumberedOnce (word.Block p b) lanes
  pub queues : (a : ℕ) → IsTrue (is_object sys a) → NumberedOnce (word.Queue a) lanes
  pub signals : (s : ℕ) → IsTrue (is_signal sys s) → NumberedOnce (word.Signal s) lanes
  pub timers : (t : ℕ) → IsTrue (is_timer sys t) → NumberedOnce (word.Timer t) lanes

abbrev pub OperationsAreNumbered : Type 0
OperationsAreNumbered = (sys : System) (lanes : List (List Rec)) → Words sys lanes → WordsAreNumbered sys lanes

-- the entries that were posted, first-in or last-in, in order
abbrev pub posted_by : Body → Option Entry
posted_by (Post a f l m e) = Some e
posted_by (Lifo f l m e) = Some e
posted_by _ = None

unfoldable pub entries_posted : List Item → List Entry
entries_posted history = filter_map (λ i. posted_by i.body) history

-- the entries that were taken, in order
abbrev pub entry_taken : Body → Option Entry
entry_taken (Took f l m e) = Some e
entry_taken _ = None

unfoldable pub entries_taken : List Item → List Entry
entries_taken history = filter_map (λ i. entry_taken i.body) history

abbrev pub is_lifo_post : Body → Bool
is_lifo_post (Lifo f l m e) = true
is_lifo_post _ = false

-- the entries that are queued in the end
unfoldable pub entries_queued : System → ℕ → List (List Rec) → List Entry
unfolding after operations ring_of
entries_queued sys a lanes = (after (line (ring_of sys a)) (operations (word.Queue a) lanes)).entries

-- without last-in posts, the entries taken and then those still queued are the entries posted, in their order
abbrev pub QueueKeepsOrder : Type 0
QueueKeepsOrder =
    (sys : System) (lanes : List (List Rec)) → Words sys lanes → (a : ℕ) → IsTrue (is_object sys a)
    → list_any (λ i. is_lifo_post i.body) (operations (word.Queue a) lanes) ≡ false
    → entries_posted (operations (word.Queue a) lanes) ≡ entries_taken (operations (word.Queue a) lanes) ++ entries_queued sys a lanes

-- the entries taken and those still queued are the entries posted: none is lost, none comes twice
abbrev pub QueueLosesNothing : Type 0
QueueLosesNothing =
    (sys : System) (lanes : List (List Rec)) → Words sys lanes → (a : ℕ) → IsTrue (is_object sys a)
    → IsPermutation (entries_posted (operations (word.Queue a) lanes)) (entries_taken (operations (word.Queue a) lanes) ++ entries_queued sys a lanes)

-- how many entries wait that were posted last-in: a take takes one of them first
abbrev pub waiting_after : Body → ℕ → ℕ
waiting_after (Lifo f l m e) n = suc n
waiting_after (Took f l m e) zero = zero
waiting_after (Took f l m e) (suc n) = n
waiting_after _ n = n

unfoldable pub waiting : ℕ → List Item → ℕ
waiting n [] = n
waiting n (i ∷ is) = waiting (waiting_after i.body n) is

-- the entry posted first-in
abbrev pub first_in_by : Body → Option Entry
first_in_by (Post a f l m e) = Some e
first_in_by _ = None

-- the entries that were posted first-in, in order
unfoldable pub entries_first_in : List Item → List Entry
entries_first_in history = filter_map (λ i. first_in_by i.body) history

-- the entry taken where no last-in entry waits
abbrev pub plainly_taken_by : Body → ℕ → Option Entry
plainly_taken_by (Took f l m e) zero = Some e
plainly_taken_by _ n = None

-- the entries that were taken while no last-in entry waited, in order; n wait at first
unfoldable pub plainly_taken : ℕ → List Item → List Entry
plainly_taken n [] = []
plainly_taken n (i ∷ is) = cons_option (plainly_taken_by i.body n) (plainly_taken (waiting_after i.body n) is)

-- First-in entries keep their order among themselves, whatever is posted last-in: those taken, and then those still queued, are those
-- posted, in order. They are taken where no last-in entry waits, and stand behind the last-in entries that wait in the end.
abbrev pub FirstInKeepOrder : Type 0
FirstInKeepOrder =
    (sys : System) (lanes : List (List Rec)) → Words sys lanes → (a : ℕ) → IsTrue (is_object sys a)
    → entries_first_in (operations (word.Queue a) lanes)
    ≡ plainly_taken 0 (operations (word.Queue a) lanes) ++ drop (waiting 0 (operations (word.Queue a) lanes)) (entries_queued sys a lanes)

abbrev pub may_take : Body → ℕ → Bool
may_take (Took f l m e) n = nat_lt 0 n
may_take _ n = true

-- as many takes as last-in posts, and none before the post that it may take; n wait at first
unfoldable pub comes_and_goes : ℕ → List Item → Bool
comes_and_goes n [] = n == 0
comes_and_goes n (i ∷ is) = may_take i.body n && comes_and_goes (waiting_after i.body n) is

-- what is last in is the next out: a last-in entry is taken as soon as those that were posted last-in after it are
abbrev pub LastInIsNext : Type 0
LastInIsNext =
    (sys : System) (lanes : List (List Rec)) → Words sys lanes → (a : ℕ) → IsTrue (is_object sys a)
    → (earlier between later : List Item) (o q f l m g k n : ℕ) (d e : Entry)
    → operations (word.Queue a) lanes ≡ earlier ++ record { of = o; body = Lifo f l m d } ∷ between ++ record { of = q; body = Took g k n e } ∷ later
    → IsTrue (comes_and_goes 0 between) → e ≡ d

-- a queue never holds more than its ring and the place of the front
abbrev pub QueueFits : Type 0
QueueFits =
    (sys : System) (lanes : List (List Rec)) → Words sys lanes → (a : ℕ) → IsTrue (is_object sys a)
    → (earlier later : List Item) → operations (word.Queue a) lanes ≡ earlier ++ later → length (after (line (ring_of sys a)) earlier).entries ≤ ring_of sys a + 1
