-- What is true of all words and all tokens of a world together.
use Rattle.std.specs.Prelude.{◌≡◌, ℕ, zero, suc, ◌+◌, ◌<◌, ◌≤◌, ◌==◌, nat_lt, nat_le, Bool, true, false, ◌&&◌, ◌||◌, List, [], length, map, IsTrue, if◌then◌else◌}
use Rattle.std.specs.Option.{option_map_or}
use Rattle.std.specs.List.{list_all}
use Rattle.qp_chart.specs.StateTree.{has}
use Rattle.qp_model.specs.declared.record.Rec.{Rec}
use Rattle.qp_model.specs.declared.words.Word.TheVariants as word
use Rattle.qp_model.specs.declared.systems.System.{System}
use Rattle.qp_model.specs.declared.bodies.Entry.{Entry}
use Rattle.qp_model.specs.declared.bodies.Body.{Body}
use Rattle.qp_model.specs.declared.bodies.Body.TheVariants.{Took, Inc, Dec, Post, Lifo}
use Rattle.qp_model.specs.Record.{Item, entry}
use Rattle.qp_model.specs.OneOrder.{Placed, items_placed}
use Rattle.qp_model.specs.Places.{in_order}
use Rattle.qp_model.specs.Told.{Event, ToldItem, for_object}
use Rattle.qp_model.specs.History.{hist, all_items}
use Rattle.qp_model.specs.Knowing.{Facts, event_of_entry, told}
use Rattle.qp_model.specs.Settled.{all_settled}
use Rattle.qp_model.specs.References.{Refs}
use Rattle.qp_model.specs.Lives.{Life}
use Rattle.qp_model.specs.Parts.{is_static, params_of}
use Rattle.qp_model.specs.WordLaw.{Words, is_block, is_object, is_signal}
use Rattle.qp_calls.specs.Tokens.{Token, Held, Loose, same_token, token_of, hands_after}
use Rattle.qp_calls.specs.Counting.{times, count_of}
use Rattle.qp_plain_sound.specs.Log.{Orders, log_of}
use Rattle.qp_plain_sound.specs.WordStates.{refs_in, life_in, line_in, set_in, cell_in}

-- the facts of a world
abbrev pub facts_in : System → List (List Rec) → Facts
facts_in sys lanes = record { sys = sys; items = all_items lanes }

-- the sum over the numbers below n
unfoldable pub sum_below : ℕ → (ℕ → ℕ) → ℕ
sum_below zero f = 0
sum_below (suc n) f = sum_below n f + f n

-- objects are numbered up to 32
abbrev pub queues : ℕ
queues = 33

-- the entry is this reference
abbrev pub is_token_of : Token → Entry → Bool
is_token_of t e = same_token t (token_of e)

-- the entries of an object's queue
unfoldable pub entries_in : System → List (List Rec) → ℕ → List Entry
unfolding line_in is_object
entries_in sys lanes a = if is_object sys a then (line_in sys lanes a).entries else []

-- how often a reference stands in the queues
unfoldable pub queued : System → List (List Rec) → Token → ℕ
unfolding entries_in sum_below times
queued sys lanes t = sum_below queues (λ a. times (is_token_of t) (entries_in sys lanes a))

-- an entry that may stand in a queue or in hands: a static one, or a reference to a block of the system
abbrev pub is_good : System → Entry → Bool
is_good sys e = if e.pool == 0 then is_static sys e.block && (e.name == 0) else is_block sys e.pool e.block

abbrev pub names_block : System → Token → Bool
names_block sys (Held p b r) = is_block sys p b
names_block sys (Loose p b used) = is_block sys p b

-- an event of the system
abbrev pub is_event : System → Event → Bool
is_event sys ev = nat_le 4 ev.sig && nat_lt ev.sig (length sys.signals + 4) && (length ev.pars == params_of sys ev.sig)

-- One block: `held` and `queued` count a reference's occurrences, `fresh` and `used` those of the block without one.
pub record BlockOk (life : Life) (refs : Refs) (held queued : ℕ → ℕ) (fresh used : ℕ) : Type 0 where
  -- each reference that stands is held or queued, once, and no other is
  pub owned : (r : ℕ) → held r + queued r ≡ times (λ x. x == r) refs.names
  pub lone : fresh + used ≤ 1
  -- a block in hands without a reference is given out; it is used if it has had an operation since
  pub fresh_is : 0 < fresh → (refs.names ≡ []) × (life.out ≡ true) × (life.edge ≡ refs.count)
  pub used_is : 0 < used → (refs.names ≡ []) × (life.out ≡ true) × (life.edge < refs.count)
  -- a block that is given out and has no reference is in hands
  pub kept : life.out ≡ true → refs.names ≡ [] → fresh + used ≡ 1
  -- a free block has no reference
  pub idle : life.out ≡ false → refs.names ≡ []

-- the same of block b of pool p, for these hands
abbrev pub BlockIn : System → List (List Rec) → List Token → ℕ → ℕ → Type 0
BlockIn sys lanes hands p b =
    BlockOk (life_in lanes p b) (refs_in lanes p b) (λ r. count_of (Held p b r) hands) (λ r. queued sys lanes (Held p b r))
    (count_of (Loose p b false) hands) (count_of (Loose p b true) hands)

-- the event of a block that is given out is one of the system, and it is the event of each reference that stands
pub record EventIn (sys : System) (lanes : List (List Rec)) (p b : ℕ) : Type 0 where
  pub good : (life_in lanes p b).out ≡ true → IsTrue (option_map_or (is_event sys) (cell_in lanes p b) false)
  pub same : (r : ℕ) → IsTrue (has (refs_in lanes p b).names r)
      → event_of_entry (facts_in sys lanes) (entry p b r) ≡ cell_in lanes p b

-- All words keep their laws, and the tokens are what the words say.
pub record Sound (sys : System) (lanes : List (List Rec)) (hands : List Token) : Type 0 where
  pub words : Words sys lanes
  pub block : (p b : ℕ) → IsTrue (is_block sys p b) → BlockIn sys lanes hands p b
  pub event : (p b : ℕ) → IsTrue (is_block sys p b) → EventIn sys lanes p b
  pub tokens : IsTrue (list_all (names_block sys) hands)
  pub entries : (a : ℕ) → IsTrue (is_object sys a) → IsTrue (list_all (is_good sys) (line_in sys lanes a).entries)
  pub subscribed : (sig : ℕ) → IsTrue (is_signal sys sig)
      → IsTrue (list_all (is_object sys) (set_in lanes sig).members)

-- The hands of a world.

-- The records in the order of the calls, as they are told. The ceiling of a lane is left out: no token depends on it.
unfoldable pub told_log : Facts → List Placed → List ToldItem
unfolding told
told_log w log = map (λ x. for_object x.item.of (told w x.item.of 0 x.item.body)) log

-- what they leave in the hands of the world, whichever lane has it
unfoldable pub hands_in : System → List (List Rec) → List ℕ → List Token
unfolding all_items log_of told_log hands_after
hands_in sys lanes order = hands_after [] (told_log (facts_in sys lanes) (log_of lanes order))

-- References that were made.

-- the entry is static, or its reference is a number below those of its block's operations
unfoldable pub is_made : List Item → Entry → Bool
unfolding hist
is_made items e = (e.pool == 0) || nat_lt e.name (length (hist (word.Block e.pool e.block) items))

-- so is what the record makes, takes, drops or posts
abbrev pub handles_made : List Item → Body → Bool
handles_made items (Took f l m e) = is_made items e
handles_made items (Inc p b r) = is_made items (entry p b r)
handles_made items (Dec p b d k) = is_made items (entry p b k)
handles_made items (Post a f l m e) = is_made items e
handles_made items (Lifo f l m e) = is_made items e
handles_made items _ = true

unfoldable pub all_made : List Item → List Item → Bool
unfolding is_made
all_made items lane = list_all (λ j. handles_made items j.body) lane

-- A world: lanes, and the lane of each record in the order of the calls.
pub record SoundWorld (sys : System) (lanes : List (List Rec)) (order : List ℕ) : Type 0 where
  pub orders : Orders lanes order
  pub sound : Sound sys lanes (hands_in sys lanes order)
  -- each number drawn or shown is that of the word's operations so far
  pub numbered : IsTrue (in_order [] (items_placed (log_of lanes order)))
  -- what is known beside a record stays
  pub settled : IsTrue (all_settled (all_items lanes) (all_items lanes))
  pub logged : IsTrue (all_settled (all_items lanes) (items_placed (log_of lanes order)))
  pub made : IsTrue (all_made (all_items lanes) (all_items lanes))
  -- what the system has
  pub few : (a : ℕ) → IsTrue (is_object sys a) → a < queues
  pub bare : (sig : ℕ) → IsTrue (is_static sys sig) → params_of sys sig ≡ 0
