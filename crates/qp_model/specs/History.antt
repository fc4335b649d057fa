-- The history of a numbered word: the records that draw its numbers, in their order.
use Rattle.std.specs.Prelude.{ℕ, zero, suc, ◌+◌, ◌==◌, nat_lt, nat_le, Bool, true, false, not, ◌&&◌, ◌||◌, List, [], ◌∷◌, ◌++◌, map, length, if◌then◌else◌, Some, None}
use Rattle.std.specs.declared.option.Option.{Option}
use Rattle.std.specs.List.{filter, list_all, filter_map}
use Rattle.qp_model.specs.declared.record.Rec.{Rec}
use Rattle.qp_model.specs.declared.words.Word.{Word}
use Rattle.qp_model.specs.declared.words.Word.TheVariants as word
use Rattle.qp_model.specs.declared.bodies.Body.{Body}
use Rattle.qp_model.specs.declared.bodies.Body.TheVariants.{Took, Nil, Seen, New, Short, Inc, Dec, Back, Post, Lifo, Full, Pub, Sub, Unsub, Same, Arm, Disarm, Rearm, Idle, Tick, Fire, NoEntry, NoBlock, Armed, NoLifo}
use Rattle.qp_model.specs.Record.{Item, item_of}
use Rattle.qp_model.specs.Lists.{all_below, never_falls}

abbrev pub same_word : Word → Word → Bool
same_word (word.Pool p) (word.Pool q) = p == q
same_word (word.Block p b) (word.Block q c) = (p == q) && (b == c)
same_word (word.Queue a) (word.Queue c) = a == c
same_word (word.Signal s) (word.Signal t) = s == t
same_word (word.Timer t) (word.Timer u) = t == u
same_word _ _ = false

-- What a record does to a numbered word: it draws a number, or it shows how many operations the word had. The mark is the number of
-- operations after it: one more than the number drawn, or the number shown.
pub data Touch : Type 0 where
  Draws : (w : Word) (mark : ℕ) → Touch
  Shows : (w : Word) (mark : ℕ) → Touch
  Neither : Touch

-- by the table of journal items; a queue's mark is the sum of its counts
abbrev pub touch_of : ℕ → Body → Touch
touch_of o (Took f l m e) = Draws (word.Queue o) (f + l + m)
touch_of o (Nil f l m) = Shows (word.Queue o) (f + l + m)
touch_of o (Seen p f l m) = Shows (word.Queue p) (f + l + m)
touch_of o (New p n b from sig pars) = Draws (word.Pool p) (suc n)
touch_of o (Short p n free reserve) = Shows (word.Pool p) n
touch_of o (Inc p b r) = Draws (word.Block p b) (suc r)
touch_of o (Dec p b d k) = Draws (word.Block p b) (suc d)
touch_of o (Back p n b to) = Draws (word.Pool p) (suc n)
touch_of o (Post a f l m e) = Draws (word.Queue a) (f + l + m)
touch_of o (Lifo f l m e) = Draws (word.Queue o) (f + l + m)
touch_of o (Full a f l m margin) = Shows (word.Queue a) (f + l + m)
touch_of o (Pub sig n set) = Shows (word.Signal sig) n
touch_of o (Sub sig n) = Draws (word.Signal sig) (suc n)
touch_of o (Unsub sig n) = Draws (word.Signal sig) (suc n)
touch_of o (Same sig n) = Shows (word.Signal sig) n
touch_of o (Arm t n ticks interval) = Draws (word.Timer t) (suc n)
touch_of o (Disarm t n former) = Draws (word.Timer t) (suc n)
touch_of o (Rearm t n former ticks) = Draws (word.Timer t) (suc n)
touch_of o (Idle t n) = Shows (word.Timer t) n
touch_of o (Tick t n counter) = Draws (word.Timer t) (suc n)
touch_of o (Fire t n reload) = Draws (word.Timer t) (suc n)
touch_of o (NoEntry a f l m) = Shows (word.Queue a) (f + l + m)
touch_of o (NoLifo a f l m) = Shows (word.Queue a) (f + l + m)
touch_of o (NoBlock p n free) = Shows (word.Pool p) n
touch_of o (Armed t n counter) = Shows (word.Timer t) n
touch_of o _ = Neither

abbrev pub touch : Item → Touch
touch i = touch_of i.of i.body

abbrev pub drawn_on : Word → Touch → Bool
drawn_on w (Draws v mark) = same_word v w
drawn_on w _ = false

-- it draws number n of w
abbrev pub drawn_as : Word → ℕ → Touch → Bool
drawn_as w n (Draws v mark) = same_word v w && (mark == suc n)
drawn_as w n _ = false

-- where it draws a number of w, it is a number below n
abbrev pub drawn_below : Word → ℕ → Touch → Bool
drawn_below w n (Draws v mark) = not (same_word v w) || (nat_lt 0 mark && nat_le mark n)
drawn_below w n _ = true

abbrev pub shown_on : Word → Touch → Bool
shown_on w (Shows v mark) = same_word v w
shown_on w _ = false

-- the record draws a number of w or shows w
abbrev pub mark_of : Word → Touch → Option ℕ
mark_of w (Draws v mark) = if same_word v w then Some mark else None
mark_of w (Shows v mark) = if same_word v w then Some mark else None
mark_of w Neither = None

-- the records of a lane, read
unfoldable pub lane_items : List Rec → List Item
unfolding item_of
lane_items lane = map item_of lane

-- the records of all lanes, one lane after another
unfoldable pub all_items : List (List Rec) → List Item
unfolding lane_items
all_items [] = []
all_items (lane ∷ lanes) = lane_items lane ++ all_items lanes

-- how many numbers are drawn on w
unfoldable pub total : Word → List Item → ℕ
total w items = length (filter (λ i. drawn_on w (touch i)) items)

-- the records that draw 0, 1 and so on below n
unfoldable pub numbered : Word → List Item → ℕ → List Item
numbered w items zero = []
numbered w items (suc n) = numbered w items n ++ filter (λ i. drawn_as w n (touch i)) items

-- the numbers drawn on w are 0 to some n - 1, each once
unfoldable pub is_numbered : Word → List Item → Bool
unfolding all_below total
is_numbered w items =
    list_all (λ i. drawn_below w (total w items) (touch i)) items
    && all_below (total w items) (λ n. length (filter (λ i. drawn_as w n (touch i)) items) == 1)

-- the history of w
unfoldable pub hist : Word → List Item → List Item
unfolding numbered total
hist w items = numbered w items (total w items)

-- the marks of a lane on w
abbrev pub marks : Word → List Item → List ℕ
marks w items = filter_map (λ i. mark_of w (touch i)) items

-- in no lane do the marks on w fall
unfoldable pub marks_rise : Word → List (List Rec) → Bool
unfolding lane_items
marks_rise w lanes = list_all (λ lane. never_falls (marks w (lane_items lane))) lanes
