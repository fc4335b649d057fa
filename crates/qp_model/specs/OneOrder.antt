-- The one order of a run with one thread, and which source acts in which look.
use Rattle.std.specs.Prelude.{ℕ, ◌+◌, ◌==◌, Bool, true, false, not, ◌&&◌, ◌||◌, List, [], ◌∷◌, ◌++◌, map, take, drop, if◌then◌else◌, IsTrue, Some, None}
use Rattle.std.specs.declared.option.Option.{Option}
use Rattle.std.specs.List.{filter, filter_map, list_all, list_any, count_by, enumerate_from, find}
use Rattle.std.specs.Option.{option_map_or, option_map, is_some}
use Rattle.qp_chart.specs.StateTree.{has}
use Rattle.qp_model.specs.declared.stimulus.Stim.{Stim}
use Rattle.qp_model.specs.declared.stimulus.Stim.TheVariants as stim
use Rattle.qp_model.specs.declared.systems.System.{System}
use Rattle.qp_model.specs.declared.bodies.Body.{Body}
use Rattle.qp_model.specs.declared.bodies.Body.TheVariants as body
use Rattle.qp_model.specs.Record.{Item}
use Rattle.qp_model.specs.Places.{in_order}
use Rattle.qp_model.specs.Ends.{is_spill, ends_last, spills_in}

-- a record with its lane
pub record Placed : Type 0 where
  pub lane : ℕ
  pub item : Item

-- a stimulus by its source and its place there, from 1
pub record Turn : Type 0 where
  pub source : ℕ
  pub place : ℕ

-- the place and the look's number of a `stim`
abbrev pub stim_of : Body → Option (ℕ × ℕ)
stim_of (body.Stim i k) = Some (i, k)
stim_of _ = None

-- a `stim` in look k
abbrev pub is_stim_at : ℕ → Body → Bool
is_stim_at k (body.Stim i n) = n == k
is_stim_at k _ = false

-- the count and the floor of a `look`
abbrev pub look_of : Body → Option (ℕ × ℕ)
look_of (body.Look k floor) = Some (k, floor)
look_of _ = None

-- whether a record belongs to the stimulus of look k; `within` tells it of the record before, and `cuts` whether a `spill`
-- of a source stands within its stimulus
abbrev pub belongs : ℕ → Bool → Bool → Body → Bool
belongs k cuts within b = option_map_or (λ s. s.1 == k) (stim_of b) (within && (cuts || not (is_spill b)))

-- the records of the stimulus of look k, from a source's lane
unfoldable pub part_of_look : ℕ → ℕ → Bool → Bool → List Item → List Placed
part_of_look lane k cuts within [] = []
part_of_look lane k cuts within (i ∷ is) =
    let now : Bool = belongs k cuts within i.body in
    (if now then record { lane = lane; item = i } ∷ [] else []) ++ part_of_look lane k cuts now is

-- the same from the lanes of all sources, from this lane on
unfoldable pub parts_of_look : ℕ → ℕ → Bool → List (List Item) → List Placed
unfolding part_of_look
parts_of_look lane k cuts [] = []
parts_of_look lane k cuts (l ∷ ls) = part_of_look lane k cuts false l ++ parts_of_look (lane + 1) k cuts ls

-- lane 0 with each stimulus right after its look
unfoldable pub with_stimuli : Bool → List (List Item) → List Item → List Placed
unfolding parts_of_look
with_stimuli cuts sources [] = []
with_stimuli cuts sources (i ∷ is) =
    record { lane = 0; item = i } ∷ option_map_or (λ l. parts_of_look 1 l.0 cuts sources) (look_of i.body) [] ++ with_stimuli cuts sources is

unfoldable pub spills_from : ℕ → List (List Item) → List Placed
spills_from lane [] = []
spills_from lane (l ∷ ls) = map (λ i. record { lane = lane; item = i }) (filter (λ i. is_spill i.body) l) ++ spills_from (lane + 1) ls

-- the order of all records; a `spill` behind a whole stimulus of a source is put at the end
unfoldable pub order : Bool → List Item → List (List Item) → List Placed
unfolding spills_from with_stimuli
order cuts lane0 sources = with_stimuli cuts sources lane0 ++ (if cuts then [] else spills_from 1 sources)

-- the stimuli that stand in look k, from this lane on
unfoldable pub turns_at : ℕ → ℕ → List (List Item) → List Turn
turns_at lane k [] = []
turns_at lane k (l ∷ ls) =
    filter_map (λ i. option_map_or (λ s. if s.1 == k then Some (record { source = lane; place = s.0 }) else None) (stim_of i.body) None) l
    ++ turns_at (lane + 1) k ls

-- Which source acts: the records before a look say what each has done and what is queued.
abbrev pub is_stim : Placed → Bool
is_stim x = is_some (stim_of x.item.body)

unfoldable pub begun : List Placed → ℕ → ℕ
begun before source = count_by (λ x. is_stim x && (x.lane == source)) before

-- the source that acted last, or 0
unfoldable pub acted_last : ℕ → List Placed → ℕ
acted_last last [] = last
acted_last last (x ∷ xs) = acted_last (if is_stim x then x.lane else last) xs

abbrev pub enters : ℕ → Item → Bool
enters o i = into i.body
  where
    into : Body → Bool
    into (body.Post a f l m e) = a == o
    into (body.Lifo f l m e) = i.of == o
    into _ = false

abbrev pub leaves : ℕ → Item → Bool
leaves o i = (i.of == o) && is_took i.body
  where
    is_took : Body → Bool
    is_took (body.Took f l m e) = true
    is_took _ = false

-- every queue is empty after these records
unfoldable pub all_empty : System → List Placed → Bool
all_empty sys before =
    list_all (λ d. count_by (λ x. enters d.priority x.item) before == count_by (λ x. leaves d.priority x.item) before) sys.objects

-- a `settle` acts only at the base and where all queues are empty
abbrev pub may_act : Bool → List Stim → Bool
may_act rests [] = false
may_act rests (stim.Settle ∷ ss) = rests
may_act rests (s ∷ ss) = true

-- what each source has left after these records
unfoldable pub stimuli_after : List Placed → List (List Stim) → List (ℕ × List Stim)
unfolding begun
stimuli_after before stimuli = map (λ x. (x.0, drop (begun before x.0) x.1)) (enumerate_from 1 stimuli)

abbrev pub turned : {A : Type 0} → ℕ → List A → List A
turned n xs = drop n xs ++ take n xs

-- the stimulus that acts in a look: that of the first source that may act, in cyclic order after the one that acted last
unfoldable pub acts_next : System → List (List Stim) → List Placed → Bool → Option Turn
unfolding acted_last all_empty begun stimuli_after
acts_next sys stimuli before at_base =
    option_map (λ x. record { source = x.0; place = begun before x.0 + 1 })
    (find (λ x. may_act (at_base && all_empty sys before) x.1) (turned (acted_last 0 before) (stimuli_after before stimuli)))

abbrev pub is_turn : Option Turn → List Turn → Bool
is_turn None [] = true
is_turn (Some t) (s ∷ []) = (s.source == t.source) && (s.place == t.place)
is_turn _ _ = false

-- what a run with one thread has: its system and stimuli, its lanes, and where its `spill` stands
pub record OneThread : Type 0 where
  pub sys : System
  pub stimuli : List (List Stim)
  pub lane0 : List Item
  pub sources : List (List Item)
  -- a `spill` of a source stands within its stimulus
  pub cuts : Bool

abbrev pub is_free : OneThread → ℕ → Bool
is_free r k = is_turn None (turns_at 1 k r.sources)

-- no look stands in these records
abbrev pub no_look : List Placed → Bool
no_look xs = list_all (λ x. not (is_some (look_of x.item.body))) xs

-- a look has the stimulus that acts in it, and only where a `spill` stands may the last look lack it
unfoldable pub look_right : OneThread → List Placed → List Placed → Option (ℕ × ℕ) → Bool
unfolding acts_next turns_at
look_right r before after None = true
look_right r before after (Some l) =
    is_turn (acts_next r.sys r.stimuli before (l.1 == 0)) (turns_at 1 l.0 r.sources)
    || ((spills_in r.lane0 || list_any spills_in r.sources) && no_look after && is_free r l.0)

unfoldable pub looks_right : OneThread → List Placed → List Placed → Bool
unfolding look_right
looks_right r before [] = true
looks_right r before (x ∷ xs) = look_right r before xs (look_of x.item.body) && looks_right r (before ++ x ∷ []) xs

abbrev pub look_numbers : List Item → List ℕ
look_numbers lane = filter_map (λ i. option_map (λ l. l.0) (look_of i.body)) lane

-- each `stim` stands in a look of lane 0
unfoldable pub stims_placed : OneThread → Bool
stims_placed r =
    list_all (λ lane. list_all (λ i. option_map_or (λ s. has (look_numbers r.lane0) s.1) (stim_of i.body) true) lane) r.sources

unfoldable pub last_is_free : OneThread → List ℕ → Bool
unfolding turns_at
last_is_free r [] = true
last_is_free r (k ∷ []) = is_free r k
last_is_free r (k ∷ n ∷ ks) = last_is_free r (n ∷ ks)

-- A run with one thread: each stimulus stands in a look, each look has the stimulus that acts there, each number drawn or shown is the
-- number of the word's operations before it, and nothing follows an `assert`, `spent` or `spill`. Where a source's `spill` is put at
-- the end, the last look has no stimulus.
pub record IsOneOrder (r : OneThread) : Type 0 where
  pub placed : IsTrue (stims_placed r)
  pub turns : IsTrue (looks_right r [] (order r.cuts r.lane0 r.sources))
  pub numbers : IsTrue (in_order [] (map (λ x. x.item) (order r.cuts r.lane0 r.sources)))
  pub ends : IsTrue (ends_last (map (λ x. x.item) (order r.cuts r.lane0 r.sources)))
  pub free : IsTrue (r.cuts || not (list_any spills_in r.sources) || last_is_free r (look_numbers r.lane0))

-- the records of these, without their lanes
abbrev pub items_placed : List Placed → List Item
items_placed xs = map (λ x. x.item) xs
