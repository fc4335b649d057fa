-- A run with one thread as its order sees it, and what two such runs have in common up to a place.
use Rattle.std.specs.Prelude.{◌≡◌, ◌⊎◌, ℕ, ◌+◌, ◌<◌, ◌==◌, Bool, true, false, List, [], ◌∷◌, ◌++◌, map, length, get_or, Some, None}
use Rattle.std.proofs.Common.{ap, ◌∙◌}
use Rattle.std.specs.List.{filter, list_all, list_any, count_by}
use Rattle.qp_chart.specs.declared.checked.Chart.{Chart}
use Rattle.qp_model.specs.declared.stimulus.Stim.{Stim}
use Rattle.qp_model.specs.declared.systems.System.{System}
use Rattle.qp_model.specs.declared.systems.ObjectDef.{ObjectDef}
use Rattle.qp_model.specs.declared.journals.Journal.{Journal}
use Rattle.qp_model.specs.declared.bodies.Entry.{Entry}
use Rattle.qp_model.specs.declared.bodies.Body.TheVariants as body
use Rattle.qp_model.specs.Record.{Item}
use Rattle.qp_model.specs.Knowing.{Facts, told, records_of, event_of_entry}
use Rattle.qp_model.specs.Ends.{is_end, is_turn_mark, spills_in}
use Rattle.qp_model.specs.End.{takes_of}
use Rattle.qp_model.specs.Kernels.{port, has_one_order}
use Rattle.qp_model.specs.Sites.{object_at}
use Rattle.qp_model.specs.Pieces.{ends_at_point}
use Rattle.qp_model.specs.Course.{actor, first_config}
use Rattle.qp_model.specs.KernelLane.{Setting, Reading, unread, lane_on, is_whole_reading, Ended}
use Rattle.qp_model.specs.Points.{pieces_in}
use Rattle.qp_model.specs.Sources.{SourceEnd, InStimulus}
use Rattle.qp_model.specs.OneOrder.{Placed, with_stimuli, turns_at, acts_next, is_turn, items_placed}
use Rattle.qp_check_course.specs.Machine.{State, start_state, state_after, is_course_end as is_end_of_course, expects_point}
use Rattle.qp_check_ends.specs.SourceState.{SourceState, Between, source_after, source_stops}
use Rattle.qp_model_order.specs.RunOrder.{placed, has_stim}
use Rattle.qp_model_order.specs.Placing.{look_item}
use Rattle.qp_unique.specs.Held.{WordsHeld, IsCounted, MayComeNext}
use Rattle.qp_unique.specs.Fronts.{held_after}
use Rattle.qp_unique.specs.Tidy.{spill_free}
use Rattle.qp_unique.proofs.LookLemmas.{StimFirst}
use Rattle.qp_unique.proofs.KernelLemmas.{no-threads}
use Rattle.qp_unique.proofs.StackLemmas.{Stacked}

-- how a run with one thread goes: under this kernel, within this budget
pub record Mode : Type 0 where
  pub kernel : ℕ
  pub one : has_one_order kernel ≡ true
  pub budget : ℕ

-- a journal of this kernel, which has one thread
pub record HasKernel (kernel : ℕ) (j : Journal) : Type 0 where
  pub is : j.kernel ≡ kernel
  pub one : has_one_order kernel ≡ true

pub no-port : {kernel : ℕ} {j : Journal} → HasKernel kernel j → (j.kernel == port) ≡ false
no-port {kernel} {j} h = ap (λ k. k == port) h.is ∙ (no-threads kernel h.one).1

-- the setting of a run under this kernel
abbrev pub in_kernel : ℕ → System → (ℕ → Bool) → Setting
in_kernel kernel sys has = record { sys = sys; kernel = kernel; has_stimulus = has }

-- the facts that some records tell
abbrev pub facts_to : System → List Placed → Facts
facts_to sys xs = record { sys = sys; items = items_placed xs }

-- what the words hold after some records of the order
abbrev pub held_to : System → ℕ → List Placed → WordsHeld
held_to sys ceiling xs = held_after sys (λ e. event_of_entry (facts_to sys xs) e) ceiling (items_placed xs)

-- a state in which a list may end: that of a whole course, or at a point
abbrev pub MayEnd : Bool → State → Type 0
MayEnd at_point s = (is_end_of_course s ≡ true) ⊎ (expects_point s ≡ true) ⊎ (at_point ≡ true)

-- o made the last record of lane 0, behind which it was cut anywhere
abbrev pub EndsOwn : ℕ → List Item → Type 0
EndsOwn p lane = (xs : List Item) × (i : Item) × (lane ≡ xs ++ i ∷ []) × (i.of ≡ p) × (is_turn_mark i.body ≡ false)

-- the records of a lane
abbrev pub lane_in : List Placed → ℕ → List Item
lane_in xs i = map (λ x. x.item) (filter (λ x. x.lane == i) xs)

-- the lane of a source up to a place of the order
pub record IsFront (xs : List Placed) (i : ℕ) (l : List Item) : Type 0 where
  pub rest : List Item
  pub is : l ≡ lane_in xs i ++ rest
  pub first : StimFirst rest

-- What is known of the lanes of a run, whatever the words hold.
pub record Lined (sys : System) (stimuli : List (List Stim)) : Type 0 where
  pub kernel : ℕ
  pub w : Facts
  pub has : ℕ → Bool
  pub lane0 : List Item
  pub sources : List (List Item)
  pub cuts : Bool
  pub unspilt_sources : (front : List (List Item)) (l : List Item) (back : List (List Item)) → sources ≡ front ++ l ∷ back → spills_in l ≡ false
  pub turn : (xs : List Placed) (n floor : ℕ) (ys : List Placed) → with_stimuli cuts sources lane0 ≡ xs ++ placed 0 (look_item n floor) ∷ ys
      → (is_turn (acts_next sys stimuli xs (floor == 0)) (turns_at 1 n sources) ≡ true) ⊎ (turns_at 1 n sources ≡ [])
  pub has_is : (n : ℕ) → has n ≡ has_stim sources n
  pub source : (front : List (List Item)) (l : List Item) (back : List (List Item)) → sources ≡ front ++ l ∷ back
      → (list_all (λ i. i.of == 0) l ≡ true) × (end : SourceState) × (stop : SourceEnd)
      × (source_after sys kernel (Some (Between 1 (get_or stimuli (length front) []))) (records_of w 0 0 l) ≡ Some end)
  pub placed_so : (before : List (List Item)) (l : List Item) (behind : List (List Item)) → sources ≡ before ++ l ∷ behind → (xs : List Item) (i : Item) (ys : List Item) → l ≡ xs ++ i ∷ ys
      → (p n : ℕ) → i.body ≡ body.Stim p n → (front : List Item) × (floor : ℕ) × (back : List Item) × (lane0 ≡ front ++ look_item n floor ∷ back)

-- one of the first lanes of sources has more records before a place than are free of a `spill`
abbrev pub LongFront : ℕ → List Placed → Type 0
LongFront size xs = (m : ℕ) × (m < size) × (spill_free < length (lane_in xs (1 + m)))

abbrev pub lined_order : (sys : System) (stimuli : List (List Stim)) → Lined sys stimuli → List Placed
lined_order sys stimuli a = with_stimuli a.cuts a.sources a.lane0

-- what is known of a whole run
pub record Side (sys : System) (charts : (p : ℕ) (d : ObjectDef) → object_at sys p ≡ Some d → Chart) (stimuli : List (List Stim)) (mode : Mode) : Type 0 where
  pub w : Facts
  pub has : ℕ → Bool
  pub lane0 : List Item
  pub sources : List (List Item)
  pub cuts : Bool
  -- a lane ended with a `spill`, and lane 0 did
  pub spilt : Bool
  pub halts : Bool
  pub last : Reading
  pub read : lane_on (in_kernel mode.kernel sys has) (unread sys) lane0 ≡ Some last
  pub unspilt : spills_in lane0 ≡ false
  pub unspilt_sources : (front : List (List Item)) (l : List Item) (back : List (List Item)) → sources ≡ front ++ l ∷ back → spills_in l ≡ false
  -- each object follows its chart
  pub course : (p : ℕ) (d : ObjectDef) (is : object_at sys p ≡ Some d)
      → (end : State) × (state_after sys (actor d (charts p d is)) (start_state (actor d (charts p d is)) (first_config d)) (pieces_in w (in_kernel mode.kernel sys has) p (unread sys) lane0) ≡ Some end)
      × (MayEnd (ends_at_point (pieces_in w (in_kernel mode.kernel sys has) p (unread sys) lane0)) end ⊎ EndsOwn p lane0)
  -- no queue is found empty by an object
  pub unmarked : (xs : List Item) (i : Item) (ys : List Item) → lane0 ≡ xs ++ i ∷ ys → (object_at sys i.of ≡ None → ⊥) → (f l m : ℕ) → i.body ≡ body.Nil f l m → ⊥
  -- each record comes next by what the words hold
  pub comes : (xs : List Placed) (x : Placed) (ys : List Placed) (c : ℕ) → with_stimuli cuts sources lane0 ≡ xs ++ x ∷ ys
      → MayComeNext sys (held_to sys c xs) x.item.of (told w x.item.of c x.item.body)
  pub counted : (xs ys : List Placed) (c : ℕ) → with_stimuli cuts sources lane0 ≡ xs ++ ys → IsCounted (held_to sys c xs)
  pub turn : (xs : List Placed) (n floor : ℕ) (ys : List Placed) → with_stimuli cuts sources lane0 ≡ xs ++ placed 0 (look_item n floor) ∷ ys
      → (is_turn (acts_next sys stimuli xs (floor == 0)) (turns_at 1 n sources) ≡ true) ⊎ (turns_at 1 n sources ≡ [])
  -- a look lacks its stimulus only where a `spill` stood in lane 0, or in the lane of a source, all of which stands before the look
  pub late : (xs : List Placed) (n floor : ℕ) (back : List Item) → with_stimuli cuts sources lane0 ≡ xs ++ placed 0 (look_item n floor) ∷ with_stimuli cuts sources back
      → is_turn (acts_next sys stimuli xs (floor == 0)) (turns_at 1 n sources) ≡ false → (spilt ≡ true) × ((halts ≡ true) ⊎ LongFront (length sources) xs)
  pub has_is : (n : ℕ) → has n ≡ has_stim sources n
  pub source : (front : List (List Item)) (l : List Item) (back : List (List Item)) → sources ≡ front ++ l ∷ back
      → (list_all (λ i. i.of == 0) l ≡ true) × (end : SourceState) × (stop : SourceEnd)
      × (source_after sys mode.kernel (Some (Between 1 (get_or stimuli (length front) []))) (records_of w 0 0 l) ≡ Some end)
      × (source_stops mode.kernel end stop ≡ true) × (stop ≡ InStimulus → (spilt ≡ true) × (spill_free < length l))
  -- nothing follows a record that ends the run
  pub ends : (xs : List Placed) (x : Placed) (ys : List Placed) → with_stimuli cuts sources lane0 ≡ xs ++ x ∷ ys → list_any (λ z. is_end z.item.body) xs ≡ false
  -- an object takes at most its budget, and is stopped there
  pub placed_so : (before : List (List Item)) (l : List Item) (behind : List (List Item)) → sources ≡ before ++ l ∷ behind → (xs : List Item) (i : Item) (ys : List Item) → l ≡ xs ++ i ∷ ys
      → (p n : ℕ) → i.body ≡ body.Stim p n → (front : List Item) × (floor : ℕ) × (back : List Item) × (lane0 ≡ front ++ look_item n floor ∷ back)
  pub within : (xs : List Placed) (p f l m : ℕ) (e : Entry) (ys : List Placed) → with_stimuli cuts sources lane0 ≡ xs ++ placed 0 (record { of = p; body = body.Took f l m e }) ∷ ys
      → (p ≡ 0 → ⊥) → (object_at sys p ≡ None → ⊥) → count_by (λ z. takes_of p z.item) xs < mode.budget
  pub spent : (xs : List Placed) (p : ℕ) (ys : List Placed) → with_stimuli cuts sources lane0 ≡ xs ++ placed 0 (record { of = p; body = body.Spent }) ∷ ys
      → (p ≡ 0 → ⊥) → count_by (λ z. takes_of p z.item) xs ≡ mode.budget

module _ (sys : System) (charts : (p : ℕ) (d : ObjectDef) → object_at sys p ≡ Some d → Chart) (stimuli : List (List Stim)) (mode : Mode) where
  abbrev pub lined : Side sys charts stimuli mode → Lined sys stimuli
  lined a = record {
    kernel = mode.kernel;
    w = a.w;
    has = a.has;
    lane0 = a.lane0;
    sources = a.sources;
    cuts = a.cuts;
    unspilt_sources = a.unspilt_sources;
    turn = a.turn;
    has_is = a.has_is;
    source = λ front l back is. let s = a.source front l back is in (s.0, s.1, s.2, s.3);
    placed_so = a.placed_so;
  }

  abbrev pub order_of : Side sys charts stimuli mode → List Placed
  order_of a = with_stimuli a.cuts a.sources a.lane0

  -- lane 0 is whole, or a record stands that ends the run
  abbrev pub HasEnded : Side sys charts stimuli mode → Type 0
  HasEnded a = (is_whole_reading mode.kernel a.last ≡ true) ⊎ (list_any (λ z. is_end z.item.body) (order_of a) ≡ true)

  -- a source's lane has more records than are free of a `spill`
  abbrev pub LongLane : Side sys charts stimuli mode → Type 0
  LongLane a = (before : List (List Item)) × (l : List Item) × (behind : List (List Item)) × (a.sources ≡ before ++ l ∷ behind) × (spill_free < length l)

  -- a look lacks its stimulus, and lane 0 ended with a `spill`
  pub record Lacking (a : Side sys charts stimuli mode) : Type 0 where
    pub halts : a.halts ≡ true
    pub before : List Placed
    pub number : ℕ
    pub floor : ℕ
    pub behind : List Placed
    pub look : order_of a ≡ before ++ placed 0 (look_item number floor) ∷ behind
    pub lacks : is_turn (acts_next sys stimuli before (floor == 0)) (turns_at 1 number a.sources) ≡ false

  -- two runs needn't go on alike: a lane of one of them ended with a `spill`, and the first is as long, or a look lacks its stimulus
  abbrev pub MayPart : (a b : Side sys charts stimuli mode) → Type 0
  MayPart a b = ((a.spilt ≡ true) ⊎ (b.spilt ≡ true)) × (LongLane a ⊎ (Lacking a ⊎ Lacking b))

  -- how far a run has come
  pub record Along (a : Side sys charts stimuli mode) (xs : List Placed) (front back : List Item) (k : Reading) : Type 0 where
    pub lane : a.lane0 ≡ front ++ back
    pub order : order_of a ≡ xs ++ with_stimuli a.cuts a.sources back
    pub read : lane_on (in_kernel mode.kernel sys a.has) (unread sys) front ≡ Some k
    pub tail : (p : ℕ) → k.place ≡ Ended p → ends_at_point (pieces_in a.w (in_kernel mode.kernel sys a.has) p (unread sys) front) ≡ false
    pub fronts : (before : List (List Item)) (l : List Item) (behind : List (List Item)) → a.sources ≡ before ++ l ∷ behind → IsFront xs (1 + length before) l

  -- two runs have come equally far
  pub record Agree (a b : Side sys charts stimuli mode) (xs : List Placed) (front la lb : List Item) (k : Reading) : Type 0 where
    pub one : Along a xs front la k
    pub two : Along b xs front lb k
    pub stacked : Stacked sys k
    pub looks : a.has k.looks ≡ b.has k.looks
    pub pieces : (p : ℕ) → pieces_in a.w (in_kernel mode.kernel sys a.has) p (unread sys) front ≡ pieces_in b.w (in_kernel mode.kernel sys b.has) p (unread sys) front
    pub told_so : (i : ℕ) → (i ≡ 0 → ⊥) → records_of a.w 0 0 (lane_in xs i) ≡ records_of b.w 0 0 (lane_in xs i)
