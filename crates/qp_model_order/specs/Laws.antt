-- The laws of the order of a run with one thread, and of the lanes of its sources.
use Rattle.std.specs.Prelude.{◌≡◌, ◌≢◌, ℕ, ◌+◌, ◌==◌, Bool, true, false, List, [], ◌∷◌, ◌++◌, length, Some, None, map, ◌<◌}
use Rattle.std.specs.List.{list_any, AllByRecursion}
use Rattle.qp_model.specs.declared.record.Rec.{Rec}
use Rattle.qp_model.specs.declared.words.Word.{Word}
use Rattle.qp_model.specs.declared.stimulus.Stim.{Stim}
use Rattle.qp_model.specs.declared.systems.System.{System}
use Rattle.qp_model.specs.declared.bodies.Body.TheVariants as body
use Rattle.qp_model.specs.Record.{Item, item_of}
use Rattle.qp_model.specs.Told.{Told, ToldItem, plain, for_object}
use Rattle.qp_model.specs.History.{touch, total, all_items}
use Rattle.qp_model.specs.Places.{is_next, in_order}
use Rattle.qp_model.specs.Ends.{is_end, may_cut, ends_last}
use Rattle.qp_model.specs.Sources.{StimFits, SourceRuns, AllDone, BeforeStimulus, AtAssert, InStimulus, look_may}
use Rattle.qp_model.specs.OneOrder.{Placed, acts_next, IsOneOrder, items_placed}
use Rattle.qp_model.specs.Kernels.{sim}
use Rattle.qp_model_order.specs.RunOrder.{placed, has_stim, thread_of, RunsInOrder, EndsInOrder}
use Rattle.qp_model_order.specs.Placing.{look_item, stim_item, spill_item, all_placed, LooksNone, AreBehind}
use Rattle.qp_model_order.specs.SourceRun.{SourceGoes, SourceEnds}
use Rattle.qp_model_order.specs.Stimulus.{source_items, StimulusItems, CutItems}

-- the order has nothing yet
abbrev pub OrderBegins : Type 0
OrderBegins = (sys : System) (stimuli : List (List Stim)) (sources : List (List Item)) → AllByRecursion (λ l. l ≡ []) sources → RunsInOrder sys stimuli 0 [] sources []

-- records of lane 0 that are no looks come to its end
abbrev pub ZeroComesLast : Type 0
ZeroComesLast =
    (sys : System) (stimuli : List (List Stim)) (looks : ℕ) (lane0 : List Item) (sources : List (List Item)) (xs : List Placed) → RunsInOrder sys stimuli looks lane0 sources xs
    → (is : List Item) → LooksNone is → list_any (λ i. is_end i.body) is ≡ false
    → RunsInOrder sys stimuli looks (lane0 ++ is) sources (xs ++ all_placed 0 is)

-- so does a look in which no source may act
abbrev pub FreeLookComesLast : Type 0
FreeLookComesLast =
    (sys : System) (stimuli : List (List Stim)) (looks : ℕ) (lane0 : List Item) (sources : List (List Item)) (xs : List Placed) → RunsInOrder sys stimuli looks lane0 sources xs
    → (n floor : ℕ) → n ≡ looks + 1 → acts_next sys stimuli xs (floor == 0) ≡ None
    → RunsInOrder sys stimuli n (lane0 ++ look_item n floor ∷ []) sources (xs ++ placed 0 (look_item n floor) ∷ [])

-- A look comes, and then the stimulus of the source that acts in it, with its records.
pub record Acting (sys : System) (stimuli : List (List Stim)) (looks : ℕ) (xs : List Placed) (front : List (List Item)) (n floor p : ℕ) (g : List Item) : Type 0 where
  pub next : n ≡ looks + 1
  pub acts : acts_next sys stimuli xs (floor == 0) ≡ Some (record { source = 1 + length front; place = p })
  pub lookless : LooksNone g

abbrev pub with_stimulus : List (List Item) → List Item → List (List Item) → ℕ → ℕ → List Item → List (List Item)
with_stimulus front l back p n g = front ++ (l ++ stim_item p n ∷ g) ∷ back

abbrev pub with_look : List Placed → ℕ → ℕ → ℕ → ℕ → List Item → List Placed
with_look xs lane n floor p g = xs ++ placed 0 (look_item n floor) ∷ all_placed lane (stim_item p n ∷ g)

abbrev pub StimulusComesLast : Type 0
StimulusComesLast =
    (sys : System) (stimuli : List (List Stim)) (looks : ℕ) (lane0 : List Item) (front : List (List Item)) (l : List Item) (back : List (List Item)) (xs : List Placed)
    → RunsInOrder sys stimuli looks lane0 (front ++ l ∷ back) xs → (n floor p : ℕ) (g : List Item)
    → Acting sys stimuli looks xs front n floor p g
    → AreBehind false g → list_any (λ i. is_end i.body) g ≡ false
    → RunsInOrder sys stimuli n (lane0 ++ look_item n floor ∷ []) (with_stimulus front l back p n g) (with_look xs (1 + length front) n floor p g)

-- the run ends by records of lane 0, or with none more
abbrev pub OrderEndsInZero : Type 0
OrderEndsInZero =
    (sys : System) (stimuli : List (List Stim)) (looks : ℕ) (lane0 : List Item) (sources : List (List Item)) (xs : List Placed) → RunsInOrder sys stimuli looks lane0 sources xs
    → (is : List Item) → LooksNone is → ends_last is ≡ true
    → EndsInOrder sys stimuli (lane0 ++ is) sources false (xs ++ all_placed 0 is)

-- the run ends within a stimulus: by an assertion, or by a `spill` that cuts it
abbrev pub OrderEndsInStimulus : Type 0
OrderEndsInStimulus =
    (sys : System) (stimuli : List (List Stim)) (looks : ℕ) (lane0 : List Item) (front : List (List Item)) (l : List Item) (back : List (List Item)) (xs : List Placed)
    → RunsInOrder sys stimuli looks lane0 (front ++ l ∷ back) xs → (n floor p : ℕ) (g : List Item) (cuts : Bool)
    → Acting sys stimuli looks xs front n floor p g
    → AreBehind cuts g → ends_last g ≡ true
    → EndsInOrder sys stimuli (lane0 ++ look_item n floor ∷ []) (with_stimulus front l back p n g) cuts (with_look xs (1 + length front) n floor p g)

-- the run ends where a source has no room for its stimulus: its `spill` is put at the end, and the look has none
abbrev pub OrderEndsInFullLane : Type 0
OrderEndsInFullLane =
    (sys : System) (stimuli : List (List Stim)) (looks : ℕ) (lane0 : List Item) (front : List (List Item)) (l : List Item) (back : List (List Item)) (xs : List Placed)
    → RunsInOrder sys stimuli looks lane0 (front ++ l ∷ back) xs → (n floor size : ℕ) → n ≡ looks + 1
    → EndsInOrder sys stimuli (lane0 ++ look_item n floor ∷ []) (front ++ (l ++ spill_item size ∷ []) ∷ back) false
    (xs ++ placed 0 (look_item n floor) ∷ placed (1 + length front) (spill_item size) ∷ [])

-- such an order, whose numbers are those of the words' operations before them, is the one order of the run
abbrev pub EndsAreOneOrder : Type 0
EndsAreOneOrder =
    (sys : System) (stimuli : List (List Stim)) (lane0 : List Item) (sources : List (List Item)) (cuts : Bool) (xs : List Placed)
    → EndsInOrder sys stimuli lane0 sources cuts xs → in_order [] (items_placed xs) ≡ true
    → IsOneOrder (thread_of sys stimuli lane0 sources cuts)

-- The lane of a source: one whole stimulus more.
abbrev pub SourceGoesOn : Type 0
SourceGoesOn =
    (sys : System) (kernel : ℕ) (done : List Stim) (g : List Told) → SourceRuns sys kernel 1 done AllDone g
    → (s : Stim) (look : ℕ) (one : List Told) → look_may kernel look ≡ true → StimFits sys kernel s false one
    → SourceRuns sys kernel 1 (done ++ s ∷ []) AllDone (g ++ plain (body.Stim (1 + length done) look) ∷ one)

-- where it stops: before a stimulus, at its assertion, or within it
abbrev pub SourceMayStop : Type 0
SourceMayStop =
    (sys : System) (kernel : ℕ) (done : List Stim) (g : List Told) → SourceRuns sys kernel 1 done AllDone g
    → (s : Stim) (left : List Stim)
    → SourceRuns sys kernel 1 (done ++ s ∷ left) BeforeStimulus g
    × ((look : ℕ) (one : List Told) → look_may kernel look ≡ true → StimFits sys kernel s true one
    → SourceRuns sys kernel 1 (done ++ s ∷ left) AtAssert (g ++ plain (body.Stim (1 + length done) look) ∷ one))
    × ((look : ℕ) (one back : List Told) (asserted : Bool) → look_may kernel look ≡ true → back ≢ [] → StimFits sys kernel s asserted (one ++ back)
    → SourceRuns sys kernel 1 (done ++ s ∷ left) InStimulus (g ++ plain (body.Stim (1 + length done) look) ∷ one))

-- The records, in this order, have just the numbers of those of all lanes, each the next of its word when it was made.
pub record AreNumberedInOrder (all order : List Item) : Type 0 where
  pub numbers : in_order [] order ≡ true
  pub totals : (w : Word) → total w order ≡ total w all

-- so they stay by a record more in a lane, which draws or shows the next number of its word
abbrev pub NumbersGoOn : Type 0
NumbersGoOn =
    (front : List (List Rec)) (lane : List Rec) (back : List (List Rec)) (r : Rec) (order : List Item)
    → AreNumberedInOrder (all_items (front ++ lane ∷ back)) order
    → is_next (all_items (front ++ lane ∷ back)) (touch (item_of r)) ≡ true
    → AreNumberedInOrder (all_items (front ++ (lane ++ r ∷ []) ∷ back)) (order ++ item_of r ∷ [])

-- The records of a stimulus hold no look, no other `stim` and no end of a lane but an assertion at their end, and see no entry; and so
-- does a front of them that a `spill` cut.
abbrev pub StimuliAreTheirOwn : Type 0
StimuliAreTheirOwn =
    (sys : System) (s : Stim) (asserted : Bool)
    → ((g : List Told) → StimFits sys sim s asserted g → StimulusItems asserted (source_items g))
    × ((one back : List Told) (n : ℕ) → back ≢ [] → StimFits sys sim s asserted (one ++ back) → CutItems (source_items one ++ spill_item n ∷ []))

-- a new stimulus changes what stands in its own look alone
abbrev pub OneLookChanges : Type 0
OneLookChanges =
    (front : List (List Item)) (l : List Item) (back : List (List Item)) (n p : ℕ) (g : List Item) (cuts : Bool)
    → AreBehind cuts g
    → (has_stim (with_stimulus front l back p n g) n ≡ true)
    × ((k : ℕ) → (n == k) ≡ false → has_stim (with_stimulus front l back p n g) k ≡ has_stim (front ++ l ∷ back) k)

-- a stimulus with its records, as told in the lane of its source
abbrev pub stimulus_told : ℕ → ℕ → List Told → List ToldItem
stimulus_told p look one = map (for_object 0) (plain (body.Stim p look) ∷ one)

-- the lane of a source goes on by a whole stimulus
abbrev pub SourceLaneGoesOn : Type 0
SourceLaneGoesOn =
    (sys : System) (done : List Stim) (told : List ToldItem) → SourceGoes sys sim done told
    → (s : Stim) (look : ℕ) (one : List Told) → StimFits sys sim s false one
    → SourceGoes sys sim (done ++ s ∷ []) (told ++ stimulus_told (1 + length done) look one)

-- it is whole where all stimuli are done
abbrev pub SourceLaneIsWhole : Type 0
SourceLaneIsWhole =
    (sys : System) (end : ℕ) (cuts : Bool) (ss : List Stim) (told : List ToldItem) → SourceGoes sys sim ss told
    → SourceEnds sys sim end cuts ss told

-- where the run stops early it ends before a stimulus, perhaps since the lane has no room for it, at its assertion, or where a `spill` cuts it
abbrev pub SourceLaneStops : Type 0
SourceLaneStops =
    (sys : System) (end : ℕ) (done : List Stim) (told : List ToldItem) → may_cut end ≡ true
    → SourceGoes sys sim done told → (s : Stim) (left : List Stim)
    → ((cuts : Bool) → SourceEnds sys sim end cuts (done ++ s ∷ left) told)
    × ((n : ℕ) → n ≡ length told → 999992 < n → SourceEnds sys sim end false (done ++ s ∷ left) (told ++ for_object 0 (plain (body.Spill n)) ∷ []))
    × ((cuts : Bool) (look : ℕ) (one : List Told) → StimFits sys sim s true one
    → SourceEnds sys sim end cuts (done ++ s ∷ left) (told ++ stimulus_told (1 + length done) look one))
    × ((look n : ℕ) (one back : List Told) (asserted : Bool) → back ≢ [] → StimFits sys sim s asserted (one ++ back) → n ≡ length told + (1 + length one) → 999992 < n
    → SourceEnds sys sim end true (done ++ s ∷ left) (told ++ (stimulus_told (1 + length done) look one ++ for_object 0 (plain (body.Spill n)) ∷ [])))
