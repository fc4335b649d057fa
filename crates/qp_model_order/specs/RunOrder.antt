-- The records of a run with one thread in the order in which they were made, while it runs and where it has ended.
use Rattle.std.specs.Prelude.{◌≡◌, ℕ, ◌==◌, nat_le, Bool, true, false, not, ◌&&◌, ◌||◌, List, [], ◌∷◌, ◌++◌, Some, None}
use Rattle.std.specs.declared.option.Option.{Option}
use Rattle.std.specs.List.{list_all, list_any}
use Rattle.std.specs.Option.{option_map_or}
use Rattle.qp_model.specs.declared.stimulus.Stim.{Stim}
use Rattle.qp_model.specs.declared.systems.System.{System}
use Rattle.qp_model.specs.Record.{Item}
use Rattle.qp_model.specs.Ends.{is_end, ends_last, spills_in}
use Rattle.qp_model.specs.OneOrder.{Placed, OneThread, look_of, stim_of, is_stim_at, with_stimuli, order, turns_at, acts_next, is_turn, looks_right, stims_placed, look_numbers, last_is_free, items_placed}

abbrev pub placed : ℕ → Item → Placed
placed lane i = record { lane = lane; item = i }

-- a look has a stimulus where the lane of a source has a `stim` with its number
abbrev pub has_stim : List (List Item) → ℕ → Bool
has_stim sources k = list_any (λ lane. list_any (λ i. is_stim_at k i.body) lane) sources

-- a look, behind these records, has just the stimulus that acts in it
abbrev pub is_right : System → List (List Stim) → List (List Item) → List Placed → Option (ℕ × ℕ) → Bool
is_right sys stimuli sources before None = true
is_right sys stimuli sources before (Some l) = is_turn (acts_next sys stimuli before (l.1 == 0)) (turns_at 1 l.0 sources)

-- so has each look of these
unfoldable pub all_right : System → List (List Stim) → List (List Item) → List Placed → List Placed → Bool
unfolding acts_next turns_at
all_right sys stimuli sources before [] = true
all_right sys stimuli sources before (x ∷ xs) =
    is_right sys stimuli sources before (look_of x.item.body) && all_right sys stimuli sources (before ++ x ∷ []) xs

-- each number is at most this one
abbrev pub all_up_to : ℕ → List ℕ → Bool
all_up_to n ks = list_all (λ k. nat_le k n) ks

-- no `stim` stands in a look after this one
abbrev pub stims_up_to : ℕ → List (List Item) → Bool
stims_up_to n sources = list_all (λ lane. list_all (λ i. option_map_or (λ s. nat_le s.1 n) (stim_of i.body) true) lane) sources

abbrev pub thread_of : System → List (List Stim) → List Item → List (List Item) → Bool → OneThread
thread_of sys stimuli lane0 sources cuts = record { sys = sys; stimuli = stimuli; lane0 = lane0; sources = sources; cuts = cuts }

-- A run has made these records so far, in this order; lane 0 and the lanes of the sources have them. Each stimulus stands in its look, each
-- look has the stimulus that acts there, and no record ends a lane.
pub record RunsInOrder (sys : System) (stimuli : List (List Stim)) (looks : ℕ) (lane0 : List Item) (sources : List (List Item)) (xs : List Placed) : Type 0 where
  pub merged : (cuts : Bool) → with_stimuli cuts sources lane0 ≡ xs
  pub turns : all_right sys stimuli sources [] xs ≡ true
  pub counted : all_up_to looks (look_numbers lane0) ≡ true
  pub seen : all_up_to looks (look_numbers (items_placed xs)) ≡ true
  pub stims : stims_up_to looks sources ≡ true
  pub stand : stims_placed (thread_of sys stimuli lane0 sources false) ≡ true
  pub calm : list_any (λ i. is_end i.body) (items_placed xs) ≡ false
  pub quiet : list_any spills_in sources ≡ false

-- A run has ended: these are its records in its order, which is that of its lanes; what follows a record that ends a lane is nothing.
pub record EndsInOrder (sys : System) (stimuli : List (List Stim)) (lane0 : List Item) (sources : List (List Item)) (cuts : Bool) (xs : List Placed) : Type 0 where
  pub merged : order cuts lane0 sources ≡ xs
  pub stand : stims_placed (thread_of sys stimuli lane0 sources cuts) ≡ true
  pub turns : looks_right (thread_of sys stimuli lane0 sources cuts) [] xs ≡ true
  pub ends : ends_last (items_placed xs) ≡ true
  pub free : (cuts || not (list_any spills_in sources) || last_is_free (thread_of sys stimuli lane0 sources cuts) (look_numbers lane0)) ≡ true
