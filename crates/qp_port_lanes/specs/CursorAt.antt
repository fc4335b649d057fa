-- Where a source's lane is between two turns.
use Rattle.std.specs.Prelude.{◌≡◌, ℕ, suc, ◌+◌, ◌-◌, ◌<◌, ◌≤◌, ◌==◌, Bool, true, false, ◌||◌, List, [], ◌∷◌, ◌++◌, length, map, take, drop, get_or, cond}
use Rattle.std.specs.Bool.{MatchBool}
use Rattle.std.specs.List.{list_all, list_any, filter_map, AllByRecursion}
use Rattle.qp_model.specs.declared.stimulus.Stim.{Stim}
use Rattle.qp_model.specs.declared.stimulus.Stim.TheVariants as stim
use Rattle.qp_model.specs.declared.systems.System.{System}
use Rattle.qp_model.specs.declared.words.Word.TheVariants as word
use Rattle.qp_model.specs.declared.bodies.Body.TheVariants as body
use Rattle.qp_model.specs.Told.{Told, ToldItem, plain, for_object}
use Rattle.qp_model.specs.Knowing.{told_alone}
use Rattle.qp_model.specs.Kernels.{may_try}
use Rattle.qp_model.specs.Ends.{is_end}
use Rattle.qp_model.specs.Sources.{SourceRuns, AllDone, Tries, priorities, entry_seen, none_twice}
use Rattle.qp_stim.specs.Rules.{StimuliFit}
use Rattle.qp_calls.specs.LaneView.{LaneView, Counts}
use Rattle.qp_model_order.specs.SourceRun.{untold_all}
use Rattle.qp_port_lanes.specs.declared.cursor.Cursor.{Cursor}

-- what a try ended with is not above what the lane has seen, and is what it saw where it has seen no more
abbrev pub IsKnownTry : LaneView → List ℕ → Type 0
IsKnownTry v (p ∷ f ∷ l ∷ m ∷ []) =
    (f + l + m ≤ v.mark (word.Queue p)) × (m < f + l) × (f + l + m ≡ v.mark (word.Queue p) → v.shown (word.Queue p) ≡ Counts f l m)
IsKnownTry v _ = ⊥

-- the tries of a lane's records
abbrev pub tries_in : List ToldItem → List (List ℕ)
tries_in told = filter_map (λ i. entry_seen i.body) (untold_all told)

-- a `settle` is under way: its `stim`, and tries of it, at least one
pub record IsTrying (sys : System) (left : List Stim) (place : ℕ) (behind : List Told) : Type 0 where
  pub rest : List Stim
  pub next : left ≡ stim.Settle ∷ rest
  pub n : ℕ
  pub tries : List Told
  pub records : behind ≡ plain (body.Stim place 0) ∷ tries
  pub fits : Tries (priorities sys) (suc n) tries

-- A source's lane between two turns: whole stimuli, and perhaps a `settle` under way with tries. It holds for both kernels with threads.
pub record IsSourceAt (sys : System) (ss : List Stim) (stimuli_done : ℕ) (settling : Bool) (v : LaneView) : Type 0 where
  pub of : v.sys ≡ sys
  pub none : v.by ≡ 0
  pub front : List ToldItem
  pub behind : List Told
  pub told : v.told ≡ front ++ map (for_object 0) behind
  pub runs : (kernel : ℕ) → may_try kernel ≡ true → SourceRuns sys kernel 1 (take stimuli_done ss) AllDone (told_alone front)
  pub few : stimuli_done ≤ length ss
  pub under_way : MatchBool settling (IsTrying sys (drop stimuli_done ss) (stimuli_done + 1) behind) (behind ≡ [])
  pub alone : list_all (λ i. i.of == 0) (untold_all v.told) ≡ true
  pub calm : list_any (λ i. is_end i.body) (untold_all v.told) ≡ false
  pub tries : none_twice (tries_in v.told) ≡ true
  pub known : AllByRecursion (IsKnownTry v) (tries_in v.told)
  pub hands : v.hands ≡ []

-- the stimuli of the source
abbrev pub mine : Cursor → List Stim
mine x = get_or x.stim.now (x.source - 1) []

-- how many of them are done
abbrev pub stimuli_done : Cursor → ℕ
stimuli_done x = cond x.settling (x.begun - 1) x.begun

abbrev pub begins_settle : List Stim → Bool
begins_settle (stim.Settle ∷ ss) = true
begins_settle _ = false

abbrev pub is_some_left : List Stim → Bool
is_some_left [] = false
is_some_left (s ∷ ss) = true

-- the next stimulus is a `settle`, or one is under way
abbrev pub at_settle_in : Cursor → Bool
at_settle_in x = x.settling || begins_settle (drop x.begun (mine x))

abbrev pub left_in : Cursor → Bool
left_in x = x.settling || is_some_left (drop x.begun (mine x))

-- A source of the stimuli, in a lane that is where the cursor is. The lane has looked at the stop word once for each stimulus that was begun, or more often.
pub record IsCursorAt (sys : System) (x : Cursor) (v : LaneView) : Type 0 where
  pub fits : StimuliFit sys x.stim.now
  pub some : 0 < x.source
  pub there : x.source ≤ length x.stim.now
  pub begun : x.settling ≡ true → 0 < x.begun
  pub at : IsSourceAt sys (mine x) (stimuli_done x) x.settling v
  pub asked : x.begun ≤ v.asked
