-- What is true of a world whose sources act in its looks.
use Rattle.std.specs.Prelude.{◌≡◌, ℕ, ◌+◌, ◌<◌, ◌≤◌, ◌==◌, nat_lt, Bool, true, false, not, List, [], ◌∷◌, length, get_or, IsFalse}
use Rattle.std.specs.List.{list_all, list_any, count_by}
use Rattle.std.specs.Option.{is_some}
use Rattle.qp_model.specs.declared.stimulus.Stim.{Stim}
use Rattle.qp_model.specs.Ends.{is_spill}
use Rattle.qp_model.specs.OneOrder.{stim_of}
use Rattle.qp_calls.specs.LaneView.{LaneView, Happening, is_codeless}
use Rattle.qp_model_order.specs.SourceRun.{untold_all}
use Rattle.qp_kernel.specs.Happenings.{run_order, rises, lane_told, begun_by}

-- a stimulus with a `stim` and no other
abbrev pub is_whole : Happening → Bool
is_whole h = count_by (λ t. is_some (stim_of t.body)) h.told == 1

-- no `spill` is among its records
abbrev pub is_unspilled : Happening → Bool
is_unspilled h = not (list_any (λ t. is_spill t.body) h.told)

-- the source that acted last, or 0
unfoldable pub last_source : ℕ → List Happening → ℕ
last_source n [] = n
last_source n (h ∷ hs) = last_source h.source hs

-- each source has begun so many stimuli, and none has failed
pub record BegunCounts (plan : List (List Stim)) (begun : List ℕ) (last : ℕ) (hs : List Happening) : Type 0 where
  pub whole : list_all is_whole hs ≡ true
  pub calm : list_all is_unspilled hs ≡ true
  pub sources : list_all (λ h. nat_lt 0 h.source) hs ≡ true
  pub begun_are : (n : ℕ) → n < length plan → get_or begun n 0 ≡ begun_by (n + 1) hs
  pub few : (n : ℕ) → n < length plan → get_or begun n 0 ≤ length (get_or plan n [])
  pub last_is : last ≡ last_source 0 hs

-- Lane 0 is chosen; the log of the world is the order of lane 0 and what has happened, and each source tells what has happened in its lane.
-- Where a stimulus didn't come to its end, a lane has handed in a code.
pub record SimHolds (plan : List (List Stim)) (begun : List ℕ) (last : ℕ) (halted : Bool) (hs : List Happening) (v : LaneView) : Type 0 where
  pub home : v.lane ≡ 0
  pub lanes : length v.aside.told ≡ 1 + length plan
  pub purses : length v.aside.purses ≡ 1 + length plan
  pub counted : length begun ≡ length plan
  pub recent : last ≤ length plan
  pub order : v.log ≡ run_order 0 (untold_all v.told) hs
  pub sources : (n : ℕ) → 0 < n → n ≤ length plan → get_or v.aside.told n [] ≡ lane_told n hs
  pub rises : rises 0 hs (length v.told) ≡ true
  pub counts : halted ≡ false → BegunCounts plan begun last hs
  pub halts : halted ≡ true → IsFalse (list_all is_codeless v.aside.purses)
