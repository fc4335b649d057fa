-- Starts come first on each word on which a start drew a number: nothing that a lane draws or shows there behind its own starts stands before it.
use Rattle.std.specs.Prelude.{◌≡◌, ◌⊎◌, ℕ, zero, suc, ◌≤◌, ◌==◌, nat_lt, List, [], ◌∷◌, length, if◌then◌else◌}
use Rattle.std.specs.List.{AllByRecursion, filter_map}
use Rattle.std.specs.declared.option.Option.{Option}
use Rattle.std.specs.declared.option.Option.TheVariants.{None, Some}
use Rattle.qp_model.specs.declared.journals.Journal.{Journal}
use Rattle.qp_model.specs.declared.systems.System.{System}
use Rattle.qp_model.specs.declared.words.Word.{Word}
use Rattle.qp_model.specs.History.{Touch, lane_items, marks, same_word, touch}
use Rattle.qp_model.specs.Home.{lane_at}
use Rattle.qp_model.specs.Kernels.{port}
use Rattle.qp_model.specs.Record.{Item}
use Rattle.qp_model_order.specs.SourceRun.{untold_all}
use Rattle.qp_calls.specs.LaneView.{LaneView}
use Rattle.qp_kernel.specs.Starts.{behind_starts, up_to}

-- How many of so many objects start in lane n: under `port` one in each home, and under `qk` all in the first; none in the lane of a source
abbrev pub starts_at_home : ℕ → ℕ → ℕ
starts_at_home many zero = 0
starts_at_home many (suc n) = if nat_lt n many then 1 else 0

abbrev pub starts_in_first : ℕ → ℕ → ℕ
starts_in_first many zero = many
starts_in_first many (suc n) = 0

abbrev pub starts_in : ℕ → Journal → ℕ → ℕ
starts_in many j n = if j.kernel == port then starts_at_home many n else starts_in_first many n

abbrev pub draw_on : Word → Touch → Option ℕ
draw_on w (Touch.Draws x mark) = if same_word x w then Some mark else None
draw_on w (Touch.Shows x mark) = None
draw_on w Touch.Neither = None

-- the marks of the numbers that are drawn on w
abbrev pub draws : Word → List Item → List ℕ
draws w items = filter_map (λ i. draw_on w (touch i)) items

abbrev pub IsAmong : ℕ → List ℕ → Type 0
IsAmong n [] = ⊥
IsAmong n (m ∷ ms) = (n ≡ m) ⊎ IsAmong n ms

-- On each word: what a start did to it stands before all that any lane did to it, or saw of it, behind its own starts.
abbrev pub SoManyStartFirst : ℕ → Journal → Type 0
SoManyStartFirst many j =
    (n m mark later : ℕ) (w : Word) → IsAmong mark (draws w (up_to (starts_in many j n) (lane_items (lane_at j n)))) → IsAmong later (marks w (behind_starts (starts_in many j m) (lane_items (lane_at j m)))) → mark ≤ later

abbrev pub StartsFirst : System → Journal → Type 0
StartsFirst sys j = SoManyStartFirst (length sys.objects) j

-- Of a lane with so many starts, by a floor of each word: no number drawn in a start is above it, and no mark behind them below.
pub record IsApart (floor : Word → ℕ) (starts : ℕ) (items : List Item) : Type 0 where
  pub below : (w : Word) → AllByRecursion (λ k. k ≤ floor w) (draws w (up_to starts items))
  pub above : (w : Word) → AllByRecursion (λ k. floor w ≤ k) (marks w (behind_starts starts items))

abbrev pub AreApart : (Word → ℕ) → ℕ → List LaneView → Type 0
AreApart floor starts vs = AllByRecursion (λ v. IsApart floor starts (untold_all v.told)) vs

-- each object has started in a lane of its own before any source acts
pub record HomesStartFirst (homes sources : List LaneView) : Type 0 where
  pub floor : Word → ℕ
  pub homes_apart : AreApart floor 1 homes
  pub sources_apart : AreApart floor 0 sources

-- so many objects have started in the first lane
pub record ZeroStartsFirst (starts : ℕ) (first : LaneView) (sources : List LaneView) : Type 0 where
  pub floor : Word → ℕ
  pub zero_apart : IsApart floor starts (untold_all first.told)
  pub sources_apart : AreApart floor 0 sources
