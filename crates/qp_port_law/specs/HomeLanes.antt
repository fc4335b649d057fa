-- The lane of an object that takes in a thread of its own: what is known of it between two steps, and within one.
use Rattle.std.specs.Prelude.{◌≡◌, ℕ, suc, ◌+◌, ◌≤◌, ◌==◌, nat_le, Bool, true, false, ◌&&◌, List, [], ◌∷◌, ◌++◌, length, map}
use Rattle.std.specs.declared.option.Option.{Option}
use Rattle.std.specs.List.{list_all, list_any, filter_map}
use Rattle.qp_chart.specs.declared.checked.Chart.{Chart}
use Rattle.qp_model.specs.declared.systems.System.{System}
use Rattle.qp_model.specs.declared.systems.ObjectDef.{ObjectDef}
use Rattle.qp_model.specs.declared.bodies.Entry.{Entry}
use Rattle.qp_model.specs.Told.{Told, ToldItem, Event, for_object}
use Rattle.qp_model.specs.Ends.{is_end}
use Rattle.qp_model.specs.End.{took_count}
use Rattle.qp_model.specs.HomeLane.{are_at_home, nil_counts, seen_counts, all_differ}
use Rattle.qp_model.specs.ObjectShape.{StartGroup, IsTurn}
use Rattle.qp_model.specs.Sequence.{Sequence}
use Rattle.qp_model.specs.Pieces.{Piece, Tell, Point, records_in}
use Rattle.qp_model.specs.Acts.{Config}
use Rattle.qp_model.specs.Step.{Remainder, StepGoesOn, Step}
use Rattle.qp_model.specs.Course.{actor, first_config}
use Rattle.qp_model.specs.Lawful.{dispatched}
use Rattle.qp_model_order.specs.SourceRun.{untold_all}
use Rattle.qp_calls.specs.Clauses.{last_nil}
use Rattle.qp_calls.specs.LaneView.{Own, NotShown, Counts}
use Rattle.qp_kernel.specs.Stages as stage
use Rattle.qp_kernel.specs.Stages.{ComesTo, IsReady}
use Rattle.qp_kernel.specs.ZeroEnds.{own_told}
use Rattle.qp_port_law.specs.Homes.{home_told}

-- what its `nil` records show, and its looks at its own queue
abbrev pub nils_in : List ToldItem → List (ℕ × ℕ × ℕ)
nils_in told = filter_map (λ i. nil_counts i.body) (untold_all told)

abbrev pub looks_in : List ToldItem → List (ℕ × ℕ × ℕ)
looks_in told = filter_map (λ i. seen_counts i.body) (untold_all told)

-- an empty queue, with at most so many last-in posts and takes
abbrev pub is_empty_by : Own → ℕ × ℕ × ℕ → Bool
is_empty_by own x = (x.0 + x.1 == x.2) && nat_le x.1 own.l && nat_le x.2 own.m

abbrev pub shows : ℕ → Own → ℕ × ℕ × ℕ → Bool
shows f own x = (x.0 == f) && (x.1 == own.l) && (x.2 == own.m)

-- its `nil` records differ; none shows more than the lane's own last-in posts and takes, and one that shows these is the last
pub record NilsDiffer (o : ℕ) (own : Own) (told : List ToldItem) : Type 0 where
  pub differ : all_differ (nils_in told) ≡ true
  pub below : list_all (is_empty_by own) (nils_in told) ≡ true
  pub last : (f : ℕ) → list_any (shows f own) (nils_in told) ≡ true → last_nil o NotShown told ≡ Counts f own.l own.m

-- its queue was looked at in the place of a take and was empty, or it wasn't looked at
abbrev pub LooksOnce : Bool → Own → List (ℕ × ℕ × ℕ) → Type 0
LooksOnce false own xs = xs ≡ []
LooksOnce true own xs = (f : ℕ) × (xs ≡ (f, own.l, own.m) ∷ []) × (f + own.l ≡ own.m)

-- The records of the lane, but for the shapes of groups: they are at home, it has taken these entries, and nothing ends it. `own` are the last-in
-- posts and the takes that the lane made; `looked` tells that it has looked at its queue in the place of a take.
pub record IsHomeLane (o budget : ℕ) (own : Own) (looked : Bool) (told : List ToldItem) (es : List Entry) : Type 0 where
  pub home : are_at_home o budget false 0 (untold_all told) ≡ true
  pub took : took_count (untold_all told) o ≡ length es
  pub budgets : length es ≤ budget
  pub calm : list_any (λ i. is_end i.body) (untold_all told) ≡ false
  pub nils : NilsDiffer o own told
  pub looks : LooksOnce looked own (looks_in told)
  pub spent : looked ≡ true → length es ≡ budget

-- how many scheduling points stand among pieces
abbrev pub points_in : List Piece → ℕ
points_in [] = 0
points_in (Point ∷ ps) = suc (points_in ps)
points_in (Tell t ∷ ps) = points_in ps

-- whole groups alone stand in the lane, by which the object has come to rest; its course has had so many scheduling points
pub record IsWholeHome (sys : System) (d : ObjectDef) (chart : Chart) (told : List ToldItem) (es : List Entry) (points : ℕ) (c : Config) : Type 0 where
  pub start : List Told
  pub turns : List Told
  pub begins : StartGroup sys d.priority start
  pub goes : Sequence (IsTurn sys d.priority true) turns
  pub groups : home_told d.priority told ≡ start ++ turns
  pub ps : List Piece
  pub bare_is : records_in ps ≡ dispatched (own_told d.priority told)
  pub points_are : points_in ps ≡ points
  pub comes : ComesTo sys (actor d chart) (first_config d) es ps (stage.Resting c)

-- whole groups, and a step under way behind them; `waits` tells that it waits at a scheduling point
pub record IsPartHome (sys : System) (d : ObjectDef) (chart : Chart) (waits : Bool) (told : List ToldItem) (es : List Entry) (points : ℕ) (ev : Event) (e : Entry) (left : Remainder) (c : Config) : Type 0 where
  pub front : List ToldItem
  pub back : List ToldItem
  pub told_is : told ≡ front ++ back
  -- the object's own records, one at least
  pub took : Told
  pub records : List Told
  pub back_is : back ≡ map (for_object d.priority) (took ∷ records)
  pub others : List Entry
  pub es_are : es ≡ others ++ e ∷ []
  pub first : Config
  pub before : ℕ
  pub whole : IsWholeHome sys d chart front others before first
  pub step : List Piece
  pub groups : home_told d.priority back ≡ records_in step
  pub bare_is : dispatched (own_told d.priority back) ≡ records_in step
  pub points_are : before + points_in step ≡ points
  -- whatever ends what is left ends the step
  pub goes : (qs : List Piece) (end : Option Config) → StepGoesOn sys (actor d chart) ev e left c qs end → Step sys (actor d chart) e first (step ++ qs) end
  pub ready : IsReady sys (actor d chart) left c
  pub point : waits ≡ true → (before : List Piece) × (step ≡ before ++ Point ∷ [])
