-- Rows of workers.
use Rattle.std.proofs.Common.{◌≡◌, ℕ, Bool, true, false, List, [], ◌∷◌, map, sym, ◌∙◌, subst, arith, inl, IsTrue}
use Rattle.std.specs.List.{AllByRecursion, list_all, list_any}
use Rattle.std.specs.Prelude.{◌⊎◌}
use Rattle.std.proofs.lemmas.Bool.{and_parts, or_parts}
use Rattle.qp_model.specs.WordLaw.{is_object}
use Rattle.qp_calls_log.specs.Meeting.{IsTogether}
use Rattle.qp_model.specs.declared.stimulus.Stim.{Stim}
use Rattle.qp_model.specs.declared.systems.System.{System}
use Rattle.qp_model.specs.declared.systems.ObjectDef.{ObjectDef}
use Rattle.qp_calls.specs.LaneView.{LaneView}
use Rattle.qp_kernel_turns.specs.Lanes.{SameLane}
use Rattle.qp_dispatch.specs.declared.objects.Turn.{Turn}
use Rattle.qp_dispatch.specs.declared.objects.Turn.TheVariants as turn
use Rattle.qp_port_phases.specs.Lanes.{AreOneTable, AreTogether, SameEach}
use Rattle.qp_port_phases.specs.Rows.{HasFewRows, Numbers}
use Rattle.qp_port_phases.specs.Turns.{AreReady}
use Rattle.qp_port.specs.declared.job.Job.{Job}
use Rattle.qp_port.specs.declared.job.Job.TheVariants as job
use Rattle.qp_port_lanes.specs.Answers.{is_idle, is_short}
use Rattle.qp_port.specs.Jobs.{IsSameJob, JobEnds, JobRests, JobStands, JobStops}
use Rattle.qp_port.specs.Rows.{AreWorkers, IsHomeJobOf, IsNothing, IsRow, IsSourceOf}
use Rattle.qp_port_lanes.specs.Workers.{AreSameLanes}
use Rattle.qp_port.specs.Workers.{MayEnd, MayTurn}

pub ready-map : {T : Type 0} (P Q : T → Type 0) → ((w : T) → P w → Q w) → (ws : List T) → AreReady P ws → AreReady Q ws
ready-map P Q f [] h = tt
ready-map P Q f (w ∷ ws) h = (f w h.0, ready-map P Q f ws h.1)

pub ready-both : {T : Type 0} (P Q : T → Type 0) → (ws : List T) → AreReady P ws → AreReady Q ws → AreReady (λ w. P w × Q w) ws
ready-both P Q [] h k = tt
ready-both P Q (w ∷ ws) h k = ((h.0, k.0), ready-both P Q ws h.1 k.1)

-- what a test says of each
pub ready-all : {T : Type 0} (test : T → Bool) (ws : List T) → list_all test ws ≡ true → AreReady (λ w. test w ≡ true) ws
ready-all test [] h = tt
ready-all test (w ∷ ws) h = let parts = and_parts (test w) (list_all test ws) h in (parts.0, ready-all test ws parts.1)

pub ready-none : {T : Type 0} (test : T → Bool) (ws : List T) → list_any test ws ≡ false → AreReady (λ w. test w ≡ false) ws
ready-none test [] h = tt
ready-none test (w ∷ ws) h = let parts = or_parts (test w) (list_any test ws) h in (parts.0, ready-none test ws parts.1)

pub same-rows : {T : Type 0} (Same : T → T → Type 0) → ((w : T) → Same w w) → (ws : List T) → SameEach Same ws ws
same-rows Same itself [] = tt
same-rows Same itself (w ∷ ws) = (itself w, same-rows Same itself ws)

-- what stays of each is so of the later ones
pub ready-same : {T : Type 0} (Same : T → T → Type 0) (P : T → Type 0) → ((a b : T) → Same a b → P a → P b) → (xs ys : List T) → SameEach Same xs ys → AreReady P xs → AreReady P ys
ready-same Same P f [] [] same h = tt
ready-same Same P f (x ∷ xs) (y ∷ ys) same h = (f x y same.0 h.0, ready-same Same P f xs ys same.1 h.1)
ready-same Same P f [] (y ∷ ys) same h = absurd same
ready-same Same P f (x ∷ xs) [] same h = absurd same

-- The same workers are for the same objects and sources.

nothing-still : (i j : Job) → IsSameJob i j → IsNothing i → IsNothing j
nothing-still job.Nothing job.Nothing same h = tt
nothing-still job.Nothing (job.Home y) same h = absurd same
nothing-still job.Nothing (job.Source y) same h = absurd same
nothing-still (job.Home x) j same h = absurd h
nothing-still (job.Source x) j same h = absurd h

home-still : (d : ObjectDef) (i j : Job) → IsSameJob i j → IsHomeJobOf d i → IsHomeJobOf d j
home-still d (job.Home x) (job.Home y) same h = same ∙ h
home-still d (job.Home x) job.Nothing same h = absurd same
home-still d (job.Home x) (job.Source y) same h = absurd same
home-still d job.Nothing j same h = absurd h
home-still d (job.Source x) j same h = absurd h

source-still : (ss : List Stim) (i j : Job) → IsSameJob i j → IsSourceOf ss i → IsSourceOf ss j
source-still ss (job.Source x) (job.Source y) same h = same ∙ h
source-still ss (job.Source x) job.Nothing same h = absurd same
source-still ss (job.Source x) (job.Home y) same h = absurd same
source-still ss job.Nothing j same h = absurd h
source-still ss (job.Home x) j same h = absurd h

module _ {T : Type 0} (work : T → Job) (Same : T → T → Type 0) (jobs : (a b : T) → Same a b → IsSameJob (work a) (work b)) where
  pub workers-still : (ds : List ObjectDef) (more : List (List Stim)) (xs ys : List T) → SameEach Same xs ys → AreWorkers work ds more xs → AreWorkers work ds more ys
  workers-still (d ∷ ds) more (x ∷ xs) (y ∷ ys) same h = (home-still d (work x) (work y) (jobs x y same.0) h.0, workers-still ds more xs ys same.1 h.1)
  workers-still [] (ss ∷ more) (x ∷ xs) (y ∷ ys) same h = (source-still ss (work x) (work y) (jobs x y same.0) h.0, workers-still [] more xs ys same.1 h.1)
  workers-still [] [] [] [] same h = tt
  workers-still [] [] [] (y ∷ ys) same h = absurd same
  workers-still [] [] (x ∷ xs) ys same h = absurd h
  workers-still (d ∷ ds) more [] ys same h = absurd h
  workers-still [] (ss ∷ more) [] ys same h = absurd h
  workers-still (d ∷ ds) more (x ∷ xs) [] same h = absurd same
  workers-still [] (ss ∷ more) (x ∷ xs) [] same h = absurd same

  pub row-still : (ds : List ObjectDef) (more : List (List Stim)) (xs ys : List T) → SameEach Same xs ys → IsRow work ds more xs → IsRow work ds more ys
  row-still ds more (x ∷ xs) (y ∷ ys) same h = (nothing-still (work x) (work y) (jobs x y same.0) h.0, workers-still ds more xs ys same.1 h.1)
  row-still ds more [] ys same h = absurd h
  row-still ds more (x ∷ xs) [] same h = absurd same

-- their lanes are the same ones
pub lanes-still : {T : Type 0} (view : T → LaneView) (Same : T → T → Type 0) (lanes : (a b : T) → Same a b → SameLane (view a) (view b)) → (xs ys : List T) → SameEach Same xs ys → AreSameLanes (map view xs) (map view ys)
lanes-still view Same lanes [] [] same = tt
lanes-still view Same lanes (x ∷ xs) (y ∷ ys) same = (lanes x y same.0, lanes-still view Same lanes xs ys same.1)
lanes-still view Same lanes [] (y ∷ ys) same = absurd same
lanes-still view Same lanes (x ∷ xs) [] same = absurd same

-- They stay in one table.

module _ {T : Type 0} (view : T → LaneView) (Same : T → T → Type 0) (table : (a b : T) → Same a b → IsTogether (view a) (view b)) where
  together-still : (v w : LaneView) → IsTogether v w → (xs ys : List T) → SameEach Same xs ys → AreTogether view v xs → AreTogether view w ys
  together-still v w moved [] [] same h = tt
  together-still v w moved (x ∷ xs) (y ∷ ys) same h =
      let one = table x y same.0 in
      (record { world = one.world ∙ h.0.world ∙ sym moved.world; sys = one.sys ∙ h.0.sys ∙ sym moved.sys }, together-still v w moved xs ys same.1 h.1)
  together-still v w moved [] (y ∷ ys) same h = absurd same
  together-still v w moved (x ∷ xs) [] same h = absurd same

  pub table-still : (objects : List ℕ) (xs ys : List T) → SameEach Same xs ys → AreOneTable view objects xs → AreOneTable view objects ys
  table-still objects [] [] same h = tt
  table-still objects (x ∷ xs) (y ∷ ys) same h =
      let moved = table x y same.0 in
      (together-still (view x) (view y) moved xs ys same.1 h.0, subst (λ s. AllByRecursion (λ p. IsTrue (is_object s p)) objects) (sym moved.sys) h.1)
  table-still objects [] (y ∷ ys) same h = absurd same
  table-still objects (x ∷ xs) [] same h = absurd same

pub same-then : {T : Type 0} (Same : T → T → Type 0) → ((a b c : T) → Same a b → Same b c → Same a c) → (xs ys zs : List T) → SameEach Same xs ys → SameEach Same ys zs → SameEach Same xs zs
same-then Same still [] [] [] h k = tt
same-then Same still (x ∷ xs) (y ∷ ys) (z ∷ zs) h k = (still x y z h.0 k.0, same-then Same still xs ys zs h.1 k.1)
same-then Same still [] [] (z ∷ zs) h k = absurd k
same-then Same still [] (y ∷ ys) zs h k = absurd h
same-then Same still (x ∷ xs) [] zs h k = absurd h
same-then Same still (x ∷ xs) (y ∷ ys) [] h k = absurd k

pub ready-left : {T : Type 0} (P Q : T → Type 0) (ws : List T) → AreReady P ws → AreReady (λ w. P w ⊎ Q w) ws
ready-left P Q [] h = tt
ready-left P Q (w ∷ ws) h = (inl h.0, ready-left P Q ws h.1)

-- lanes without rows have few
pub few-rows : {T : Type 0} (numbers : T → Numbers) (more : ℕ) → ((w : T) → (numbers w).rows ≡ 0) → (ws : List T) → HasFewRows numbers more ws
few-rows numbers more none [] = tt
few-rows numbers more none (w ∷ ws) = λ kept. let rows = none w in omega (arith, rows)

-- what is known of one that ended, or rests

pub ends-stop : (sys : System) (budget : ℕ) (t : Turn) (x : Job) (v : LaneView) → is_short t ≡ false → MayEnd sys budget t x v → JobStops sys budget x v
ends-stop sys budget t x v long h = by t long h.ends
  where
    by : (t : Turn) → is_short t ≡ false → JobEnds sys budget t x v → JobStops sys budget x v
    by turn.Idle long h = h
    by turn.Stopped long h = h
    by turn.Memory long h = absurd (cc)

pub turns-rest : (sys : System) (budget : ℕ) (t : Turn) (x : Job) (v : LaneView) → is_idle t ≡ true → MayTurn sys budget t x v → JobRests sys budget x v
turns-rest sys budget t x v idle h = by t idle h.stands
  where
    by : (t : Turn) → is_idle t ≡ true → JobStands sys budget t x v → JobRests sys budget x v
    by turn.Idle idle h = h
    by turn.Stopped idle h = absurd (cc)
    by turn.Memory idle h = absurd (cc)
