-- Rows of workers.
use Rattle.std.proofs.Common.{◌≡◌, ℕ, ◌+◌, Bool, true, false, List, [], ◌∷◌, map, refl, ◌∙◌, ap, arith}
use Rattle.std.specs.List.{list_all, list_any}
use Rattle.std.proofs.lemmas.Bool.{and_parts, or_parts}
use Rattle.qp_model.specs.declared.stimulus.Stim.{Stim}
use Rattle.qp_model.specs.declared.systems.System.{System}
use Rattle.qp_calls.specs.LaneView.{LaneView}
use Rattle.qp_dispatch.specs.declared.objects.Turn.{Turn}
use Rattle.qp_dispatch.specs.declared.objects.Turn.TheVariants as turn
use Rattle.qp_kernel_turns.specs.Lanes.{SameLane}
use Rattle.qp_port_phases.specs.Lanes.{SameEach}
use Rattle.qp_port_phases.specs.Rows.{HasFewRows, Numbers, all_settles, any_lost}
use Rattle.qp_port_phases.specs.Turns.{AreReady}
use Rattle.qp_port_law.specs.Lanes.{settles_in}
use Rattle.qp_port_lanes.specs.Passing.{settles_of}
use Rattle.qp_port_qk.specs.declared.job.QkJob.{QkJob}
use Rattle.qp_port_qk.specs.declared.job.QkJob.TheVariants as job
use Rattle.qp_port_lanes.specs.Answers.{is_idle, is_short}
use Rattle.qp_port_qk.specs.Jobs.{IsSameQkJob, QkJobEnds, JobMayEnd, QkJobRests, QkJobStands}
use Rattle.qp_port_qk.specs.Numbers.{numbers_of}
use Rattle.qp_port_qk.specs.Rows.{AreSources, IsKernel, IsQkRow, IsQkSourceOf}
use Rattle.qp_port_lanes.specs.Workers.{AreSameLanes}
use Rattle.qp_port_qk.specs.Workers.{QkMayEnd, QkMayTurn}

pub ready-map : {T : Type 0} (P Q : T → Type 0) → ((w : T) → P w → Q w) → (ws : List T) → AreReady P ws → AreReady Q ws
ready-map P Q f [] h = tt
ready-map P Q f (w ∷ ws) h = (f w h.0, ready-map P Q f ws h.1)

pub ready-both : {T : Type 0} (P Q : T → Type 0) → (ws : List T) → AreReady P ws → AreReady Q ws → AreReady (λ w. P w × Q w) ws
ready-both P Q [] h k = tt
ready-both P Q (w ∷ ws) h k = ((h.0, k.0), ready-both P Q ws h.1 k.1)

pub ready-all : {T : Type 0} (test : T → Bool) (ws : List T) → list_all test ws ≡ true → AreReady (λ w. test w ≡ true) ws
ready-all test [] h = tt
ready-all test (w ∷ ws) h = let parts = and_parts (test w) (list_all test ws) h in (parts.0, ready-all test ws parts.1)

pub ready-none : {T : Type 0} (test : T → Bool) (ws : List T) → list_any test ws ≡ false → AreReady (λ w. test w ≡ false) ws
ready-none test [] h = tt
ready-none test (w ∷ ws) h = let parts = or_parts (test w) (list_any test ws) h in (parts.0, ready-none test ws parts.1)

pub ready-same : {T : Type 0} (Same : T → T → Type 0) (P : T → Type 0) → ((a b : T) → Same a b → P a → P b) → (xs ys : List T) → SameEach Same xs ys → AreReady P xs → AreReady P ys
ready-same Same P f [] [] same h = tt
ready-same Same P f (x ∷ xs) (y ∷ ys) same h = (f x y same.0 h.0, ready-same Same P f xs ys same.1 h.1)
ready-same Same P f [] (y ∷ ys) same h = absurd same
ready-same Same P f (x ∷ xs) [] same h = absurd same

-- The same workers are for the same sources.

kernel-still : (i j : QkJob) → IsSameQkJob i j → IsKernel i → IsKernel j
kernel-still (job.Kernel xs k) (job.Kernel ys l) same h = tt
kernel-still (job.Kernel xs k) (job.Source y) same h = absurd same
kernel-still (job.Source x) j same h = absurd h

source-still : (ss : List Stim) (i j : QkJob) → IsSameQkJob i j → IsQkSourceOf ss i → IsQkSourceOf ss j
source-still ss (job.Source x) (job.Source y) same h = same ∙ h
source-still ss (job.Source x) (job.Kernel ys l) same h = absurd same
source-still ss (job.Kernel xs k) j same h = absurd h

module _ {T : Type 0} (work : T → QkJob) (Same : T → T → Type 0) (jobs : (a b : T) → Same a b → IsSameQkJob (work a) (work b)) where
  sources-still : (more : List (List Stim)) (xs ys : List T) → SameEach Same xs ys → AreSources work more xs → AreSources work more ys
  sources-still [] [] [] same h = tt
  sources-still (ss ∷ more) (x ∷ xs) (y ∷ ys) same h = (source-still ss (work x) (work y) (jobs x y same.0) h.0, sources-still more xs ys same.1 h.1)
  sources-still [] [] (y ∷ ys) same h = absurd same
  sources-still [] (x ∷ xs) ys same h = absurd h
  sources-still (ss ∷ more) [] ys same h = absurd h
  sources-still (ss ∷ more) (x ∷ xs) [] same h = absurd same

  pub row-still : (more : List (List Stim)) (xs ys : List T) → SameEach Same xs ys → IsQkRow work more xs → IsQkRow work more ys
  row-still more (x ∷ xs) (y ∷ ys) same h = (kernel-still (work x) (work y) (jobs x y same.0) h.0, sources-still more xs ys same.1 h.1)
  row-still more [] ys same h = absurd h
  row-still more (x ∷ xs) [] same h = absurd same

pub lanes-still : {T : Type 0} (view : T → LaneView) (Same : T → T → Type 0) (lanes : (a b : T) → Same a b → SameLane (view a) (view b)) → (xs ys : List T) → SameEach Same xs ys → AreSameLanes (map view xs) (map view ys)
lanes-still view Same lanes [] [] same = tt
lanes-still view Same lanes (x ∷ xs) (y ∷ ys) same = (lanes x y same.0, lanes-still view Same lanes xs ys same.1)
lanes-still view Same lanes [] (y ∷ ys) same = absurd same
lanes-still view Same lanes (x ∷ xs) [] same = absurd same

-- What is known of one that ended, or rests.

pub ends-so : (sys : System) (budget : ℕ) (t : Turn) (x : QkJob) (v : LaneView) → is_short t ≡ false → QkMayEnd sys budget t x v → JobMayEnd sys budget x v
ends-so sys budget t x v long h = by t long h.ends
  where
    by : (t : Turn) → is_short t ≡ false → QkJobEnds sys budget t x v → JobMayEnd sys budget x v
    by turn.Idle long h = h
    by turn.Stopped long h = h.0
    by turn.Memory long h = absurd (cc)

pub turns-rest : (acts : Bool) (sys : System) (budget : ℕ) (t : Turn) (x : QkJob) (v : LaneView) → is_idle t ≡ true → QkMayTurn acts sys budget t x v → QkJobRests sys budget x v
turns-rest acts sys budget t x v idle h = by t idle h.stands
  where
    by : (t : Turn) → is_idle t ≡ true → QkJobStands sys budget t x v → QkJobRests sys budget x v
    by turn.Idle idle h = h
    by turn.Stopped idle h = absurd (cc)
    by turn.Memory idle h = absurd (cc)

-- What is counted.

module _ {T : Type 0} (s : T → System) (b : T → ℕ) (t : T → Turn) (work : T → QkJob) (view : T → LaneView) where
  abbrev numbers : T → Numbers
  numbers w = numbers_of (s w) (b w) (t w) (work w) (view w)

  pub lost-none : (ws : List T) → list_any (λ w. is_short (t w)) ws ≡ false → any_lost numbers ws ≡ false
  lost-none ws h = h

  pub settles-are : (ws : List T) → all_settles numbers ws ≡ settles_in (map view ws)
  unfolding all_settles
  settles-are [] = refl
  settles-are (w ∷ ws) = ap (λ n. settles_of (view w).told + n) (settles-are ws)

-- none has come
pub rows-none : {T : Type 0} (numbers : T → Numbers) (more : ℕ) (w : T) (ws : List T) → ((numbers w).lost ≡ false → (numbers w).rows ≡ 0) → HasFewRows numbers more (w ∷ ws)
rows-none numbers more w ws h = λ none. let rows = h (or_parts (numbers w).lost (any_lost numbers ws) none).0 in omega (arith, rows)
