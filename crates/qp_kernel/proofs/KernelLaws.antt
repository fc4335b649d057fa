-- The laws of a kernel's lane.
use Rattle.std.proofs.Common.{◌≡◌, ℕ, Bool, List, [], ◌∷◌, refl, sym, subst}
use Rattle.qp_model.specs.declared.systems.System.{System}
use Rattle.qp_model.specs.declared.bodies.Entry.{Entry}
use Rattle.qp_kernel.specs.Stages.{Stage}
use Rattle.qp_model.specs.Told.{ToldItem}
use Rattle.qp_model.specs.Step.{whole_step}
use Rattle.qp_model.specs.Course.{actor}
use Rattle.qp_model.specs.KernelLane.{Reading, Upcoming, Inside, Ended, Resting, Again, Over, Halted, above}
use Rattle.qp_model.proofs.KernelRowLemmas.{IsWithin, MayLook}
use Rattle.qp_kernel.specs.LaneZero.{setting, HasOneRow, HasRows, LaneZero}
use Rattle.qp_kernel.specs.Turning.{KernelState, Stands, Terms, IsInStep, IsLookPlace, kernel_in}
use Rattle.qp_kernel.specs.Laws.{LaneBegins, LooksAreSettled, ObjectStartCompletes, LookIsAdded, EmptyIsSeen, EntryIsSeen, RestIsAdded, StepBegins, StepPauses, StepEnds, RunEndsQuietly, RunStopsElsewhere, BudgetEnds, AssertionEndsStep, AssertionEndsStart, SpillEndsStep, SpillEndsStart, FullLaneEnds, RunsAreLawful}
use Rattle.qp_kernel.proofs.ZeroLemmas.{zero-settled, zero-look, zero-seen-empty, zero-seen-entry, zero-rest, zero-took}
use Rattle.qp_kernel.proofs.ZeroEndLemmas.{zero-quiet, zero-waiting, zero-spent, zero-full}
use Rattle.qp_kernel.proofs.KernelTurns.{only, turn-point, turn-done, turn-started, turn-failed, turn-failed_start, turn-spilled, turn-spilled_start}
use Rattle.qp_kernel.proofs.RowLemmas.{zero-new, look-idle, one-row, one-row_base}
use Rattle.qp_kernel.proofs.LawfulLemmas.{lawful}

in-step : (k : Reading) (p : ℕ) (outer : List ℕ) → IsInStep k p outer → IsWithin k p outer
in-step k p outer h = record { started = h.started; running = h.running; inside = h.inside }

may-look : (kernel : ℕ) (place : Upcoming) (running : List ℕ) → IsLookPlace kernel place running → MayLook kernel place running
may-look kernel Inside [] h = h
may-look kernel Inside (p ∷ outer) h = h
may-look kernel (Ended p) running h = h
may-look kernel Again running h = h
may-look kernel Over running h = h
may-look kernel Resting running h = absurd h
may-look kernel Halted running h = absurd h
may-look kernel _ running h = absurd h

-- the state without an owed point, and back
module _ (sys : System) (terms : Terms) (s : KernelState) where
  unowed : s.owed ≡ 0 → Stands sys terms s → LaneZero sys (kernel_in terms) terms.budget s.told s.now s.upto s.reading 0 s.stages s.entries
  unowed none old = subst (λ x. LaneZero sys (kernel_in terms) terms.budget s.told s.now s.upto s.reading x s.stages s.entries) none old

-- and back: what owes nothing owes as much as s does
owe : {sys : System} (terms : Terms) {told : List ToldItem} {now : ℕ → Bool} {upto : ℕ} {k : Reading} {stages : ℕ → Stage} {entries : ℕ → List Entry} (owed : ℕ) → owed ≡ 0
    → LaneZero sys (kernel_in terms) terms.budget told now upto k 0 stages entries → LaneZero sys (kernel_in terms) terms.budget told now upto k owed stages entries
owe {sys} terms {told} {now} {upto} {k} {stages} {entries} owed none h = subst (λ x. LaneZero sys (kernel_in terms) terms.budget told now upto k x stages entries) (sym none) h

pub lane_begins : LaneBegins
lane_begins sys terms now upto numbered = zero-new sys (kernel_in terms) terms.budget now upto numbered

pub looks_are_settled : LooksAreSettled
looks_are_settled sys terms s later more old le same = zero-settled sys (kernel_in terms) terms.budget s.told s.now later s.upto more s.reading s.owed s.stages s.entries le same old

pub object_starts : ObjectStartCompletes
object_starts sys terms s p d chart others g c numbered is some old none first unstarted starts =
    let turn = turn-started sys (kernel_in terms) terms.budget s.told s.now s.upto s.reading s.stages s.entries (unowed sys terms s none old) numbered p some d chart is others g c first unstarted starts in
    (turn.0, owe terms s.owed none turn.1)

pub look_is_added : LookIsAdded
look_is_added sys terms s n floor next numbered old started may owes count level same =
    let look = may-look (kernel_in terms) s.reading.place s.reading.running may in
    let rows : HasRows (kernel_in terms) next.place next.idle = λ single.
    let idle = look-idle (kernel_in terms) s.reading.place s.reading.running s.reading.idle single look (old.rows single) in
    subst (λ r. HasOneRow r.place r.idle) (same s.now (λ m few. refl)) (one-row (setting sys (kernel_in terms) s.now) (record (s.reading) { looks = n }) (above sys floor) idle) in
    zero-look sys (kernel_in terms) terms.budget s.told s.now s.upto s.reading s.owed s.stages s.entries old n floor next started look owes count level same rows numbered

pub empty_is_seen : EmptyIsSeen
empty_is_seen sys terms s p others f l m next numbered old none started at empty same =
    let rows : HasRows (kernel_in terms) next.place next.idle = λ single.
    let idle : s.reading.idle ≡ 0 = subst (λ x. HasOneRow x s.reading.idle) at (old.rows single) in
    subst (λ r. HasOneRow r.place r.idle) (same s.now (λ m few. refl)) (one-row (setting sys (kernel_in terms) s.now) s.reading others idle) in
    let more = zero-seen-empty sys (kernel_in terms) terms.budget s.told s.now s.upto s.reading s.owed s.stages s.entries old p others f l m next started at none empty same rows numbered in
    owe terms s.owed none more

pub entry_is_seen : EntryIsSeen
entry_is_seen sys terms s p others f l m numbered old none started at some =
    let more = zero-seen-entry sys (kernel_in terms) terms.budget s.told s.now s.upto s.reading s.owed s.stages s.entries old p others f l m started at none some numbered in
    owe terms s.owed none more

pub rest_is_added : RestIsAdded
rest_is_added sys terms s n next numbered old none started at count same =
    let rows : HasRows (kernel_in terms) next.place next.idle = λ single.
    let idle : s.reading.idle ≡ 0 = subst (λ x. HasOneRow x s.reading.idle) at (old.rows single) in
    subst (λ r. HasOneRow r.place r.idle) (same s.now (λ m few. refl)) (one-row_base (setting sys (kernel_in terms) s.now) s.reading idle) in
    let more = zero-rest sys (kernel_in terms) terms.budget s.told s.now s.upto s.reading s.owed s.stages s.entries old n next started at none count same rows numbered in
    owe terms s.owed none more

pub step_begins : StepBegins
step_begins sys terms s p d chart f l m e ev c numbered able is some old none started at rests few =
    let more = zero-took sys (kernel_in terms) terms.budget s.told s.now s.upto s.reading s.stages s.entries (unowed sys terms s none old) numbered p some f l m e ev c (whole_step (actor d chart) c ev) started at rests few able
    (λ x y same there its. only sys p d x chart y (λ a b. whole_step (actor d chart) c ev ≡ whole_step (actor a b) c ev) is same there its refl) in
    owe terms s.owed none more

pub step_pauses : StepPauses
step_pauses sys terms s p d chart outer g ev e left later c after numbered is some old none at within goes ready =
    (_, turn-point sys (kernel_in terms) terms.budget s.told s.now s.upto s.reading s.stages s.entries (unowed sys terms s none old) numbered p some d chart is outer g ev e left later c after (in-step s.reading p outer at) within goes ready)

pub step_ends : StepEnds
step_ends sys terms s p d chart outer g ev e left c after numbered is some old none at within goes =
    let turn = turn-done sys (kernel_in terms) terms.budget s.told s.now s.upto s.reading s.stages s.entries (unowed sys terms s none old) numbered p some d chart is outer g ev e left c after (in-step s.reading p outer at) within goes in
    (turn.0, owe terms s.owed none turn.1)

pub run_ends_quietly : RunEndsQuietly
run_ends_quietly sys terms s has numbered able old agree none started base over rest =
    zero-quiet sys (kernel_in terms) terms.budget s.told s.now has s.upto s.reading s.owed s.stages s.entries old agree none started base over numbered able rest

pub run_stops_elsewhere : RunStopsElsewhere
run_stops_elsewhere sys terms end s has numbered able old agree early started wait =
    zero-waiting sys (kernel_in terms) terms.budget s.told s.now has s.upto s.reading s.owed s.stages s.entries old agree end early started numbered able wait

pub budget_ends : BudgetEnds
budget_ends sys terms end s has p others f l m numbered able old agree early none started at some just named rests wait =
    zero-spent sys (kernel_in terms) terms.budget s.told s.now has s.upto s.reading s.owed s.stages s.entries old agree end p others f l m early started at some just none named rests numbered able wait

pub assertion_ends_step : AssertionEndsStep
assertion_ends_step sys terms end s has p d chart outer g ev e left c numbered able is some old agree early none at within goes wait =
    turn-failed sys (kernel_in terms) terms.budget s.told s.now s.upto s.reading s.stages s.entries (unowed sys terms s none old) numbered p some d chart is has agree able end early wait outer g ev e left c (in-step s.reading p outer at) within goes

pub assertion_ends_start : AssertionEndsStart
assertion_ends_start sys terms end s has p d chart others g numbered able is some old agree early none first unstarted starts wait =
    turn-failed_start sys (kernel_in terms) terms.budget s.told s.now s.upto s.reading s.stages s.entries (unowed sys terms s none old) numbered p some d chart is has agree able end early wait others g first unstarted starts

pub spill_ends_step : SpillEndsStep
spill_ends_step sys terms end s has p d chart outer g n ev e left c qs last numbered able is some old agree early none at within calm goes wait fills =
    turn-spilled sys (kernel_in terms) terms.budget s.told s.now s.upto s.reading s.stages s.entries (unowed sys terms s none old) numbered p some d chart is has agree able end early wait outer g n ev e left c qs last (in-step s.reading p outer at) within calm fills.count fills.full fills.behind goes

pub spill_ends_start : SpillEndsStart
spill_ends_start sys terms end s has p d chart others g n qs last numbered able is some old agree early none first unstarted calm left starts wait fills =
    turn-spilled_start sys (kernel_in terms) terms.budget s.told s.now s.upto s.reading s.stages s.entries (unowed sys terms s none old) numbered p some d chart is has agree able end early wait others g n qs last first unstarted calm fills.count fills.full fills.behind left starts

pub full_lane_ends : FullLaneEnds
full_lane_ends sys terms end s has n numbered able old agree early count many wait =
    zero-full sys (kernel_in terms) terms.budget s.told s.now has s.upto s.reading s.owed s.stages s.entries old agree end n early count many numbered able wait

pub runs_are_lawful : RunsAreLawful
runs_are_lawful sys stimuli j run = lawful sys stimuli j run
