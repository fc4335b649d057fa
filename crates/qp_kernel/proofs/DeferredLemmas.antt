-- The deferred entries of a run that has ended quietly are those that its objects keep.
use Rattle.std.proofs.Common.{◌≡◌, ℕ, ◌<◌, ◌==◌, Bool, true, false, cond, List, [], ◌∷◌, ◌++◌, refl, sym, ◌∙◌, ap, subst, Some, append-nil}
use Rattle.std.specs.List.{AllByRecursion}
use Rattle.qp_chart.specs.declared.checked.Chart.{Chart}
use Rattle.qp_model.specs.declared.systems.System.{System}
use Rattle.qp_model.specs.declared.systems.ObjectDef.{ObjectDef}
use Rattle.qp_model.specs.declared.journals.Journal.{Journal}
use Rattle.qp_model.specs.declared.bodies.Entry.{Entry}
use Rattle.qp_model.specs.History.{lane_items}
use Rattle.qp_model.specs.Knowing.{told_lane, records_of}
use Rattle.qp_model.specs.Kernels.{sim, qk, port, qv}
use Rattle.qp_model.specs.KernelLane.{unread}
use Rattle.qp_model.specs.Home.{lane_at, home_of, by_object}
use Rattle.qp_model.specs.Pieces.{Piece, records_in}
use Rattle.qp_model.specs.Sites.{object_at}
use Rattle.qp_model.specs.Deferral.{kept_after}
use Rattle.qp_model.specs.Course.{actor, first_config, chart_at}
use Rattle.qp_model.specs.Standing.{Leaves}
use Rattle.qp_model.specs.Acts.{Config}
use Rattle.qp_model.specs.Lawful.{facts_of, deferred_of}
use Rattle.qp_model.specs.Sound.{IsSoundObject}
use Rattle.qp_model.proofs.KnowingLemmas.{records_of-told}
use Rattle.qp_kernel.specs.Stages as stage
use Rattle.qp_kernel.specs.Stages.{Stage, ComesTo}
use Rattle.qp_kernel.specs.LaneZero.{told_pieces, owed_point, setting}
use Rattle.qp_kernel.specs.ZeroEnds.{own_told}
use Rattle.qp_kernel.specs.Turning.{KernelState, Stands, Terms, kernel_in}
use Rattle.qp_kernel.specs.Laws.{kept_by, DeferredAreKept}
use Rattle.qp_kernel.proofs.ToldPieces.{none-owed}
use Rattle.qp_kernel.proofs.BareLemmas.{bare-told, own-unmarked, dispatched-all}
use Rattle.qp_kernel.proofs.KeptLemmas.{course-kept}
use Rattle.qp_kernel.proofs.ZeroLawful.{IsFound, all-found, all-zip}

pub resting-kept : (sys : System) (d : ObjectDef) (chart : Chart) (es : List Entry) (ps : List Piece) (s : Stage) (c : Config) → s ≡ stage.Resting c
    → ComesTo sys (actor d chart) (first_config d) es ps s → kept_after d.defer [] (records_in ps) ≡ Some c.kept
unfolding ComesTo Leaves
resting-kept sys d chart es ps s c is h =
    let k : ComesTo sys (actor d chart) (first_config d) es ps (stage.Resting c) = subst (ComesTo sys (actor d chart) (first_config d) es ps) is h in
    course-kept sys (actor d chart) (first_config d) c es ps k.0

own-is : (sys : System) (j : Journal) (o : ℕ) → (j.kernel == port) ≡ false → by_object (facts_of sys j) j o ≡ own_told o (told_lane (facts_of sys j) 0 (lane_items (lane_at j 0)))
unfolding by_object home_of facts_of
own-is sys j o other =
    let home : home_of sys j o ≡ 0 = rw other refl in
    ap (λ n. records_of (facts_of sys j) o 0 (lane_items (lane_at j n))) home ∙ records_of-told (facts_of sys j) o 0 (lane_items (lane_at j 0))

pub no-port : (terms : Terms) (kernel : ℕ) → kernel ≡ kernel_in terms → (kernel == port) ≡ false
no-port terms kernel is = ap (λ k. k == port) is ∙ by terms.threaded terms.cooperative
  where
    by : (a b : Bool) → (cond a qk (cond b qv sim) == port) ≡ false
    by true b = refl
    by false true = refl
    by false false = refl

-- one object that rests
object-kept : (sys : System) (terms : Terms) (s : KernelState) (d : ObjectDef) (chart : Chart) (c : Config) → Stands sys terms s → s.owed ≡ 0 → object_at sys d.priority ≡ Some d → 0 < d.priority
    → chart_at sys d.chart ≡ Some chart → s.stages d.priority ≡ stage.Resting c → kept_after d.defer [] (own_told d.priority s.told) ≡ Some c.kept
object-kept sys terms s d chart c old none at some is rests =
    let pieces = told_pieces (setting sys (kernel_in terms) s.now) d.priority (unread sys) s.told in
    let its : ComesTo sys (actor d chart) (first_config d) (s.entries d.priority) pieces (s.stages d.priority) =
    subst (λ x. ComesTo sys (actor d chart) (first_config d) (s.entries d.priority) x (s.stages d.priority))
    (ap (λ x. pieces ++ owed_point x d.priority) none ∙ ap (λ x. pieces ++ x) (none-owed d.priority some) ∙ append-nil pieces)
    (old.pieces s.now (λ n few. refl) d chart at is) in
    let records = bare-told (setting sys (kernel_in terms) s.now) d.priority (unread sys) s.told ∙ dispatched-all (own_told d.priority s.told) (own-unmarked d.priority s.told old.unmarked) in
    ap (kept_after d.defer []) (sym records) ∙ resting-kept sys d chart (s.entries d.priority) pieces (s.stages d.priority) c rests its

pub kept-all : (sys : System) (j : Journal) (keeps : ℕ → Config) (ds : List ObjectDef) → AllByRecursion (λ d. kept_after d.defer [] (by_object (facts_of sys j) j d.priority) ≡ Some (keeps d.priority).kept) ds
    → deferred_of sys j ds ≡ kept_by keeps ds
unfolding deferred_of
kept-all sys j keeps [] h = refl
kept-all sys j keeps (d ∷ ds) h = rw (h.0, kept-all sys j keeps ds h.1) refl

pub deferred_are_kept : DeferredAreKept
unfolding object_at
deferred_are_kept sys terms s j keeps sound kernel told old none rest =
    kept-all sys j keeps sys.objects
    (all-zip (IsFound sys.objects) (IsSoundObject sys.charts) (λ d. kept_after d.defer [] (by_object (facts_of sys j) j d.priority) ≡ Some (keeps d.priority).kept) sys.objects
    (λ d found its.
    ap (kept_after d.defer []) (own-is sys j d.priority (no-port terms j.kernel kernel) ∙ ap (own_told d.priority) told)
    ∙ object-kept sys terms s d its.its (keeps d.priority) old none found.0 found.1 its.is_its (rest d found.0))
    (all-found sys.objects sound.ascend) sound.objects)
