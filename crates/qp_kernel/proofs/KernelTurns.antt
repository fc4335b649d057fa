-- The turns of objects in lane 0, as the dispatcher tells of them.
use Rattle.std.proofs.Common.{◌≡◌, ℕ, ◌+◌, ◌<◌, ◌==◌, Bool, true, false, List, [], ◌∷◌, ◌++◌, map, length, refl, sym, ◌∙◌, ap, subst, Option, Some, None, append_assoc}
use Rattle.std.specs.Prelude.{◌≢◌}
use Rattle.std.specs.List.{list_any}
use Rattle.qp_model.specs.Lawful.{spill_cuts}
use Rattle.qp_chart.specs.declared.checked.Chart.{Chart}
use Rattle.qp_model.specs.declared.systems.System.{System}
use Rattle.qp_model.specs.declared.systems.ObjectDef.{ObjectDef}
use Rattle.qp_model.specs.declared.bodies.Entry.{Entry}
use Rattle.qp_model.specs.declared.bodies.Body.TheVariants as body
use Rattle.qp_model.specs.Told.{Told, ToldItem, Event, for_object, plain, untold}
use Rattle.qp_model.specs.Pieces.{Piece, Point, tell}
use Rattle.qp_model.specs.KernelLane.{Reading, Ended}
use Rattle.qp_model.specs.Sites.{object_at}
use Rattle.qp_model.specs.Ends.{is_end, may_cut}
use Rattle.qp_model.specs.Course.{actor, first_config, chart_at, Starts}
use Rattle.qp_model.specs.Standing.{StepAdvances}
use Rattle.qp_model.specs.Step.{Remainder, StepGoesOn}
use Rattle.qp_model.specs.Acts.{Config}
use Rattle.qp_model.proofs.StepLemmas.{goes_on-completes}
use Rattle.qp_model.proofs.KernelRowLemmas.{IsWithin}
use Rattle.qp_kernel.specs.Stages as stage
use Rattle.qp_kernel.specs.Stages.{Stage, IsReady, closes, may_wait}
use Rattle.qp_kernel.specs.LaneZero.{told_pieces, Agree, setting, owed_point, LaneZero}
use Rattle.qp_kernel.specs.ZeroEnds.{ZeroEnds, most_rows}
use Rattle.qp_kernel.specs.Turning.{AreNumbered, AreAble, IsObject, IsWithinStep, moved, having}
use Rattle.qp_kernel.proofs.StageLemmas.{comes-within}
use Rattle.qp_kernel.proofs.ToldPieces.{ceiling_through}
use Rattle.qp_kernel.proofs.ZeroLemmas.{zero-point, zero-done, zero-started}
use Rattle.qp_kernel.proofs.ZeroEndLemmas.{zero-failed, zero-failed_start, zero-spilled, zero-spilled_done, zero-spilled_start}
use Rattle.qp_kernel.proofs.TurnLemmas.{inner-own, inner-calm, point-inner, CutForm, WithinIt, BehindIt, cut-form, done-form, failed-form, start-form, start-failed, start-cut}
use Rattle.qp_model.proofs.AbleLemmas.{some-same}

-- there is no other
pub only : (sys : System) (p : ℕ) (d f : ObjectDef) (chart other : Chart) (P : ObjectDef → Chart → Type 0) → IsObject sys p d chart
    → f.priority ≡ p → object_at sys f.priority ≡ Some f → chart_at sys f.chart ≡ Some other → P d chart → P f other
only sys p d f chart other P is same at its h =
    let one : d ≡ f = some-same (sym is.found ∙ ap (object_at sys) (is.priority ∙ sym same) ∙ at) in
    let two : chart ≡ other = some-same (sym is.its ∙ ap (λ x. chart_at sys x.chart) one ∙ its) in
    subst (λ x. P f x) two (subst (λ x. P x chart) one h)

module _ (sys : System) (kernel budget : ℕ) (told : List ToldItem) (now : ℕ → Bool) (upto : ℕ) (k : Reading) (stages : ℕ → Stage) (entries : ℕ → List Entry)
    (old : LaneZero sys kernel budget told now upto k 0 stages entries) (numbered : AreNumbered sys) (p : ℕ) (some : 0 < p) (o : ObjectDef) (chart : Chart) (is : IsObject sys p o chart) where
  -- what is left of its step closes with `done`
  left-closes : (ev : Event) (e : Entry) (left : Remainder) (c : Config) → IsWithinStep (stages p) ev e left c → closes left.tasks ≡ true
  left-closes ev e left c within =
      (comes-within sys (actor o chart) (first_config o) (entries o.priority) (told_pieces (setting sys kernel now) o.priority _ told ++ owed_point 0 o.priority) (stages o.priority) ev e left c
      (subst (λ x. IsWithinStep (stages x) ev e left c) (sym is.priority) within) (old.pieces now (λ n few. refl) o chart is.found is.its)).1.closing

  -- `resume` answers Point.
  pub turn-point : (outer : List ℕ) (g : List Told) (ev : Event) (e : Entry) (left later : Remainder) (c d : Config) → IsWithin k p outer → IsWithinStep (stages p) ev e left c
      → StepAdvances sys (actor o chart) ev e left c (tell g ++ Point ∷ []) later d → IsReady sys (actor o chart) later d
      → LaneZero sys kernel budget (told ++ map (for_object p) g) now upto (record k { ceiling = ceiling_through k.ceiling g }) p
      (moved stages p (stage.Paused ev e later d)) (having entries p (entries p))
  unfolding StepAdvances
  turn-point outer g ev e left later c d at within goes ready =
      let rest = goes_on-completes sys (actor o chart) ev e later d ready.able ready.room in
      let inside = point-inner sys (actor o chart) ev e left c (left-closes ev e left c within) g rest.0 rest.1
      (subst (λ x. StepGoesOn sys (actor o chart) ev e left c x rest.1) (append_assoc (tell g) (Point ∷ []) rest.0) (goes rest.0 rest.1 rest.2)) in
      zero-point sys kernel budget told now upto k stages entries old numbered p some outer g ev e left later c d at (inner-own g inside) (inner-calm g inside) within
      (λ f other same there its.
      only sys p o f chart other (λ x y. StepAdvances sys (actor x y) ev e left c (tell g ++ Point ∷ []) later d × IsReady sys (actor x y) later d) is same there its (goes, ready))

  -- `resume` answers Done.
  pub turn-done : (outer : List ℕ) (g : List Told) (ev : Event) (e : Entry) (left : Remainder) (c d : Config) → IsWithin k p outer → IsWithinStep (stages p) ev e left c
      → StepGoesOn sys (actor o chart) ev e left c (tell g) (Some d)
      → (level : ℕ) × LaneZero sys kernel budget (told ++ map (for_object p) g) now upto (record k { ceiling = level; running = outer; place = Ended p }) 0
      (moved stages p (stage.Resting d)) (having entries p (entries p))
  turn-done outer g ev e left c d at within goes =
      let form = done-form sys (actor o chart) ev e left c (left-closes ev e left c within) g d goes in (
        ceiling_through k.ceiling form.front,
        subst (λ x. LaneZero sys kernel budget (told ++ map (for_object p) x) now upto (record k { ceiling = ceiling_through k.ceiling form.front; running = outer; place = Ended p }) 0 (moved stages p (stage.Resting d)) (having entries p (entries p)))
            (sym form.whole)
            (zero-done sys kernel budget told now upto k stages entries old numbered p some outer form.front form.rel ev e left c d at form.own form.drops form.calm within
            (λ f other same there its.
            only sys p o f chart other (λ x y. StepGoesOn sys (actor x y) ev e left c (tell (form.front ++ plain body.Done ∷ form.rel)) (Some d)) is same there its
            (subst (λ x. StepGoesOn sys (actor o chart) ev e left c (tell x) (Some d)) form.whole goes))),
      )

  -- `start` answers Done.
  pub turn-started : (others : List ℕ) (g : List Told) (c : Config) → k.unstarted ≡ p ∷ others → stages p ≡ stage.Unstarted
      → Starts sys (actor o chart) (first_config o) (tell g) (Some c)
      → (level : ℕ) × LaneZero sys kernel budget (told ++ map (for_object p) g) now upto (record k { ceiling = level; unstarted = others }) 0
      (moved stages p (stage.Resting c)) (having entries p (entries p))
  turn-started others g c first unstarted starts =
      let form = start-form sys (actor o chart) (first_config o) g c starts in (
        ceiling_through k.ceiling form.front,
        subst (λ x. LaneZero sys kernel budget (told ++ map (for_object p) x) now upto (record k { ceiling = ceiling_through k.ceiling form.front; unstarted = others }) 0 (moved stages p (stage.Resting c)) (having entries p (entries p)))
            (sym form.whole)
            (zero-started sys kernel budget told now upto k stages entries old numbered p some others form.front c first form.own form.calm unstarted
            (λ f other same there its.
            only sys p o f chart other (λ x y. Starts sys (actor x y) (first_config x) (tell (form.front ++ plain body.Done ∷ [])) (Some c)) is same there its
            (subst (λ x. Starts sys (actor o chart) (first_config o) (tell x) (Some c)) form.whole starts))),
      )

  module _ (has : ℕ → Bool) (agree : Agree upto has now) (able : AreAble sys) (end : ℕ) (early : may_cut end ≡ true)
      (wait : (d : ObjectDef) → object_at sys d.priority ≡ Some d → (p == d.priority) ≡ false → may_wait (stages d.priority) ≡ true) where
    -- `resume` answers Stopped by an assertion.
    pub turn-failed : (outer : List ℕ) (g : List Told) (ev : Event) (e : Entry) (left : Remainder) (c : Config) → IsWithin k p outer → IsWithinStep (stages p) ev e left c
        → StepGoesOn sys (actor o chart) ev e left c (tell g) None → ZeroEnds sys kernel budget end (most_rows kernel k.idle) (told ++ map (for_object p) g) has
    turn-failed outer g ev e left c at within goes =
        let form = failed-form sys (actor o chart) ev e left c (left-closes ev e left c within) p g goes in
        zero-failed sys kernel budget told now has upto k 0 stages entries old agree end p outer g ev e left c early refl at form.own form.ends within numbered able
        (λ f other same there its. only sys p o f chart other (λ x y. StepGoesOn sys (actor x y) ev e left c (tell g) None) is same there its goes) wait

    -- `start` answers Stopped by an assertion.
    pub turn-failed_start : (others : List ℕ) (g : List Told) → k.unstarted ≡ p ∷ others → stages p ≡ stage.Unstarted
        → Starts sys (actor o chart) (first_config o) (tell g) None → ZeroEnds sys kernel budget end (most_rows kernel k.idle) (told ++ map (for_object p) g) has
    turn-failed_start others g first unstarted starts =
        let form = start-failed sys (actor o chart) p (first_config o) g starts in
        zero-failed_start sys kernel budget told now has upto k 0 stages entries old agree end p others g early refl first form.own form.ends form.asserts unstarted numbered able
        (λ f other same there its. only sys p o f chart other (λ x y. Starts sys (actor x y) (first_config x) (tell g) None) is same there its starts) wait

    -- `resume` answers Stopped by a `spill`.
    pub turn-spilled : (outer : List ℕ) (g : List Told) (n : ℕ) (ev : Event) (e : Entry) (left : Remainder) (c : Config) (qs : List Piece) (last : Option Config) → IsWithin k p outer → IsWithinStep (stages p) ev e left c
        → list_any (λ t. is_end t.body) g ≡ false → n ≡ length told + length g → 999992 < n
        → spill_cuts p (map untold (told ++ (map (for_object p) g ++ for_object 0 (plain (body.Spill n)) ∷ []))) ≡ true
        → StepGoesOn sys (actor o chart) ev e left c (tell g ++ qs) last
        → ZeroEnds sys kernel budget end (most_rows kernel k.idle) (told ++ (map (for_object p) g ++ for_object 0 (plain (body.Spill n)) ∷ [])) has
    turn-spilled outer g n ev e left c qs last at within calm count many cuts goes =
        by (cut-form sys (actor o chart) ev e left c (left-closes ev e left c within) g qs last calm goes)
      where
        all : (h : List Told) → StepGoesOn sys (actor o chart) ev e left c (tell h ++ qs) last → (f : ObjectDef) (other : Chart) → f.priority ≡ p → object_at sys f.priority ≡ Some f → chart_at sys f.chart ≡ Some other
            → (zs : List Piece) × (mid : Option Config) × StepGoesOn sys (actor f other) ev e left c (tell h ++ zs) mid
        all h on f other same there its = only sys p o f chart other (λ x y. (zs : List Piece) × (mid : Option Config) × StepGoesOn sys (actor x y) ev e left c (tell h ++ zs) mid) is same there its (qs, last, on)

        by : CutForm g → ZeroEnds sys kernel budget end (most_rows kernel k.idle) (told ++ (map (for_object p) g ++ for_object 0 (plain (body.Spill n)) ∷ [])) has
        by (WithinIt own) =
            zero-spilled sys kernel budget told now has upto k 0 stages entries old agree end n p outer g ev e left c early refl at own calm count many cuts within numbered able (all g goes) wait
        by (BehindIt front rel whole own drops) =
            subst (λ x. ZeroEnds sys kernel budget end (most_rows kernel k.idle) (told ++ (map (for_object p) x ++ for_object 0 (plain (body.Spill n)) ∷ [])) has) (sym whole)
            (zero-spilled_done sys kernel budget told now has upto k 0 stages entries old agree end n p outer front rel ev e left c early refl at own drops
            (subst (λ x. list_any (λ t. is_end t.body) x ≡ false) whole calm) (subst (λ x. n ≡ length told + length x) whole count) many
            (subst (λ x. spill_cuts p (map untold (told ++ (map (for_object p) x ++ for_object 0 (plain (body.Spill n)) ∷ []))) ≡ true) whole cuts) within numbered able
            (all (front ++ plain body.Done ∷ rel) (subst (λ x. StepGoesOn sys (actor o chart) ev e left c (tell x ++ qs) last) whole goes)) wait)

    -- `start` answers Stopped by a `spill`.
    pub turn-spilled_start : (others : List ℕ) (g : List Told) (n : ℕ) (qs : List Piece) (last : Option Config) → k.unstarted ≡ p ∷ others → stages p ≡ stage.Unstarted
        → list_any (λ t. is_end t.body) g ≡ false → n ≡ length told + length g → 999992 < n
        → spill_cuts p (map untold (told ++ (map (for_object p) g ++ for_object 0 (plain (body.Spill n)) ∷ []))) ≡ true
        → qs ≢ [] → Starts sys (actor o chart) (first_config o) (tell g ++ qs) last
        → ZeroEnds sys kernel budget end (most_rows kernel k.idle) (told ++ (map (for_object p) g ++ for_object 0 (plain (body.Spill n)) ∷ [])) has
    turn-spilled_start others g n qs last first unstarted calm count many cuts left starts =
        zero-spilled_start sys kernel budget told now has upto k 0 stages entries old agree end n p others g early refl first
        (start-cut sys (actor o chart) (first_config o) g qs last left calm starts) calm count many cuts unstarted numbered able
        (λ f other same there its. only sys p o f chart other (λ x y. (zs : List Piece) × (mid : Option Config) × Starts sys (actor x y) (first_config x) (tell g ++ zs) mid) is same there its (qs, last, starts)) wait
