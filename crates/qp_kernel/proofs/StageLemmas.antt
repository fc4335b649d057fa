-- An object comes from stage to stage.
use Rattle.std.proofs.Common.{◌≡◌, ℕ, ◌≤◌, true, List, [], ◌∷◌, ◌++◌, length, sym, subst, inl, inr, Some, append_assoc, append-nil}
use Rattle.std.specs.List.{list_all}
use Rattle.qp_model.specs.declared.systems.System.{System}
use Rattle.qp_model.specs.declared.bodies.Entry.{Entry}
use Rattle.qp_model.specs.Told.{Told, Event, told_took}
use Rattle.qp_model.specs.Pieces.{Piece, Tell, Point, tell}
use Rattle.qp_model.specs.Acts.{Actor, Config}
use Rattle.qp_model.specs.Able.{task_able, chart_able}
use Rattle.qp_model.specs.Step.{Remainder, StepGoesOn, whole_step}
use Rattle.qp_model.specs.Course.{Starts}
use Rattle.qp_model.specs.Standing.{Between, Within, Leaves, StepAdvances}
use Rattle.qp_model.proofs.CourseLemmas.{leaves-on, leaves-took, leaves-done, course-start}
use Rattle.qp_kernel.specs.Stages as stage
use Rattle.qp_kernel.specs.Stages.{Stage, IsReady, ComesTo, closes}
use Rattle.qp_kernel.specs.Turning.{IsWithinStep}
use Rattle.qp_kernel.proofs.AgendaLemmas.{whole-ready}
use Rattle.qp_kernel.proofs.KeptLemmas.{course-within}

module _ (sys : System) (a : Actor) (first : Config) (es : List Entry) (ps : List Piece) where
  pub comes-within : (s : Stage) (ev : Event) (e : Entry) (left : Remainder) (c : Config)
      → IsWithinStep s ev e left c → ComesTo sys a first es ps s → Leaves sys a first es ps (Within ev e left c) × IsReady sys a left c
  unfolding ComesTo
  comes-within s ev e left c (inl is) h = let k : ComesTo sys a first es ps (stage.Begun ev e left c) = subst (ComesTo sys a first es ps) is h in (k.0, k.1)
  comes-within s ev e left c (inr is) h = let k : ComesTo sys a first es ps (stage.Paused ev e left c) = subst (ComesTo sys a first es ps) is h in (k.2, k.3)

  -- it takes an entry up
  pub comes-took : (c : Config) (f l m : ℕ) (e : Entry) (ev : Event) (left : Remainder) → left ≡ whole_step a c ev → chart_able sys a.chart ≡ true
      → ComesTo sys a first es ps (stage.Resting c) → ComesTo sys a first (es ++ e ∷ []) (ps ++ Tell (told_took f l m e ev) ∷ []) (stage.Begun ev e left c)
  unfolding ComesTo
  comes-took c f l m e ev left plan able h = (
    subst (λ x. Leaves sys a first (es ++ e ∷ []) (ps ++ Tell (told_took f l m e ev) ∷ []) (Within ev e x c)) (sym plan) (leaves-took sys a first es ps c f l m e ev h.0),
    record {
      able = subst (λ x. list_all (task_able sys true) x.tasks ≡ true) (sym plan) (whole-ready sys a c ev able).0;
      closing = subst (λ x. closes x.tasks ≡ true) (sym plan) (whole-ready sys a c ev able).1;
      room = h.1;
    },
  )

  -- its step comes to a scheduling point
  pub comes-point : (s : Stage) (ev : Event) (e : Entry) (left later : Remainder) (c d : Config) (g : List Told) → IsWithinStep s ev e left c
      → StepAdvances sys a ev e left c (tell g ++ Point ∷ []) later d → IsReady sys a later d
      → ComesTo sys a first es ps s → ComesTo sys a first es (ps ++ (tell g ++ Point ∷ [])) (stage.Paused ev e later d)
  unfolding ComesTo
  comes-point s ev e left later c d g within goes ready h =
      (ps ++ tell g, sym (append_assoc ps (tell g) (Point ∷ [])), leaves-on sys a first es ps ev e left later c d (tell g ++ Point ∷ []) goes (comes-within s ev e left c within h).0, ready)

  leaves-within : (d : Config) (es : List Entry) (ps : List Piece) → length first.kept ≤ a.room → Leaves sys a first es ps (Between d) → length d.kept ≤ a.room
  unfolding Leaves
  leaves-within d es ps room h = course-within sys a first d es ps room h

  -- its step runs to completion
  pub comes-done : (s : Stage) (ev : Event) (e : Entry) (left : Remainder) (c d : Config) (g : List Told) → IsWithinStep s ev e left c
      → StepGoesOn sys a ev e left c (tell g) (Some d) → length first.kept ≤ a.room
      → ComesTo sys a first es ps s → ComesTo sys a first es (ps ++ (tell g ++ [])) (stage.Resting d)
  unfolding ComesTo
  comes-done s ev e left c d g within goes room h =
      let whole = leaves-done sys a first es ps ev e left c d (tell g) goes (comes-within s ev e left c within h).0 in
      (subst (λ x. Leaves sys a first es (ps ++ x) (Between d)) (sym (append-nil (tell g))) whole, leaves-within d es (ps ++ tell g) room whole)

  -- it starts
  pub comes-started : (c : Config) (g : List Told) → Starts sys a first (tell g) (Some c) → length first.kept ≤ a.room
      → ComesTo sys a first es ps stage.Unstarted → ComesTo sys a first es (ps ++ (tell g ++ [])) (stage.Resting c)
  unfolding ComesTo Leaves
  comes-started c g starts room h =
      let whole = course-start sys a first (tell g) (Some c) starts in
      rw (h.0, h.1, append-nil (tell g)) (whole, course-within sys a first c [] (tell g) room whole)
