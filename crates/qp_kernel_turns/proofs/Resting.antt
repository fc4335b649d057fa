-- Objects at rest: what the course of their records leaves, and that later records of others change nothing of it.
use Rattle.std.proofs.Common.{◌≡◌, ℕ, ◌<◌, ◌==◌, Bool, true, false, not, cond, List, [], ◌∷◌, ◌++◌, map, length, refl, sym, ◌∙◌, ap, subst, inl, inr, Some, arith, append-nil}
use Rattle.std.specs.Prelude.{slice_get}
use Rattle.std.specs.List.{filter}
use Rattle.std.proofs.lemmas.Bool.Decides.{nat_tests}
use Rattle.std.proofs.lemmas.List.Elements.{filter-append}
use Rattle.qp_chart.specs.StateTree.{has}
use Rattle.qp_chart.specs.declared.checked.Chart.{Chart}
use Rattle.qp_model.specs.declared.bodies.Body.TheVariants as body
use Rattle.qp_model.specs.declared.systems.System.{System}
use Rattle.qp_model.specs.declared.systems.ObjectDef.{ObjectDef}
use Rattle.qp_model.specs.declared.bodies.Entry.{Entry}
use Rattle.qp_model.specs.Acts.{Config}
use Rattle.qp_model.specs.Course.{Course, actor, chart_at, first_config}
use Rattle.qp_model.specs.Ends.{is_turn_mark}
use Rattle.qp_model.specs.KernelLane.{unread}
use Rattle.qp_model.specs.Knowing.{told_alone}
use Rattle.qp_model.specs.Lawful.{dispatched}
use Rattle.qp_model.specs.OutputSummary.{CourseLeaves}
use Rattle.qp_model.specs.Pieces.{Piece, Point, records_in}
use Rattle.qp_model.specs.Sites.{object_at}
use Rattle.qp_model.specs.Sound.{IsSound}
use Rattle.qp_model.specs.Standing.{Leaves}
use Rattle.qp_model.specs.Told.{Told, ToldItem, for_object, plain}
use Rattle.qp_model.proofs.GroupLemmas.{bare-append}
use Rattle.qp_model.proofs.ListLemmas.{has-reverse}
use Rattle.qp_calls.specs.LaneView.{LaneView}
use Rattle.qp_dispatch.specs.Lasts.{config_of}
use Rattle.qp_kernel.specs.LaneZero.{owed_point, setting, told_pieces}
use Rattle.qp_kernel.specs.Stages as stage
use Rattle.qp_kernel.specs.Stages.{ComesTo, Stage, is_resting}
use Rattle.qp_kernel.specs.Turning.{KernelState, Stands, Terms, kernel_in}
use Rattle.qp_kernel.specs.ZeroEnds.{own_told}
use Rattle.qp_kernel.proofs.BareLemmas.{bare-told, own-append}
use Rattle.qp_kernel_turns.specs.declared.halting.Halt.{Halt}
use Rattle.qp_kernel_turns.specs.declared.halting.Halt.TheVariants as halt
use Rattle.qp_kernel_turns.specs.declared.objects.Objects.{Objects}
use Rattle.qp_kernel_turns.specs.declared.objects.Slot.{Slot}
use Rattle.qp_kernel_turns.specs.AtRest.{HaltsAtRest, OthersRest, RestsAt}
use Rattle.qp_kernel_turns.specs.Halting.{TurnHalts}
use Rattle.qp_kernel_turns.specs.Knowing.{HasStack, Knows, StageIs}
use Rattle.qp_kernel_turns.specs.Objects.{IsAt, PutsSlot}
use Rattle.qp_kernel_turns.specs.Turning.{Stand}
use Rattle.qp_kernel_turns.proofs.Places.{get-other}
use Rattle.qp_kernel_turns.proofs.SoundObjects.{numbered}

-- The stack.

-- Records that are none of an object's start and steps.

own-none : (o p : ℕ) (g : List Told) → (p == o) ≡ false → own_told o (map (for_object p) g) ≡ []
own-none o p [] apart_is = refl
own-none o p (t ∷ g) apart_is = by (p == o) apart_is (own-none o p g apart_is)
  where
    by : (b : Bool) → b ≡ false → own_told o (map (for_object p) g) ≡ []
        → told_alone (cond b (for_object p t ∷ filter (λ x. x.of == o) (map (for_object p) g)) (filter (λ x. x.of == o) (map (for_object p) g))) ≡ []
    by true h rest = absurd (cc)
    by false h rest = rest

abbrev pub PassBy : ℕ → List ToldItem → Type 0
PassBy o us = dispatched (own_told o us) ≡ []

pub pass-other : (o p : ℕ) (g : List Told) → (p == o) ≡ false → PassBy o (map (for_object p) g)
pass-other o p g apart_is = subst (λ (ts : List Told). dispatched ts ≡ []) (sym (own-none o p g apart_is)) refl

pub pass-kernel : (o : ℕ) (t : Told) → 0 < o → PassBy o (for_object 0 t ∷ [])
pass-kernel o t some = let apart_is : (0 == o) ≡ false = grind (arith, nat_tests, some) in pass-other o 0 (t ∷ []) apart_is

pub pass-both : (o : ℕ) (us ws : List ToldItem) → PassBy o us → PassBy o ws → PassBy o (us ++ ws)
pass-both o us ws a b =
    ap (λ (ts : List Told). dispatched ts) (own-append o us ws) ∙ filter-append (λ (t : Told). not (is_turn_mark t.body)) (own_told o us) (own_told o ws)
    ∙ ap (λ x. x ++ dispatched (own_told o ws)) a ∙ b

pub pass-spent : (o p : ℕ) → PassBy o (for_object p (plain body.Spent) ∷ [])
pass-spent o p = by (p == o)
  where
    by : (b : Bool) → dispatched (told_alone (cond b (for_object p (plain body.Spent) ∷ []) [])) ≡ []
    by true = refl
    by false = refl

-- The course of an object at rest.

point-bare : (b : Bool) → records_in (cond b (Point ∷ []) []) ≡ []
unfolding records_in
point-bare true = refl
point-bare false = refl

none-begin : (sys : System) (d : ObjectDef) (chart : Chart) (ts : List Told) (c : Config) (ps : List Piece) (es : List Entry) → records_in ps ≡ dispatched ts
    → Course sys (actor d chart) (first_config d) es ps (Some c) → CourseLeaves sys d chart ts c
unfolding CourseLeaves records_in
none-begin sys d chart ts c ps es are course =
    (ps, [], es, are, refl, subst (λ qs. Course sys (actor d chart) (first_config d) es qs (Some c)) (sym (append-nil ps)) course)

pub course-at : (sys : System) (terms : Terms) (s : KernelState) (d : ObjectDef) (chart : Chart) (c : Config) → Stands sys terms s → object_at sys d.priority ≡ Some d → chart_at sys d.chart ≡ Some chart
    → s.stages d.priority ≡ stage.Resting c → CourseLeaves sys d chart (own_told d.priority s.told) c
unfolding ComesTo Leaves
course-at sys terms s d chart c old at is rests =
    let here = setting sys (kernel_in terms) s.now in
    let pieces = told_pieces here d.priority (unread sys) s.told in
    let owed = owed_point s.owed d.priority in
    let its : ComesTo sys (actor d chart) (first_config d) (s.entries d.priority) (pieces ++ owed) (stage.Resting c) =
    subst (ComesTo sys (actor d chart) (first_config d) (s.entries d.priority) (pieces ++ owed)) rests (old.pieces s.now (λ n few. refl) d chart at is) in
    let records : records_in (pieces ++ owed) ≡ dispatched (own_told d.priority s.told) =
    bare-append pieces owed ∙ ap (λ x. records_in pieces ++ x) (point-bare (s.owed == d.priority)) ∙ append-nil (records_in pieces) ∙ bare-told here d.priority (unread sys) s.told in
    none-begin sys d chart (own_told d.priority s.told) c (pieces ++ owed) (s.entries d.priority) records its.0

leaves-behind : (sys : System) (d : ObjectDef) (chart : Chart) (c : Config) (ts us : List ToldItem) → PassBy d.priority us → CourseLeaves sys d chart (own_told d.priority ts) c
    → CourseLeaves sys d chart (own_told d.priority (ts ++ us)) c
unfolding CourseLeaves
leaves-behind sys d chart c ts us pass (ps, back, es, are, nothing, course) =
    let same : dispatched (own_told d.priority (ts ++ us)) ≡ dispatched (own_told d.priority ts) =
    ap (λ (xs : List Told). dispatched xs) (own-append d.priority ts us) ∙ filter-append (λ (t : Told). not (is_turn_mark t.body)) (own_told d.priority ts) (own_told d.priority us)
    ∙ ap (λ x. dispatched (own_told d.priority ts) ++ x) pass ∙ append-nil (dispatched (own_told d.priority ts)) in
    (ps, back, es, are ∙ sym same, nothing, course)

-- All that aren't under way, as a kernel knows them.
module _ (sys : System) (sound : IsSound sys) (terms : Terms) (looks : ℕ) (stack : List ℕ) (xs : Objects) (v : LaneView) (k : Knows sys terms looks stack xs v) (waiting : List ℕ) (at : HasStack sys waiting k.state) where
  rests-in : (d : ObjectDef) (chart : Chart) → object_at sys d.priority ≡ Some d → chart_at sys d.chart ≡ Some chart → has stack d.priority ≡ false → RestsAt sys d chart xs v.told
  rests-in d chart found its free =
      by (k.state.stages d.priority) refl (at.rests d found (ap (λ ps. has ps d.priority) k.running ∙ has-reverse stack d.priority ∙ free)) (k.objects d chart found its).is.stage
    where
      by : (s : Stage) → k.state.stages d.priority ≡ s → is_resting s ≡ true → StageIs sys d chart (k.objects d chart found its).slot.object v s → RestsAt sys d chart xs v.told
      by stage.Unstarted is h there = absurd (cc)
      by (stage.Resting c) is h there = record {
        slot = (k.objects d chart found its).slot;
        there = (k.objects d chart found its).there;
        leaves =
            subst (CourseLeaves sys d chart (own_told d.priority v.told)) there.config
            (subst (λ ts. CourseLeaves sys d chart (own_told d.priority ts) c) k.told (course-at sys terms k.state d chart c k.stands found its is));
      }
      by (stage.Begun ev e left c) is h there = absurd (cc)
      by (stage.Paused ev e left c) is h there = absurd (cc)

  rests-behind : (b : Stand) (us : List ToldItem) → b.stack ≡ stack → b.lane.told ≡ v.told ++ us
      → ((d : ObjectDef) → object_at sys d.priority ≡ Some d → has stack d.priority ≡ false → PassBy d.priority us)
      → ((d : ObjectDef) → has stack d.priority ≡ false → (slot : Slot) → IsAt xs d.priority slot → IsAt b.objects d.priority slot) → OthersRest sys b
  rests-behind b us same told pass stay d chart found its free =
      let here : has stack d.priority ≡ false = ap (λ ps. has ps d.priority) (sym same) ∙ free in
      let r = rests-in d chart found its here in
      record {
        slot = r.slot;
        there = stay d here r.slot r.there;
        leaves =
            subst (λ ts. CourseLeaves sys d chart (own_told d.priority ts) (config_of r.slot.object.lasting)) (sym told)
            (leaves-behind sys d chart (config_of r.slot.object.lasting) v.told us (pass d found here) r.leaves);
      }

  abbrev pub with_lane : ℕ → LaneView → Stand
  with_lane n w = record { looks = n; stack = stack; objects = xs; lane = w }

  -- no record came
  pub rests-still : (n : ℕ) (w : LaneView) → w.told ≡ v.told → OthersRest sys (with_lane n w)
  rests-still n w same = rests-behind (with_lane n w) [] refl (same ∙ sym (append-nil v.told)) (λ d found free. refl) (λ d free slot there. there)

  -- a record of the kernel
  pub rests-noted : (n : ℕ) (w : LaneView) (t : Told) → w.told ≡ v.told ++ for_object 0 t ∷ [] → OthersRest sys (with_lane n w)
  rests-noted n w t told = rests-behind (with_lane n w) (for_object 0 t ∷ []) refl told (λ d found free. pass-kernel d.priority t (numbered sys sound d found)) (λ d free slot there. there)

  pub rests-halted : (w : LaneView) (h : Halt) → TurnHalts v w h → HaltsAtRest sys (with_lane looks w) h
  rests-halted w halt.Memory h = tt
  rests-halted w halt.Stopped (inl h) = rests-still looks w (ap (λ u. u.told) h.answered)
  rests-halted w halt.Stopped (inr h) = rests-noted looks w (plain (body.Spill (length v.told))) (ap (λ u. u.told) h.stops ∙ h.spills.told)

  -- an object was found at its budget
  pub rests-spent : (w : LaneView) (p : ℕ) (t : Told) → w.told ≡ v.told ++ for_object 0 t ∷ for_object p (plain body.Spent) ∷ [] → OthersRest sys (with_lane looks w)
  rests-spent w p t told =
      rests-behind (with_lane looks w) (for_object 0 t ∷ for_object p (plain body.Spent) ∷ []) refl told
      (λ d found free. pass-both d.priority (for_object 0 t ∷ []) (for_object p (plain body.Spent) ∷ []) (pass-kernel d.priority t (numbered sys sound d found)) (pass-spent d.priority p))
      (λ d free slot there. there)

  -- the step of an object of the stack went on
  pub rests-stepped : (w : LaneView) (ys : Objects) (level p : ℕ) (later : Slot) (us : List ToldItem) → has stack p ≡ true → PutsSlot xs ys p later → w.told ≡ v.told ++ us
      → ((o : ℕ) → 0 < o → (p == o) ≡ false → PassBy o us) → OthersRest sys (record { looks = looks; stack = stack; objects = record ys { ceiling = level }; lane = w })
  rests-stepped w ys level p later us busy puts told pass =
      rests-behind (record { looks = looks; stack = stack; objects = record ys { ceiling = level }; lane = w }) us refl told
      (λ d found free. pass d.priority (numbered sys sound d found) (apart d.priority free)) (λ d free slot there. stays d.priority slot (apart d.priority free) there)
    where
      apart : (o : ℕ) → has stack o ≡ false → (p == o) ≡ false
      apart o free = by (p == o) refl
        where
          by : (b : Bool) → (p == o) ≡ b → b ≡ false
          by false h = refl
          by true h =
              let equal : p ≡ o = grind (arith, nat_tests) in
              let wrong : true ≡ false = sym busy ∙ ap (has stack) equal ∙ free in absurd (cc)

      stays : (o : ℕ) (slot : Slot) → (p == o) ≡ false → IsAt xs o slot → IsAt ys o slot
      stays o slot apart_is there =
          ap (λ slots. slice_get slots o) puts ∙ get-other xs.slots.items p o (Some later) (λ e. let yes : (p == o) ≡ true = grind (arith, nat_tests, e) in let wrong : true ≡ false = sym yes ∙ apart_is in absurd (cc)) ∙ there
