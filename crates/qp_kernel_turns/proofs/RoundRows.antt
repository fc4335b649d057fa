-- Rows at the base through the rounds of a turn.
use Rattle.std.proofs.Common.{◌≡◌, ℕ, ◌+◌, ◌-◌, ◌==◌, cond, Bool, true, false, List, [], ◌∷◌, length, reverse, refl, sym, ◌∙◌, ap, subst, Option, Some, None, arith, length-append}
use Rattle.std.specs.Prelude.{IsTrue, slice_get}
use Rattle.std.specs.List.{find}
use Rattle.std.specs.Option.{is_some}
use Rattle.std.proofs.lemmas.List.{length-reverse}
use Rattle.std.proofs.lemmas.Bool.Decides.{nat_tests}
use Rattle.qp_model.specs.declared.systems.System.{System}
use Rattle.qp_model.specs.declared.systems.ObjectDef.{ObjectDef}
use Rattle.qp_model.specs.Kernels.{sim, qk, qv}
use Rattle.qp_model.specs.KernelLane.{Setting}
use Rattle.qp_model.specs.Sites.{object_at}
use Rattle.qp_model.specs.WordLaw.{is_object}
use Rattle.qp_model_order.specs.RunOrder.{has_stim}
use Rattle.qp_calls.specs.LaneView.{LaneView}
use Rattle.qp_kernel.specs.declared.kernel.Kernel.{Kernel}
use Rattle.qp_kernel.specs.Happenings.{lanes_of}
use Rattle.qp_kernel.specs.LaneZero.{setting}
use Rattle.qp_kernel.specs.Turning.{Terms, kernel_in}
use Rattle.qp_kernel_turns.specs.declared.halting.Halt.{Halt}
use Rattle.qp_kernel_turns.specs.BaseRows.{HasStep, InRow, SameRow, reading_in}
use Rattle.qp_kernel_turns.specs.Knowing.{IsScanning}
use Rattle.qp_kernel_turns.specs.Pending.{Pending, StepsOver}
use Rattle.qp_kernel_turns.specs.TurnRows.{SourcesAreApart, RowGoes, RowStops, RowsOver, bare_row, idle_rows}
use Rattle.qp_kernel_turns.specs.Turning.{Stand, Stood}
use Rattle.qp_kernel_turns.proofs.BaseRows.{few-more, idle-reads, looks-add, looks-again, looks-stepped, looks-within, reading-is}
use Rattle.qp_kernel_turns.proofs.Rows.{looking-same}
use Rattle.qp_kernel_turns.proofs.Tops.{some-last}

-- An object of the system.

found-is : (ds : List ObjectDef) (o : ℕ) (d : ObjectDef) → find (λ x. x.priority == o) ds ≡ Some d → d.priority ≡ o
found-is [] o d h = absurd (cc)
found-is (x ∷ xs) o d h = by (x.priority == o) refl (λ k. found-is xs o d k) h
  where
    by : (b : Bool) → (x.priority == o) ≡ b → (find (λ y. y.priority == o) xs ≡ Some d → d.priority ≡ o) → cond b (Some x) (find (λ y. y.priority == o) xs) ≡ Some d → d.priority ≡ o
    by true is go k = let same : x ≡ d = cc in let its : x.priority ≡ o = grind (arith, nat_tests) in subst (λ (y : ObjectDef). y.priority ≡ o) same its
    by false is go k = go k

pub object-there : (sys : System) (p : ℕ) → IsTrue (is_object sys p) → (d : ObjectDef) × (object_at sys d.priority ≡ Some d) × (d.priority ≡ p)
unfolding is_object object_at
object-there sys p h = by (find (λ d. d.priority == p) sys.objects) refl h
  where
    by : (o : Option ObjectDef) → find (λ d. d.priority == p) sys.objects ≡ o → IsTrue (is_some o) → (d : ObjectDef) × (object_at sys d.priority ≡ Some d) × (d.priority ≡ p)
    by None e some = absurd (cc)
    by (Some d) e some = let is = found-is sys.objects p d e in (d, subst (λ q. find (λ x. x.priority == q) sys.objects ≡ Some d) (sym is) e, is)

-- a turn begins
pub row-begins : (sys : System) (terms : Terms) (k : Kernel) (v : LaneView) → RowGoes sys terms k k v v
row-begins sys terms k v = record { idle = refl; stepped = λ lt. absurd (omega (arith, lt)) }

module _ (sys : System) (terms : Terms) (k l : Kernel) (v u : LaneView) (goes : RowGoes sys terms k l v u) where
  same-rows : idle_rows sys terms u ≡ idle_rows sys terms v
  same-rows = idle-reads sys terms u ∙ goes.idle ∙ sym (idle-reads sys terms v)

  -- a stop, as many rows later
  pub stops-from : (w x : LaneView) (h : Halt) → (reading_in sys terms w).idle ≡ (reading_in sys terms u).idle → RowStops sys terms w x h → RowStops sys terms v x h
  stops-from w x h same stops =
      let a = idle-reads sys terms w in
      let b = idle-reads sys terms u in
      let c = same-rows in
      few-more sys terms (idle_rows sys terms w + bare_row sys) (idle_rows sys terms v + bare_row sys) x h (omega (arith, a, b, c, same)) stops

  -- a step has begun
  pub row-found : (m : Kernel) (d e : LaneView) → HasStep (reading_in sys terms u) (reading_in sys terms d) → SameRow (reading_in sys terms d) (reading_in sys terms e) → RowGoes sys terms k m v e
  row-found m d e has same = record { idle = same.idle ∙ has.idle ∙ goes.idle; stepped = λ lt. same.stepped ∙ has.stepped }

  module _ (m : Kernel) (d : Stand) (r : InRow sys terms [] u d.lane) (steps : m.steps ≡ l.steps) (knows : Stood (IsScanning sys terms []) sys terms d) where
    abbrev s : Setting
    s = setting sys (kernel_in terms) (has_stim (lanes_of d.lane))

    was : reading_in sys terms d.lane ≡ knows.knows.state.reading
    was = reading-is sys terms knows.knows.state d.lane knows.knows.stands knows.knows.told knows.knows.now

    on : SameRow r.here (reading_in sys terms d.lane) → RowGoes sys terms k m v d.lane
    on same = record {
      idle = same.idle ∙ r.row.idle ∙ goes.idle;
      stepped = λ lt. same.stepped ∙ r.row.stepped ∙ goes.stepped (omega (arith, lt, steps));
    }

    -- within a step
    pub row-within : (p : ℕ) → Some p ≡ slice_get d.stack (length d.stack - 1) → SameRow r.here (reading_in sys terms d.lane)
    row-within p top =
        let last = some-last d.stack p top in
        let long : length d.stack ≡ length last.0 + 1 = ap length last.1 ∙ length-append last.0 (p ∷ []) in
        let turned = length-reverse d.stack in
        let running : r.here.running ≡ reverse d.stack = sym (looking-same sys terms (has_stim (lanes_of d.lane)) r.here []).running ∙ ap (λ x. x.running) (sym r.same ∙ was) ∙ knows.knows.running in
        let many = ap length running in
        subst (SameRow r.here) (sym r.same) (looks-within s r.here [] (omega (arith, long, turned, many)))

    pub row-steps : (p : ℕ) (z : Kernel) (e : LaneView) → Some p ≡ slice_get d.stack (length d.stack - 1) → z.steps ≡ m.steps → SameRow (reading_in sys terms d.lane) (reading_in sys terms e) → RowGoes sys terms k z v e
    row-steps p z e top more same =
        let here = on (row-within p top) in
        record { idle = same.idle ∙ here.idle; stepped = λ lt. same.stepped ∙ here.stepped (omega (arith, lt, more)) }

    pub within-idle : (p : ℕ) → Some p ≡ slice_get d.stack (length d.stack - 1) → (reading_in sys terms d.lane).idle ≡ (reading_in sys terms u).idle
    within-idle p top = (row-within p top).idle ∙ r.row.idle

    -- a stimulus came in the look, but for `qk`
    pub row-again : (acts : Bool) → SourcesAreApart acts terms → acts ≡ true → terms.cooperative ≡ false → has_stim (lanes_of d.lane) d.looks ≡ true → RowGoes sys terms k m v d.lane
    row-again acts apart acting plain came = on (subst (SameRow r.here) (sym r.same) (looks-again s r.here [] single there))
      where
        by : (b : Bool) → terms.threaded ≡ b → (kernel_in terms == qk) ≡ false
        by true is = let wrong : true ≡ false = sym acting ∙ apart is in absurd (cc)
        by false is = let kernel : kernel_in terms ≡ sim = ap (λ b. cond b qk (cond terms.cooperative qv sim)) is ∙ ap (λ b. cond b qv sim) plain in ap (λ n. n == qk) kernel

        single : (kernel_in terms == qk) ≡ false
        single = by terms.threaded refl

        looks : r.here.looks ≡ d.looks
        looks = sym (looking-same sys terms (has_stim (lanes_of d.lane)) r.here []).looks ∙ ap (λ x. x.looks) (sym r.same ∙ was) ∙ knows.knows.counted

        there : has_stim (lanes_of d.lane) r.here.looks ≡ true
        there = ap (has_stim (lanes_of d.lane)) looks ∙ came

    -- the row is over
    pub row-over : StepsOver sys k m v → RowsOver sys terms k v d.lane
    row-over over = record {
      most =
          let add = looks-add s r.here [] in
          let a = idle-reads sys terms d.lane in
          let b = same-rows in
          let c = idle-reads sys terms u in
          let e = ap (λ x. x.idle) r.same in
          let f = r.row.idle in
          omega (arith, add, a, b, c, e, f);
      pending = λ base p is pends.
          let o = object-there sys p is in
          let some = over base o.0 o.1 (subst (λ q. Pending q v) (sym o.2) pends) in
          let has : r.here.stepped ≡ true = r.row.stepped ∙ goes.stepped (omega (arith, some, steps)) in
          idle-reads sys terms d.lane ∙ ap (λ x. x.idle) r.same ∙ looks-stepped s r.here [] has ∙ r.row.idle ∙ sym (idle-reads sys terms u) ∙ same-rows;
    }
