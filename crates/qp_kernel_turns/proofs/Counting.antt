-- The entries that all objects have taken up.
use Rattle.std.proofs.Common.{◌≡◌, ℕ, zero, suc, ◌+◌, ◌-◌, ◌<◌, ◌≤◌, List, [], ◌∷◌, length, ◌∙◌, ap, Option, Some, None, arith}
use Rattle.std.specs.Prelude.{slice_get, slice_set}
use Rattle.qp_model.specs.declared.systems.System.{System}
use Rattle.qp_calls.specs.declared.tokens.HeldEntry.{HeldEntry}
use Rattle.qp_calls.specs.LaneView.{LaneView}
use Rattle.qp_chart.specs.declared.checked.Chart.{Chart}
use Rattle.qp_model.specs.Course.{chart_at}
use Rattle.qp_kernel.specs.declared.kernel.Kernel.{Kernel}
use Rattle.qp_dispatch.specs.declared.steps.Step.{Step}
use Rattle.qp_dispatch.specs.Objects.{ResumesAs, works_for}
use Rattle.qp_kernel_turns.specs.declared.objects.Objects.{Objects}
use Rattle.qp_kernel_turns.specs.declared.objects.Slot.{Slot}
use Rattle.qp_kernel_turns.specs.Objects.{BeginsAt, ResumesAt}
use Rattle.qp_kernel_turns.specs.Counting.{AreCounted, Begin, taken_by_all}

taken-put : (xs : List (Option Slot)) (p n : ℕ) (slot later : Slot) → slice_get xs p ≡ Some (Some slot) → later.object.taken ≡ slot.object.taken + n
    → taken_by_all (slice_set xs p (Some later)) ≡ taken_by_all xs + n
unfolding taken_by_all
taken-put [] p n slot later h more = absurd (cc)
taken-put (None ∷ xs) zero n slot later h more = absurd (cc)
taken-put (Some x ∷ xs) zero n slot later h more = let same : x ≡ slot = cc in rw (same, more) (omega arith)
taken-put (None ∷ xs) (suc p) n slot later h more = taken-put xs p n slot later h more
taken-put (Some x ∷ xs) (suc p) n slot later h more = let rest = taken-put xs p n slot later h more in omega (arith, rest)

-- one more with each step that begins
pub taken-begins : (p : ℕ) (e : HeldEntry) (xs ys : Objects) → BeginsAt p e xs ys → taken_by_all ys.slots.items ≡ taken_by_all xs.slots.items + 1
taken-begins p e xs ys b = ap taken_by_all b.put.slots ∙ taken-put xs.slots.items p 1 b.slot b.later b.there (ap (λ x. x.taken) b.begins)

-- none with a step that goes on
pub taken-resumes : (sys : System) (ceiling level p : ℕ) (xs ys : Objects) (v w : LaneView) (answer : Step) → ResumesAt sys ceiling level p xs ys v w answer
    → taken_by_all ys.slots.items ≡ taken_by_all xs.slots.items + 0
taken-resumes sys ceiling level p xs ys v w answer r =
    ap taken_by_all r.put.slots ∙ taken-put xs.slots.items p 0 r.slot r.later r.there (by (chart_at sys r.slot.object.chart) r.resumes.0 r.resumes.1 ∙ omega arith)
  where
    by : (chart : Option Chart) (m : LaneView) → ResumesAs chart sys ceiling level r.slot.object r.later.object (works_for r.slot.object.me v) m answer → r.later.object.taken ≡ r.slot.object.taken
    by None m h = absurd h
    by (Some chart) m h = ap (λ x. x.taken) h.0

pub begin-none : (k : Kernel) (xs : Objects) → Begin 0 k k xs xs
begin-none k xs = record { steps = omega arith; taken = omega arith }

-- Rounds.

pub counted-none : (k : Kernel) (xs : Objects) → k.steps ≤ k.looks → AreCounted k k xs xs
counted-none k xs few = record { n = 0; begin = begin-none k xs; few = few }

-- each look is counted, and there is at most one step behind it
pub less-looks : (k l look : Kernel) (xs ys : Objects) → AreCounted k l xs ys → look.steps ≡ l.steps → look.looks ≡ l.looks + 1 → look.steps < look.looks
less-looks k l look xs ys c steps looks = let few = c.few in omega (arith, few, steps, looks)

pub counted-then : (n : ℕ) → n ≤ 1 → (k l look m : Kernel) (xs ys zs : Objects) → AreCounted k l xs ys → look.steps ≡ l.steps → look.looks ≡ l.looks + 1 → Begin n look m ys zs → m.looks ≡ look.looks
    → AreCounted k m xs zs
counted-then n one k l look m xs ys zs c steps looks begin same =
    let few = c.few in
    let before = c.begin.steps in
    let more = begin.steps in
    let first = c.begin.taken in
    let second = begin.taken in
    record { n = c.n + n; begin = record { steps = omega (arith, before, more, steps); taken = omega (arith, first, second) }; few = omega (arith, one, few, steps, looks, more, same) }

pub counted-on : (k l m : Kernel) (xs ys zs : Objects) → AreCounted k l xs ys → Begin 0 l m ys zs → m.looks ≡ l.looks → AreCounted k m xs zs
counted-on k l m xs ys zs c begin same =
    let few = c.few in
    let before = c.begin.steps in
    let more = begin.steps in
    let first = c.begin.taken in
    let second = begin.taken in
    record { n = c.n; begin = record { steps = omega (arith, before, more); taken = omega (arith, first, second) }; few = omega (arith, few, more, same) }

-- no step has begun before, where none has begun
pub still-step : (k l m : Kernel) (xs ys : Objects) → Begin 0 l m xs ys → m.steps ≡ k.steps → l.steps ≡ k.steps
still-step k l m xs ys begin same = let a = begin.steps in omega (arith, a, same)

pub still-before : (k l look m : Kernel) (xs ys zs : Objects) → look.steps ≡ l.steps → Begin 0 look m ys zs → m.steps ≡ k.steps → l.steps ≡ k.steps
still-before k l look m xs ys zs steps begin same = let a = begin.steps in omega (arith, a, steps, same)

-- one has begun
pub never-still : (k l look m z : Kernel) (xs ys zs us : Objects) → AreCounted k l xs ys → look.steps ≡ l.steps → Begin 1 look m ys zs → Begin 0 m z zs us → z.steps ≡ k.steps → ⊥
never-still k l look m z xs ys zs us c steps one none same =
    let a = c.begin.steps in
    let b = one.steps in
    let d = none.steps in
    absurd (omega (arith, a, b, d, steps, same))

pub none-top : (p : ℕ) (stack : List ℕ) → stack ≡ [] → Some p ≡ slice_get stack (length stack - 1) → ⊥
none-top p [] none top = absurd (cc)
none-top p (x ∷ xs) none top = absurd (cc)

-- none has begun
pub steps-none : (l m : Kernel) (xs ys : Objects) → Begin 0 l m xs ys → m.steps ≡ l.steps
steps-none l m xs ys begin = let a = begin.steps in omega (arith, a)

pub steps-same : (l look m : Kernel) (xs ys : Objects) → look.steps ≡ l.steps → Begin 0 look m xs ys → m.steps ≡ l.steps
steps-same l look m xs ys steps begin = let a = begin.steps in omega (arith, a, steps)
