use Rattle.std.proofs.Common.{◌≡◌, ◌<◌, true, ap, refl, subst, sym, Some}
use Rattle.std.specs.Prelude.{slice_set}
use Rattle.qp_dispatch.specs.declared.steps.Position.TheVariants as standing
use Rattle.qp_dispatch.specs.Objects.{BeginsStep}
use Rattle.qp_kernel_turns.specs.declared.objects.Slot.{Slot}
use Rattle.qp_kernel_turns.proofs.Places.{at-index, at-none}
use Rattle.qp_kernel_turns.proofs.objects.Objects.begin.Goals as goal
use Rattle.qp_kernel_turns.proofs.objects.Objects.begin.Goals.{In-Some}

found : (c : In-Some) → c.in-Some.slot ≡ c.requires.slot
found c = at-index c.args.self.now.slots.items c.from.result c.args.p c.index_mut.result.now c.requires.slot c.in-Some.slot c.from.ensures c.requires.there c.index_mut.ensures.value c.in-Some.is

pub begin-requires : goal.begin-requires
begin-requires c =
    let same = sym (found (goal.at.begin-requires c).In-Some) in
    record {
      between = subst (λ s. s.object.stage ≡ standing.Between) same c.requires.between;
      started = subst (λ s. s.object.started ≡ true) same c.requires.started;
      few = subst (λ s. s.object.taken < 1000000) same c.requires.few;
    }

pub returns-in-Some : goal.returns-in-Some
returns-in-Some c =
    let same = found (goal.at.returns-in-Some c).In-Some in
    let later : Slot = record { object = c.begin.new.self; threshold = c.in-Some.slot.threshold } in
    record {
      slot = c.requires.slot;
      later = later;
      there = c.requires.there;
      put = record { slots = ap (λ i. slice_set c.args.self.now.slots.items i (Some later)) c.from.ensures; ceiling = refl };
      threshold = ap (λ s. s.threshold) same;
      begins = subst (λ s. BeginsStep c.args.e s.object c.begin.new.self) same c.begin.ensures;
    }

pub returns-in_default : goal.returns-in_default
returns-in_default c = absurd (at-none c.args.self.now.slots.items c.from.result c.args.p c.index_mut.result.now c.requires.slot c.from.ensures c.requires.there c.index_mut.ensures.value c.in_default.is)
