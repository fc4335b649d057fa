use Rattle.std.proofs.Common.{◌≡◌, ap, refl, subst, sym, Some}
use Rattle.std.specs.Prelude.{slice_set}
use Rattle.qp_dispatch.specs.Objects.{ObjectResumes, MayResume, works_for}
use Rattle.qp_kernel_turns.specs.declared.objects.Slot.{Slot}
use Rattle.qp_kernel_turns.proofs.Places.{at-index, at-none}
use Rattle.qp_kernel_turns.proofs.objects.Objects.resume.Goals as goal

pub resume-requires : goal.resume-requires
resume-requires g c =
    let same : c.requires.slot ≡ c.in-Some.slot = sym (at-index c.args.self.now.slots.items c.from.result c.args.p c.index_mut.result.now c.requires.slot c.in-Some.slot c.from.ensures c.requires.there c.index_mut.ensures.value c.in-Some.is) in
    subst (λ s. MayResume c.args.sys.now c.args.ceiling.now s.object (works_for s.object.me (g.O.Ops.lane c.args.ops.now))) same c.requires.may

pub returns-in-Some : goal.returns-in-Some
returns-in-Some g c =
    let same : c.in-Some.slot ≡ c.requires.slot = at-index c.args.self.now.slots.items c.from.result c.args.p c.index_mut.result.now c.requires.slot c.in-Some.slot c.from.ensures c.requires.there c.index_mut.ensures.value c.in-Some.is in
    let later : Slot = record { object = c.resume.new.self; threshold = c.in-Some.slot.threshold } in
    record {
      slot = c.requires.slot;
      later = later;
      there = c.requires.there;
      put = record { slots = ap (λ i. slice_set c.args.self.now.slots.items i (Some later)) c.from.ensures; ceiling = refl };
      threshold = ap (λ s. s.threshold) same;
      resumes = subst (λ s. ObjectResumes c.args.sys.now c.args.ceiling.now c.resume.new.ceiling s.object c.resume.new.self (g.O.Ops.lane c.args.ops.now) (g.O.Ops.lane c.resume.new.ops) c.resume.result) same c.resume.ensures;
    }

pub returns-in-None : goal.returns-in-None
returns-in-None g c = absurd (at-none c.args.self.now.slots.items c.from.result c.args.p c.index_mut.result.now c.requires.slot c.from.ensures c.requires.there c.index_mut.ensures.value c.in-None.is)
