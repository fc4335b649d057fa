use Rattle.std.proofs.Common.{◌≡◌, ℕ, ◌+◌, Bool, true, false, ◌&&◌, Option, Some, None, length, get_or, refl, sym, ◌∙◌, ap, subst}
use Rattle.std.specs.List.{list_all}
use Rattle.std.specs.Option.{is_some}
use Rattle.qp_model.specs.OneOrder.{all_empty}
use Rattle.qp_calls.specs.LaneView.{LaneView, is_codeless}
use Rattle.qp_kernel.specs.Interrupting.{HasNone, Happens, IsLaneKept, IsStopped}
use Rattle.qp_kernel_turns.specs.Halting.{asked_once}
use Rattle.qp_plain.specs.NewWorld.{log_in}
use Rattle.qp_plain.specs.WorldView.{world_view}
use Rattle.qp_calls_stimulus.specs.declared.doing.Stimulated.{Stimulated}
use Rattle.qp_calls.specs.Clauses.{Stopped}
use Rattle.qp_kernel.specs.Happenings.{told_by_source}
use Rattle.qp_plain.specs.declared.world.PlainWorld.{PlainWorld}
use Rattle.qp_kernel_runs.specs.Acting.{HasActed}
use Rattle.qp_kernel_runs.specs.SimHolds.{SimHolds}
use Rattle.qp_kernel_runs.specs.Visiting.{Amounts}
use Rattle.qp_kernel_runs.proofs.Holding.{holds-still}
use Rattle.qp_kernel_runs.specs.Choosing.{IsChosen}
use Rattle.qp_kernel_runs.specs.Seating.{seated}
use Rattle.qp_kernel_runs.specs.SimView.{sim_view}
use Rattle.qp_kernel_runs.specs.declared.world.SimWorld.{SimWorld}
use Rattle.qp_kernel_runs.proofs.Interrupted.{happens-once, kept-once, none-once, stopped-once, none-found, some-found, stopped-first, nothing-acts, rests-there, place-there, done-acted, memory-acted, stopped-acted}
use Rattle.qp_kernel_runs.proofs.interrupting.SimWorldWorld.interrupt.Goals.{then-base, else-base}
use Rattle.qp_kernel_runs.proofs.interrupting.SimWorldWorld.interrupt.Goals as goal

-- a code that is found later was there before
alive : (w : SimWorld) → list_all is_codeless (world_view w.plain).aside.purses ≡ true → w.halted ≡ false
alive w codeless = by w.halted refl
  where
    by : (u : Bool) → w.halted ≡ u → u ≡ false
    by false e = refl
    by true e = let wrong : false ≡ true = sym (w.holds.halts e) ∙ codeless in absurd (cc)

-- a question is no matter of what holds
holds-behind : (w : SimWorld) (p : PlainWorld) → world_view p ≡ asked_once (world_view w.plain) → SimHolds w.stim.now w.begun.items w.last w.halted w.done.list (world_view p)
holds-behind w p e =
    holds-still w.stim.now w.begun.items w.last w.halted w.done.list (world_view w.plain) (world_view p) (ap (λ (v : LaneView). v.told) e) (ap (λ (v : LaneView). v.lane) e)
    (ap (λ (v : LaneView). v.log) e) (ap (λ (v : LaneView). v.aside) e) w.holds

-- the same world, once no code was found
abbrev after : (w : SimWorld) (p : PlainWorld) → world_view p ≡ asked_once (world_view w.plain) → SimWorld
after w p e = record {
  plain = p;
  stim = w.stim;
  begun = w.begun;
  last = w.last;
  halted = w.halted;
  done = w.done;
  holds = holds-behind w p e;
}

codeless-after : (w : SimWorld) (p : PlainWorld) → world_view p ≡ asked_once (world_view w.plain) → list_all is_codeless (world_view w.plain).aside.purses ≡ true → list_all is_codeless (world_view p).aside.purses ≡ true
codeless-after w p e h = ap (λ (v : LaneView). list_all is_codeless v.aside.purses) e ∙ h

still-holds : (w : SimWorld) (p : PlainWorld) (r : Option ℕ) → Stopped (world_view w.plain) (world_view p) r → SimHolds w.stim.now w.begun.items w.last w.halted w.done.list (world_view p)
still-holds w p None h = holds-behind w p h.0
still-holds w p (Some code) h =
    holds-still w.stim.now w.begun.items w.last w.halted w.done.list (world_view w.plain) (world_view p) (ap (λ (v : LaneView). v.told) h.0) (ap (λ (v : LaneView). v.lane) h.0)
    (ap (λ (v : LaneView). v.log) h.0) (ap (λ (v : LaneView). v.aside) h.0) w.holds

pub returns-then-is_some : goal.returns-then-is_some
returns-then-is_some g c =
    let w = c.args.self.now in
    let some : is_some c.stopped.result ≡ true = cc in
    let found = some-found (world_view w.plain) (world_view c.stopped.new.self) c.stopped.result c.stopped.ensures some in
    (refl, stopped-first w.stim.now w.done.list w.plain c.stopped.new.self found.0 found.1 c.args.look c.args.base)

pub returns-in_default : goal.returns-in_default
returns-in_default g c =
    let w = c.args.self.now in
    let none : is_some c.stopped.result ≡ false = cc in
    let found = none-found (world_view w.plain) (world_view c.stopped.new.self) c.stopped.result c.stopped.ensures none in
    let here = after w c.stopped.new.self found.0 in
    let E = all_empty c.stopped.new.self.sys.now (log_in c.stopped.new.self) in
    let resting : c.if-base.rests ≡ (c.args.base && E) =
    elim c.if-base.branch [ then-base b ↦ b.rests-is ∙ b.rests-rests.ensures ∙ sym (ap (λ (x : Bool). x && E) b.if-base.true) | else-base b ↦ b.rests-is ∙ b.if-base.false ∙ sym (ap (λ (x : Bool). x && E) b.if-base.false) ] in
    let is : IsChosen c.if-base.rests w.stim.now w.begun.items w.last None = subst (λ (r : Option ℕ). IsChosen c.if-base.rests w.stim.now w.begun.items w.last r) c.in_default.is c.chosen.ensures in
    none-once c.args.base (sim_view w) (sim_view here)
    (subst (λ (x : LaneView). HasNone true c.args.base x (sim_view here)) (ap (seated w.stim.now w.done.list) found.0)
    (nothing-acts here c.args.sys.now (ap (λ (x : LaneView). x.sys) found.0 ∙ c.requires.made_for) c.args.base c.if-base.rests resting (alive here (codeless-after w c.stopped.new.self found.0 found.1)) is (sim_view here) refl))

pub act-requires-clause-rests : goal.act-requires-clause-rests
act-requires-clause-rests g c =
    let w = c.args.self.now in
    let none : is_some c.stopped.result ≡ false = cc in
    let found = none-found (world_view w.plain) (world_view c.stopped.new.self) c.stopped.result c.stopped.ensures none in
    let here = after w c.stopped.new.self found.0 in
    let E = all_empty c.stopped.new.self.sys.now (log_in c.stopped.new.self) in
    let resting : c.if-base.rests ≡ (c.args.base && E) =
    elim c.if-base.branch [ then-base b ↦ b.rests-is ∙ b.rests-rests.ensures ∙ sym (ap (λ (x : Bool). x && E) b.if-base.true) | else-base b ↦ b.rests-is ∙ b.if-base.false ∙ sym (ap (λ (x : Bool). x && E) b.if-base.false) ] in
    let is : IsChosen c.if-base.rests w.stim.now w.begun.items w.last (Some c.in-Some.j) = subst (λ (r : Option ℕ). IsChosen c.if-base.rests w.stim.now w.begun.items w.last r) c.in-Some.is c.chosen.ensures in
    rests-there here c.args.sys.now (ap (λ (x : LaneView). x.sys) found.0 ∙ c.requires.made_for) c.args.base c.if-base.rests resting (alive here (codeless-after w c.stopped.new.self found.0 found.1)) c.in-Some.j is

pub returns-in-Done : goal.returns-in-Done
returns-in-Done g c =
    let w = c.args.self.now in
    let none : is_some c.stopped.result ≡ false = cc in
    let found = none-found (world_view w.plain) (world_view c.stopped.new.self) c.stopped.result c.stopped.ensures none in
    let here = after w c.stopped.new.self found.0 in
    let E = all_empty c.stopped.new.self.sys.now (log_in c.stopped.new.self) in
    let resting : c.if-base.rests ≡ (c.args.base && E) =
    elim c.if-base.branch [ then-base b ↦ b.rests-is ∙ b.rests-rests.ensures ∙ sym (ap (λ (x : Bool). x && E) b.if-base.true) | else-base b ↦ b.rests-is ∙ b.if-base.false ∙ sym (ap (λ (x : Bool). x && E) b.if-base.false) ] in
    let is : IsChosen c.if-base.rests w.stim.now w.begun.items w.last (Some c.in-Some.j) = subst (λ (r : Option ℕ). IsChosen c.if-base.rests w.stim.now w.begun.items w.last r) c.in-Some.is c.chosen.ensures in
    let made : (world_view c.stopped.new.self).sys ≡ c.args.sys.now = ap (λ (x : LaneView). x.sys) found.0 ∙ c.requires.made_for in
    let live = alive here (codeless-after w c.stopped.new.self found.0 found.1) in
    let a = c.act.ensures in
    let acted : HasActed c.in-Some.j c.args.sys.now c.args.look here c.act.new.self c.act.result =
    record { s = a.s; left = a.left; its = a.its; g = a.g; leaves = a.leaves; happened = a.happened; amounts = a.amounts; plan = a.plan } in
    let few = place-there here c.args.sys.now made c.args.base c.if-base.rests resting live c.in-Some.j is in
    let before = ap (seated w.stim.now w.done.list) found.0 in (
      refl,
      happens-once c.args.look c.args.base (sim_view w) (sim_view c.act.new.self) (subst (λ (x : LaneView). Happens c.args.look c.args.base x (sim_view c.act.new.self)) before
          (done-acted here c.args.sys.now made c.args.base c.if-base.rests resting live c.in-Some.j c.args.look c.act.new.self c.act.result few is acted (subst (λ (x : Stimulated). Amounts c.args.sys.now a.s (get_or w.begun.items c.in-Some.j 0 + 1) c.args.look (length (told_by_source (c.in-Some.j + 1) w.done.list)) a.g (world_view c.stopped.new.self) (world_view c.act.new.self.plain) x) c.in-Done.is a.amounts))),
    )

pub returns-in-Memory : goal.returns-in-Memory
returns-in-Memory g c =
    let w = c.args.self.now in
    let none : is_some c.stopped.result ≡ false = cc in
    let found = none-found (world_view w.plain) (world_view c.stopped.new.self) c.stopped.result c.stopped.ensures none in
    let here = after w c.stopped.new.self found.0 in
    let E = all_empty c.stopped.new.self.sys.now (log_in c.stopped.new.self) in
    let resting : c.if-base.rests ≡ (c.args.base && E) =
    elim c.if-base.branch [ then-base b ↦ b.rests-is ∙ b.rests-rests.ensures ∙ sym (ap (λ (x : Bool). x && E) b.if-base.true) | else-base b ↦ b.rests-is ∙ b.if-base.false ∙ sym (ap (λ (x : Bool). x && E) b.if-base.false) ] in
    let is : IsChosen c.if-base.rests w.stim.now w.begun.items w.last (Some c.in-Some.j) = subst (λ (r : Option ℕ). IsChosen c.if-base.rests w.stim.now w.begun.items w.last r) c.in-Some.is c.chosen.ensures in
    let made : (world_view c.stopped.new.self).sys ≡ c.args.sys.now = ap (λ (x : LaneView). x.sys) found.0 ∙ c.requires.made_for in
    let live = alive here (codeless-after w c.stopped.new.self found.0 found.1) in
    let a = c.act.ensures in
    let acted : HasActed c.in-Some.j c.args.sys.now c.args.look here c.act.new.self c.act.result =
    record { s = a.s; left = a.left; its = a.its; g = a.g; leaves = a.leaves; happened = a.happened; amounts = a.amounts; plan = a.plan } in
    let few = place-there here c.args.sys.now made c.args.base c.if-base.rests resting live c.in-Some.j is in
    let before = ap (seated w.stim.now w.done.list) found.0 in
    (refl, kept-once (sim_view w) (sim_view c.act.new.self) (subst (λ (x : LaneView). IsLaneKept x (sim_view c.act.new.self)) before (memory-acted here c.args.sys.now made c.args.base c.if-base.rests resting live c.in-Some.j c.args.look c.act.new.self c.act.result few is acted)))

pub returns-in-Stopped : goal.returns-in-Stopped
returns-in-Stopped g c =
    let w = c.args.self.now in
    let none : is_some c.stopped.result ≡ false = cc in
    let found = none-found (world_view w.plain) (world_view c.stopped.new.self) c.stopped.result c.stopped.ensures none in
    let here = after w c.stopped.new.self found.0 in
    let E = all_empty c.stopped.new.self.sys.now (log_in c.stopped.new.self) in
    let resting : c.if-base.rests ≡ (c.args.base && E) =
    elim c.if-base.branch [ then-base b ↦ b.rests-is ∙ b.rests-rests.ensures ∙ sym (ap (λ (x : Bool). x && E) b.if-base.true) | else-base b ↦ b.rests-is ∙ b.if-base.false ∙ sym (ap (λ (x : Bool). x && E) b.if-base.false) ] in
    let is : IsChosen c.if-base.rests w.stim.now w.begun.items w.last (Some c.in-Some.j) = subst (λ (r : Option ℕ). IsChosen c.if-base.rests w.stim.now w.begun.items w.last r) c.in-Some.is c.chosen.ensures in
    let made : (world_view c.stopped.new.self).sys ≡ c.args.sys.now = ap (λ (x : LaneView). x.sys) found.0 ∙ c.requires.made_for in
    let live = alive here (codeless-after w c.stopped.new.self found.0 found.1) in
    let a = c.act.ensures in
    let acted : HasActed c.in-Some.j c.args.sys.now c.args.look here c.act.new.self c.act.result =
    record { s = a.s; left = a.left; its = a.its; g = a.g; leaves = a.leaves; happened = a.happened; amounts = a.amounts; plan = a.plan } in
    let few = place-there here c.args.sys.now made c.args.base c.if-base.rests resting live c.in-Some.j is in
    let before = ap (seated w.stim.now w.done.list) found.0 in (
      refl,
      stopped-once c.args.look c.args.base (sim_view w) (seated c.act.new.self.stim.now c.act.new.self.done.list (world_view c.stopped-in-Stopped.new.self)) (subst (λ (x : LaneView). IsStopped c.args.look c.args.base x (seated c.act.new.self.stim.now c.act.new.self.done.list (world_view c.stopped-in-Stopped.new.self))) before
          (stopped-acted here c.args.sys.now made c.args.base c.if-base.rests resting live c.in-Some.j c.args.look c.act.new.self c.act.result few is acted c.stopped-in-Stopped.new.self c.stopped-in-Stopped.result c.stopped-in-Stopped.ensures (subst (λ (x : Stimulated). Amounts c.args.sys.now a.s (get_or w.begun.items c.in-Some.j 0 + 1) c.args.look (length (told_by_source (c.in-Some.j + 1) w.done.list)) a.g (world_view c.stopped.new.self) (world_view c.act.new.self.plain) x) c.in-Stopped.is a.amounts))),
    )

pub invariant_of-self-in-Stopped : goal.invariant_of-self-in-Stopped
invariant_of-self-in-Stopped g c =
    record { holds = still-holds c.act.new.self c.stopped-in-Stopped.new.self c.stopped-in-Stopped.result c.stopped-in-Stopped.ensures }
