use Rattle.std.proofs.Common.{◌≡◌, ℕ, ◌+◌, ◌<◌, ◌≤◌, Bool, false, refl, List, [], ◌∷◌, length, get_or, slice_set, sym, ◌∙◌, ap, subst, arith}
use Rattle.std.proofs.lemmas.List.{length-map}
use Rattle.qp_model.specs.declared.stimulus.Stim.{Stim}
use Rattle.qp_model.specs.Told.{for_object}
use Rattle.qp_calls.specs.LaneView.{Happening}
use Rattle.qp_calls.specs.Notes.{spills_told}
use Rattle.qp_kernel.specs.Happenings.{told_by_source}
use Rattle.qp_plain.specs.NewWorld.{chosen}
use Rattle.qp_plain.specs.WorldView.{world_view}
use Rattle.qp_kernel_runs.specs.declared.world.SimWorld.{SimWorld}
use Rattle.qp_kernel_runs.specs.Acting.{is_halt}
use Rattle.qp_kernel_runs.specs.SimHolds.{SimHolds}
use Rattle.qp_kernel_runs.specs.Visiting.{Amounts}
use Rattle.qp_kernel_runs.proofs.Acted.{next-is, begun-few, none-spilled, told-few, holds-after}
use Rattle.qp_kernel_runs.proofs.Worlds.{lane-is, long-aside, told-other}
use Rattle.qp_kernel_runs.proofs.world.SimWorld.act.Goals as goal

still : (w : SimWorld) → w.halted ≡ false → SimHolds w.stim.now w.begun.items w.last false w.done.list (world_view w.plain)
still w live = subst (λ (b : Bool). SimHolds w.stim.now w.begun.items w.last b w.done.list (world_view w.plain)) live w.holds

home : (w : SimWorld) → chosen w.plain ≡ 0
home w = sym (lane-is w.plain) ∙ w.holds.home

-- the lane of the source in this place has as many records as it tells
had : (w : SimWorld) (j : ℕ) → j < length w.stim.now → length (get_or (world_view w.plain).aside.told (j + 1) []) ≡ length (told_by_source (j + 1) w.done.list)
had w j lt = ap length (w.holds.sources (j + 1) (omega arith) (omega (arith, lt))) ∙ length-map (told_by_source (j + 1) w.done.list) (for_object 0)

few : (w : SimWorld) (j n : ℕ) → w.halted ≡ false → j < length w.stim.now → n ≡ get_or w.begun.items j 0 → n ≤ 1000001
few w j n live lt is =
    let counts = (still w live).counts refl in
    let begun = counts.begun_are j lt in
    let told = begun-few (j + 1) w.done.list counts.whole in
    let long = had w j lt in
    let at = home w in
    let there = ap length (told-other w.plain (j + 1) (λ e. omega (arith, e, at))) in
    let most = told-few w.plain (j + 1) in
    omega (arith, begun, told, long, there, most, is)

pub overflow_add-place : goal.overflow_add-place
overflow_add-place g c =
    let w = c.args.self.now in
    let n = next-is w.stim.now w.begun.items c.args.j c.index-at.result.now c.index-mine.result.now c.index-s.result.now (cc) (cc) (cc) c.requires.place w.holds.counted c.requires.left in
    let le = few w c.args.j c.index-at.result.now c.requires.live c.requires.place n.number in
    record { fits = omega (arith, le) }

pub visit-answer-requires-clause-home : goal.visit-answer-requires-clause-home
visit-answer-requires-clause-home g c = home c.args.self.now

pub visit-answer-requires-clause-within : goal.visit-answer-requires-clause-within
visit-answer-requires-clause-within g c =
    let w = c.args.self.now in
    let long = long-aside w.plain in
    omega (arith, long, w.holds.lanes, c.requires.place)

pub visit-answer-requires-clause-spills : goal.visit-answer-requires-clause-spills
visit-answer-requires-clause-spills g c =
    let w = c.args.self.now in
    ap spills_told (w.holds.sources (c.args.j + 1) (omega arith) (omega (arith, c.requires.place)))
    ∙ none-spilled (c.args.j + 1) w.done.list ((still w c.requires.live).counts refl).calm

pub visit-answer-requires-clause-rests : goal.visit-answer-requires-clause-rests
visit-answer-requires-clause-rests g c = λ e.
    let w = c.args.self.now in
    let n = next-is w.stim.now w.begun.items c.args.j c.index-at.result.now c.index-mine.result.now c.index-s.result.now (cc) (cc) (cc) c.requires.place w.holds.counted c.requires.left in
    c.requires.rests n.left (n.its ∙ ap (λ (s : Stim). s ∷ n.left) e)

pub invariant_of-self : goal.invariant_of-self
invariant_of-self g c =
    let w = c.args.self.now in
    let n = next-is w.stim.now w.begun.items c.args.j c.index-at.result.now c.index-mine.result.now c.index-s.result.now (cc) (cc) (cc) c.requires.place w.holds.counted c.requires.left in
    let visit = c.visit-answer.ensures in
    let place = c.index-at.result.now + 1 in
    record {
      holds =
          subst (λ (b : Bool). SimHolds w.stim.now (slice_set w.begun.items c.args.j place) (c.args.j + 1) b c.visit-answer.result.1.list (world_view c.visit-answer.new.plain)) (sym c.stops_run-self.ensures)
          (subst (λ (hs : List Happening). SimHolds w.stim.now (slice_set w.begun.items c.args.j place) (c.args.j + 1) (is_halt c.visit-answer.result.0) hs (world_view c.visit-answer.new.plain))
          (sym visit.more_are)
          (holds-after w.stim.now w.begun.items w.last w.done.list (world_view w.plain) (world_view c.visit-answer.new.plain) (still w c.requires.live) c.args.sys.now c.index-s.result.now n.left
          c.args.j c.args.look place c.requires.place n.its (ap (λ (k : ℕ). k + 1) n.number) visit.g visit.leaves c.visit-answer.result.0 _ visit.amounts));
    }

pub returns : goal.returns
returns g c =
    let w = c.args.self.now in
    let n = next-is w.stim.now w.begun.items c.args.j c.index-at.result.now c.index-mine.result.now c.index-s.result.now (cc) (cc) (cc) c.requires.place w.holds.counted c.requires.left in
    let visit = c.visit-answer.ensures in
    record {
      s = c.index-s.result.now;
      left = n.left;
      its = n.its;
      g = visit.g;
      leaves = visit.leaves;
      happened = visit.more_are;
      amounts =
          subst (λ (k : ℕ). Amounts c.args.sys.now c.index-s.result.now (k + 1) c.args.look (length (told_by_source (c.args.j + 1) w.done.list)) visit.g (world_view w.plain) (world_view c.visit-answer.new.plain) c.visit-answer.result.0) n.number
          (subst (λ (k : ℕ). Amounts c.args.sys.now c.index-s.result.now (c.index-at.result.now + 1) c.args.look k visit.g (world_view w.plain) (world_view c.visit-answer.new.plain) c.visit-answer.result.0)
          (had w c.args.j c.requires.place) visit.amounts);
      plan = refl;
    }
