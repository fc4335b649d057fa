use Rattle.std.proofs.Common.{◌-◌, ◌∙◌, length, arith}
use Rattle.qp_packed.specs.Lanes.{lane_unpacked}
use Rattle.qp_packed.proofs.TailLemmas.{place-within, tail-packed}
use Rattle.qp_packed.proofs.packed_lane.PackedLane.tail.Goals as goal

pub words_from-requires : goal.words_from-requires
words_from-requires c =
    let s = c.args.self.now in
    rw (c.deref.ensures.value, c.requires) (place-within s.count (length (lane_unpacked s) - c.args.most) s.words.items s.packed)

pub over-requires : goal.over-requires
over-requires c =
    let s = c.args.self.now in
    rw (c.words_from.ensures, c.deref.ensures.value, c.requires)
    (tail-packed s.count (length (lane_unpacked s) - c.args.most) (s.count - c.saturating_sub-before.result) s.words.items s.packed (omega (arith, c.saturating_sub-before.ensures, s.packed.count))).1

pub returns : goal.returns
returns c =
    let s = c.args.self.now in
    c.over.ensures ∙ rw (c.words_from.ensures, c.deref.ensures.value, c.requires)
    (tail-packed s.count (length (lane_unpacked s) - c.args.most) (s.count - c.saturating_sub-before.result) s.words.items s.packed (omega (arith, c.saturating_sub-before.ensures, s.packed.count))).0
