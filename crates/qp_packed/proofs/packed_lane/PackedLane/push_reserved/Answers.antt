use Rattle.std.proofs.Common.{◌≡◌, ◌∙◌, ◌+◌, ◌*◌, ◌++◌, arith, refl}
use Rattle.qp_packed.specs.Packing.{PackedRecord, packed_one}
use Rattle.qp_packed.proofs.NumberLemmas.{marks-few}
use Rattle.qp_packed.proofs.PushLemmas.{is-more}
use Rattle.qp_packed.proofs.RecordLemmas.{pushed}
use Rattle.qp_packed.proofs.TailLemmas.{count-words}
use Rattle.qp_packed.proofs.packed_lane.PackedLane.push_reserved.Goals as goal

pub overflow_mul-head-2 : goal.overflow_mul-head-2
overflow_mul-head-2 c = let k = marks-few c.args.numbers.now c.requires.few in omega (arith, c.marks_of.ensures, k)

pub overflow_add-head-2 : goal.overflow_add-head-2
overflow_add-head-2 c = let k = marks-few c.args.numbers.now c.requires.few in omega (arith, c.marks_of.ensures, k, c.from.ensures, c.from-2.ensures)

pub overflow_add-self : goal.overflow_add-self
overflow_add-self c =
    let s = c.args.self.now in
    record { fits = omega (arith, count-words s.count s.words.items s.packed, s.words.ok.0, s.words.ok.1, s.words.small) }

pub invariant_of-self : goal.invariant_of-self
invariant_of-self c =
    let s = c.args.self.now in
    let r : PackedRecord = record { kind = c.args.kind; of = c.args.of; numbers = c.args.numbers.now } in
    let longer : c.add_numbers.new.words.items ≡ s.words.items ++ packed_one r
    = pushed s.words.items s.words.items c.push_reserved.new.self.items c.add_numbers.new.words.items r (c.from.result + 256 * c.from-2.result + 65536 * c.marks_of.result) c.args.numbers.now
    refl c.push_reserved.ensures.items c.add_numbers.ensures.items (rw (c.from.ensures, c.from-2.ensures, c.marks_of.ensures) refl) refl in
    let more = is-more s.count s.last c.len-at.result s.words.items c.add_numbers.new.words.items r s.packed s.last_is (c.len-at.ensures ∙ s.words.ok.0)
    (record { kind = c.ranges.kind.fits; of = c.ranges.of.fits; few = c.requires.few }) longer in
    record { packed = more.packed; last_is = more.last_is; last_but_one_is = more.last_but_one_is }

pub returns-clause-records : goal.returns-clause-records
returns-clause-records c =
    let s = c.args.self.now in
    let r : PackedRecord = record { kind = c.args.kind; of = c.args.of; numbers = c.args.numbers.now } in
    let longer : c.add_numbers.new.words.items ≡ s.words.items ++ packed_one r
    = pushed s.words.items s.words.items c.push_reserved.new.self.items c.add_numbers.new.words.items r (c.from.result + 256 * c.from-2.result + 65536 * c.marks_of.result) c.args.numbers.now
    refl c.push_reserved.ensures.items c.add_numbers.ensures.items (rw (c.from.ensures, c.from-2.ensures, c.marks_of.ensures) refl) refl in
    (is-more s.count s.last c.len-at.result s.words.items c.add_numbers.new.words.items r s.packed s.last_is (c.len-at.ensures ∙ s.words.ok.0)
    (record { kind = c.ranges.kind.fits; of = c.ranges.of.fits; few = c.requires.few }) longer).records
