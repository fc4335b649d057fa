-- The laws of the layout.
use Rattle.std.proofs.Common.{arith}
use Rattle.qp_model.specs.Sites.{blocks_of}
use Rattle.qp_table.specs.WordLaws.{WordsStandApart, EventWordsStandApart, WordsAreReadBack, NumbersCountOperations, ReferencesDiffer}
use Rattle.qp_table.proofs.Bounds.{pool-ascends, refs-count, refs-once, map-small}
use Rattle.qp_table.proofs.Marks.{line-shows, pool-mark, block-mark, queue-mark}

pub words_stand_apart : WordsStandApart
words_stand_apart p q b c a d i j lp lq lb lc la ld li lj = (omega arith, omega arith, omega arith, omega arith, omega arith, omega arith, omega arith, (λ e. omega arith), (λ e. (omega arith, omega arith)), (λ e. omega arith), (λ e. (omega arith, omega arith)))

pub event_words_stand_apart : EventWordsStandApart
event_words_stand_apart p q b c i j lp lq lb lc li lj = (omega arith, omega arith, λ e. (omega arith, omega arith, omega arith))

pub words_are_read_back : WordsAreReadBack
words_are_read_back sys words views holds = (
  (λ p h. let x = holds.shows.pools p h in let z = holds.fitting.small p h in let s = map-small (blocks_of sys p) (holds.now.pool p).free z.1 (pool-ascends sys holds.lanes holds.now holds.leaves holds.logs.count holds.logs.room p h) in (omega arith, omega arith)),
  (λ p b h. let x = holds.shows.blocks p b h in let r = refs-count sys holds.lanes holds.now holds.leaves holds.logs.count holds.logs.room p b h in let r0 = r.0 in let r1 = r.1 in (omega arith, omega arith)),
  λ a h. line-shows sys words views holds a h,
)

pub numbers_count_operations : NumbersCountOperations
numbers_count_operations sys words views holds = (pool-mark sys words views holds, block-mark sys words views holds, queue-mark sys words views holds)

pub references_differ : ReferencesDiffer
references_differ sys words views holds p b k h = refs-once sys holds.lanes holds.now holds.leaves holds.logs.count holds.logs.room p b h k
