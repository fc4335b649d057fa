use borrow.Author.Rules.{rules}
use borrow.Author.Tests.{tests}
use Rattle.std.proofs.Common.{◌≡◌, arith}
use Rattle.qp_model.specs.declared.bodies.Body.TheVariants.{Short, Inc, Dec, Back, Post, Lifo, Full, Pub, Lock}
use Rattle.qp_model.specs.Record.{entry, body_at}
use Rattle.qp_model.proofs.ReadingLemmas.{above-five, above-four, above-one, above-seven, above-six, above-three, below-five, below-four, below-one, below-seven, below-six, below-three, is-five, is-four, is-one, is-seven, is-six, is-three}
use Rattle.qp_model.proofs.reading.of_event.Goals as goal
use Rattle.qp_model.proofs.reading.of_event.Goals.{in_default-nums-via-then-nums-lt4, in_default-nums-via-else-nums-lt4+else-nums-lt5, in_default-nums-2-via-then-nums-lt3, in_default-nums-2-via-else-nums-lt3+else-nums-lt4-2, in_default-nums-3-via-then-nums-lt4-3, in_default-nums-3-via-else-nums-lt4-3+else-nums-lt5-2, in_default-nums-4-via-then-nums-lt4-4, in_default-nums-4-via-else-nums-lt4-4+else-nums-lt5-3, in_default-nums-5-via-then-nums-lt7, in_default-nums-5-via-else-nums-lt7+else-nums-lt8, in_default-nums-6-via-then-nums-lt6, in_default-nums-6-via-else-nums-lt6+else-nums-lt7-2, in_default-nums-7-via-then-nums-lt5-4, in_default-nums-7-via-else-nums-lt5-4+else-nums-lt6-2, in_default-nums-8-via-then-nums-lt3-2, in_default-nums-8-via-else-nums-lt3-2+else-nums-lt4-5, in_default-nums-9-via-then-nums-lt1, in_default-nums-9-via-else-nums-lt1+else-nums-lt2}

pub returns-in-len4 : goal.returns-in-len4
unfolding body_at
returns-in-len4 c = rw c.in-16.is (is-four Short c.args.nums.now c.in-len4.len_at_least c.in-len4.len_below)

pub returns-in_default-nums : goal.returns-in_default-nums
unfolding body_at
returns-in_default-nums c =
    elim c.in_default-nums.branch [
      | in_default-nums-via-then-nums-lt4 w ↦ rw c.in-16.is (below-four Short c.args.nums.now (search (tests, rules)))
      | in_default-nums-via-else-nums-lt4+else-nums-lt5 w ↦ rw c.in-16.is (above-four Short c.args.nums.now (search (tests, rules)))
    ]

pub returns-in-len3 : goal.returns-in-len3
unfolding body_at
returns-in-len3 c = rw c.in-17.is (is-three Inc c.args.nums.now c.in-len3.len_at_least c.in-len3.len_below)

pub returns-in_default-nums-2 : goal.returns-in_default-nums-2
unfolding body_at
returns-in_default-nums-2 c =
    elim c.in_default-nums-2.branch [
      | in_default-nums-2-via-then-nums-lt3 w ↦ rw c.in-17.is (below-three Inc c.args.nums.now (search (tests, rules)))
      | in_default-nums-2-via-else-nums-lt3+else-nums-lt4-2 w ↦ rw c.in-17.is (above-three Inc c.args.nums.now (search (tests, rules)))
    ]

pub returns-in-len4-nums : goal.returns-in-len4-nums
unfolding body_at
returns-in-len4-nums c = rw c.in-18.is (is-four Dec c.args.nums.now c.in-len4-nums.len_at_least c.in-len4-nums.len_below)

pub returns-in_default-nums-3 : goal.returns-in_default-nums-3
unfolding body_at
returns-in_default-nums-3 c =
    elim c.in_default-nums-3.branch [
      | in_default-nums-3-via-then-nums-lt4-3 w ↦ rw c.in-18.is (below-four Dec c.args.nums.now (search (tests, rules)))
      | in_default-nums-3-via-else-nums-lt4-3+else-nums-lt5-2 w ↦ rw c.in-18.is (above-four Dec c.args.nums.now (search (tests, rules)))
    ]

pub returns-in-len4-nums-2 : goal.returns-in-len4-nums-2
unfolding body_at
returns-in-len4-nums-2 c = rw c.in-19.is (is-four Back c.args.nums.now c.in-len4-nums-2.len_at_least c.in-len4-nums-2.len_below)

pub returns-in_default-nums-4 : goal.returns-in_default-nums-4
unfolding body_at
returns-in_default-nums-4 c =
    elim c.in_default-nums-4.branch [
      | in_default-nums-4-via-then-nums-lt4-4 w ↦ rw c.in-19.is (below-four Back c.args.nums.now (search (tests, rules)))
      | in_default-nums-4-via-else-nums-lt4-4+else-nums-lt5-3 w ↦ rw c.in-19.is (above-four Back c.args.nums.now (search (tests, rules)))
    ]

pub returns-in-len7 : goal.returns-in-len7
unfolding body_at
returns-in-len7 c = rw c.in-20.is (is-seven (λ a f l m p b r. Post a f l m (entry p b r)) c.args.nums.now c.in-len7.len_at_least c.in-len7.len_below)

pub returns-in_default-nums-5 : goal.returns-in_default-nums-5
unfolding body_at
returns-in_default-nums-5 c =
    elim c.in_default-nums-5.branch [
      | in_default-nums-5-via-then-nums-lt7 w ↦ rw c.in-20.is (below-seven (λ a f l m p b r. Post a f l m (entry p b r)) c.args.nums.now (search (tests, rules)))
      | in_default-nums-5-via-else-nums-lt7+else-nums-lt8 w ↦ rw c.in-20.is (above-seven (λ a f l m p b r. Post a f l m (entry p b r)) c.args.nums.now (search (tests, rules)))
    ]

pub returns-in-len6 : goal.returns-in-len6
unfolding body_at
returns-in-len6 c = rw c.in-21.is (is-six (λ f l m p b r. Lifo f l m (entry p b r)) c.args.nums.now c.in-len6.len_at_least c.in-len6.len_below)

pub returns-in_default-nums-6 : goal.returns-in_default-nums-6
unfolding body_at
returns-in_default-nums-6 c =
    elim c.in_default-nums-6.branch [
      | in_default-nums-6-via-then-nums-lt6 w ↦ rw c.in-21.is (below-six (λ f l m p b r. Lifo f l m (entry p b r)) c.args.nums.now (search (tests, rules)))
      | in_default-nums-6-via-else-nums-lt6+else-nums-lt7-2 w ↦ rw c.in-21.is (above-six (λ f l m p b r. Lifo f l m (entry p b r)) c.args.nums.now (search (tests, rules)))
    ]

pub returns-in-len5 : goal.returns-in-len5
unfolding body_at
returns-in-len5 c = rw c.in-22.is (is-five Full c.args.nums.now c.in-len5.len_at_least c.in-len5.len_below)

pub returns-in_default-nums-7 : goal.returns-in_default-nums-7
unfolding body_at
returns-in_default-nums-7 c =
    elim c.in_default-nums-7.branch [
      | in_default-nums-7-via-then-nums-lt5-4 w ↦ rw c.in-22.is (below-five Full c.args.nums.now (search (tests, rules)))
      | in_default-nums-7-via-else-nums-lt5-4+else-nums-lt6-2 w ↦ rw c.in-22.is (above-five Full c.args.nums.now (search (tests, rules)))
    ]

pub returns-in-len3-nums : goal.returns-in-len3-nums
unfolding body_at
returns-in-len3-nums c = rw c.in-23.is (is-three Pub c.args.nums.now c.in-len3-nums.len_at_least c.in-len3-nums.len_below)

pub returns-in_default-nums-8 : goal.returns-in_default-nums-8
unfolding body_at
returns-in_default-nums-8 c =
    elim c.in_default-nums-8.branch [
      | in_default-nums-8-via-then-nums-lt3-2 w ↦ rw c.in-23.is (below-three Pub c.args.nums.now (search (tests, rules)))
      | in_default-nums-8-via-else-nums-lt3-2+else-nums-lt4-5 w ↦ rw c.in-23.is (above-three Pub c.args.nums.now (search (tests, rules)))
    ]

pub returns-in-len1 : goal.returns-in-len1
unfolding body_at
returns-in-len1 c = let is : c.args.kind ≡ 24 = omega arith in rw is (is-one Lock c.args.nums.now c.in-len1.len_at_least c.in-len1.len_below)

pub returns-in_default-nums-9 : goal.returns-in_default-nums-9
unfolding body_at
returns-in_default-nums-9 c =
    elim c.in_default-nums-9.branch [
      | in_default-nums-9-via-then-nums-lt1 w ↦ let is : c.args.kind ≡ 24 = omega arith in rw is (below-one Lock c.args.nums.now (search (tests, rules)))
      | in_default-nums-9-via-else-nums-lt1+else-nums-lt2 w ↦ let is : c.args.kind ≡ 24 = omega arith in rw is (above-one Lock c.args.nums.now (search (tests, rules)))
    ]
