use borrow.Author.Rules.{rules}
use borrow.Author.Tests.{tests}
use Rattle.std.proofs.Common.{◌≡◌, arith}
use Rattle.qp_model.specs.declared.bodies.Body.TheVariants.{Spent, Spill, Look, Rest}
use Rattle.qp_model.specs.Record.{body_at}
use Rattle.qp_model.proofs.ReadingLemmas.{above-bare, above-one, above-two, below-one, below-two, is-bare, is-one, is-two}
use Rattle.qp_model.proofs.ending.of_end.Goals as goal
use Rattle.qp_model.proofs.ending.of_end.Goals.{in_default-nums-2-via-then-nums-lt1-2, in_default-nums-2-via-else-nums-lt1-2+else-nums-lt2, in_default-nums-3-via-then-nums-lt2-2, in_default-nums-3-via-else-nums-lt2-2+else-nums-lt3, in_default-nums-4-via-then-nums-lt1-3, in_default-nums-4-via-else-nums-lt1-3+else-nums-lt2-3}

pub returns-in-empty : goal.returns-in-empty
unfolding body_at
returns-in-empty c = rw c.in-43.is (is-bare Spent c.args.nums.now c.in-empty.len_below)

pub returns-in_default-nums : goal.returns-in_default-nums
unfolding body_at
returns-in_default-nums c = rw c.in-43.is (above-bare Spent c.args.nums.now c.in_default-nums.len_at_least)

pub returns-in-len1 : goal.returns-in-len1
unfolding body_at
returns-in-len1 c = rw c.in-44.is (is-one Spill c.args.nums.now c.in-len1.len_at_least c.in-len1.len_below)

pub returns-in_default-nums-2 : goal.returns-in_default-nums-2
unfolding body_at
returns-in_default-nums-2 c =
    elim c.in_default-nums-2.branch [
      | in_default-nums-2-via-then-nums-lt1-2 w ↦ rw c.in-44.is (below-one Spill c.args.nums.now (search (tests, rules)))
      | in_default-nums-2-via-else-nums-lt1-2+else-nums-lt2 w ↦ rw c.in-44.is (above-one Spill c.args.nums.now (search (tests, rules)))
    ]

pub returns-in-len2 : goal.returns-in-len2
unfolding body_at
returns-in-len2 c = rw c.in-45.is (is-two Look c.args.nums.now c.in-len2.len_at_least c.in-len2.len_below)

pub returns-in_default-nums-3 : goal.returns-in_default-nums-3
unfolding body_at
returns-in_default-nums-3 c =
    elim c.in_default-nums-3.branch [
      | in_default-nums-3-via-then-nums-lt2-2 w ↦ rw c.in-45.is (below-two Look c.args.nums.now (search (tests, rules)))
      | in_default-nums-3-via-else-nums-lt2-2+else-nums-lt3 w ↦ rw c.in-45.is (above-two Look c.args.nums.now (search (tests, rules)))
    ]

pub returns-in-len1-nums : goal.returns-in-len1-nums
unfolding body_at
returns-in-len1-nums c = let is : c.args.kind ≡ 46 = omega arith in rw is (is-one Rest c.args.nums.now c.in-len1-nums.len_at_least c.in-len1-nums.len_below)

pub returns-in_default-nums-4 : goal.returns-in_default-nums-4
unfolding body_at
returns-in_default-nums-4 c =
    elim c.in_default-nums-4.branch [
      | in_default-nums-4-via-then-nums-lt1-3 w ↦ let is : c.args.kind ≡ 46 = omega arith in rw is (below-one Rest c.args.nums.now (search (tests, rules)))
      | in_default-nums-4-via-else-nums-lt1-3+else-nums-lt2-3 w ↦ let is : c.args.kind ≡ 46 = omega arith in rw is (above-one Rest c.args.nums.now (search (tests, rules)))
    ]
