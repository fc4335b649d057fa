use Rattle.std.proofs.Common.{◌≡◌, ℕ, List, get_or, slice_set, sym, ◌∙◌, ap, arith}
use Rattle.std.proofs.lemmas.List.{length-set, set-get_or}
use Rattle.qp_calls_log.specs.declared.log.Log.{Log}
use Rattle.qp_plain.specs.Books.{all_places}
use Rattle.qp_model.proofs.ListLemmas.{slice_set-twice}
use Rattle.qp_plain.proofs.book.Book.go.Goals as goal

-- two swaps leave all lanes as they were
same-logs : (xs : List Log) (at next : ℕ) (here there then : Log) → there ≡ get_or (slice_set xs at here) next there
    → slice_set (slice_set (slice_set xs at here) next then) next there ≡ slice_set xs at here
same-logs xs at next here there then is = slice_set-twice (slice_set xs at here) next then there ∙ ap (slice_set (slice_set xs at here) next) is ∙ set-get_or (slice_set xs at here) next there

-- what was found at a place stands there
found : (xs : List Log) (next : ℕ) (new was : Log) → new ≡ was → was ≡ get_or xs next was → new ≡ get_or xs next new
found xs next new was is at = is ∙ at ∙ ap (get_or xs next) (sym is)

pub index_mut-requires-2 : goal.index_mut-requires-2
index_mut-requires-2 c =
    let s = c.args.self.now in
    let ok = s.others.ok in
    omega (arith, c.requires, ok.0)

pub invariant_of-self : goal.invariant_of-self
invariant_of-self c =
    let s = c.args.self.now in
    let first = length-set s.others.items s.at c.swap.new.y in
    let second = length-set (slice_set s.others.items s.at c.swap.new.y) c.args.lane c.swap-2.new.y in
    let there = found (slice_set s.others.items s.at c.swap.new.y) c.args.lane c.swap-2.new.x c.index_mut-2.result.now c.swap-2.ensures.x_after c.index_mut-2.ensures.value in
    let logs = same-logs s.others.items s.at c.args.lane c.swap.new.y c.swap-2.new.x c.swap-2.new.y there ∙ ap (slice_set s.others.items s.at) c.swap.ensures.y_after in
    record {
      within = omega (arith, first, second, c.requires);
      few = omega (arith, first, second, s.few);
      room = s.room ∙ sym (ap all_places logs);
      ordered = s.ordered;
    }

pub overflow_cast-result : goal.overflow_cast-result
overflow_cast-result c = let s = c.args.self.now in record { fits = omega (arith, s.within, s.few) }

pub returns-clause-logs : goal.returns-clause-logs
returns-clause-logs c =
    let s = c.args.self.now in
    let there = found (slice_set s.others.items s.at c.swap.new.y) c.args.lane c.swap-2.new.x c.index_mut-2.result.now c.swap-2.ensures.x_after c.index_mut-2.ensures.value in
    same-logs s.others.items s.at c.args.lane c.swap.new.y c.swap-2.new.x c.swap-2.new.y there ∙ ap (slice_set s.others.items s.at) c.swap.ensures.y_after

pub returns-clause-lanes : goal.returns-clause-lanes
returns-clause-lanes c =
    let s = c.args.self.now in
    length-set (slice_set s.others.items s.at c.swap.new.y) c.args.lane c.swap-2.new.y ∙ length-set s.others.items s.at c.swap.new.y
