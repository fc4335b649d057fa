use Rattle.std.proofs.Common.{rules, ◌≡◌, ◌∙◌, ◌<◌, ◌+◌, nat_le, Bool, true, false, Bor, length, map, get_or, ap, sym, arith}
use Rattle.std.specs.List.{AllWithin}
use Rattle.std.specs.List.Sorted.{IsPartitionPoint, IsPartitionedBy}
use Rattle.std.proofs.lemmas.List.Sorted.{IsPartitionPoint-from_clause}
use Rattle.qp_model.specs.declared.record.Rec.{Rec}
use Rattle.qp_model.specs.Knowing.{event_known}
use Rattle.qp_model.specs.Record.{item_of}
use Rattle.qp_check_knowledge.specs.KnownSteps.{from_of}
use Rattle.qp_check_knowledge.proofs.KnownEventLemmas.{event-at, event-none, steps-parted, up-to}
use Rattle.qp_check_knowledge.proofs.known_steps.event_given.Goals as goal

pub returns-in-Some : goal.returns-in-Some
returns-in-Some c =
    let xs = c.deref.result.now in
    let p : Bor Rec → Bool = λ r. nat_le (from_of (item_of r.now).body) c.args.name in
    let view : map (λ r. item_of r.now) xs ≡ c.args.steps.now = ap (map (λ r. item_of r.now)) c.deref.ensures.value ∙ c.steps.view_is in
    let parted : IsPartitionedBy p xs = steps-parted (λ r. item_of r.now) xs c.args.steps.now view (λ n. nat_le n c.args.name) (up-to c.args.name) c.requires in
    let point : IsPartitionPoint (λ r. p r ≡ true) (λ r. p r ≡ false) xs c.partition_point-passed.result =
    IsPartitionPoint-from_clause p xs c.partition_point-passed.result c.partition_point-passed.ensures.partitioned parted (λ a r q k. search rules) in
    let n = c.in-Some.last in
    let x = c.index.result.now in
    let next : n + 1 ≡ c.partition_point-passed.result = omega (arith, c.in-Some.ensures) in
    let lt : n < length xs = omega (arith, next, c.partition_point-passed.ensures.bound) in
    let is : x ≡ get_or xs n x = c.index.ensures ∙ ap (λ l. get_or l n x) (sym c.deref.ensures.value) in
    let early : p x ≡ true = ap p is ∙ point.0 n x (omega arith) (omega (arith, next)) in
    let past : AllWithin (λ r. p r ≡ false) xs (n + 1) (length xs) = rw next point.1 in
    c.event_in.ensures ∙ ap event_known (sym (event-at (λ r. item_of r.now) xs c.args.steps.now view c.args.name n x lt is early past))

pub returns-in-None : goal.returns-in-None
returns-in-None c =
    let xs = c.deref.result.now in
    let p : Bor Rec → Bool = λ r. nat_le (from_of (item_of r.now).body) c.args.name in
    let view : map (λ r. item_of r.now) xs ≡ c.args.steps.now = ap (map (λ r. item_of r.now)) c.deref.ensures.value ∙ c.steps.view_is in
    let parted : IsPartitionedBy p xs = steps-parted (λ r. item_of r.now) xs c.args.steps.now view (λ n. nat_le n c.args.name) (up-to c.args.name) c.requires in
    let point : IsPartitionPoint (λ r. p r ≡ true) (λ r. p r ≡ false) xs c.partition_point-passed.result =
    IsPartitionPoint-from_clause p xs c.partition_point-passed.result c.partition_point-passed.ensures.partitioned parted (λ a r q k. search rules) in
    let none : c.partition_point-passed.result ≡ 0 = omega (arith, c.in-None.ensures) in
    let past : AllWithin (λ r. p r ≡ false) xs 0 (length xs) = rw (← none) point.1 in
    ap event_known (sym (event-none (λ r. item_of r.now) xs c.args.steps.now view c.args.name past))
