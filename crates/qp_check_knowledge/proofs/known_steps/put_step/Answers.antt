use Rattle.std.proofs.Common.{rules, ◌≡◌, ◌∙◌, ◌<◌, ◌≤◌, ◌++◌, ◌∷◌, [], ℕ, nat_lt, Bool, true, false, Bor, length, map, take, get_or, ap, sym, subst, arith}
use Rattle.std.specs.List.Sorted.{IsPartitionPoint, IsPartitionedBy, IsNonDecreasingBy}
use Rattle.std.proofs.lemmas.List.{map-append, take-map}
use Rattle.std.proofs.lemmas.List.Sorted.{IsPartitionPoint-from_clause}
use Rattle.qp_model.specs.declared.record.Rec.{Rec}
use Rattle.qp_model.specs.Record.{Item, item_of}
use Rattle.qp_check_knowledge.specs.KnownSteps.{AreSteps, from_of}
use Rattle.qp_check_knowledge.proofs.KnownEventLemmas.{items-passed, long-items, step-put, step-rise, steps-parted, up-below}
use Rattle.qp_check_knowledge.proofs.known_steps.put_step.Goals as goal

pub returns-clause-steps : goal.returns-clause-steps
returns-clause-steps c = λ given are.
    let f : Bor Rec → Item = λ r. item_of r.now in
    let item = item_of c.args.r.now in
    let steps = c.args.steps.now in
    let xs = c.deref.result.now in
    let k = c.partition_point-kept.result in
    let p : Bor Rec → Bool = λ r. nat_lt (from_of (item_of r.now).body) c.from_of-from.result in
    let view : map f xs ≡ steps = ap (map f) c.deref.ensures.value ∙ c.steps.view_is in
    let parted : IsPartitionedBy p xs = steps-parted f xs steps view (λ n. nat_lt n c.from_of-from.result) (up-below c.from_of-from.result) c.requires in
    let point : IsPartitionPoint (λ r. p r ≡ true) (λ r. p r ≡ false) xs k = IsPartitionPoint-from_clause p xs k c.partition_point-kept.ensures.partitioned parted (λ a r q j. search rules) in
    let within : k ≤ length steps = omega (arith, c.partition_point-kept.ensures.bound, long-items f xs steps view) in
    let below : (j : ℕ) (d : Item) → j < k → nat_lt (from_of (get_or steps j d).body) (from_of item.body) ≡ true = λ j d lt.
    ap (λ m. nat_lt (from_of (get_or steps j d).body) m) (sym c.from_of-from.ensures)
    ∙ items-passed f xs steps view (λ n. nat_lt n c.from_of-from.result) true 0 k c.partition_point-kept.ensures.bound point.0 c.args.r j d (omega arith) lt in
    let above : (j : ℕ) (d : Item) → k ≤ j → j < length steps → nat_lt (from_of (get_or steps j d).body) (from_of item.body) ≡ false = λ j d ge lt.
    ap (λ m. nat_lt (from_of (get_or steps j d).body) m) (sym c.from_of-from.ensures)
    ∙ items-passed f xs steps view (λ n. nat_lt n c.from_of-from.result) false k (length xs) (omega arith) point.1 c.args.r j d ge (omega (arith, lt, long-items f xs steps view)) in
    let now : map f c.push.new.self.items ≡ take k steps ++ item ∷ [] =
    ap (map f) (c.in_ok-push.ensures.items ∙ ap (λ l. l ++ c.args.r ∷ []) c.truncate.ensures.items)
    ∙ map-append f (take k c.steps.inside.items.items) (c.args.r ∷ []) ∙ ap (λ l. l ++ item ∷ []) (sym (take-map f k c.steps.inside.items.items) ∙ ap (take k) c.steps.view_is) in
    subst (λ l. AreSteps (given ++ item ∷ []) l) (sym now) (step-put steps k item within c.requires below above given are)

pub returns-clause-rise : goal.returns-clause-rise
returns-clause-rise c =
    let f : Bor Rec → Item = λ r. item_of r.now in
    let item = item_of c.args.r.now in
    let steps = c.args.steps.now in
    let xs = c.deref.result.now in
    let k = c.partition_point-kept.result in
    let p : Bor Rec → Bool = λ r. nat_lt (from_of (item_of r.now).body) c.from_of-from.result in
    let view : map f xs ≡ steps = ap (map f) c.deref.ensures.value ∙ c.steps.view_is in
    let parted : IsPartitionedBy p xs = steps-parted f xs steps view (λ n. nat_lt n c.from_of-from.result) (up-below c.from_of-from.result) c.requires in
    let point : IsPartitionPoint (λ r. p r ≡ true) (λ r. p r ≡ false) xs k = IsPartitionPoint-from_clause p xs k c.partition_point-kept.ensures.partitioned parted (λ a r q j. search rules) in
    let within : k ≤ length steps = omega (arith, c.partition_point-kept.ensures.bound, long-items f xs steps view) in
    let below : (j : ℕ) (d : Item) → j < k → nat_lt (from_of (get_or steps j d).body) (from_of item.body) ≡ true = λ j d lt.
    ap (λ m. nat_lt (from_of (get_or steps j d).body) m) (sym c.from_of-from.ensures)
    ∙ items-passed f xs steps view (λ n. nat_lt n c.from_of-from.result) true 0 k c.partition_point-kept.ensures.bound point.0 c.args.r j d (omega arith) lt in
    let above : (j : ℕ) (d : Item) → k ≤ j → j < length steps → nat_lt (from_of (get_or steps j d).body) (from_of item.body) ≡ false = λ j d ge lt.
    ap (λ m. nat_lt (from_of (get_or steps j d).body) m) (sym c.from_of-from.ensures)
    ∙ items-passed f xs steps view (λ n. nat_lt n c.from_of-from.result) false k (length xs) (omega arith) point.1 c.args.r j d ge (omega (arith, lt, long-items f xs steps view)) in
    let now : map f c.push.new.self.items ≡ take k steps ++ item ∷ [] =
    ap (map f) (c.in_ok-push.ensures.items ∙ ap (λ l. l ++ c.args.r ∷ []) c.truncate.ensures.items)
    ∙ map-append f (take k c.steps.inside.items.items) (c.args.r ∷ []) ∙ ap (λ l. l ++ item ∷ []) (sym (take-map f k c.steps.inside.items.items) ∙ ap (take k) c.steps.view_is) in
    subst (λ l. IsNonDecreasingBy (λ i. from_of i.body) l) (sym now) (step-rise steps k item within c.requires below above)
