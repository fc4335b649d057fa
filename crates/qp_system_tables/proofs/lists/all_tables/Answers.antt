use Rattle.std.proofs.Common.{◌∙◌, ◌++◌, ◌∷◌, [], ap, sym, map, drop, ◌+◌, List, Bor}
use Rattle.std.specs.declared.option.Option.{Option}
use Rattle.std.specs.Option.{option_map}
use Rattle.std.proofs.lemmas.List.{map-append}
use Rattle.toml.specs.Data.{as_table, Members}
use Rattle.toml.specs.View.{items_view, table_view}
use Rattle.qp_system_tables.specs.Front.{Table}
use Rattle.qp_system_tables.specs.Values.{all_of_kind}
use Rattle.qp_system_tables.proofs.FrontLemmas.{all_of_kind-turn, all_of_kind-none, all_of_kind-last, option-front-nil}
use Rattle.qp_system_tables.proofs.lists.all_tables.Goals as goal

abbrev read_table : Option (Bor Table) → Option Members
read_table r = option_map (λ m. table_view m.now) r

pub loop-item-init : goal.loop-item-init
loop-item-init c =
    let all = all_of_kind as_table (items_view c.args.items.now) in
    ap (λ (front : List (Bor Table)). option_map (λ rest. map (λ s. table_view s.now) front ++ rest) all) c.new-tables.ensures.items ∙ option-front-nil all

pub loop-item-preserved : goal.loop-item-preserved
loop-item-preserved c =
    let front = map (λ (s : Bor Table). table_view s.now) c.loop-item.tables.items in
    let more = all_of_kind as_table (items_view (drop (c.loop-item.item-index + 1) c.args.items.now)) in
    ap (λ (f : List Members). option_map (λ rest. f ++ rest) more)
    (ap (map (λ (s : Bor Table). table_view s.now)) c.in_ok-push-in-Some.ensures.items ∙ map-append (λ (s : Bor Table). table_view s.now) c.loop-item.tables.items (c.in-Some.table ∷ []))
    ∙ all_of_kind-turn as_table front c.loop-item.item-index c.args.items.now c.item-item.result (table_view c.in-Some.table.now) c.loop-item-test.true c.item-item.is
    (sym c.as_table.ensures ∙ ap read_table c.in-Some.is)
    ∙ c.loop-item.invariant

pub returns-in-None : goal.returns-in-None
returns-in-None c =
    let front = map (λ (s : Bor Table). table_view s.now) c.loop-item.tables.items in
    all_of_kind-none as_table front c.loop-item.item-index c.args.items.now c.item-item.result c.loop-item-test.true c.item-item.is
    (sym c.as_table.ensures ∙ ap read_table c.in-None.is)
    ∙ c.loop-item.invariant

pub returns : goal.returns
returns c =
    let front = map (λ (s : Bor Table). table_view s.now) c.loop-item.tables.items in
    all_of_kind-last as_table front c.loop-item.item-index c.args.items.now c.loop-item-test.false ∙ c.loop-item.invariant
