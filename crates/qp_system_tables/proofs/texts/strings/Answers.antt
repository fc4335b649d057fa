use Rattle.std.proofs.Common.{◌∙◌, ◌++◌, ◌∷◌, [], ap, sym, map, drop, ◌+◌, ℕ, List, Bor}
use Rattle.std.specs.Option.{option_map, option_copied}
use Rattle.std.proofs.lemmas.List.{map-append}
use Rattle.toml.specs.Data.{as_str}
use Rattle.toml.specs.View.{items_view}
use Rattle.qp_system_tables.specs.Values.{all_of_kind}
use Rattle.qp_system_tables.proofs.FrontLemmas.{all_of_kind-turn, all_of_kind-none, all_of_kind-last, option-front-nil}
use Rattle.qp_system_tables.proofs.texts.strings.Goals as goal

pub loop-item-init : goal.loop-item-init
loop-item-init c =
    let all = all_of_kind as_str (items_view c.args.items.now) in
    ap (λ (front : List (Bor (List ℕ))). option_map (λ rest. map (λ s. s.now) front ++ rest) all) c.new-texts.ensures.items ∙ option-front-nil all

pub loop-item-preserved : goal.loop-item-preserved
loop-item-preserved c =
    let front = map (λ (s : Bor (List ℕ)). s.now) c.loop-item.texts.items in
    let more = all_of_kind as_str (items_view (drop (c.loop-item.item-index + 1) c.args.items.now)) in
    ap (λ (f : List (List ℕ)). option_map (λ rest. f ++ rest) more)
    (ap (map (λ (s : Bor (List ℕ)). s.now)) c.in_ok-push-in-Some.ensures.items ∙ map-append (λ (s : Bor (List ℕ)). s.now) c.loop-item.texts.items (c.in-Some.text ∷ []))
    ∙ all_of_kind-turn as_str front c.loop-item.item-index c.args.items.now c.item-item.result c.in-Some.text.now c.loop-item-test.true c.item-item.is
    (sym c.as_str.ensures ∙ ap option_copied c.in-Some.is)
    ∙ c.loop-item.invariant

pub returns-in-None : goal.returns-in-None
returns-in-None c =
    let front = map (λ (s : Bor (List ℕ)). s.now) c.loop-item.texts.items in
    all_of_kind-none as_str front c.loop-item.item-index c.args.items.now c.item-item.result c.loop-item-test.true c.item-item.is
    (sym c.as_str.ensures ∙ ap option_copied c.in-None.is)
    ∙ c.loop-item.invariant

pub returns : goal.returns
returns c =
    let front = map (λ (s : Bor (List ℕ)). s.now) c.loop-item.texts.items in
    all_of_kind-last as_str front c.loop-item.item-index c.args.items.now c.loop-item-test.false ∙ c.loop-item.invariant
