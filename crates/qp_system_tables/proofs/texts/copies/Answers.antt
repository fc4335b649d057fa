use Rattle.std.proofs.Common.{◌∙◌, ◌++◌, ◌∷◌, [], ◌+◌, ap, sym, map, drop, get_or, ℕ, List, Bor, Err}
use Rattle.std.specs.declared.result.Result.{Result}
use Rattle.std.proofs.lemmas.List.{drop_all}
use Rattle.qp_chart_names.specs.declared.place.Part.{Part}
use Rattle.qp_chart_names.specs.declared.place.Part.TheVariants.{Key}
use Rattle.qp_chart_names.specs.Faults.{Fault}
use Rattle.qp_system_tables.specs.Values.{short_texts}
use Rattle.qp_system_tables.specs.Front.{with_front}
use Rattle.qp_system_tables.proofs.FrontLemmas.{short_texts-long, short_texts-short, short_texts-end, with_front-nil, with_front-more, with_front-end}
use Rattle.qp_system_tables.proofs.texts.copies.Goals as goal

pub loop-i-init : goal.loop-i-init
loop-i-init c =
    let all = short_texts (c.args.place.at.now ++ Key c.args.place.key ∷ []) 1 (map (λ (s : Bor (List ℕ)). s.now) c.args.texts.now) in
    ap (λ front. with_front front all) c.new-items.ensures.items ∙ with_front-nil all

pub loop-i-preserved : goal.loop-i-preserved
loop-i-preserved c =
    let place = c.args.place.at.now ++ Key c.args.place.key ∷ [] in
    let none : Bor (List ℕ) = record { ref_ptr = (0, 0); now = [] } in
    let text = (get_or c.args.texts.now c.loop-i.i none).now in
    let more = short_texts place (c.loop-i.i + 1 + 1) (map (λ (s : Bor (List ℕ)). s.now) (drop (c.loop-i.i + 1) c.args.texts.now)) in
    ap (λ front. with_front front more) (c.in_ok-push.ensures.items ∙ ap (λ t. c.loop-i.items.items ++ t ∷ []) c.in_ok-from_str.ensures.ok)
    ∙ sym (with_front-more c.loop-i.items.items text more)
    ∙ ap (with_front c.loop-i.items.items) (sym (short_texts-short place c.loop-i.i c.args.texts.now none c.loop-i-test.true c.if-text-gt200.false))
    ∙ c.loop-i.invariant

pub returns-then-text-gt200 : goal.returns-then-text-gt200
returns-then-text-gt200 c =
    let place = c.args.place.at.now ++ Key c.args.place.key ∷ [] in
    let none : Bor (List ℕ) = record { ref_ptr = (0, 0); now = [] } in
    sym c.loop-i.invariant
    ∙ ap (with_front c.loop-i.items.items) (short_texts-long place c.loop-i.i c.args.texts.now none c.loop-i-test.true c.if-text-gt200.true)
    ∙ ap (λ (path : List Part). let r : Result (List (List ℕ)) Fault = Err (record { code = 5; path = path }) in r) (sym c.item.ensures)

pub returns : goal.returns
returns c =
    let place = c.args.place.at.now ++ Key c.args.place.key ∷ [] in
    sym c.loop-i.invariant
    ∙ ap (λ (l : List (Bor (List ℕ))). with_front c.loop-i.items.items (short_texts place (c.loop-i.i + 1) (map (λ s. s.now) l))) (drop_all c.loop-i.i c.args.texts.now c.loop-i-test.false)
    ∙ ap (with_front c.loop-i.items.items) (short_texts-end place (c.loop-i.i + 1))
    ∙ with_front-end c.loop-i.items.items
