-- Two runs with the same order have the same lanes.
use Rattle.std.proofs.Common.{◌≡◌, ◌∙◌, ℕ, zero, suc, ◌+◌, ◌==◌, Bool, true, false, cond, List, [], ◌∷◌, ◌++◌, length, Some, None, refl, sym, ap, arith, length-append}
use Rattle.std.proofs.lemmas.Bool.{ne_eqb}
use Rattle.std.proofs.lemmas.List.{append_assoc}
use Rattle.std.specs.declared.option.Option.{Option}
use Rattle.std.specs.Option.{option_map_or}
use Rattle.qp_chart.specs.declared.checked.Chart.{Chart}
use Rattle.qp_model.specs.declared.stimulus.Stim.{Stim}
use Rattle.qp_model.specs.declared.systems.System.{System}
use Rattle.qp_model.specs.declared.systems.ObjectDef.{ObjectDef}
use Rattle.qp_model.specs.Record.{Item}
use Rattle.qp_model.specs.Sites.{object_at}
use Rattle.qp_model.specs.OneOrder.{with_stimuli, parts_of_look, part_of_look, belongs, look_of}
use Rattle.qp_model_order.specs.RunOrder.{placed}
use Rattle.qp_unique.proofs.StackLemmas.{IsBounded, IsObject}
use Rattle.qp_unique.proofs.SourceSteps.{lane_in-append}
use Rattle.qp_unique.proofs.Sides.{Mode, Side, order_of, lane_in}

-- the records of a source stand in no other lane
pub part-elsewhere : (lane j k : ℕ) (cuts within : Bool) (is : List Item) → (lane == j) ≡ false → lane_in (part_of_look lane k cuts within is) j ≡ []
unfolding part_of_look
part-elsewhere lane j k cuts within [] h = refl
part-elsewhere lane j k cuts within (i ∷ is) h = by (belongs k cuts within i.body) (λ now. part-elsewhere lane j k cuts now is h)
  where
    by : (b : Bool) → ((now : Bool) → lane_in (part_of_look lane k cuts now is) j ≡ []) → lane_in (cond b (placed lane i ∷ []) [] ++ part_of_look lane k cuts b is) j ≡ []
    by true later = rw h (later true)
    by false later = later false

parts-elsewhere : (lane k : ℕ) (cuts : Bool) (sources : List (List Item)) → lane_in (parts_of_look (1 + lane) k cuts sources) 0 ≡ []
unfolding parts_of_look
parts-elsewhere lane k cuts [] = refl
parts-elsewhere lane k cuts (l ∷ ls) =
    let here = part-elsewhere (1 + lane) 0 k cuts false l (ne_eqb (1 + lane) 0 (λ e. omega (arith, e))) in
    let next : (1 + lane) + 1 ≡ 1 + (lane + 1) = omega arith in
    lane_in-append (part_of_look (1 + lane) k cuts false l) (parts_of_look ((1 + lane) + 1) k cuts ls) 0
    ∙ ap (λ zs. zs ++ lane_in (parts_of_look ((1 + lane) + 1) k cuts ls) 0) here ∙ ap (λ n. lane_in (parts_of_look n k cuts ls) 0) next ∙ parts-elsewhere (lane + 1) k cuts ls

-- lane 0 stands in the order
pub zero-is : (cuts : Bool) (sources : List (List Item)) (lane0 : List Item) → lane_in (with_stimuli cuts sources lane0) 0 ≡ lane0
unfolding with_stimuli
zero-is cuts sources [] = refl
zero-is cuts sources (i ∷ is) =
    ap (λ us. i ∷ us) (lane_in-append (option_map_or (λ (l : ℕ × ℕ). parts_of_look 1 l.0 cuts sources) (look_of i.body) []) (with_stimuli cuts sources is) 0
    ∙ ap (λ zs. zs ++ lane_in (with_stimuli cuts sources is) 0) (none (look_of i.body)) ∙ zero-is cuts sources is)
  where
    none : (o : Option (ℕ × ℕ)) → lane_in (option_map_or (λ (l : ℕ × ℕ). parts_of_look 1 l.0 cuts sources) o []) 0 ≡ []
    none None = refl
    none (Some l) = let one : 1 ≡ 1 + 0 = omega arith in ap (λ n. lane_in (parts_of_look n l.0 cuts sources) 0) one ∙ parts-elsewhere 0 l.0 cuts sources

-- lists by their elements
abbrev made : (ℕ → List Item) → ℕ → ℕ → List (List Item)
made f n zero = []
made f n (suc k) = f n ∷ made f (n + 1) k

made-by : (f : ℕ → List Item) (n : ℕ) (all front ls : List (List Item)) → all ≡ front ++ ls → n ≡ length front
    → ((before : List (List Item)) (l : List Item) (behind : List (List Item)) → all ≡ before ++ l ∷ behind → l ≡ f (length before)) → ls ≡ made f n (length ls)
made-by f n all front [] is size each = refl
made-by f n all front (l ∷ ls) is size each =
    let here : l ≡ f n = each front l ls is ∙ ap f (sym size) in
    let longer : n + 1 ≡ length (front ++ l ∷ []) = omega (arith, size, length-append front (l ∷ [])) in
    let rest : ls ≡ made f (n + 1) (length ls) = made-by f (n + 1) all (front ++ l ∷ []) ls (is ∙ sym (append_assoc front (l ∷ []) ls)) longer each in
    ap (λ x. x ∷ ls) here ∙ ap (λ us. f n ∷ us) rest

module _ (sys : System) (charts : (p : ℕ) (d : ObjectDef) → object_at sys p ≡ Some d → Chart) (stimuli : List (List Stim)) (mode : Mode)
    (bounded : IsBounded sys) (positive : (p : ℕ) → IsObject sys p → p ≡ 0 → ⊥) where
  -- the same lanes
  pub same-lanes : (a b : Side sys charts stimuli mode) → order_of sys charts stimuli mode a ≡ order_of sys charts stimuli mode b → length a.sources ≡ length b.sources
      → ((before : List (List Item)) (l : List Item) (behind : List (List Item)) → a.sources ≡ before ++ l ∷ behind → l ≡ lane_in (order_of sys charts stimuli mode a) (1 + length before))
      → ((before : List (List Item)) (l : List Item) (behind : List (List Item)) → b.sources ≡ before ++ l ∷ behind → l ≡ lane_in (order_of sys charts stimuli mode b) (1 + length before))
      → (a.lane0 ≡ b.lane0) × (a.sources ≡ b.sources)
  same-lanes a b same size stands_a stands_b =
      let f : ℕ → List Item = λ m. lane_in (order_of sys charts stimuli mode a) (1 + m) in
      let one : a.sources ≡ made f 0 (length a.sources) = made-by f 0 a.sources [] a.sources refl refl stands_a in
      let two : b.sources ≡ made f 0 (length b.sources) =
      made-by f 0 b.sources [] b.sources refl refl (λ before l behind is. stands_b before l behind is ∙ ap (λ zs. lane_in zs (1 + length before)) (sym same)) in (
        sym (zero-is a.cuts a.sources a.lane0) ∙ ap (λ zs. lane_in zs 0) same ∙ zero-is b.cuts b.sources b.lane0,
        one ∙ ap (made f 0) size ∙ sym two,
      )
