-- What the records before a look have done.
use Rattle.std.proofs.Common.{◌≡◌, ◌∙◌, ℕ, ◌+◌, ◌<◌, ◌≤◌, ◌==◌, Bool, true, false, cond, ◌&&◌, ◌||◌, List, [], ◌∷◌, ◌++◌, map, length, take, drop, get_or, Some, None, ap, sym, refl, arith, zero-add, length-take, length-drop, ◌-◌, not, if◌then◌else◌}
use Rattle.std.specs.declared.option.Option.{Option}
use Rattle.std.specs.Option.{option_map, option_map_or}
use Rattle.std.specs.List.{count_by, find, list_all, enumerate_from, filter_map}
use Rattle.std.proofs.Math.Path.{fun_ext}
use Rattle.std.proofs.lemmas.List.{at_drop_all, take_all, length-map}
use Rattle.std.proofs.lemmas.List.Sums.{count_by-le-length}
use Rattle.std.proofs.lemmas.List.Elements.{filter_map-append}
use Rattle.qp_model.specs.declared.stimulus.Stim.{Stim}
use Rattle.qp_model.specs.declared.systems.System.{System}
use Rattle.qp_model.specs.Record.{Item}
use Rattle.qp_model.specs.Ends.{is_spill}
use Rattle.qp_model.specs.OneOrder.{Placed, Turn, OneThread, stim_of, look_of, is_stim, is_turn, no_look, begun, acted_last, all_empty, stimuli_after, may_act, turned, acts_next, enters, leaves, belongs, part_of_look, parts_of_look, turns_at, look_right, looks_right}
use Rattle.qp_check_kernel.specs.declared.stimulus_index.Placed as code
use Rattle.qp_check_kernel.specs.declared.source_turn.Progress.{Progress}
use Rattle.qp_check_kernel.specs.declared.order_turns.Run.{Run}
use Rattle.qp_check_lanes.specs.WordTotals.{count_in}
use Rattle.qp_check_kernel.specs.StimulusIndex.{parts_at}
use Rattle.qp_check_kernel.specs.Turns.{IsProgress, left_from, first_acting, turn_of, next_turn}
use Rattle.qp_check_kernel.specs.OrderTurns.{RunsAs, turn_in, turns_in, look_stands}
use Rattle.qp_check_lanes.proofs.ItemLemmas.{map-from, map-up_to}
use Rattle.qp_model.proofs.NumberLemmas.{count-append}

count_by-snoc : {X : Type 0} (p : X → Bool) (xs : List X) (x : X) → count_by p (xs ++ x ∷ []) ≡ count_by p xs + cond (p x) 1 0
count_by-snoc p xs x = count-append p xs (x ∷ []) ∙ ap (λ n. count_by p xs + n) (zero-add (cond (p x) 1 0))

acted_last-snoc : (last : ℕ) (xs : List Placed) (x : Placed) → acted_last last (xs ++ x ∷ []) ≡ cond (is_stim x) x.lane (acted_last last xs)
unfolding acted_last
acted_last-snoc last [] x = refl
acted_last-snoc last (y ∷ xs) x = acted_last-snoc (cond (is_stim y) y.lane last) xs x

-- one record more
pub IsProgress-more : (old new : Progress) (before : List Placed) (x : Placed) → IsProgress old before
    → ((s : ℕ) → count_in new.begun s ≡ count_in old.begun s + cond (is_stim x && (x.lane == s)) 1 0)
    → ((o : ℕ) → count_in new.entered o ≡ count_in old.entered o + cond (enters o x.item) 1 0)
    → ((o : ℕ) → count_in new.left o ≡ count_in old.left o + cond (leaves o x.item) 1 0)
    → new.last ≡ cond (is_stim x) x.lane old.last → IsProgress new (before ++ x ∷ [])
unfolding begun
IsProgress-more old new before x p b e l a = record {
  begun = λ s. b s ∙ ap (λ n. n + cond (is_stim x && (x.lane == s)) 1 0) (p.begun s) ∙ sym (count_by-snoc (λ y. is_stim y && (y.lane == s)) before x);
  entered = λ o. e o ∙ ap (λ n. n + cond (enters o x.item) 1 0) (p.entered o) ∙ sym (count_by-snoc (λ (y : Placed). enters o y.item) before x);
  left = λ o. l o ∙ ap (λ n. n + cond (leaves o x.item) 1 0) (p.left o) ∙ sym (count_by-snoc (λ (y : Placed). leaves o y.item) before x);
  last = a ∙ ap (λ n. cond (is_stim x) x.lane n) p.last ∙ sym (acted_last-snoc 0 before x);
}

left-is : (before : List Placed) (k : ℕ) (sources : List (List Stim)) → left_from k (begun before) sources ≡ map (λ (x : ℕ × List Stim). (x.0, drop (begun before x.0) x.1)) (enumerate_from k sources)
unfolding left_from
left-is before k [] = refl
left-is before k (s ∷ ss) = ap (λ l. (k, drop (begun before k) s) ∷ l) (left-is before (k + 1) ss)

turn-is : (before : List Placed) (o : Option (ℕ × List Stim))
    → option_map (turn_of (begun before)) (option_map (λ (x : ℕ × List Stim). x.0) o) ≡ option_map (λ x. record { source = x.0; place = begun before x.0 + 1 }) o
turn-is before None = refl
turn-is before (Some x) = refl

next_from : Bool → System → List (List Stim) → (ℕ → ℕ) → (ℕ → ℕ) → (ℕ → ℕ) → ℕ → Option Turn
next_from at_base sys stimuli b e l last =
    option_map (turn_of b) (first_acting (at_base && list_all (λ d. e d.priority == l d.priority) sys.objects) (turned last (left_from 1 b stimuli)))

-- the stimulus that acts
pub next-is : (p : Progress) (before : List Placed) → IsProgress p before → (sys : System) (stimuli : List (List Stim)) (at_base : Bool)
    → next_turn p sys stimuli at_base ≡ acts_next sys stimuli before at_base
unfolding acts_next all_empty stimuli_after next_from
next-is p before h sys stimuli at_base =
    let f = next_from at_base sys stimuli in
    let came : ℕ → ℕ = λ o. count_by (λ x. enters o x.item) before in
    let went : ℕ → ℕ = λ o. count_by (λ x. leaves o x.item) before in
    ap (λ b. f b (count_in p.entered) (count_in p.left) p.last) (fun_ext h.begun)
    ∙ ap (λ e. f (begun before) e (count_in p.left) p.last) (fun_ext h.entered)
    ∙ ap (λ l. f (begun before) came l p.last) (fun_ext h.left)
    ∙ ap (f (begun before) came went) h.last
    ∙ ap (λ l. option_map (turn_of (begun before)) (first_acting (at_base && all_empty sys before) (turned (acted_last 0 before) l))) (left-is before 1 stimuli)
    ∙ turn-is before (find (λ x. may_act (at_base && all_empty sys before) x.1) (turned (acted_last 0 before) (stimuli_after before stimuli)))

-- the stimuli of a look
abbrev turn_by : ℕ → ℕ × ℕ → Turn
turn_by lane s = record { source = lane; place = s.0 }

abbrev stim_at : ℕ → ℕ → Item → Option Turn
stim_at lane k i = option_map_or (λ s. if s.1 == k then Some (turn_by lane s) else None) (stim_of i.body) None

one-turn : (lane k : ℕ) (x : Placed) (w : Bool) (o : Option (ℕ × ℕ)) (f : Placed → Option Turn) (rest : List Turn) → f x ≡ option_map (turn_by lane) o
    → filter_map f (cond (option_map_or (λ s. s.1 == k) o w) (x ∷ []) []) ≡ filter_map (λ y. y) (option_map_or (λ s. if s.1 == k then Some (turn_by lane s) else None) o None ∷ [])
one-turn lane k x true None f rest e = rw e refl
one-turn lane k x false None f rest e = refl
one-turn lane k x w (Some s) f rest e = go (s.1 == k)
  where
    go : (c : Bool) → filter_map f (cond c (x ∷ []) []) ≡ filter_map (λ y. y) (cond c (Some (turn_by lane s)) None ∷ [])
    go true = rw e refl
    go false = refl

part-turns : (lane k : ℕ) (cuts within : Bool) (is : List Item) → turns_in (part_of_look lane k cuts within is) ≡ filter_map (stim_at lane k) is
unfolding part_of_look
part-turns lane k cuts within [] = refl
part-turns lane k cuts within (i ∷ is) =
    let x : Placed = record { lane = lane; item = i } in
    let now = belongs k cuts within i.body in
    filter_map-append turn_in (cond now (x ∷ []) []) (part_of_look lane k cuts now is)
    ∙ ap (λ l. filter_map turn_in (cond now (x ∷ []) []) ++ l) (part-turns lane k cuts now is)
    ∙ ap (λ l. l ++ filter_map (stim_at lane k) is) (one-turn lane k x (within && (cuts || not (is_spill i.body))) (stim_of i.body) turn_in [] refl)
    ∙ sym (filter_map-append (stim_at lane k) (i ∷ []) is)

parts-turns : (lane k : ℕ) (cuts : Bool) (lanes : List (List Item)) → turns_in (parts_of_look lane k cuts lanes) ≡ turns_at lane k lanes
unfolding parts_of_look turns_at
parts-turns lane k cuts [] = refl
parts-turns lane k cuts (l ∷ ls) =
    filter_map-append turn_in (part_of_look lane k cuts false l) (parts_of_look (lane + 1) k cuts ls)
    ∙ ap (λ t. t ++ turns_in (parts_of_look (lane + 1) k cuts ls)) (part-turns lane k cuts false l)
    ∙ ap (λ t. filter_map (stim_at lane k) l ++ t) (parts-turns (lane + 1) k cuts ls)

module _ (run : Run) (r : OneThread) (same : RunsAs run r) where
  pub turns-are : (k : ℕ) → turns_in (parts_at run.index.now k) ≡ turns_at 1 k r.sources
  turns-are k = ap turns_in (same.index k) ∙ parts-turns 1 k r.cuts r.sources

  -- what is answered of a record is what is asked of it
  pub look-is : (p : Progress) (before after : List Placed) → IsProgress p before → (look : Option (ℕ × ℕ)) → look_stands run p after look ≡ look_right r before after look
  unfolding look_right
  look-is p before after h None = refl
  look-is p before after h (Some l) =
      let next : next_turn p run.sys.now run.stimuli.now (l.1 == 0) ≡ acts_next r.sys r.stimuli before (l.1 == 0) =
      next-is p before h run.sys.now run.stimuli.now (l.1 == 0) ∙ ap (λ s. acts_next s run.stimuli.now before (l.1 == 0)) same.sys ∙ ap (λ s. acts_next r.sys s before (l.1 == 0)) same.stimuli in
      ap (λ t. is_turn t (turns_in (parts_at run.index.now l.0)) || (run.spills && no_look after && is_turn None (turns_in (parts_at run.index.now l.0)))) next
      ∙ ap (λ t. is_turn (acts_next r.sys r.stimuli before (l.1 == 0)) t || (run.spills && no_look after && is_turn None t)) (turns-are l.0)
      ∙ ap (λ s. is_turn (acts_next r.sys r.stimuli before (l.1 == 0)) (turns_at 1 l.0 r.sources) || (s && no_look after && is_turn None (turns_at 1 l.0 r.sources))) same.spills

module _ {X : Type 0} (placed : X → Placed) (xs : List X) (i : ℕ) where
  module _ (x : X) (inside : i < length xs) (is : x ≡ get_or xs i x) (r : OneThread) where
    pub looks-one : looks_right r (map placed (take i xs)) (map placed (drop i xs))
        ≡ (look_right r (map placed (take i xs)) (map placed (drop (i + 1) xs)) (look_of (placed x).item.body) && looks_right r (map placed (take (i + 1) xs)) (map placed (drop (i + 1) xs)))
    unfolding looks_right
    looks-one =
        ap (looks_right r (map placed (take i xs))) (map-from placed xs i x inside is)
        ∙ ap (λ l. look_right r (map placed (take i xs)) (map placed (drop (i + 1) xs)) (look_of (placed x).item.body) && looks_right r l (map placed (drop (i + 1) xs))) (sym (map-up_to placed xs i x inside is))

  pub looks-end : (r : OneThread) (before : List Placed) → length xs ≤ i → looks_right r before (map placed (drop i xs)) ≡ true
  unfolding looks_right
  looks-end r before h = at_drop_all (λ l. looks_right r before (map placed l)) xs i h

  pub progress-small : (p : Progress) → IsProgress p (map placed (take i xs)) → i ≤ length xs → (k : ℕ) → (count_in p.begun k ≤ i) × (count_in p.entered k ≤ i) × (count_in p.left k ≤ i)
  unfolding begun
  progress-small p h fits k =
      let size : length (map placed (take i xs)) ≤ i = simp (length-map, length-take) (omega arith) in (
        omega (arith, h.begun k, count_by-le-length (λ y. is_stim y && (y.lane == k)) (map placed (take i xs)), size),
        omega (arith, h.entered k, count_by-le-length (λ (y : Placed). enters k y.item) (map placed (take i xs)), size),
        omega (arith, h.left k, count_by-le-length (λ (y : Placed). leaves k y.item) (map placed (take i xs)), size),
      )

pub IsProgress-none : (p : Progress) → ((k : ℕ) → count_in p.begun k ≡ 0) → ((k : ℕ) → count_in p.entered k ≡ 0) → ((k : ℕ) → count_in p.left k ≡ 0) → p.last ≡ 0 → IsProgress p []
unfolding begun acted_last
IsProgress-none p b e l a = record { begun = b; entered = e; left = l; last = a }

module _ (placed : code.Placed → Placed) (xs : List code.Placed) (i : ℕ) (x : code.Placed) (inside : i < length xs) (is : x ≡ get_or xs i x) (run : Run) (p : Progress) (h : IsProgress p (map placed (take i xs)))
    (r : OneThread) (same : RunsAs run r) where
  rest : take (length xs - (i + 1)) (drop (i + 1) xs) ≡ drop (i + 1) xs
  rest = take_all (length xs - (i + 1)) (drop (i + 1) xs) (simp length-drop (omega arith))

  stood : (b : Bool) → b ≡ look_stands run p (map placed (take (length xs - (i + 1)) (drop (i + 1) xs))) (look_of (placed x).item.body)
      → look_right r (map placed (take i xs)) (map placed (drop (i + 1) xs)) (look_of (placed x).item.body) ≡ b
  stood b e =
      sym (look-is run r same p (map placed (take i xs)) (map placed (drop (i + 1) xs)) h (look_of (placed x).item.body))
      ∙ sym (e ∙ ap (λ l. look_stands run p (map placed l) (look_of (placed x).item.body)) rest)

  pub looks-kept : (b : Bool) → b ≡ look_stands run p (map placed (take (length xs - (i + 1)) (drop (i + 1) xs))) (look_of (placed x).item.body) → b ≡ true
      → looks_right r (map placed (take i xs)) (map placed (drop i xs)) ≡ looks_right r (map placed (take (i + 1) xs)) (map placed (drop (i + 1) xs))
  looks-kept b e t = looks-one placed xs i x inside is r ∙ ap (λ c. c && looks_right r (map placed (take (i + 1) xs)) (map placed (drop (i + 1) xs))) (stood b e ∙ t)

  pub looks-broken : (b : Bool) → b ≡ look_stands run p (map placed (take (length xs - (i + 1)) (drop (i + 1) xs))) (look_of (placed x).item.body) → b ≡ false
      → looks_right r (map placed (take i xs)) (map placed (drop i xs)) ≡ false
  looks-broken b e t = looks-one placed xs i x inside is r ∙ ap (λ c. c && looks_right r (map placed (take (i + 1) xs)) (map placed (drop (i + 1) xs))) (stood b e ∙ t)
