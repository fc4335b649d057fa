-- The stimulus of a look: which records of which source it has.
use Rattle.std.proofs.Common.{◌≡◌, ◌∙◌, ℕ, suc, ◌+◌, ◌==◌, Bool, true, false, ◌||◌, cond, List, [], ◌∷◌, ◌++◌, length, if◌then◌else◌, Some, None, refl, sym, ap, subst, arith, append-nil}
use Rattle.std.proofs.lemmas.Bool.{or_parts}
use Rattle.std.proofs.lemmas.Bool.Decides.{nat_tests}
use Rattle.std.specs.declared.option.Option.{Option}
use Rattle.std.specs.Option.{option_map_or, is_some}
use Rattle.std.specs.List.{filter_map, list_any, cons_option}
use Rattle.qp_model.specs.declared.bodies.Body.{Body}
use Rattle.qp_model.specs.declared.bodies.Body.TheVariants as body
use Rattle.qp_model.specs.Record.{Item}
use Rattle.qp_model.specs.Ends.{is_spill, spills_in}
use Rattle.qp_model.specs.OneOrder.{Turn, stim_of, is_stim_at, belongs, part_of_look, parts_of_look, turns_at, is_turn}
use Rattle.qp_model_order.specs.RunOrder.{placed, has_stim}
use Rattle.qp_model_order.specs.Placing.{all_placed}
use Rattle.qp_model_order.proofs.MergeLemmas.{part-none, parts-none, parts-split, part-append, within_after}

-- a record begins a stimulus
abbrev pub begins : Item → Bool
begins i = is_some (stim_of i.body)

-- how many stimuli begin in these records
abbrev pub begun_in : List Item → ℕ
begun_in [] = 0
begun_in (i ∷ is) = cond (begins i) 1 0 + begun_in is

-- the records up to the next stimulus, and from it on
abbrev pub up_to_stim : List Item → List Item
up_to_stim [] = []
up_to_stim (i ∷ is) = cond (begins i) [] (i ∷ up_to_stim is)

abbrev pub from_stim : List Item → List Item
from_stim [] = []
from_stim (i ∷ is) = cond (begins i) (i ∷ is) (from_stim is)

-- nothing, or a stimulus first
abbrev pub StimFirst : List Item → Type 0
StimFirst [] = Unit {0}
StimFirst (i ∷ is) = begins i ≡ true

pub stim-split : (is : List Item) → up_to_stim is ++ from_stim is ≡ is
stim-split [] = refl
stim-split (i ∷ is) = by (begins i) (stim-split is)
  where
    by : (b : Bool) → up_to_stim is ++ from_stim is ≡ is → cond b [] (i ∷ up_to_stim is) ++ cond b (i ∷ is) (from_stim is) ≡ i ∷ is
    by true h = refl
    by false h = ap (λ js. i ∷ js) h

pub stim-first : (is : List Item) → StimFirst (from_stim is)
stim-first [] = tt
stim-first (i ∷ is) = by (begins i) refl (stim-first is)
  where
    by : (b : Bool) → begins i ≡ b → StimFirst (from_stim is) → StimFirst (cond b (i ∷ is) (from_stim is))
    by true e h = e
    by false e h = h

pub begun-append : (xs ys : List Item) → begun_in (xs ++ ys) ≡ begun_in xs + begun_in ys
begun-append [] ys = omega arith
begun-append (x ∷ xs) ys = omega (arith, begun-append xs ys)

pub begun-up_to : (is : List Item) → begun_in (up_to_stim is) ≡ 0
begun-up_to [] = refl
begun-up_to (i ∷ is) = by (begins i) refl (begun-up_to is)
  where
    by : (b : Bool) → begins i ≡ b → begun_in (up_to_stim is) ≡ 0 → begun_in (cond b [] (i ∷ up_to_stim is)) ≡ 0
    by true e h = refl
    by false e h = rw e (omega (arith, h))

-- a front with as many stimuli, and then a stimulus, is the same
pub same-front : (xs ys : List Item) (x y : Item) (us vs : List Item) → xs ++ x ∷ us ≡ ys ++ y ∷ vs → begins x ≡ true → begins y ≡ true → begun_in xs ≡ begun_in ys
    → (xs ≡ ys) × (x ≡ y) × (us ≡ vs)
same-front [] [] x y us vs is first second counts = (refl, cc, cc)
same-front [] (b ∷ ys) x y us vs is first second counts =
    let same : x ≡ b = cc in
    let stim : begins b ≡ true = subst (λ z. begins z ≡ true) same first in
    let wrong : 0 ≡ 1 + begun_in ys = subst (λ t. 0 ≡ cond t 1 0 + begun_in ys) stim counts in
    absurd (omega (arith, wrong))
same-front (a ∷ xs) [] x y us vs is first second counts =
    let same : a ≡ y = cc in
    let stim : begins a ≡ true = subst (λ z. begins z ≡ true) (sym same) second in
    let wrong : 1 + begun_in xs ≡ 0 = subst (λ t. cond t 1 0 + begun_in xs ≡ 0) stim counts in
    absurd (omega (arith, wrong))
same-front (a ∷ xs) (b ∷ ys) x y us vs is first second counts =
    let same : a ≡ b = cc in
    let rest : xs ++ x ∷ us ≡ ys ++ y ∷ vs = cc in
    let here : ◌≡◌ {A = ℕ} (cond (begins a) 1 0) (cond (begins b) 1 0) = ap (λ (z : Item). cond {A = ℕ} (begins z) 1 0) same in
    let fewer : begun_in xs ≡ begun_in ys = omega (arith, counts, here) in
    let more = same-front xs ys x y us vs rest first second fewer in
    let front : xs ≡ ys = more.0 in
    (cc, more.1, more.2)

-- a stimulus stands in the look that it states
pub stim-at : (n p k : ℕ) (b : Body) → stim_of b ≡ Some (p, k) → is_stim_at n b ≡ (k == n)
stim-at n p k (body.Stim i j) h = let e : j ≡ k = ap (λ (o : Option (ℕ × ℕ)). option_map_or (λ s. s.1) o 0) h in rw e refl
stim-at n p k b h = absurd (cc)

stim-not : (n : ℕ) (b : Body) → stim_of b ≡ None → is_stim_at n b ≡ false
stim-not n (body.Stim i j) h = absurd (cc)
stim-not n b h = refl

-- behind the stimulus of a look its records go up to the next stimulus
pub part-behind : (lane n : ℕ) (cuts : Bool) (is : List Item) → list_any (λ i. is_stim_at n i.body) is ≡ false → spills_in is ≡ false
    → part_of_look lane n cuts true is ≡ all_placed lane (up_to_stim is)
unfolding part_of_look
part-behind lane n cuts [] none unspilt = refl
part-behind lane n cuts (i ∷ is) none unspilt =
    by (stim_of i.body) refl (or_parts (is_stim_at n i.body) (list_any (λ j. is_stim_at n j.body) is) none) (or_parts (is_spill i.body) (spills_in is) unspilt)
    (λ a b. part-behind lane n cuts is a b)
  where
    or-true : (c : Bool) → (c || true) ≡ true
    or-true true = refl
    or-true false = refl

    by : (o : Option (ℕ × ℕ)) → stim_of i.body ≡ o → (is_stim_at n i.body ≡ false) × (list_any (λ j. is_stim_at n j.body) is ≡ false)
        → (is_spill i.body ≡ false) × (spills_in is ≡ false)
        → (list_any (λ j. is_stim_at n j.body) is ≡ false → spills_in is ≡ false → part_of_look lane n cuts true is ≡ all_placed lane (up_to_stim is))
        → cond (belongs n cuts true i.body) (placed lane i ∷ []) [] ++ part_of_look lane n cuts (belongs n cuts true i.body) is
        ≡ all_placed lane (cond (begins i) [] (i ∷ up_to_stim is))
    by None e none unspilt later =
        let now : belongs n cuts true i.body ≡ true = rw (e, unspilt.0) (or-true cuts) in
        let not_first : begins i ≡ false = rw e refl in
        rw (now, not_first) (ap (λ ps. placed lane i ∷ ps) (later none.1 unspilt.1))
    by (Some (p, k)) e none unspilt later =
        let other : (k == n) ≡ false = sym (stim-at n p k i.body e) ∙ none.0 in
        let now : belongs n cuts true i.body ≡ false = rw e other in
        let first : begins i ≡ true = rw e refl in
        rw (now, first) (part-none lane n cuts is none.1)

-- the stimuli of a lane that stand in look n
abbrev pub turn_if : ℕ → ℕ → ℕ × ℕ → Option Turn
turn_if lane n s = if s.1 == n then Some (record { source = lane; place = s.0 }) else None

abbrev pub lane_turn : ℕ → ℕ → Item → Option Turn
lane_turn lane n i = option_map_or (turn_if lane n) (stim_of i.body) None

-- the one stimulus of a lane that stands in look n
pub record LaneTurn (lane n : ℕ) (l : List Item) (s : Turn) : Type 0 where
  pub before : List Item
  pub stim : Item
  pub behind : List Item
  pub is : l ≡ before ++ stim ∷ behind
  pub begins_it : stim_of stim.body ≡ Some (s.place, n)
  pub source : s.source ≡ lane
  pub none_before : list_any (λ i. is_stim_at n i.body) before ≡ false
  pub none_behind : list_any (λ i. is_stim_at n i.body) behind ≡ false

turn-of : (lane n : ℕ) (i : Item) (s : Turn) → lane_turn lane n i ≡ Some s → (stim_of i.body ≡ Some (s.place, n)) × (s.source ≡ lane)
turn-of lane n i s h = by (stim_of i.body) refl h
  where
    by : (o : Option (ℕ × ℕ)) → stim_of i.body ≡ o → option_map_or (turn_if lane n) o None ≡ Some s
        → (stim_of i.body ≡ Some (s.place, n)) × (s.source ≡ lane)
    by None e h = absurd (cc)
    by (Some (p, k)) e h = on (k == n) refl h
      where
        on : (b : Bool) → (k == n) ≡ b → cond b (Some (record { source = lane; place = p })) None ≡ Some s → (stim_of i.body ≡ Some (s.place, n)) × (s.source ≡ lane)
        on true same h =
            let whole : record { source = lane; place = p } ≡ s = let f : Option Turn → Turn = (λ o. option_map_or (λ t. t) o s) in ap f h in
            let e1 : k ≡ n = grind (arith, nat_tests) in
            let e2 : p ≡ s.place = ap (λ (t : Turn). t.place) whole in
            (e ∙ ap (λ x. Some (x, k)) e2 ∙ ap (λ x. Some (s.place, x)) e1, sym (ap (λ (t : Turn). t.source) whole))
        on false same h = absurd (cc)

no-turn : (lane n : ℕ) (i : Item) → lane_turn lane n i ≡ None → is_stim_at n i.body ≡ false
no-turn lane n i h = by (stim_of i.body) refl h
  where
    by : (o : Option (ℕ × ℕ)) → stim_of i.body ≡ o → option_map_or (turn_if lane n) o None ≡ None
        → is_stim_at n i.body ≡ false
    by None e h = stim-not n i.body e
    by (Some (p, k)) e h = on (k == n) refl h
      where
        on : (b : Bool) → (k == n) ≡ b → cond {A = Option Turn} b (Some (record { source = lane; place = p })) None ≡ None → is_stim_at n i.body ≡ false
        on true same h = absurd (cc)
        on false same h = stim-at n p k i.body e ∙ same

pub lane-turnless : (lane n : ℕ) (l : List Item) → filter_map (lane_turn lane n) l ≡ [] → list_any (λ i. is_stim_at n i.body) l ≡ false
lane-turnless lane n [] h = refl
lane-turnless lane n (i ∷ is) h = by (lane_turn lane n i) refl h (λ k. lane-turnless lane n is k)
  where
    by : (o : Option Turn) → lane_turn lane n i ≡ o → cons_option o (filter_map (lane_turn lane n) is) ≡ []
        → (filter_map (lane_turn lane n) is ≡ [] → list_any (λ j. is_stim_at n j.body) is ≡ false)
        → (is_stim_at n i.body || list_any (λ j. is_stim_at n j.body) is) ≡ false
    by None e h later = rw (no-turn lane n i e) (later h)
    by (Some t) e h later = absurd (cc)

pub lane-turned : (lane n : ℕ) (l : List Item) (s : Turn) → filter_map (lane_turn lane n) l ≡ s ∷ [] → LaneTurn lane n l s
lane-turned lane n [] s h = absurd (cc)
lane-turned lane n (i ∷ is) s h = by (lane_turn lane n i) refl h (λ k. lane-turned lane n is s k)
  where
    by : (o : Option Turn) → lane_turn lane n i ≡ o → cons_option o (filter_map (lane_turn lane n) is) ≡ s ∷ []
        → (filter_map (lane_turn lane n) is ≡ s ∷ [] → LaneTurn lane n is s) → LaneTurn lane n (i ∷ is) s
    by None e h later =
        let more = later h in
        record {
          before = i ∷ more.before;
          stim = more.stim;
          behind = more.behind;
          is = ap (λ js. i ∷ js) more.is;
          begins_it = more.begins_it;
          source = more.source;
          none_before = rw (no-turn lane n i e) more.none_before;
          none_behind = more.none_behind;
        }
    by (Some t) e h later =
        let same : t ≡ s = cc in
        let rest : filter_map (lane_turn lane n) is ≡ [] = cc in
        let at = turn-of lane n i s (e ∙ ap Some same) in
        record {
          before = [];
          stim = i;
          behind = is;
          is = refl;
          begins_it = at.0;
          source = at.1;
          none_before = refl;
          none_behind = lane-turnless lane n is rest;
        }

-- the one stimulus of all lanes from this one on that stands in look n
pub record OneTurn (lane n : ℕ) (sources : List (List Item)) (s : Turn) : Type 0 where
  pub front : List (List Item)
  pub own : List Item
  pub back : List (List Item)
  pub are : sources ≡ front ++ own ∷ back
  pub its : LaneTurn (lane + length front) n own s
  pub none_front : has_stim front n ≡ false
  pub none_back : has_stim back n ≡ false

no-append : {A : Type 0} (xs ys : List A) → xs ++ ys ≡ [] → (xs ≡ []) × (ys ≡ [])
no-append [] ys h = (refl, h)
no-append (x ∷ xs) ys h = absurd (cc)

pub turnless : (lane n : ℕ) (sources : List (List Item)) → turns_at lane n sources ≡ [] → has_stim sources n ≡ false
unfolding turns_at
turnless lane n [] h = refl
turnless lane n (l ∷ ls) h =
    let parts = no-append (filter_map (lane_turn lane n) l) (turns_at (lane + 1) n ls) h in
    rw (lane-turnless lane n l parts.0) (turnless (lane + 1) n ls parts.1)

pub one-turn : (lane n : ℕ) (sources : List (List Item)) (s : Turn) → turns_at lane n sources ≡ s ∷ [] → OneTurn lane n sources s
unfolding turns_at
one-turn lane n [] s h = absurd (cc)
one-turn lane n (l ∷ ls) s h = by (filter_map (lane_turn lane n) l) refl h (λ k. one-turn (lane + 1) n ls s k)
  where
    by : (ts : List Turn) → filter_map (lane_turn lane n) l ≡ ts → ts ++ turns_at (lane + 1) n ls ≡ s ∷ [] → (turns_at (lane + 1) n ls ≡ s ∷ [] → OneTurn (lane + 1) n ls s)
        → OneTurn lane n (l ∷ ls) s
    by [] e h later =
        let more = later h in
        let place : (lane + 1) + length more.front ≡ lane + suc (length more.front) = omega arith in
        record {
          front = l ∷ more.front;
          own = more.own;
          back = more.back;
          are = ap (λ ks. l ∷ ks) more.are;
          its = subst (λ k. LaneTurn k n more.own s) place more.its;
          none_front = rw (lane-turnless lane n l e) more.none_front;
          none_back = more.none_back;
        }
    by (t ∷ ts) e h later =
        let first : t ≡ s = cc in
        let rest : ts ++ turns_at (lane + 1) n ls ≡ [] = cc in
        let parts = no-append ts (turns_at (lane + 1) n ls) rest in
        let none : ts ≡ [] = parts.0 in
        let whole : filter_map (lane_turn lane n) l ≡ s ∷ [] = e ∙ ap (λ x. x ∷ ts) first ∙ ap (λ xs. s ∷ xs) none in
        let place : lane ≡ lane + 0 = omega arith in
        record {
          front = [];
          own = l;
          back = ls;
          are = refl;
          its = subst (λ k. LaneTurn k n l s) place (lane-turned lane n l s whole);
          none_front = refl;
          none_back = turnless (lane + 1) n ls parts.1;
        }

-- the records of a look: none, or those of its stimulus
pub look-free : (n : ℕ) (cuts : Bool) (sources : List (List Item)) → turns_at 1 n sources ≡ [] → parts_of_look 1 n cuts sources ≡ []
look-free n cuts sources h = parts-none 1 n cuts sources (turnless 1 n sources h)

part-own : (lane n p : ℕ) (cuts within : Bool) (i : Item) (is : List Item) → stim_of i.body ≡ Some (p, n) → list_any (λ j. is_stim_at n j.body) is ≡ false → spills_in is ≡ false
    → part_of_look lane n cuts within (i ∷ is) ≡ all_placed lane (i ∷ up_to_stim is)
unfolding part_of_look
part-own lane n p cuts within i is e none unspilt =
    let self : (n == n) ≡ true = grind (arith, nat_tests) in
    let now : belongs n cuts within i.body ≡ true = rw e self in
    rw now (ap (λ ps. placed lane i ∷ ps) (part-behind lane n cuts is none unspilt))

pub look-stimulated : (n : ℕ) (cuts : Bool) (sources : List (List Item)) (s : Turn) (one : OneTurn 1 n sources s) → spills_in one.its.behind ≡ false
    → parts_of_look 1 n cuts sources ≡ all_placed (1 + length one.front) (one.its.stim ∷ up_to_stim one.its.behind)
look-stimulated n cuts sources s one unspilt =
    let lane = 1 + length one.front in
    let it = one.its in
    let own : part_of_look lane n cuts false one.own ≡ all_placed lane (it.stim ∷ up_to_stim it.behind) =
    ap (part_of_look lane n cuts false) it.is
    ∙ part-append lane n cuts false it.before (it.stim ∷ it.behind)
    ∙ ap (λ ps. ps ++ part_of_look lane n cuts (within_after n cuts false it.before) (it.stim ∷ it.behind)) (part-none lane n cuts it.before it.none_before)
    ∙ part-own lane n s.place cuts (within_after n cuts false it.before) it.stim it.behind it.begins_it it.none_behind unspilt in
    ap (parts_of_look 1 n cuts) one.are ∙ parts-split 1 n cuts one.front one.own one.back
    ∙ rw (parts-none 1 n cuts one.front one.none_front, parts-none (1 + length one.front + 1) n cuts one.back one.none_back) (append-nil _ ∙ own)

-- the turns of a look are the one that acts, or none
pub turns-none : (ts : List Turn) → is_turn None ts ≡ true → ts ≡ []
turns-none [] h = refl
turns-none (t ∷ ts) h = absurd (cc)

pub turns-one : (t : Turn) (ts : List Turn) → is_turn (Some t) ts ≡ true → (s : Turn) × (ts ≡ s ∷ []) × (s.source ≡ t.source) × (s.place ≡ t.place)
turns-one t [] h = absurd (cc)
turns-one t (s ∷ []) h =
    let e1 : s.source ≡ t.source = grind (arith, nat_tests) in
    let e2 : s.place ≡ t.place = grind (arith, nat_tests) in
    (s, refl, e1, e2)
turns-one t (s ∷ r ∷ ts) h = absurd (cc)
