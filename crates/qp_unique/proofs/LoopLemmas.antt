-- Two runs go on alike, as far as they go.
use Rattle.std.proofs.Common.{◌≡◌, ◌∙◌, ℕ, zero, suc, ◌+◌, ◌<◌, ◌==◌, Bool, true, false, List, [], ◌∷◌, ◌++◌, length, get_or, Some, None, refl, sym, ap, subst, inl, inr, ◌⊎◌, arith, append-nil}
use Rattle.std.proofs.lemmas.Bool.{and_parts}
use Rattle.std.proofs.lemmas.Bool.Decides.{nat_tests}
use Rattle.std.proofs.lemmas.List.{append_assoc, length-append}
use Rattle.std.specs.declared.option.Option.{Option}
use Rattle.std.specs.Option.{option_map_or}
use Rattle.std.specs.List.{list_any}
use Rattle.qp_chart.specs.declared.checked.Chart.{Chart}
use Rattle.qp_model.specs.declared.stimulus.Stim.{Stim}
use Rattle.qp_model.specs.declared.systems.System.{System}
use Rattle.qp_model.specs.declared.systems.ObjectDef.{ObjectDef}
use Rattle.qp_model.specs.declared.bodies.Body.{Body}
use Rattle.qp_model.specs.declared.bodies.Body.TheVariants as body
use Rattle.qp_model.specs.Record.{Item}
use Rattle.qp_model.specs.Knowing.{told, records_of, ceiling_over}
use Rattle.qp_model.specs.Ends.{is_end}
use Rattle.qp_model.specs.Kernels.{qk}
use Rattle.qp_model.specs.Sites.{object_at}
use Rattle.qp_model.specs.KernelLane.{Setting, Reading, Upcoming, Inside, Over, role_of, Looks, Drops, lane_on, is_whole_reading, is_over, unread}
use Rattle.qp_model.specs.OneOrder.{Placed, Turn, with_stimuli, parts_of_look, acts_next, is_turn, look_of, turns_at}
use Rattle.qp_model.specs.Points.{pieces_in}
use Rattle.qp_check_ends.specs.SourceState.{Between, source_after}
use Rattle.qp_model_order.specs.RunOrder.{placed}
use Rattle.qp_model_order.specs.Placing.{look_item, all_placed, stim_item}
use Rattle.qp_unique.proofs.KernelLemmas.{Slot, Starts, Runs, Releases, IsLook, IsSeen, IsTook, IsSpent, IsRest, IsOwned, item-is, no-threads}
use Rattle.qp_unique.proofs.LookLemmas.{up_to_stim, from_stim, stim-split, stim-first, begun-up_to, StimFirst}
use Rattle.qp_unique.proofs.StackLemmas.{IsBounded, IsObject, stacked-first}
use Rattle.qp_unique.proofs.StepLemmas.{over-none}
use Rattle.qp_unique.proofs.ItemLemmas.{slot, order-here}
use Rattle.qp_unique.proofs.PairLemmas.{same-item}
use Rattle.qp_unique.proofs.SourceSteps.{alone, alone-at, after-first, record-first}
use Rattle.qp_unique.proofs.PartLemmas.{Part, same-part, told-on}
use Rattle.qp_unique.proofs.ExtendLemmas.{extended}
use Rattle.qp_unique.proofs.RunLanes.{look-body, first-stim, lane-with, lane-own, lane-other, above-zero, Stimulated, freed, unstimulated, stimulated, front-on}
use Rattle.qp_unique.specs.Tidy.{spill_free}
use Rattle.qp_unique.proofs.Sides.{Mode, lined, Side, Along, Agree, IsFront, HasEnded, LongFront, LongLane, Lacking, MayPart, in_kernel, order_of, lane_in}

-- a look is of no object
pub look-whole : (s : Setting) (k next : Reading) (i : Item) (n floor : ℕ) → Slot s k next i → i.body ≡ body.Look n floor → i ≡ look_item n floor
unfolding role_of
look-whole s k next i n floor (Starts q more vs of own r place left looks) e = absurd (subst (λ d. IsOwned (role_of d)) e own)
look-whole s k next i n floor (Runs q others none place r of own went) e = absurd (subst (λ d. IsOwned (role_of d)) e own)
look-whole s k next i n floor (Releases q none place of role is) e = absurd (let no : Looks n floor ≡ Drops = sym (ap role_of e) ∙ role in cc)
look-whole s k next i n floor (IsLook none may item is) e = item-is i 0 _ (ap (λ (x : Item). x.of) item) e
look-whole s k next i n floor (IsSeen q others f l m none place item is) e = item-is i 0 _ (ap (λ (x : Item). x.of) item) e
look-whole s k next i n floor (IsTook q f l m x none place item is) e = absurd (let no : body.Took f l m x ≡ body.Look n floor = sym (ap (λ (y : Item). y.body) item) ∙ e in cc)
look-whole s k next i n floor (IsSpent q none place item is) e = absurd (let no : body.Spent ≡ body.Look n floor = sym (ap (λ (y : Item). y.body) item) ∙ e in cc)
look-whole s k next i n floor (IsRest none place item is) e = item-is i 0 _ (ap (λ (x : Item). x.of) item) e

-- a lane by its place
pub lane-at : (ls : List (List Item)) (m : ℕ) → m < length ls → (before : List (List Item)) × (l : List Item) × (behind : List (List Item)) × (ls ≡ before ++ l ∷ behind) × (length before ≡ m)
lane-at [] m less = absurd (omega (arith, less))
lane-at (l ∷ ls) zero less = ([], l, ls, refl, refl)
lane-at (l ∷ ls) (suc m) less = let more = lane-at ls m (omega (arith, less)) in (l ∷ more.0, more.1, more.2, ap (λ us. l ∷ us) more.3, ap suc more.4)

module _ (sys : System) (charts : (p : ℕ) (d : ObjectDef) → object_at sys p ≡ Some d → Chart) (stimuli : List (List Stim)) (mode : Mode)
    (bounded : IsBounded sys) (positive : (p : ℕ) → IsObject sys p → p ≡ 0 → ⊥) where
  -- a source's lane is at least as long as its front
  front-long : (a : Side sys charts stimuli mode) (xs : List Placed)
      → ((before : List (List Item)) (l : List Item) (behind : List (List Item)) → a.sources ≡ before ++ l ∷ behind → IsFront xs (1 + length before) l) → LongFront (length a.sources) xs
      → LongLane sys charts stimuli mode a
  front-long a xs fronts (m, less, long) =
      let at = lane-at a.sources m less in
      let own = fronts at.0 at.1 at.2 at.3 in
      let size = ap length own.is ∙ length-append (lane_in xs (1 + length at.0)) own.rest in
      let moved : spill_free < length (lane_in xs (1 + length at.0)) = subst (λ n. spill_free < length (lane_in xs (1 + n))) (sym at.4) long in
      (at.0, at.1, at.2, at.3, omega (arith, size, moved))

  module _ (a b : Side sys charts stimuli mode) (xs : List Placed) (front : List Item) (i : Item) (la lb : List Item) (k : Reading)
      (g : Agree sys charts stimuli mode a b xs front (i ∷ la) (i ∷ lb) k) (size : length a.sources ≡ length b.sources) where
    abbrev Onward : List Placed → Type 0
    Onward ys = (next : Reading) × Agree sys charts stimuli mode a b ys (front ++ i ∷ []) la lb next

    abbrev Goes : Type 0
    Goes = (ys : List Placed) × Onward ys

    -- both go on alike, or needn't
    abbrev Further : Type 0
    Further = Goes ⊎ MayPart sys charts stimuli mode a b

    -- no stimulus comes with it
    on-plain : ((n floor : ℕ) → i.body ≡ body.Look n floor → a.has n ≡ b.has n)
        → option_map_or (λ (l : ℕ × ℕ). parts_of_look 1 l.0 a.cuts a.sources) (look_of i.body) [] ≡ []
        → option_map_or (λ (l : ℕ × ℕ). parts_of_look 1 l.0 b.cuts b.sources) (look_of i.body) [] ≡ [] → Goes
    on-plain new none_a none_b = (
      xs ++ placed 0 i ∷ [],
      extended sys charts stimuli mode bounded positive a b xs front i la lb k g new (xs ++ placed 0 i ∷ [])
          (order-here sys charts stimuli mode bounded positive a xs front i la k g.one ∙ ap (λ ps. xs ++ placed 0 i ∷ (ps ++ with_stimuli a.cuts a.sources la)) none_a ∙ sym (append_assoc xs (placed 0 i ∷ []) _))
          (order-here sys charts stimuli mode bounded positive b xs front i lb k g.two ∙ ap (λ ps. xs ++ placed 0 i ∷ (ps ++ with_stimuli b.cuts b.sources lb)) none_b ∙ sym (append_assoc xs (placed 0 i ∷ []) _))
          (λ before l behind is. fronts-on (1 + length before) l (above-zero (length before)) (g.one.fronts before l behind is))
          (λ before l behind is. fronts-on (1 + length before) l (above-zero (length before)) (g.two.fronts before l behind is))
          (λ j some. ap (records_of a.w 0 0) (stays j some) ∙ g.told_so j some ∙ ap (records_of b.w 0 0) (sym (stays j some))),
    )
      where
        stays : (j : ℕ) → (j ≡ 0 → ⊥) → lane_in (xs ++ placed 0 i ∷ []) j ≡ lane_in xs j
        stays j some = lane-with xs i 0 [] j some ∙ append-nil (lane_in xs j)

        fronts-on : (j : ℕ) (l : List Item) → (j ≡ 0 → ⊥) → IsFront xs j l → IsFront (xs ++ placed 0 i ∷ []) j l
        fronts-on j l some h = record { rest = h.rest; is = h.is ∙ ap (λ ys. ys ++ h.rest) (sym (stays j some)); first = h.first }

    -- a stimulus comes with it
    on-stimulus : (n floor m place : ℕ) → i ≡ look_item n floor → Stimulated sys stimuli (lined sys charts stimuli mode a) xs n m place → Stimulated sys stimuli (lined sys charts stimuli mode b) xs n m place → Further
    unfolding told
    on-stimulus n floor m place look sa sb =
        let st = stim_item place n in
        let start = xs ++ placed 0 i ∷ placed (1 + m) st ∷ [] in
        let done = lane_in xs (1 + m) ++ st ∷ [] in
        let parts_a = part a la g.one sa in
        let parts_b = part b lb g.two sb in
        let told_done : records_of a.w 0 0 done ≡ records_of b.w 0 0 done =
        told-on sys charts stimuli mode a.w (lane_in xs (1 + m)) st refl ∙ ap (λ ts. ts ++ told a.w 0 (ceiling_over 0 (lane_in xs (1 + m))) (body.Stim place n) ∷ []) (g.told_so (1 + m) (above-zero m))
        ∙ sym (told-on sys charts stimuli mode b.w (lane_in xs (1 + m)) st refl) in
        by (same-part sys charts stimuli mode a b m (up_to_stim sa.more) (up_to_stim sb.more) start done parts_a parts_b told_done)
      where
        look_is : look_of i.body ≡ Some (n, floor)
        look_is = ap (λ (x : Item). look_of x.body) look

        ordered : (c : Side sys charts stimuli mode) (lc : List Item) (h : Along sys charts stimuli mode c xs front (i ∷ lc) k) (sc : Stimulated sys stimuli (lined sys charts stimuli mode c) xs n m place)
            → order_of sys charts stimuli mode c ≡ xs ++ placed 0 i ∷ (all_placed (1 + m) (stim_item place n ∷ up_to_stim sc.more) ++ with_stimuli c.cuts c.sources lc)
        ordered c lc h sc =
            order-here sys charts stimuli mode bounded positive c xs front i lc k h
            ∙ ap (λ (o : Option (ℕ × ℕ)). xs ++ placed 0 i ∷ (option_map_or (λ (l : ℕ × ℕ). parts_of_look 1 l.0 c.cuts c.sources) o [] ++ with_stimuli c.cuts c.sources lc)) look_is
            ∙ ap (λ ps. xs ++ placed 0 i ∷ (ps ++ with_stimuli c.cuts c.sources lc)) sc.parts

        part : (c : Side sys charts stimuli mode) (lc : List Item) (h : Along sys charts stimuli mode c xs front (i ∷ lc) k) (sc : Stimulated sys stimuli (lined sys charts stimuli mode c) xs n m place)
            → Part sys charts stimuli mode c (xs ++ placed 0 i ∷ placed (1 + m) (stim_item place n) ∷ []) m (lane_in xs (1 + m) ++ stim_item place n ∷ []) (up_to_stim sc.more)
        part c lc h sc =
            record {
              before = sc.before;
              behind = sc.behind;
              lane = sc.lane;
              are = sc.are;
              at = sc.at;
              more = from_stim sc.more;
              is = sc.is ∙ ap (λ us. lane_in xs (1 + m) ++ stim_item place n ∷ us) (sym (stim-split sc.more)) ∙ sym (append_assoc (lane_in xs (1 + m)) (stim_item place n ∷ []) (up_to_stim sc.more ++ from_stim sc.more));
              first = stim-first sc.more;
              back = with_stimuli c.cuts c.sources lc;
              order = ordered c lc h sc ∙ sym (append_assoc xs (placed 0 i ∷ placed (1 + m) (stim_item place n) ∷ []) _);
              plain = begun-up_to sc.more;
            }

        new : (n2 fl : ℕ) → i.body ≡ body.Look n2 fl → a.has n2 ≡ b.has n2
        new n2 fl e =
            let same : Some (n, floor) ≡ Some (n2, fl) = sym look_is ∙ ap look_of e in
            let number : n ≡ n2 = ap (λ (o : Option (ℕ × ℕ)). option_map_or (λ (x : ℕ × ℕ). x.0) o 0) same in
            subst (λ x. a.has x ≡ b.has x) number (sa.has_it ∙ sym sb.has_it)

        told-at : (j : ℕ) → (j ≡ 0 → ⊥) → (gs : List Item) → records_of a.w 0 0 (lane_in xs (1 + m) ++ gs) ≡ records_of b.w 0 0 (lane_in xs (1 + m) ++ gs)
            → records_of a.w 0 0 (lane_in (xs ++ placed 0 i ∷ all_placed (1 + m) gs) j) ≡ records_of b.w 0 0 (lane_in (xs ++ placed 0 i ∷ all_placed (1 + m) gs) j)
        told-at j some gs own = by (1 + m == j) refl
          where
            by : (d : Bool) → (1 + m == j) ≡ d
                → records_of a.w 0 0 (lane_in (xs ++ placed 0 i ∷ all_placed (1 + m) gs) j) ≡ records_of b.w 0 0 (lane_in (xs ++ placed 0 i ∷ all_placed (1 + m) gs) j)
            by true e =
                let same : 1 + m ≡ j = grind (arith, nat_tests) in
                subst (λ x. records_of a.w 0 0 (lane_in (xs ++ placed 0 i ∷ all_placed (1 + m) gs) x) ≡ records_of b.w 0 0 (lane_in (xs ++ placed 0 i ∷ all_placed (1 + m) gs) x)) same
                (ap (records_of a.w 0 0) (lane-own xs i m gs) ∙ own ∙ ap (records_of b.w 0 0) (sym (lane-own xs i m gs)))
            by false e = ap (records_of a.w 0 0) (lane-other xs i m gs j some e) ∙ g.told_so j some ∙ ap (records_of b.w 0 0) (sym (lane-other xs i m gs j some e))

        behind : up_to_stim sa.more ≡ up_to_stim sb.more
            → records_of a.w 0 0 ((lane_in xs (1 + m) ++ stim_item place n ∷ []) ++ up_to_stim sa.more) ≡ records_of b.w 0 0 ((lane_in xs (1 + m) ++ stim_item place n ∷ []) ++ up_to_stim sb.more) → Goes
        behind rests tells =
            let st = stim_item place n in
            let done = lane_in xs (1 + m) ++ st ∷ [] in
            let gs = st ∷ up_to_stim sa.more in
            let ends : st ∷ up_to_stim sb.more ≡ gs = ap (λ us. st ∷ us) (sym rests) in
            let ys = xs ++ placed 0 i ∷ all_placed (1 + m) gs in (
              ys,
              extended sys charts stimuli mode bounded positive a b xs front i la lb k g (λ n2 fl e. new n2 fl e) ys
                  (ordered a la g.one sa ∙ sym (append_assoc xs (placed 0 i ∷ all_placed (1 + m) gs) _))
                  (ordered b lb g.two sb ∙ ap (λ us. xs ++ placed 0 i ∷ (all_placed (1 + m) us ++ with_stimuli b.cuts b.sources lb)) ends ∙ sym (append_assoc xs (placed 0 i ∷ all_placed (1 + m) gs) _))
                  (λ before l behind is. front-on sys stimuli (lined sys charts stimuli mode a) xs i n m place sa gs refl before l behind is (g.one.fronts before l behind is))
                  (λ before l behind is. front-on sys stimuli (lined sys charts stimuli mode b) xs i n m place sb gs ends before l behind is (g.two.fronts before l behind is))
                  (λ j some. told-at j some gs
                  (subst (λ l. records_of a.w 0 0 l ≡ records_of b.w 0 0 l) (append_assoc (lane_in xs (1 + m)) (st ∷ []) (up_to_stim sa.more))
                  (tells ∙ ap (λ us. records_of b.w 0 0 (done ++ us)) (sym rests)))),
            )

        by : ((up_to_stim sa.more ≡ up_to_stim sb.more)
            × (records_of a.w 0 0 ((lane_in xs (1 + m) ++ stim_item place n ∷ []) ++ up_to_stim sa.more) ≡ records_of b.w 0 0 ((lane_in xs (1 + m) ++ stim_item place n ∷ []) ++ up_to_stim sb.more)))
            ⊎ (((a.spilt ≡ true) ⊎ (b.spilt ≡ true)) × LongLane sys charts stimuli mode a) → Further
        by (inr (spilt, long)) = inr (spilt, inl long)
        by (inl same) = inl (behind same.0 same.1)

    looked-at : (c : Side sys charts stimuli mode) (lc : List Item) (h : Along sys charts stimuli mode c xs front (i ∷ lc) k) (n floor : ℕ) → i ≡ look_item n floor
        → order_of sys charts stimuli mode c ≡ xs ++ placed 0 (look_item n floor) ∷ (option_map_or (λ (l : ℕ × ℕ). parts_of_look 1 l.0 c.cuts c.sources) (look_of i.body) [] ++ with_stimuli c.cuts c.sources lc)
    looked-at c lc h n floor is =
        order-here sys charts stimuli mode bounded positive c xs front i lc k h
        ∙ ap (λ x. xs ++ placed 0 x ∷ (option_map_or (λ (l : ℕ × ℕ). parts_of_look 1 l.0 c.cuts c.sources) (look_of i.body) [] ++ with_stimuli c.cuts c.sources lc)) is

    partless : (c : Side sys charts stimuli mode) (n floor : ℕ) → i.body ≡ body.Look n floor → parts_of_look 1 n c.cuts c.sources ≡ []
        → option_map_or (λ (l : ℕ × ℕ). parts_of_look 1 l.0 c.cuts c.sources) (look_of i.body) [] ≡ []
    partless c n floor is none = ap (λ (d : Body). option_map_or (λ (l : ℕ × ℕ). parts_of_look 1 l.0 c.cuts c.sources) (look_of d) []) is ∙ none

    newly : (n floor : ℕ) → i.body ≡ body.Look n floor → a.has n ≡ b.has n → (n2 fl : ℕ) → i.body ≡ body.Look n2 fl → a.has n2 ≡ b.has n2
    newly n floor is same n2 fl e =
        let looks : Some (n, floor) ≡ Some (n2, fl) = ap look_of (sym is ∙ e) in
        let number : n ≡ n2 = ap (λ (o : Option (ℕ × ℕ)). option_map_or (λ (x : ℕ × ℕ). x.0) o 0) looks in
        subst (λ x. a.has x ≡ b.has x) number same

    -- a look
    on-look : (n floor : ℕ) → i.body ≡ body.Look n floor → Further
    on-look n floor is =
        let whole : i ≡ look_item n floor = look-whole (in_kernel mode.kernel sys a.has) k _ i n floor (slot sys charts stimuli mode bounded positive a xs front i la k g.one) is in
        by whole (acts_next sys stimuli xs (floor == 0)) refl
      where
        -- where a look lacks its stimulus
        lacks-in : (c : Side sys charts stimuli mode) (lc : List Item) (h : Along sys charts stimuli mode c xs front (i ∷ lc) k) → i ≡ look_item n floor → (t : Turn) → acts_next sys stimuli xs (floor == 0) ≡ Some t
            → turns_at 1 n c.sources ≡ [] → (c.spilt ≡ true) × (Lacking sys charts stimuli mode c ⊎ LongFront (length c.sources) xs)
        lacks-in c lc h whole t acts turns =
            let free = freed sys stimuli (lined sys charts stimuli mode c) xs n floor _ (looked-at c lc h n floor whole) h.fronts turns in
            let order : order_of sys charts stimuli mode c ≡ xs ++ placed 0 (look_item n floor) ∷ with_stimuli c.cuts c.sources lc =
            looked-at c lc h n floor whole ∙ ap (λ ps. xs ++ placed 0 (look_item n floor) ∷ (ps ++ with_stimuli c.cuts c.sources lc)) (partless c n floor is free.0) in
            let lacks : is_turn (acts_next sys stimuli xs (floor == 0)) (turns_at 1 n c.sources) ≡ false = (λ j. is_turn (acts j) (turns j)) in
            let late = c.late xs n floor lc order lacks in
            (late.0, on order lacks late.1)
          where
            on : order_of sys charts stimuli mode c ≡ xs ++ placed 0 (look_item n floor) ∷ with_stimuli c.cuts c.sources lc
                → is_turn (acts_next sys stimuli xs (floor == 0)) (turns_at 1 n c.sources) ≡ false → (c.halts ≡ true) ⊎ LongFront (length c.sources) xs
                → Lacking sys charts stimuli mode c ⊎ LongFront (length c.sources) xs
            on order lacks (inl halts) = inl (record { halts = halts; before = xs; number = n; floor = floor; behind = with_stimuli c.cuts c.sources lc; look = order; lacks = lacks })
            on order lacks (inr long) = inr long

        both : i ≡ look_item n floor → (t : Turn) → acts_next sys stimuli xs (floor == 0) ≡ Some t
            → ((m : ℕ) × (1 + m ≡ t.source) × Stimulated sys stimuli (lined sys charts stimuli mode a) xs n m t.place) ⊎ (turns_at 1 n a.sources ≡ [])
            → ((m : ℕ) × (1 + m ≡ t.source) × Stimulated sys stimuli (lined sys charts stimuli mode b) xs n m t.place) ⊎ (turns_at 1 n b.sources ≡ []) → Further
        both whole t acts (inl one) (inl two) =
            let same : two.0 ≡ one.0 = omega (arith, one.1, two.1) in
            on-stimulus n floor one.0 t.place whole one.2 (subst (λ m. Stimulated sys stimuli (lined sys charts stimuli mode b) xs n m t.place) same two.2)
        both whole t acts (inr turns) other = by_first (lacks-in a la g.one whole t acts turns)
          where
            by_first : (a.spilt ≡ true) × (Lacking sys charts stimuli mode a ⊎ LongFront (length a.sources) xs) → Further
            by_first (spilt, inl lacking) = inr (inl spilt, inr (inl lacking))
            by_first (spilt, inr long) = inr (inl spilt, inl (front-long a xs g.one.fronts long))
        both whole t acts (inl one) (inr turns) = by_second (lacks-in b lb g.two whole t acts turns)
          where
            by_second : (b.spilt ≡ true) × (Lacking sys charts stimuli mode b ⊎ LongFront (length b.sources) xs) → Further
            by_second (spilt, inl lacking) = inr (inr spilt, inr (inr lacking))
            by_second (spilt, inr (m, less, long)) = inr (inr spilt, inl (front-long a xs g.one.fronts (m, omega (arith, size, less), long)))

        by : i ≡ look_item n floor → (t : Option Turn) → acts_next sys stimuli xs (floor == 0) ≡ t → Further
        by whole None acts =
            let one = unstimulated sys stimuli (lined sys charts stimuli mode a) xs n floor _ (looked-at a la g.one n floor whole) g.one.fronts acts in
            let two = unstimulated sys stimuli (lined sys charts stimuli mode b) xs n floor _ (looked-at b lb g.two n floor whole) g.two.fronts acts in
            inl (on-plain (newly n floor is (one.1 ∙ sym two.1)) (partless a n floor is one.0) (partless b n floor is two.0))
        by whole (Some t) acts =
            both whole t acts (stimulated sys stimuli (lined sys charts stimuli mode a) xs n floor _ (looked-at a la g.one n floor whole) g.one.fronts t acts)
            (stimulated sys stimuli (lined sys charts stimuli mode b) xs n floor _ (looked-at b lb g.two n floor whole) g.two.fronts t acts)

  -- a record of lane 0 and what comes with it
  goes-on : (a b : Side sys charts stimuli mode) (xs : List Placed) (front : List Item) (i : Item) (la lb : List Item) (k : Reading)
      (g : Agree sys charts stimuli mode a b xs front (i ∷ la) (i ∷ lb) k) (size : length a.sources ≡ length b.sources) → Further a b xs front i la lb k g size
  goes-on a b xs front i la lb k g size = by (look_of i.body) refl
    where
      by : (o : Option (ℕ × ℕ)) → look_of i.body ≡ o → Further a b xs front i la lb k g size
      by None e =
          inl (on-plain a b xs front i la lb k g size
          (λ n floor is. absurd (let no : None ≡ Some (n, floor) = sym e ∙ ap look_of is in cc))
          (ap (λ (o : Option (ℕ × ℕ)). option_map_or (λ (l : ℕ × ℕ). parts_of_look 1 l.0 a.cuts a.sources) o []) e)
          (ap (λ (o : Option (ℕ × ℕ)). option_map_or (λ (l : ℕ × ℕ). parts_of_look 1 l.0 b.cuts b.sources) o []) e))
      by (Some l) e = on-look a b xs front i la lb k g size l.0 l.1 (look-body i.body l e)

  -- a run that has ended isn't one that goes on
  ended-here : (a b : Side sys charts stimuli mode) (xs : List Placed) (front : List Item) (ib : Item) (lb : List Item) (k : Reading)
      → HasEnded sys charts stimuli mode a → Agree sys charts stimuli mode a b xs front [] (ib ∷ lb) k → ⊥
  unfolding lane_on with_stimuli
  ended-here a b xs front ib lb k ended g = by ended
    where
      last : a.last ≡ k
      last =
          let one : Some a.last ≡ Some k =
          sym a.read ∙ ap (lane_on (in_kernel mode.kernel sys a.has) (unread sys)) (g.one.lane ∙ append-nil front) ∙ g.one.read in
          cc

      over : (place : Upcoming) → is_over mode.kernel place ≡ true → place ≡ Over
      over Over h = refl
      over Inside h = absurd (let no : (mode.kernel == qk) ≡ false = (no-threads mode.kernel mode.one).0 in cc)
      over _ h = absurd (cc)

      none : (us : List ℕ) → (length us == 0) ≡ true → us ≡ []
      none [] h = refl
      none (u ∷ us) h = let no : suc (length us) ≡ 0 = grind (arith, nat_tests) in absurd (omega (arith, no))

      by : (is_whole_reading mode.kernel a.last ≡ true) ⊎ (list_any (λ z. is_end z.item.body) (order_of sys charts stimuli mode a) ≡ true) → ⊥
      by (inl whole) =
          let here : is_whole_reading mode.kernel k ≡ true = subst (λ (x : Reading). is_whole_reading mode.kernel x ≡ true) last whole in
          let parts = and_parts _ _ here in
          let first = and_parts _ _ parts.0 in
          over-none (in_kernel mode.kernel sys b.has) k _ ib (none k.unstarted first.0) (inl (over k.place parts.1)) (slot sys charts stimuli mode bounded positive b xs front ib lb k g.two)
      by (inr some) =
          let whole : order_of sys charts stimuli mode a ≡ xs = g.one.order ∙ append-nil xs in
          let one : list_any (λ z. is_end z.item.body) xs ≡ true = subst (λ ys. list_any (λ z. is_end z.item.body) ys ≡ true) whole some in
          let two : list_any (λ z. is_end z.item.body) xs ≡ false =
          b.ends xs (placed 0 ib) _ (order-here sys charts stimuli mode bounded positive b xs front ib lb k g.two) in
          let no : true ≡ false = sym one ∙ two in
          cc

  -- the order of the second is a front of that of the first, or they needn't go on alike
  abbrev GoesOnBehind : (a b : Side sys charts stimuli mode) → Type 0
  GoesOnBehind a b = ((zs : List Placed) × (order_of sys charts stimuli mode a ≡ order_of sys charts stimuli mode b ++ zs)) ⊎ MayPart sys charts stimuli mode a b

  -- so it is for a run that has ended, and one that has come equally far
  pub front-order : (a b : Side sys charts stimuli mode) → HasEnded sys charts stimuli mode a → length a.sources ≡ length b.sources → (la lb : List Item) (xs : List Placed) (front : List Item) (k : Reading)
      → Agree sys charts stimuli mode a b xs front la lb k → GoesOnBehind a b
  unfolding with_stimuli
  front-order a b ea size [] [] xs front k g = inl ([], g.one.order ∙ sym g.two.order ∙ sym (append-nil (order_of sys charts stimuli mode b)))
  front-order a b ea size [] (ib ∷ lb) xs front k g = absurd (ended-here a b xs front ib lb k ea g)
  front-order a b ea size (ia ∷ la) [] xs front k g =
      inl (with_stimuli a.cuts a.sources (ia ∷ la), g.one.order ∙ ap (λ us. us ++ with_stimuli a.cuts a.sources (ia ∷ la)) (sym (g.two.order ∙ append-nil xs)))
  front-order a b ea size (ia ∷ la) (ib ∷ lb) xs front k g =
      let same : ib ≡ ia = sym (same-item sys charts stimuli mode bounded positive a b xs front ia ib la lb k g) in
      let moved = subst (λ x. Agree sys charts stimuli mode a b xs front (ia ∷ la) (x ∷ lb) k) same g in
      by ia la lb front k xs moved (goes-on a b xs front ia la lb k moved size) (λ ys next agree. front-order a b ea size la lb ys (front ++ ia ∷ []) next agree)
    where
      by : (i : Item) (la lb front : List Item) (k : Reading) (xs : List Placed) (g : Agree sys charts stimuli mode a b xs front (i ∷ la) (i ∷ lb) k) → Further a b xs front i la lb k g size
          → ((ys : List Placed) (next : Reading) → Agree sys charts stimuli mode a b ys (front ++ i ∷ []) la lb next → GoesOnBehind a b) → GoesOnBehind a b
      by i la lb front k xs g (inl on) later = later on.0 on.1.0 on.1.1
      by i la lb front k xs g (inr part) later = inr part

  -- they have come equally far at first
  pub agree-first : (a b : Side sys charts stimuli mode) → a.has 0 ≡ b.has 0 → Agree sys charts stimuli mode a b [] [] a.lane0 b.lane0 (unread sys)
  unfolding lane_on pieces_in records_of unread
  agree-first a b looks =
      record {
        one = first a;
        two = first b;
        stacked = stacked-first sys;
        looks = looks;
        pieces = λ p. refl;
        told_so = λ j some. refl;
      }
    where
      none : (l : List Item) → alone l → (c : Side sys charts stimuli mode) (before behind : List (List Item)) → c.sources ≡ before ++ l ∷ behind → StimFirst l
      none [] own c before behind is = tt
      none (i ∷ l) own c before behind is =
          let source = c.source before (i ∷ l) behind is in
          let at = alone-at [] i l own in
          let next = after-first sys mode.kernel (Between 1 (get_or stimuli (length before) [])) source.1 (told c.w 0 0 i.body) _
          (subst (λ ts. source_after sys mode.kernel (Some (Between 1 (get_or stimuli (length before) []))) ts ≡ Some source.1) (record-first c.w 0 i l at.0) source.3) in
          first-stim sys mode.kernel c.w i next.0 (get_or stimuli (length before) []) next.1

      first : (c : Side sys charts stimuli mode) → Along sys charts stimuli mode c [] [] c.lane0 (unread sys)
      first c =
          record {
            lane = refl;
            order = refl;
            read = refl;
            tail = λ p e. absurd (cc);
            fronts = λ before l behind is. record { rest = l; is = refl; first = none l (c.source before l behind is).0 c before behind is };
          }
