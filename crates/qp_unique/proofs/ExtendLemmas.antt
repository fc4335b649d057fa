-- Two runs that have come equally far and go on by the same record of lane 0 have come equally far behind it.
use Rattle.std.proofs.Common.{◌≡◌, ◌∙◌, ℕ, ◌+◌, ◌==◌, Bool, true, false, List, [], ◌∷◌, ◌++◌, length, Some, refl, sym, ap, subst, inl, inr, ◌⊎◌, arith, append-nil}
use Rattle.std.proofs.lemmas.Bool.Decides.{nat_tests}
use Rattle.std.proofs.lemmas.List.{append_assoc}
use Rattle.qp_chart.specs.declared.checked.Chart.{Chart}
use Rattle.qp_model.specs.declared.stimulus.Stim.{Stim}
use Rattle.qp_model.specs.declared.systems.System.{System}
use Rattle.qp_model.specs.declared.systems.ObjectDef.{ObjectDef}
use Rattle.qp_model.specs.declared.bodies.Body.TheVariants as body
use Rattle.qp_model.specs.Record.{Item}
use Rattle.qp_model.specs.Told.{Told}
use Rattle.qp_model.specs.Knowing.{told, known_of, records_of}
use Rattle.qp_model.specs.Sites.{object_at}
use Rattle.qp_model.specs.Pieces.{Piece, Tell, Point, ends_at_point}
use Rattle.qp_model.specs.KernelLane.{floor_in, Ended, Reading, lane_on, unread}
use Rattle.qp_model.specs.Points.{pieces_at, pieces_in}
use Rattle.qp_model.specs.OneOrder.{Placed, with_stimuli}
use Rattle.qp_model.proofs.KernelRowLemmas.{lane_on-next, pieces_in-then}
use Rattle.qp_model_order.specs.Placing.{look_item}
use Rattle.qp_unique.proofs.KernelLemmas.{next-same}
use Rattle.qp_unique.proofs.StackLemmas.{IsBounded, Stacked, PlaceStacked, IsObject, stacked-next, ended-last}
use Rattle.qp_unique.proofs.StepLemmas.{slot-looks}
use Rattle.qp_unique.proofs.ItemLemmas.{step, slot, comes-here, own-unmarked, tells-at}
use Rattle.qp_unique.proofs.Sides.{Mode, Side, Along, Agree, IsFront, in_kernel, order_of, lane_in}
use Rattle.qp_model.proofs.AbleLemmas.{some-same}

ends-told : (ps : List Piece) (t : Told) → ends_at_point (ps ++ Tell t ∷ []) ≡ false
unfolding ends_at_point
ends-told [] t = refl
ends-told (Point ∷ []) t = refl
ends-told (Tell u ∷ []) t = refl
ends-told (Point ∷ q ∷ ps) t = ends-told (q ∷ ps) t
ends-told (Tell u ∷ q ∷ ps) t = ends-told (q ∷ ps) t

module _ (sys : System) (charts : (p : ℕ) (d : ObjectDef) → object_at sys p ≡ Some d → Chart) (stimuli : List (List Stim)) (mode : Mode)
    (bounded : IsBounded sys) (positive : (p : ℕ) → IsObject sys p → p ≡ 0 → ⊥) where
  module _ (a : Side sys charts stimuli mode) (xs : List Placed) (front : List Item) (i : Item) (la : List Item) (k : Reading)
      (h : Along sys charts stimuli mode a xs front (i ∷ la) k) (stacked : Stacked sys k) where
    pieces-snoc : (p : ℕ) → pieces_in a.w (in_kernel mode.kernel sys a.has) p (unread sys) (front ++ i ∷ []) ≡ pieces_in a.w (in_kernel mode.kernel sys a.has) p (unread sys) front ++ pieces_at a.w p k i
    unfolding pieces_in
    pieces-snoc p =
        pieces_in-then a.w (in_kernel mode.kernel sys a.has) p (unread sys) k front (i ∷ []) h.read ∙ ap (λ ps. pieces_in a.w (in_kernel mode.kernel sys a.has) p (unread sys) front ++ ps) (append-nil (pieces_at a.w p k i))

    tail-next : (next : Reading) → (step sys charts stimuli mode bounded positive a xs front i la k h).0 ≡ next → (p : ℕ) → next.place ≡ Ended p
        → ends_at_point (pieces_in a.w (in_kernel mode.kernel sys a.has) p (unread sys) (front ++ i ∷ [])) ≡ false
    tail-next next same p at =
        let here = slot sys charts stimuli mode bounded positive a xs front i la k h in
        let last = ended-last (in_kernel mode.kernel sys a.has) k (step sys charts stimuli mode bounded positive a xs front i la k h).0 i p here stacked (ap (λ (x : Reading). x.place) same ∙ at) in
        let behind = stacked-next (in_kernel mode.kernel sys a.has) bounded k (step sys charts stimuli mode bounded positive a xs front i la k h).0 i here stacked in
        let its : IsObject sys p = (subst (PlaceStacked sys (step sys charts stimuli mode bounded positive a xs front i la k h).0.running) (ap (λ (x : Reading). x.place) same ∙ at) behind.place).0 in
        let told_it = tells-at sys charts stimuli mode bounded positive a xs front i la k h p last.0
        (own-unmarked sys charts stimuli mode bounded positive a xs front i la k h (subst (IsObject sys) (sym last.0) its) last.1) in
        ap ends_at_point (pieces-snoc p ∙ ap (λ ps. pieces_in a.w (in_kernel mode.kernel sys a.has) p (unread sys) front ++ ps) told_it) ∙ ends-told (pieces_in a.w (in_kernel mode.kernel sys a.has) p (unread sys) front) _

    read-next : (next : Reading) → (step sys charts stimuli mode bounded positive a xs front i la k h).0 ≡ next → lane_on (in_kernel mode.kernel sys a.has) (unread sys) (front ++ i ∷ []) ≡ Some next
    read-next next same =
        lane_on-next (in_kernel mode.kernel sys a.has) (unread sys) k _ front i h.read (step sys charts stimuli mode bounded positive a xs front i la k h).1 ∙ ap Some same

  module _ (a b : Side sys charts stimuli mode) (xs : List Placed) (front : List Item) (i : Item) (la lb : List Item) (k : Reading)
      (g : Agree sys charts stimuli mode a b xs front (i ∷ la) (i ∷ lb) k) (new : (n floor : ℕ) → i.body ≡ body.Look n floor → a.has n ≡ b.has n) where
    known-same : (c : ℕ) → known_of a.w i.of c i.body ≡ known_of b.w i.of c i.body
    unfolding told
    known-same c =
        (comes-here sys charts stimuli mode bounded positive a xs front i la k g.one c).known
        ∙ sym (comes-here sys charts stimuli mode bounded positive b xs front i lb k g.two c).known

    at-same : (p : ℕ) → pieces_at a.w p k i ≡ pieces_at b.w p k i
    unfolding pieces_at told
    at-same p = by (i.of == p) refl
      where
        by : (c : Bool) → (i.of == p) ≡ c → pieces_at a.w p k i ≡ pieces_at b.w p k i
        by true own =
            let e : i.of ≡ p = grind (arith, nat_tests) in
            let known : known_of a.w p k.ceiling i.body ≡ known_of b.w p k.ceiling i.body = subst (λ o. known_of a.w o k.ceiling i.body ≡ known_of b.w o k.ceiling i.body) e (known-same k.ceiling) in
            rw (own, known) refl
        by false own = rw own refl

    next-is : (step sys charts stimuli mode bounded positive b xs front i lb k g.two).0 ≡ (step sys charts stimuli mode bounded positive a xs front i la k g.one).0
    next-is =
        some-same (sym (step sys charts stimuli mode bounded positive b xs front i lb k g.two).1 ∙ sym (next-same sys mode.kernel a.has b.has k i g.looks new)
        ∙ (step sys charts stimuli mode bounded positive a xs front i la k g.one).1)

    looks-on : (next : Reading) → (step sys charts stimuli mode bounded positive a xs front i la k g.one).0 ≡ next → a.has next.looks ≡ b.has next.looks
    looks-on next same = by (slot-looks (in_kernel mode.kernel sys a.has) k _ i (slot sys charts stimuli mode bounded positive a xs front i la k g.one))
      where
        by : ((step sys charts stimuli mode bounded positive a xs front i la k g.one).0.looks ≡ k.looks)
            ⊎ ((i ≡ look_item (k.looks + 1) (floor_in sys mode.kernel k.running k.ceiling)) × ((step sys charts stimuli mode bounded positive a xs front i la k g.one).0.looks ≡ k.looks + 1))
            → a.has next.looks ≡ b.has next.looks
        by (inl stays) =
            let e : k.looks ≡ next.looks = sym stays ∙ ap (λ (x : Reading). x.looks) same in subst (λ n. a.has n ≡ b.has n) e g.looks
        by (inr (look, more)) =
            let e : k.looks + 1 ≡ next.looks = sym more ∙ ap (λ (x : Reading). x.looks) same in
            subst (λ n. a.has n ≡ b.has n) e (new (k.looks + 1) (floor_in sys mode.kernel k.running k.ceiling) (ap (λ (x : Item). x.body) look))

    -- with what the order has then
    pub extended : (ys : List Placed) → order_of sys charts stimuli mode a ≡ ys ++ with_stimuli a.cuts a.sources la → order_of sys charts stimuli mode b ≡ ys ++ with_stimuli b.cuts b.sources lb
        → ((before : List (List Item)) (l : List Item) (behind : List (List Item)) → a.sources ≡ before ++ l ∷ behind → IsFront ys (1 + length before) l)
        → ((before : List (List Item)) (l : List Item) (behind : List (List Item)) → b.sources ≡ before ++ l ∷ behind → IsFront ys (1 + length before) l)
        → ((j : ℕ) → (j ≡ 0 → ⊥) → records_of a.w 0 0 (lane_in ys j) ≡ records_of b.w 0 0 (lane_in ys j))
        → (next : Reading) × Agree sys charts stimuli mode a b ys (front ++ i ∷ []) la lb next
    extended ys order_a order_b fronts_a fronts_b told_on =
        let next = (step sys charts stimuli mode bounded positive a xs front i la k g.one).0 in (
          next,
          record {
            one = record {
              lane = g.one.lane ∙ sym (append_assoc front (i ∷ []) la);
              order = order_a;
              read = read-next a xs front i la k g.one g.stacked next refl;
              tail = tail-next a xs front i la k g.one g.stacked next refl;
              fronts = fronts_a;
            };
            two = record {
              lane = g.two.lane ∙ sym (append_assoc front (i ∷ []) lb);
              order = order_b;
              read = read-next b xs front i lb k g.two g.stacked next next-is;
              tail = tail-next b xs front i lb k g.two g.stacked next next-is;
              fronts = fronts_b;
            };
            stacked = stacked-next (in_kernel mode.kernel sys a.has) bounded k next i (slot sys charts stimuli mode bounded positive a xs front i la k g.one) g.stacked;
            looks = looks-on next refl;
            pieces = λ p.
                pieces-snoc a xs front i la k g.one g.stacked p ∙ ap (λ ps. ps ++ pieces_at a.w p k i) (g.pieces p)
                ∙ ap (λ ps. pieces_in b.w (in_kernel mode.kernel sys b.has) p (unread sys) front ++ ps) (at-same p) ∙ sym (pieces-snoc b xs front i lb k g.two g.stacked p);
            told_so = told_on;
          },
        )
