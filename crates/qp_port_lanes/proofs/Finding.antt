-- No look of a call showed an entry.
use Rattle.std.proofs.Common.{◌≡◌, ℕ, suc, ◌+◌, ◌==◌, Bool, true, false, ◌&&◌, List, [], ◌∷◌, ◌++◌, map, length, refl, sym, ◌∙◌, ap, subst, inl, inr, arith, append-nil, append_assoc}
use Rattle.std.specs.Prelude.{⊤}
use Rattle.std.specs.List.{AllByRecursion, list_any}
use Rattle.std.proofs.lemmas.Bool.{or_parts, or_right}
use Rattle.std.proofs.lemmas.Bool.Decides.{nat_tests}
use Rattle.std.proofs.lemmas.List.Folds.{list_any-append}
use Rattle.qp_model.specs.declared.systems.System.{System}
use Rattle.qp_model.specs.declared.words.Word.TheVariants as word
use Rattle.qp_model.specs.declared.bodies.Body.TheVariants as body
use Rattle.qp_model.specs.Told.{Told, ToldItem, plain, for_object}
use Rattle.qp_model.specs.Kernels.{sim}
use Rattle.qp_model.specs.Sources.{SeesEmpty, Settles, Tries, priorities}
use Rattle.qp_calls.specs.LaneView.{GrowsOf, LaneView, mark_after, mark_by}
use Rattle.qp_calls.specs.Halting.{HaltsDry, HaltsFull}
use Rattle.qp_kernel_turns.specs.Halting.{FindsStop, asked_once}
use Rattle.qp_model_order.specs.SourceRun.{untold_all}
use Rattle.qp_port_lanes.specs.CursorAt.{tries_in}
use Rattle.qp_port_lanes.specs.Passing.{FindsNone, Glances, IsClear, IsSeenClear, shows_empty}
use Rattle.qp_port_lanes.proofs.Leaving.{tries-append}
use Rattle.qp_model_order.proofs.SourceLanes.{untold-append}

all-of : (P Q : ℕ → Type 0) → ((p : ℕ) → P p → Q p) → (os : List ℕ) → AllByRecursion P os → AllByRecursion Q os
all-of P Q on [] h = tt
all-of P Q on (o ∷ os) h = (on o h.0, all-of P Q on os h.1)

-- a queue of which the lane has learned nothing is as clear as it was
clear-same : (v w : LaneView) (p : ℕ) → w.mark (word.Queue p) ≡ v.mark (word.Queue p) → w.shown (word.Queue p) ≡ v.shown (word.Queue p) → IsClear v p → IsClear w p
clear-same v w p mark shown k = record { f = k.f; l = k.l; m = k.m; mark = mark ∙ k.mark; shown = shown ∙ k.shown; empty = k.empty }

seen-same : (v w : LaneView) (ts : List ToldItem) (p : ℕ) → w.mark (word.Queue p) ≡ v.mark (word.Queue p) → w.shown (word.Queue p) ≡ v.shown (word.Queue p) → IsSeenClear v ts p → IsSeenClear w ts p
seen-same v w ts p mark shown (inl k) = inl (clear-same v w p mark shown k)
seen-same v w ts p mark shown (inr k) = inr k

-- records more
seen-before : (w : LaneView) (ts us : List ToldItem) (p : ℕ) → IsSeenClear w ts p → IsSeenClear w (ts ++ us) p
seen-before w ts us p (inl k) = inl k
seen-before w ts us p (inr k) =
    inr (ap (λ is. list_any (λ i. shows_empty p i.body) is) (untold-append ts us) ∙ list_any-append (λ i. shows_empty p i.body) (untold_all ts) (untold_all us) ∙ rw k refl)

seen-behind : (w : LaneView) (ts us : List ToldItem) (p : ℕ) → IsSeenClear w us p → IsSeenClear w (ts ++ us) p
seen-behind w ts us p (inl k) = inl k
seen-behind w ts us p (inr k) =
    inr
    (ap (λ is. list_any (λ i. shows_empty p i.body) is) (untold-append ts us) ∙ list_any-append (λ i. shows_empty p i.body) (untold_all ts) (untold_all us)
    ∙ or_right (list_any (λ i. shows_empty p i.body) (untold_all ts)) (list_any (λ i. shows_empty p i.body) (untold_all us)) k)

-- by looks that added nothing
pub finds-glanced : (sys : System) (v u : LaneView) → Glances v u → AllByRecursion (IsClear u) (priorities sys) → FindsNone sys v u
finds-glanced sys v u g clear = record {
  ts = [];
  told = g.told ∙ sym (append-nil v.told);
  none = refl;
  clear = all-of (IsClear u) (IsSeenClear u []) (λ p k. inl k) (priorities sys) clear;
}

-- and a question in vain behind them
pub finds-once : (sys : System) (v u : LaneView) → FindsNone sys v u → FindsNone sys v (asked_once u)
finds-once sys v u h = record {
  ts = h.ts;
  told = h.told;
  none = h.none;
  clear = all-of (IsSeenClear u h.ts) (IsSeenClear (asked_once u) h.ts) (λ p k. seen-same u (asked_once u) h.ts p refl refl k) (priorities sys) h.clear;
}

-- The lane stops.

pub finds-stopped : (sys : System) (v u w : LaneView) → FindsNone sys v u → FindsStop u w → FindsNone sys v w
finds-stopped sys v u w h f = rw f.answered (record {
  ts = h.ts;
  told = h.told;
  none = h.none;
  clear = all-of (IsSeenClear u h.ts) (IsSeenClear (record u { answered = f.code ∷ u.answered; asked = suc u.asked }) h.ts) (λ p k. seen-same u (record u { answered = f.code ∷ u.answered; asked = suc u.asked }) h.ts p refl refl k) (priorities sys) h.clear;
})

pub finds-dry : (sys : System) (v u w : LaneView) → FindsNone sys v u → HaltsDry u w → FindsNone sys v w
finds-dry sys v u w h f = rw f.stops (record {
  ts = h.ts;
  told = h.told;
  none = h.none;
  clear = all-of (IsSeenClear u h.ts) (IsSeenClear (record u { stops = 7 ∷ u.stops }) h.ts) (λ p k. seen-same u (record u { stops = 7 ∷ u.stops }) h.ts p refl refl k) (priorities sys) h.clear;
})

spill-mark : (p n k : ℕ) → mark_after (word.Queue p) n (for_object 0 (plain (body.Spill k)) ∷ []) ≡ n
unfolding mark_after mark_by
spill-mark p n k = refl

-- the `spill` of a full lane
abbrev spill_of : LaneView → List ToldItem
spill_of u = for_object 0 (plain (body.Spill (length u.told))) ∷ []

pub finds-full : (sys : System) (v u w : LaneView) → FindsNone sys v u → HaltsFull u w → FindsNone sys v w
finds-full sys v u w h f = record {
  ts = h.ts ++ spill_of u;
  told = ap (λ y. y.told) f.stops ∙ f.spills.told ∙ ap (λ ts. ts ++ spill_of u) h.told ∙ append_assoc v.told h.ts (spill_of u);
  none = tries-append h.ts (spill_of u) ∙ ap (λ xs. xs ++ tries_in (spill_of u)) h.none;
  clear = all-of (IsSeenClear u h.ts) (IsSeenClear w (h.ts ++ spill_of u)) (λ p k. seen-before w h.ts (spill_of u) p (seen-same u w h.ts p (mark p) (shown p) k)) (priorities sys) h.clear;
}
  where
    still : (p : ℕ) → f.full.mark (word.Queue p) ≡ u.mark (word.Queue p)
    still p = f.spills.mark (word.Queue p) ∙ spill-mark p (u.mark (word.Queue p)) (length u.told)

    mark : (p : ℕ) → w.mark (word.Queue p) ≡ u.mark (word.Queue p)
    mark p = ap (λ y. y.mark (word.Queue p)) f.stops ∙ still p

    shown : (p : ℕ) → w.shown (word.Queue p) ≡ u.shown (word.Queue p)
    shown p = ap (λ y. y.shown (word.Queue p)) f.stops ∙ f.spills.shown (word.Queue p) (still p)

-- Looks of a `settle` that show empty queues. Such a record changes what the lane knows of no other queue.

abbrev AreEmptyLooks : List Told → Type 0
AreEmptyLooks [] = ⊤
AreEmptyLooks (t ∷ ts) = ((p n : ℕ) → shows_empty p t.body ≡ false → mark_by (word.Queue p) n (for_object 0 t) ≡ n) × AreEmptyLooks ts

look-mark : (o f l m : ℕ) → f + l ≡ m → (p n : ℕ) → shows_empty p (body.Seen o f l m) ≡ false → mark_by (word.Queue p) n (for_object 0 (plain (body.Seen o f l m))) ≡ n
unfolding mark_by
look-mark o f l m e p n none = by (o == p) refl none
  where
    sum : (f + l == m) ≡ true
    sum = grind (arith, nat_tests, e)

    by : (b : Bool) → (o == p) ≡ b → (b && (f + l == m)) ≡ false → mark_by (word.Queue p) n (for_object 0 (plain (body.Seen o f l m))) ≡ n
    by true is k = absurd (let wrong : true ≡ false = sym sum ∙ k in cc)
    by false is k = rw is refl

settle-mark : (p n : ℕ) → mark_by (word.Queue p) n (for_object 0 (plain body.Settle)) ≡ n
unfolding mark_by
settle-mark p n = refl

looks-empty : (os : List ℕ) (one front rest : List Told) → SeesEmpty os one → one ≡ front ++ rest → AreEmptyLooks front
unfolding SeesEmpty
looks-empty os one [] rest h is = tt
looks-empty [] one (t ∷ front) rest h is = absurd (cc)
looks-empty (o ∷ os) one (t ∷ front) rest h is =
    let head : t ≡ plain (body.Seen o h.0 h.1 h.2) = let e = h.4 in cc in
    let tail : h.3 ≡ front ++ rest = let e = h.4 in cc in (
      subst (λ (u : Told). (p n : ℕ) → shows_empty p u.body ≡ false → mark_by (word.Queue p) n (for_object 0 u) ≡ n) (sym head) (look-mark o h.0 h.1 h.2 h.5),
      looks-empty os h.3 front rest h.6 tail,
    )

settle-looks : (sys : System) (front rest : List Told) → Settles sys sim (front ++ rest) → AreEmptyLooks front
unfolding Settles Tries
settle-looks sys [] rest h = tt
settle-looks sys (t ∷ front) rest (n, tries, last, is, fits, inl may, sees) = let wrong : false ≡ true = may in absurd (cc)
settle-looks sys (t ∷ front) rest (n, tries, last, is, fits, inr none, sees) =
    let empty : tries ≡ [] = subst (λ k. Tries (priorities sys) k tries) none fits in
    let all : t ∷ (front ++ rest) ≡ plain body.Settle ∷ last = is ∙ ap (λ a. a ++ plain body.Settle ∷ last) empty in
    let head : t ≡ plain body.Settle = cc in
    let tail : last ≡ front ++ rest = cc in (
      subst (λ (u : Told). (p n : ℕ) → shows_empty p u.body ≡ false → mark_by (word.Queue p) n (for_object 0 u) ≡ n) (sym head) (λ p k other. settle-mark p k),
      looks-empty (priorities sys) last front rest sees tail,
    )

looks-mark : (p n : ℕ) (g : List Told) → AreEmptyLooks g → list_any (λ i. shows_empty p i.body) (untold_all (map (for_object 0) g)) ≡ false → mark_after (word.Queue p) n (map (for_object 0) g) ≡ n
unfolding mark_after
looks-mark p n [] h none = refl
looks-mark p n (t ∷ ts) h none =
    let parts = or_parts (shows_empty p t.body) (list_any (λ i. shows_empty p i.body) (untold_all (map (for_object 0) ts))) none in
    ap (λ k. mark_after (word.Queue p) k (map (for_object 0) ts)) (h.0 p n parts.0) ∙ looks-mark p n ts h.1 parts.1

-- a `settle` that is cut
pub clear-cut : (sys : System) (g rest : List Told) (w u : LaneView) → Settles sys sim (g ++ rest) → GrowsOf 0 g w u → (p : ℕ) → IsClear w p → IsSeenClear u (map (for_object 0) g) p
clear-cut sys g rest w u fits grows p k = by (list_any (λ i. shows_empty p i.body) (untold_all (map (for_object 0) g))) refl
  where
    by : (b : Bool) → list_any (λ i. shows_empty p i.body) (untold_all (map (for_object 0) g)) ≡ b → IsSeenClear u (map (for_object 0) g) p
    by true e = inr e
    by false e =
        let same : u.mark (word.Queue p) ≡ w.mark (word.Queue p) = grows.mark (word.Queue p) ∙ looks-mark p (w.mark (word.Queue p)) g (settle-looks sys g rest fits) e in
        inl (clear-same w u p same (grows.shown (word.Queue p) same) k)

-- behind the records with which it began
pub finds-cut : (sys : System) (v w u : LaneView) (opening g rest : List Told) → w.told ≡ v.told ++ map (for_object 0) opening → tries_in (map (for_object 0) opening) ≡ [] → tries_in (map (for_object 0) g) ≡ []
    → Settles sys sim (g ++ rest) → GrowsOf 0 g w u → AllByRecursion (IsClear w) (priorities sys) → FindsNone sys v u
finds-cut sys v w u opening g rest opened first none fits grows clear =
    let a = map (for_object 0) opening in
    let b = map (for_object 0) g in
    record {
      ts = a ++ b;
      told = grows.told ∙ ap (λ ts. ts ++ b) opened ∙ append_assoc v.told a b;
      none = tries-append a b ∙ ap (λ xs. xs ++ tries_in b) first ∙ none;
      clear = all-of (IsClear w) (IsSeenClear u (a ++ b)) (λ p k. seen-behind u a b p (clear-cut sys g rest w u fits grows p k)) (priorities sys) clear;
    }
