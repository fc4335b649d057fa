-- What a lane keeps beside its records, when one more comes.
use Rattle.std.proofs.Common.{◌≡◌, ◌≢◌, ℕ, suc, ◌+◌, ◌<◌, ◌==◌, nat_lt, Bool, true, false, not, ◌&&◌, ◌||◌, cond, List, [], ◌∷◌, ◌++◌, length, get_or, slice_set, Option, Some, None, refl, sym, ◌∙◌, ap, arith}
use Rattle.std.specs.List.{list_all, list_any, count_by}
use Rattle.std.proofs.lemmas.Bool.{and_from, and_parts}
use Rattle.std.proofs.lemmas.Bool.Decides.{nat_tests}
use Rattle.std.proofs.lemmas.List.{get_or-set_same, get_or-set_other}
use Rattle.std.proofs.lemmas.List.Folds.{list_any-append}
use Rattle.std.proofs.lemmas.List.Sums.{sum_by-append, sum_by-cons}
use Rattle.qp_model.specs.declared.record.Rec.{Rec}
use Rattle.qp_model.specs.declared.bodies.Body.{Body}
use Rattle.qp_model.specs.declared.bodies.Body.TheVariants as body
use Rattle.qp_model.specs.Record.{Item, item_of}
use Rattle.qp_model.specs.Ends.{is_nil, is_spill, spills_in}
use Rattle.qp_model.specs.History.{lane_items}
use Rattle.qp_model.proofs.RecordLemmas.{lane_items-more}
use Rattle.qp_calls.specs.declared.answers.Counts as counts
use Rattle.qp_calls.specs.LaneView.{Shown, Counts, NotShown}
use Rattle.qp_calls.specs.Clauses.{nil_by}
use Rattle.qp_calls.specs.Notes.{stop_code}
use Rattle.qp_calls_log.specs.Lane.{is_plain, nil_of, last_nil_in}
use Rattle.qp_calls.specs.LaneLaws.{is_caused_in}

abbrev pub regular : List Item → ℕ
regular items = count_by (λ i. not (is_spill i.body)) items

-- the parts of a plain record
pub record IsPlain (b : Body) : Type 0 where
  pub nil : is_nil b ≡ false
  pub spill : is_spill b ≡ false

pub plain-parts : (b : Body) → is_plain b ≡ true → IsPlain b
plain-parts b h = let p = and_parts _ _ h in record { nil = flip (is_nil b) p.0; spill = flip (is_spill b) p.1 }
  where
    flip : (v : Bool) → not v ≡ true → v ≡ false
    flip true e = sym e
    flip false e = refl

one_more : (items : List Item) (i : Item) → regular (items ++ i ∷ []) ≡ regular items + cond (not (is_spill i.body)) 1 0
one_more items i = sum_by-append (λ j. cond (not (is_spill j.body)) 1 0) items (i ∷ []) ∙ same (cond (not (is_spill i.body)) 1 0) (regular items)
  where
    same : (x y : ℕ) → y + (0 + x) ≡ y + x
    same x y = omega arith

pub regular-more : (recs : List Rec) (r : Rec) → is_spill (item_of r).body ≡ false → regular (lane_items (recs ++ r ∷ [])) ≡ suc (regular (lane_items recs))
regular-more recs r h = ap regular (lane_items-more recs r) ∙ one_more (lane_items recs) (item_of r) ∙ rw h (up (regular (lane_items recs)))
  where
    up : (x : ℕ) → x + 1 ≡ suc x
    up x = omega arith

pub regular-same : (recs : List Rec) (r : Rec) → is_spill (item_of r).body ≡ true → regular (lane_items (recs ++ r ∷ [])) ≡ regular (lane_items recs)
regular-same recs r h = ap regular (lane_items-more recs r) ∙ one_more (lane_items recs) (item_of r) ∙ rw h (still (regular (lane_items recs)))
  where
    still : (x : ℕ) → x + 0 ≡ x
    still x = omega arith

-- how many `spill`s stand
abbrev pub spills : List Item → ℕ
spills items = count_by (λ i. is_spill i.body) items

spills-append : (recs : List Rec) (r : Rec) → spills (lane_items (recs ++ r ∷ [])) ≡ spills (lane_items recs) + cond (is_spill (item_of r).body) 1 0
spills-append recs r =
    ap spills (lane_items-more recs r) ∙ sum_by-append (λ i. cond (is_spill i.body) 1 0) (lane_items recs) (item_of r ∷ [])
    ∙ same (cond (is_spill (item_of r).body) 1 0) (spills (lane_items recs))
  where
    same : (x y : ℕ) → y + (0 + x) ≡ y + x
    same x y = omega arith

pub spills-same : (recs : List Rec) (r : Rec) → is_spill (item_of r).body ≡ false → spills (lane_items (recs ++ r ∷ [])) ≡ spills (lane_items recs)
spills-same recs r h = spills-append recs r ∙ rw h (still (spills (lane_items recs)))
  where
    still : (x : ℕ) → x + 0 ≡ x
    still x = omega arith

pub spills-now : (recs : List Rec) (r : Rec) → is_spill (item_of r).body ≡ true → spills (lane_items (recs ++ r ∷ [])) ≡ suc (spills (lane_items recs))
spills-now recs r h = spills-append recs r ∙ rw h (up (spills (lane_items recs)))
  where
    up : (x : ℕ) → x + 1 ≡ suc x
    up x = omega arith

-- each record is one or the other
pub length-kinds : (items : List Item) → length items ≡ regular items + spills items
length-kinds [] = refl
length-kinds (i ∷ is) = go (is_spill i.body) refl (length-kinds is)
  where
    go : (b : Bool) → is_spill i.body ≡ b → length is ≡ regular is + spills is → suc (length is) ≡ regular (i ∷ is) + spills (i ∷ is)
    go true e h =
        let a = sum_by-cons (λ j. cond (not (is_spill j.body)) 1 0) i is in
        let b = sum_by-cons (λ j. cond (is_spill j.body) 1 0) i is in
        let x : ◌≡◌ {A = ℕ} (cond (not (is_spill i.body)) 1 0) 0 = rw e refl in
        let y : ◌≡◌ {A = ℕ} (cond (is_spill i.body) 1 0) 1 = rw e refl in
        omega (arith, h, a, b, x, y)
    go false e h =
        let a = sum_by-cons (λ j. cond (not (is_spill j.body)) 1 0) i is in
        let b = sum_by-cons (λ j. cond (is_spill j.body) 1 0) i is in
        let x : ◌≡◌ {A = ℕ} (cond (not (is_spill i.body)) 1 0) 1 = rw e refl in
        let y : ◌≡◌ {A = ℕ} (cond (is_spill i.body) 1 0) 0 = rw e refl in
        omega (arith, h, a, b, x, y)

pub no-spills : (items : List Item) → spills_in items ≡ false → spills items ≡ 0
no-spills [] h = refl
no-spills (i ∷ is) h = go (is_spill i.body) refl h (no-spills is)
  where
    go : (b : Bool) → is_spill i.body ≡ b → (b || spills_in is) ≡ false → (spills_in is ≡ false → spills is ≡ 0) → spills (i ∷ is) ≡ 0
    go true e k later = absurd (cc)
    go false e k later =
        let b = sum_by-cons (λ j. cond (is_spill j.body) 1 0) i is in
        let y : ◌≡◌ {A = ℕ} (cond (is_spill i.body) 1 0) 0 = rw e refl in
        let none = later k in
        omega (arith, b, y, none)

-- the last `nil`
nil-append : (a : ℕ) (x : Shown) (items : List Item) (i : Item) → last_nil_in a x (items ++ i ∷ []) ≡ nil_by a (last_nil_in a x items) i.of i.body
unfolding last_nil_in
nil-append a x [] i = refl
nil-append a x (j ∷ js) i = nil-append a (nil_by a x j.of j.body) js i

nil-other : (a o : ℕ) (x : Shown) (b : Body) → is_nil b ≡ false → nil_by a x o b ≡ x
nil-other a o x (body.Nil f l m) h = absurd (cc)
nil-other a o x _ h = refl

pub nils-same : (recs : List Rec) (r : Rec) → is_nil (item_of r).body ≡ false → (a : ℕ) → last_nil_in a NotShown (lane_items (recs ++ r ∷ [])) ≡ last_nil_in a NotShown (lane_items recs)
nils-same recs r h a =
    ap (last_nil_in a NotShown) (lane_items-more recs r) ∙ nil-append a NotShown (lane_items recs) (item_of r)
    ∙ nil-other a (item_of r).of (last_nil_in a NotShown (lane_items recs)) (item_of r).body h

-- a `nil` of the queue of me
pub nils-now : (recs : List Rec) (r : Rec) (nils : List (Option counts.Counts)) (me : ℕ) (c : counts.Counts) → item_of r ≡ record { of = me; body = body.Nil c.f c.l c.m } → me < length nils
    → (a : ℕ) → nil_of (get_or nils a None) ≡ last_nil_in a NotShown (lane_items recs)
    → nil_of (get_or (slice_set nils me (Some c)) a None) ≡ last_nil_in a NotShown (lane_items (recs ++ r ∷ []))
nils-now recs r nils me c is lt a old =
    go (me == a) refl
    ∙ sym (ap (last_nil_in a NotShown) (lane_items-more recs r) ∙ nil-append a NotShown (lane_items recs) (item_of r) ∙ ap (λ i. nil_by a (last_nil_in a NotShown (lane_items recs)) i.of i.body) is)
  where
    go : (b : Bool) → (me == a) ≡ b → nil_of (get_or (slice_set nils me (Some c)) a None) ≡ cond b (Counts c.f c.l c.m) (last_nil_in a NotShown (lane_items recs))
    go true e =
        let same : me ≡ a = grind (arith, nat_tests) in
        ap (λ k. nil_of (get_or (slice_set nils me (Some c)) k None)) (sym same) ∙ ap nil_of (get_or-set_same nils me (Some c) None lt)
    go false e =
        let differ : a ≢ me = grind (arith, nat_tests) in
        ap nil_of (get_or-set_other nils me a (Some c) None differ) ∙ old

-- a code that has its record keeps it
caused-more : (items : List Item) (i : Item) (code : ℕ) → is_caused_in items code ≡ true → is_caused_in (items ++ i ∷ []) code ≡ true
caused-more items i code h =
    rw (list_any-append (λ j. stop_code j.body == code) items (i ∷ [])) (go (code == 7) (nat_lt 0 code) (list_any (λ j. stop_code j.body == code) items) (stop_code i.body == code) h)
  where
    go : (a b c d : Bool) → (a || (b && c)) ≡ true → (a || (b && (c || (d || false)))) ≡ true
    go true b c d e = refl
    go false true true d e = refl
    go false true false d e = absurd (cc)
    go false false c d e = absurd (cc)

pub causes-more : (recs : List Rec) (r : Rec) (codes : List ℕ) → list_all (is_caused_in (lane_items recs)) codes ≡ true → list_all (is_caused_in (lane_items (recs ++ r ∷ []))) codes ≡ true
causes-more recs r [] h = refl
causes-more recs r (c ∷ cs) h =
    let p = and_parts _ _ h in
    and_from _ _ (ap (λ z. is_caused_in z c) (lane_items-more recs r) ∙ caused-more (lane_items recs) (item_of r) c p.0) (causes-more recs r cs p.1)

pub spill-not_nil : (b : Body) → is_spill b ≡ true → is_nil b ≡ false
spill-not_nil (body.Nil f l m) h = absurd (cc)
spill-not_nil _ h = refl
