-- The last-in posts and takes of a queue that a lane serves are those among its own records.
use Rattle.std.proofs.Common.{◌≡◌, ℕ, ◌+◌, ◌==◌, List, [], ◌∷◌, Bool, true, false, cond, ◌||◌, length, map, refl, sym, ap, subst, ◌∙◌, arith, eqb, eqb-true, IsTrue, if◌then◌else◌}
use Rattle.std.specs.List.{filter, list_any}
use Rattle.qp_model.specs.declared.record.Rec.{Rec}
use Rattle.qp_model.specs.declared.bodies.Entry.{Entry}
use Rattle.qp_model.specs.declared.bodies.Body.{Body}
use Rattle.qp_model.specs.declared.bodies.Body.TheVariants.{Took, Lifo}
use Rattle.qp_model.specs.Record.{Item, item_of}
use Rattle.qp_model.specs.Told.{Event}
use Rattle.qp_model.specs.History.{touch, touch_of, lane_items}
use Rattle.qp_table.specs.TwoTables.{on_table}
use Rattle.qp_table.specs.Counting.{Each, many, sum_over}
use Rattle.qp_table.specs.Rule.{is_lifo, is_take_of, lifo_on, took_on, records, is_serve, Served}
use Rattle.qp_table.specs.Now.{Now}
use Rattle.qp_table.specs.declared.view.SeatLog.{SeatLog}
use Rattle.qp_table.specs.declared.view.Serve.{Serve}
use Rattle.qp_table.specs.declared.view.View.{View}
use Rattle.qp_calls.specs.LaneView.{Own, own_of, own_after}
use Rattle.qp_table.specs.Lane.{own_of_logs, own_recs, on_table_of, tell_lane}
use Rattle.qp_table.specs.Telling.{OwnTold}
use Rattle.qp_table.proofs.Hands.{eq-turned}

abbrev lifo_item : ℕ → Item → Bool
lifo_item a i = lifo_on a i.of i.body

abbrev took_item : ℕ → Item → Bool
took_item a i = took_on a i.of i.body

abbrev first_own : Own
first_own = record { l = 0; m = 0 }

-- the counts after a record
l-step : (a : ℕ) (c : Own) (o : ℕ) (b : Body) → (own_of a c o b).l ≡ c.l + cond (lifo_on a o b) 1 0
l-step a c o (Took f l m e) = go (o == a)
  where
    go : (t : Bool) → (if t then (record { l = c.l; m = c.m + 1 }) else c).l ≡ c.l + 0
    go true = omega arith
    go false = omega arith
l-step a c o (Lifo f l m e) = go (o == a) ∙ ap (λ (t : Bool). c.l + cond t 1 0) (sym (eq-turned a o) ∙ eq-turned a o)
  where
    go : (t : Bool) → (if t then (record { l = c.l + 1; m = c.m }) else c).l ≡ c.l + cond t 1 0
    go true = omega arith
    go false = omega arith
l-step a c o _ = omega arith

m-step : (a : ℕ) (c : Own) (o : ℕ) (b : Body) → (own_of a c o b).m ≡ c.m + cond (took_on a o b) 1 0
m-step a c o (Took f l m e) = go (o == a)
  where
    go : (t : Bool) → (if t then (record { l = c.l; m = c.m + 1 }) else c).m ≡ c.m + cond t 1 0
    go true = omega arith
    go false = omega arith
m-step a c o (Lifo f l m e) = go (o == a)
  where
    go : (t : Bool) → (if t then (record { l = c.l + 1; m = c.m }) else c).m ≡ c.m + 0
    go true = omega arith
    go false = omega arith
m-step a c o _ = omega arith

own-counts : (a : ℕ) (ev : Entry → Event) (recs : List Rec) (ks : List ℕ) (c : Own) → length ks ≡ length recs
    → ((own_after a c (tell_lane ev recs ks)).l ≡ c.l + many (is_lifo a) recs) × ((own_after a c (tell_lane ev recs ks)).m ≡ c.m + many (is_take_of a) recs)
unfolding own_after tell_lane
own-counts a ev [] [] c e = (omega arith, omega arith)
own-counts a ev [] (k ∷ ks) c e = absurd (omega arith)
own-counts a ev (r ∷ recs) [] c e = absurd (omega arith)
own-counts a ev (r ∷ recs) (k ∷ ks) c e =
    let z = own-counts a ev recs ks (own_of a c (item_of r).of (item_of r).body) (omega arith) in
    let l = l-step a c (item_of r).of (item_of r).body in let m = m-step a c (item_of r).of (item_of r).body in let z0 = z.0 in let z1 = z.1 in (omega arith, omega arith)

off-lifo : (a o : ℕ) (b : Body) → on_table (touch_of o b) ≡ false → lifo_on a o b ≡ false
off-lifo a o (Lifo f l m e) h = absurd (cc)
off-lifo a o _ h = refl

off-took : (a o : ℕ) (b : Body) → on_table (touch_of o b) ≡ false → took_on a o b ≡ false
off-took a o (Took f l m e) h = absurd (cc)
off-took a o _ h = refl

many-filter : {X : Type 0} (p t : X → Bool) → ((x : X) → t x ≡ false → p x ≡ false) → (xs : List X) → many p (filter t xs) ≡ many p xs
many-filter p t off [] = refl
many-filter {X} p t off (x ∷ xs) = go (t x) refl (many-filter p t off xs)
  where
    go : (b : Bool) → t x ≡ b → many p (filter t xs) ≡ many p xs → many p (cond b (x ∷ filter t xs) (filter t xs)) ≡ cond (p x) 1 0 + many p xs
    go true e r = omega arith
    go false e r = let z = ap (λ (b : Bool). cond {A = ℕ} b 1 0) (off x e) in omega arith

many-map : {X Y : Type 0} (p : Y → Bool) (f : X → Y) (xs : List X) → many p (map f xs) ≡ many (λ x. p (f x)) xs
many-map p f [] = refl
many-map p f (x ∷ xs) = let r = many-map p f xs in omega arith

-- a test of records that only those on the table pass
many-own : (p : Item → Bool) → ((i : Item) → on_table (touch i) ≡ false → p i ≡ false) → (recs : List Rec) (v : View) → length v.logs ≡ 1 → on_table_of recs ≡ own_recs v
    → many (λ r. p (item_of r)) recs ≡ records (λ r. p (item_of r)) v.logs
unfolding on_table_of own_recs lane_items
many-own p off recs v one same =
    sym (many-map p item_of recs) ∙ (sym (many-filter p (λ i. on_table (touch i)) off (lane_items recs)) ∙ (ap (many p) same ∙ go v.logs one))
  where
    go : (gs : List SeatLog) → length gs ≡ 1 → many p (own_of_logs gs) ≡ sum_over (λ (g : SeatLog). many (λ r. p (item_of r)) g.recs) gs
    go [] e = absurd (omega arith)
    go (g ∷ []) e = let z = many-map p item_of g.recs in omega arith
    go (g ∷ h ∷ gs) e = absurd (omega arith)

pub served-own : (a : ℕ) (now : Now) (logs : List SeatLog) (xs : List Serve) → IsTrue (list_any (is_serve a) xs) → Each (Served now logs) xs → ((now.line a).l ≡ records (is_lifo a) logs) × ((now.line a).m ≡ records (is_take_of a) logs)
served-own a now logs [] h e = absurd (cc)
served-own a now logs (x ∷ xs) h e = go (eqb x.object a) refl h (λ k. served-own a now logs xs k e.1)
  where
    go : (t : Bool) → eqb x.object a ≡ t → (t || list_any (is_serve a) xs) ≡ true → (list_any (is_serve a) xs ≡ true → ((now.line a).l ≡ records (is_lifo a) logs) × ((now.line a).m ≡ records (is_take_of a) logs))
        → ((now.line a).l ≡ records (is_lifo a) logs) × ((now.line a).m ≡ records (is_take_of a) logs)
    go true is k r = subst (λ z. ((now.line z).l ≡ records (is_lifo z) logs) × ((now.line z).m ≡ records (is_take_of z) logs)) (eqb-true x.object a is) (e.0.lifos ∙ e.0.lifos_are, e.0.takes ∙ e.0.takes_are)
    go false is k r = r k

-- and so of its own records
pub own-is : (a l m : ℕ) (ev : Entry → Event) (recs : List Rec) (ks : List ℕ) (v : View) → length ks ≡ length recs → length v.logs ≡ 1 → on_table_of recs ≡ own_recs v → OwnTold a l m v
    → IsTrue (list_any (is_serve a) v.serves) → (l ≡ (own_after a (record { l = 0; m = 0 }) (tell_lane ev recs ks)).l) × (m ≡ (own_after a (record { l = 0; m = 0 }) (tell_lane ev recs ks)).m)
own-is a l m ev recs ks v beside one same told serves =
    let z = told serves in let z0 = z.0 in let z1 = z.1 in
    let c = own-counts a ev recs ks (record { l = 0; m = 0 }) beside in let c0 = c.0 in let c1 = c.1 in
    let x = many-own (lifo_item a) (λ i h. off-lifo a i.of i.body h) recs v one same in
    let y = many-own (took_item a) (λ i h. off-took a i.of i.body h) recs v one same in (omega arith, omega arith)
