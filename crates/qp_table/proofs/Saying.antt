-- What a lane's real records say of its view.
use Rattle.std.proofs.Common.{◌≡◌, ℕ, suc, ◌≤◌, List, [], ◌∷◌, ◌++◌, Bool, true, false, cond, length, map, refl, sym, ap, ◌∙◌, arith}
use Rattle.std.specs.List.{filter}
use Rattle.qp_model.specs.declared.record.Rec.{Rec}
use Rattle.qp_model.specs.declared.bodies.Entry.{Entry}
use Rattle.qp_model.specs.Record.{Item, item_of}
use Rattle.qp_model.specs.Told.{Event, ToldItem}
use Rattle.qp_model.specs.History.{touch, lane_items}
use Rattle.qp_table.specs.TwoTables.{on_table}
use Rattle.qp_table.specs.After.{logged, HasRoom}
use Rattle.qp_table.specs.declared.view.SeatLog.{SeatLog}
use Rattle.qp_table.specs.declared.view.View.{View}
use Rattle.qp_table.specs.Lane.{own_of_logs, own_recs, on_table_of, tell_lane, told_as, event_seen, lane_number, first_number}
use Rattle.qp_model.proofs.RecordLemmas.{lane_items-more}

length-map : (f : Rec → Item) (xs : List Rec) → length (map f xs) ≡ length xs
length-map f [] = refl
length-map f (x ∷ xs) = ap suc (length-map f xs)

lane-length : (lane : List Rec) → length (lane_items lane) ≡ length lane
unfolding lane_items
lane-length lane = length-map item_of lane

pub filter-length : {X : Type 0} (p : X → Bool) (xs : List X) → length (filter p xs) ≤ length xs
filter-length p [] = omega arith
filter-length {X} p (x ∷ xs) = go (p x) (filter-length p xs)
  where
    go : (b : Bool) → length (filter p xs) ≤ length xs → length (cond b (x ∷ filter p xs) (filter p xs)) ≤ suc (length xs)
    go true h = omega arith
    go false h = omega arith

filter-more : {X : Type 0} (p : X → Bool) (xs : List X) (x : X) → p x ≡ true → filter p (xs ++ x ∷ []) ≡ filter p xs ++ x ∷ []
filter-more p [] x e = rw e refl
filter-more {X} p (y ∷ ys) x e = go (p y) (filter-more p ys x e)
  where
    go : (b : Bool) → filter p (ys ++ x ∷ []) ≡ filter p ys ++ x ∷ [] → cond b (y ∷ filter p (ys ++ x ∷ [])) (filter p (ys ++ x ∷ [])) ≡ cond b (y ∷ filter p ys) (filter p ys) ++ x ∷ []
    go true h = ap (λ zs. y ∷ zs) h
    go false h = h

table-length : (recs : List Rec) → length (on_table_of recs) ≤ length recs
unfolding on_table_of
table-length recs = let f = filter-length (λ (i : Item). on_table (touch i)) (lane_items recs) in let l = lane-length recs in omega arith

room-case : (v : View) (logs : List SeatLog) → v.logs ≡ logs → length logs ≡ 1 → length (own_of_logs logs) ≤ 1000000 → HasRoom v
room-case v [] is one room = absurd (omega arith)
room-case v (g ∷ []) is one room = record { own = g; others = []; is = is; room = rw is (let l = lane-length g.recs in omega arith) }
room-case v (g ∷ h ∷ gs) is one room = absurd (omega arith)

-- a lane with one log has room where its records leave some
pub has-room : (v : View) (recs : List Rec) → length v.logs ≡ 1 → on_table_of recs ≡ own_recs v → length recs ≤ 1000000 → HasRoom v
unfolding own_recs
has-room v recs one same room = room-case v v.logs refl one (let t = table-length recs in let e = ap length same in omega arith)

own-case : (q : Rec) (logs : List SeatLog) → length logs ≡ 1 → own_of_logs (logged q logs) ≡ own_of_logs logs ++ item_of q ∷ []
own-case q [] one = absurd (omega arith)
own-case q (g ∷ gs) one = lane_items-more g.recs q

-- a record more, in the lane's list and in its view
pub same-more : (v : View) (recs : List Rec) (r q : Rec) → length v.logs ≡ 1 → on_table_of recs ≡ own_recs v → item_of r ≡ item_of q → on_table (touch (item_of q)) ≡ true → (u : View) → u.logs ≡ logged q v.logs → on_table_of (recs ++ r ∷ []) ≡ own_recs u
unfolding on_table_of own_recs
same-more v recs r q one same is on u logs =
    ap (filter (λ i. on_table (touch i))) (lane_items-more recs r) ∙ (filter-more (λ (i : Item). on_table (touch i)) (lane_items recs) (item_of r) (ap (λ i. on_table (touch i)) is ∙ on) ∙ ((λ i. same i ++ is i ∷ []) ∙ (sym (own-case q v.logs one) ∙ ap own_of_logs (sym logs))))

pub logged-one : (q : Rec) (logs : List SeatLog) → length (logged q logs) ≡ length logs
logged-one q [] = refl
logged-one q (g ∷ gs) = refl

pub logged-number : (q : Rec) (v u : View) → u.logs ≡ logged q v.logs → lane_number u ≡ lane_number v
unfolding lane_number
logged-number q v u e = ap first_number e ∙ go v.logs
  where
    go : (gs : List SeatLog) → first_number (logged q gs) ≡ first_number gs
    go [] = refl
    go (g ∷ gs) = refl

pub same-number-of : (v u : View) → u.logs ≡ v.logs → lane_number u ≡ lane_number v
unfolding lane_number
same-number-of v u e = ap first_number e

pub same-own : (v u : View) → u.logs ≡ v.logs → own_recs u ≡ own_recs v
unfolding own_recs
same-own v u e = ap own_of_logs e

-- what is told, with a record more
pub tell-more : (ev : Entry → Event) (recs : List Rec) (ks : List ℕ) (r : Rec) (k : ℕ) → length ks ≡ length recs → tell_lane ev (recs ++ r ∷ []) (ks ++ k ∷ []) ≡ tell_lane ev recs ks ++ told_as ev (item_of r) k ∷ []
unfolding tell_lane
tell-more ev [] [] r k e = refl
tell-more ev [] (j ∷ ks) r k e = absurd (omega arith)
tell-more ev (x ∷ recs) [] r k e = absurd (omega arith)
tell-more ev (x ∷ recs) (j ∷ ks) r k e = ap (λ z. told_as ev (item_of x) j ∷ z) (tell-more ev recs ks r k (omega arith))

-- the same, by what the record says, where nothing else was read of entries
pub told-more : (v u : View) (recs : List Rec) (ks : List ℕ) (r : Rec) (k : ℕ) (i : Item) (t : ToldItem) → u.contents ≡ v.contents → length ks ≡ length recs → item_of r ≡ i → told_as (event_seen v.contents) i k ≡ t
    → tell_lane (event_seen u.contents) (recs ++ r ∷ []) (ks ++ k ∷ []) ≡ tell_lane (event_seen v.contents) recs ks ++ t ∷ []
told-more v u recs ks r k i t contents beside is told = ap (λ qs. tell_lane (event_seen qs) (recs ++ r ∷ []) (ks ++ k ∷ [])) contents ∙ (tell-more (event_seen v.contents) recs ks r k beside ∙ ap (λ x. tell_lane (event_seen v.contents) recs ks ++ x ∷ []) (ap (λ x. told_as (event_seen v.contents) x k) is ∙ told))
