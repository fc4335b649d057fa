-- The told list of a lane, with a record more and where more was read of entries.
use Rattle.std.proofs.Common.{◌≡◌, ℕ, ◌≤◌, nat_le, ◌&&◌, List, [], ◌∷◌, ◌++◌, Bool, true, map, length, append_assoc, refl, sym, ap, subst, ◌∙◌, arith, eqb, IsTrue, Option, Some, None}
use Rattle.std.specs.List.{list_all, cons_option}
use Rattle.std.proofs.lemmas.Bool.Decides.{nat_tests}
use Rattle.std.proofs.lemmas.List.Elements.{filter_map-append}
use Rattle.std.proofs.lemmas.Bool.{and_from, and_parts, or_left, or_right}
use Rattle.std.proofs.lemmas.List.{append-nil}
use Rattle.std.proofs.lemmas.List.Folds.{list_all-append, list_any-append}
use Rattle.qp_model.specs.declared.record.Rec.{Rec}
use Rattle.qp_model.specs.declared.systems.System.{System}
use Rattle.qp_model.specs.declared.words.Word.{Word}
use Rattle.qp_model.specs.declared.bodies.Entry.{Entry}
use Rattle.qp_model.specs.declared.bodies.Body.{Body}
use Rattle.qp_model.specs.declared.bodies.Body.TheVariants.{Took, New, Dec, Lock, Same}
use Rattle.qp_model.specs.Record.{Item, item_of}
use Rattle.qp_model.specs.Told.{Known, OfEvent, Free, Left, ToldItem, Event, untold}
use Rattle.qp_model.specs.History.{mark_of, touch, lane_items, marks}
use Rattle.qp_model.specs.Knowing.{ceiling_after}
use Rattle.qp_model.proofs.RecordLemmas.{lane_items-more}
use Rattle.qp_model.specs.WordLaw.{is_pool, is_block}
use Rattle.qp_table.specs.declared.view.Glance.{Glance}
use Rattle.qp_calls.specs.Tokens.{token_of, handles}
use Rattle.qp_calls.specs.LaneView.{handled_in, ceiling_in}
use Rattle.qp_calls.proofs.HandLemmas.{same-self}
use Rattle.qp_table.specs.Lane.{known_with, tell_lane}
use Rattle.qp_shared_lane.specs.Holds.{was_seen, is_borne_out, borne_out, SubscriberIs, KnowSubscribers, FormerIs, AreFormer}

-- what is told is the same where the events of the entries are that it handles
known-same : (ev fv : Entry → Event) (b : Body) (k : ℕ) → ((e : Entry) → handles (token_of e) b ≡ true → fv e ≡ ev e) → known_with fv b k ≡ known_with ev b k
known-same ev fv (Took f l m e) k h = ap OfEvent (h e (same-self (token_of e)))
known-same ev fv (New p n b from sig pars) k h = refl
known-same ev fv (Dec p b d r) k h = refl
known-same ev fv (Lock c) k h = refl
known-same ev fv (Same sig n) k h = refl
known-same ev fv _ k h = refl

pub tell-same : (ev fv : Entry → Event) (recs : List Rec) (ks : List ℕ) → ((e : Entry) → IsTrue (handled_in (token_of e) (tell_lane ev recs ks)) → fv e ≡ ev e) → tell_lane fv recs ks ≡ tell_lane ev recs ks
unfolding tell_lane
tell-same ev fv [] ks h = refl
tell-same ev fv (r ∷ rs) [] h = refl
tell-same ev fv (r ∷ rs) (k ∷ ks) h =
    let rest = tell-same ev fv rs ks (λ e is. h e (or_right (handles (token_of e) (item_of r).body) (handled_in (token_of e) (tell_lane ev rs ks)) is)) in
    (λ i. record { of = (item_of r).of; told = record { body = (item_of r).body; known = head i } } ∷ rest i)
  where
    head : known_with fv (item_of r).body k ≡ known_with ev (item_of r).body k
    head = known-same ev fv (item_of r).body k (λ e is. h e (or_left (handles (token_of e) (item_of r).body) (handled_in (token_of e) (tell_lane ev rs ks)) is))

-- Marks.

pub all-le : (k m : ℕ) (xs : List ℕ) → k ≤ m → list_all (λ x. nat_le x k) xs ≡ true → list_all (λ x. nat_le x m) xs ≡ true
all-le k m [] le h = refl
all-le k m (x ∷ xs) le h = let p = and_parts (nat_le x k) (list_all (λ y. nat_le y k) xs) h in and_from (nat_le x m) (list_all (λ y. nat_le y m) xs) (up x p.0) (all-le k m xs le p.1)
  where
    up : (x : ℕ) → nat_le x k ≡ true → nat_le x m ≡ true
    up x e = grind (arith, nat_tests)

-- the marks of one record more
pub marks-more : (w : Word) (k m : ℕ) (recs : List Rec) (r : Rec) → k ≤ m → ((n : ℕ) → mark_of w (touch (item_of r)) ≡ Some n → n ≤ m)
    → list_all (λ x. nat_le x k) (marks w (lane_items recs)) ≡ true → list_all (λ x. nat_le x m) (marks w (lane_items (recs ++ r ∷ []))) ≡ true
marks-more w k m recs r le last h =
    ap (λ is. list_all (λ x. nat_le x m) (marks w is)) (lane_items-more recs r)
    ∙ (ap (list_all (λ x. nat_le x m)) (filter_map-append (λ i. mark_of w (touch i)) (lane_items recs) (item_of r ∷ []))
    ∙ (list_all-append (λ x. nat_le x m) (marks w (lane_items recs)) (cons_option (mark_of w (touch (item_of r))) [])
    ∙ and_from (list_all (λ x. nat_le x m) (marks w (lane_items recs))) (list_all (λ x. nat_le x m) (cons_option (mark_of w (touch (item_of r))) []))
    (all-le k m (marks w (lane_items recs)) le h) (end (mark_of w (touch (item_of r))) refl)))
  where
    end : (o : Option ℕ) → mark_of w (touch (item_of r)) ≡ o → list_all (λ x. nat_le x m) (cons_option o []) ≡ true
    end None e = refl
    end (Some n) e = let l = last n e in let t : nat_le n m ≡ true = grind (arith, nat_tests) in rw t refl

-- What was seen is seen still.

seen-more : (xs ys : List Glance) (w : ℕ) (test : ℕ → Bool) → was_seen xs w test ≡ true → was_seen (xs ++ ys) w test ≡ true
seen-more xs ys w test h = list_any-append (λ (g : Glance). eqb g.word w && test g.value) xs ys ∙ or_left (was_seen xs w test) (was_seen ys w test) h

borne-body : (sys : System) (xs ys : List Glance) (b : Body) (k : Known) → is_borne_out sys xs b k ≡ true → is_borne_out sys (xs ++ ys) b k ≡ true
borne-body sys xs ys (New p n b from sig pars) (Free k) h = let z = and_parts (is_pool sys p) _ h in and_from (is_pool sys p) _ z.0 (seen-more xs ys _ _ z.1)
borne-body sys xs ys (New p n b from sig pars) _ h = refl
borne-body sys xs ys (Dec p b d r) (Left k) h = let z = and_parts (is_block sys p b) _ h in and_from (is_block sys p b) _ z.0 (seen-more xs ys _ _ z.1)
borne-body sys xs ys (Dec p b d r) _ h = refl
borne-body sys xs ys (Same sig n) k h = h
borne-body sys xs ys _ _ h = refl

pub borne-still : (sys : System) (xs ys : List Glance) (told : List ToldItem) → list_all (borne_out sys xs) told ≡ true → list_all (borne_out sys (xs ++ ys)) told ≡ true
borne-still sys xs ys [] h = refl
borne-still sys xs ys (x ∷ told) h =
    let p = and_parts (borne_out sys xs x) (list_all (borne_out sys xs) told) h in
    and_from (borne_out sys (xs ++ ys) x) (list_all (borne_out sys (xs ++ ys)) told)
    (borne-body sys xs ys x.told.body x.told.known p.0) (borne-still sys xs ys told p.1)

pub borne-more : (sys : System) (xs ys : List Glance) (told : List ToldItem) (t : ToldItem) → list_all (borne_out sys xs) told ≡ true → borne_out sys (xs ++ ys) t ≡ true → list_all (borne_out sys (xs ++ ys)) (told ++ t ∷ []) ≡ true
borne-more sys xs ys told t h e = list_all-append (borne_out sys (xs ++ ys)) told (t ∷ [])
    ∙ and_from (list_all (borne_out sys (xs ++ ys)) told) (borne_out sys (xs ++ ys) t && true) (borne-still sys xs ys told h) (and_from (borne_out sys (xs ++ ys) t) true e refl)

-- Subscribers.

pub subscribers-more : (serves : ℕ → Bool) (before items : List Item) (told : List ToldItem) (t : ToldItem) → before ++ map untold told ≡ items → KnowSubscribers serves before told → SubscriberIs serves items t.of t.told.body t.told.known → KnowSubscribers serves before (told ++ t ∷ [])
unfolding KnowSubscribers
subscribers-more serves before items [] t is h e = (subst (λ (xs : List Item). SubscriberIs serves xs t.of t.told.body t.told.known) (sym is ∙ append-nil before) e, tt)
subscribers-more serves before items (x ∷ told) t is h e = (h.0, subscribers-more serves (before ++ untold x ∷ []) items told t (append_assoc before (untold x ∷ []) (map untold told) ∙ is) h.1 e)

pub told-bare : (ev : Entry → Event) (recs : List Rec) (ks : List ℕ) → length ks ≡ length recs → map untold (tell_lane ev recs ks) ≡ lane_items recs
unfolding tell_lane lane_items
told-bare ev [] ks e = refl
told-bare ev (r ∷ rs) [] e = absurd (omega arith)
told-bare ev (r ∷ rs) (k ∷ ks) e = ap (λ is. item_of r ∷ is) (told-bare ev rs ks (omega arith))

-- Ceilings.

pub ceiling-more : (c : ℕ) (told : List ToldItem) (t : ToldItem) → ceiling_in c (told ++ t ∷ []) ≡ ceiling_after (ceiling_in c told) t.told.body
unfolding ceiling_in
ceiling-more c [] t = refl
ceiling-more c (x ∷ told) t = ceiling-more (ceiling_after c x.told.body) told t

pub former-more : (c : ℕ) (told : List ToldItem) (t : ToldItem) → AreFormer c told → FormerIs (ceiling_in c told) t.told.body t.told.known → AreFormer c (told ++ t ∷ [])
unfolding AreFormer ceiling_in
former-more c [] t h e = (e, tt)
former-more c (x ∷ told) t h e = (h.0, former-more (ceiling_after c x.told.body) told t h.1 e)
