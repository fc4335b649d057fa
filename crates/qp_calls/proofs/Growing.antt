-- Lanes that grow, and then grow again.
use Rattle.std.proofs.Common.{◌≡◌, ℕ, ◌≤◌, ◌==◌, Bool, true, false, ◌||◌, List, [], ◌∷◌, ◌++◌, map, refl, sym, ◌∙◌, subst, arith, IsTrue, append_assoc}
use Rattle.std.proofs.lemmas.List.{map-append, append-nil}
use Rattle.std.specs.List.{list_any}
use Rattle.qp_model.specs.declared.words.Word.{Word}
use Rattle.qp_model.specs.declared.bodies.Entry as model
use Rattle.qp_model.specs.Told.{Told, ToldItem, for_object}
use Rattle.qp_model.specs.Parts.{is_static}
use Rattle.qp_calls.specs.declared.tokens.HeldEntry.{HeldEntry}
use Rattle.qp_calls.specs.declared.tokens.HeldEntry.TheVariants as token
use Rattle.qp_calls.specs.Tokens.{token_of, stands, handles, hands_after}
use Rattle.qp_calls.specs.LaneView.{LaneView, Gains, Grows, Roomier, is_known, handled_in, placed_by, mark_by, mark_after, Own, own_of, own_after}
use Rattle.qp_calls.specs.Clauses.{EntryStands}
use Rattle.qp_calls.proofs.Advancing.{between-append}
use Rattle.qp_calls.proofs.HandLemmas.{hands-append, stands-after, handled}

pub mark-append : (w : Word) (n : ℕ) (g h : List ToldItem) → mark_after w n (g ++ h) ≡ mark_after w (mark_after w n g) h
unfolding mark_after
mark-append w n [] h = refl
mark-append w n (t ∷ g) h = mark-append w (mark_by w n t) g h

pub own-append : (a : ℕ) (c : Own) (g h : List ToldItem) → own_after a c (g ++ h) ≡ own_after a (own_after a c g) h
unfolding own_after
own-append a c [] h = refl
own-append a c (t ∷ g) h = own-append a (own_of a c t.of t.told.body) g h

any-append : {X : Type 0} (p : X → Bool) (xs ys : List X) → list_any p (xs ++ ys) ≡ (list_any p xs || list_any p ys)
any-append p [] ys = refl
any-append p (x ∷ xs) ys = go (p x) (any-append p xs ys)
  where
    go : (u : Bool) → list_any p (xs ++ ys) ≡ (list_any p xs || list_any p ys) → (u || list_any p (xs ++ ys)) ≡ ((u || list_any p xs) || list_any p ys)
    go true h = refl
    go false h = h

-- what a lane knows, it knows later
pub known-later : (ts : List ToldItem) (a b : LaneView) → Gains ts a b → (e : model.Entry) → IsTrue (is_known a e) → IsTrue (is_known b e)
unfolding is_known
known-later ts a b g e h =
    rw (g.told, g.hands, g.aside, any-append (λ t. handles (token_of e) t.told.body) a.told ts)
    (go (e.pool == 0) (stands (token_of e) a.hands) (handled e a.told) (handled e ts) (stands (token_of e) (hands_after a.hands ts))
    (list_any (handled_in (token_of e)) a.aside.told) h (stands-after e a.hands ts))
  where
    go : (u v w x y z : Bool) → (((u || v) || w) || z) ≡ true → (v ≡ true → (x || y) ≡ true) → (((u || y) || (w || x)) || z) ≡ true
    go true v w x y z h s = refl
    go false v w x true z h s = refl
    go false v true x false z h s = refl
    go false true false true false z h s = refl
    go false true false false false z h s = absurd (cc (s refl))
    go false false false true false z h s = refl
    go false false false false false true h s = refl
    go false false false false false false h s = absurd (cc)

-- one after another
pub gains-then : (g h : List ToldItem) (a b c : LaneView) → Gains g a b → Gains h b c → Gains (g ++ h) a c
gains-then g h a b c first second = record {
  world = second.world ∙ first.world;
  sys = second.sys ∙ first.sys;
  told = second.told ∙ rw first.told (append_assoc a.told g h);
  by = second.by ∙ first.by;
  serves = λ o. second.serves o ∙ first.serves o;
  stops = second.stops ∙ first.stops;
  answered = second.answered ∙ first.answered;
  asked = second.asked ∙ first.asked;
  mark = λ w. second.mark w ∙ rw (first.mark w) (sym (mark-append w (a.mark w) g h));
  rise = λ w. omega (arith, first.rise w, second.rise w);
  between = λ w. between-append w (a.mark w) (b.mark w) (c.mark w) g h (first.rise w) (second.rise w) (first.between w) (second.between w);
  shown = λ w same.
      let up : a.mark w ≤ b.mark w = first.rise w in
      let on : b.mark w ≤ c.mark w = second.rise w in
      let here : b.mark w ≡ a.mark w = omega arith in
      let there : c.mark w ≡ b.mark w = omega arith in
      second.shown w there ∙ first.shown w here;
  own = λ o. second.own o ∙ rw (first.own o) (sym (own-append o (a.own o) g h));
  event = λ e known. second.event e (known-later g a b first e known) ∙ first.event e known;
  hands = second.hands ∙ rw first.hands (sym (hands-append a.hands g h));
  plan = second.plan ∙ first.plan;
  happened = second.happened ∙ first.happened;
  lane = second.lane ∙ first.lane;
  log = second.log ∙ rw (first.log, first.lane, map-append (placed_by a.lane) g h) (append_assoc a.log (map (placed_by a.lane) g) (map (placed_by a.lane) h));
  aside = second.aside ∙ first.aside;
}

pub gains-none : (a : LaneView) → Gains [] a a
unfolding hands_after mark_after own_after
gains-none a = record {
  world = refl;
  sys = refl;
  told = sym (append-nil a.told);
  by = refl;
  serves = λ o. refl;
  stops = refl;
  answered = refl;
  asked = refl;
  mark = λ w. refl;
  rise = λ w. omega arith;
  between = λ w. tt;
  shown = λ w e. refl;
  own = λ o. refl;
  event = λ e known. refl;
  hands = refl;
  plan = refl;
  happened = refl;
  lane = refl;
  log = sym (append-nil a.log);
  aside = refl;
}

-- the spare is no matter of what a lane gains
pub gains-spared : (ts : List ToldItem) (a b c : LaneView) (n : ℕ) → b ≡ record a { spare = n } → Gains ts b c → Gains ts a c
unfolding is_known
gains-spared ts a b c n same g =
    let h : Gains ts (record a { spare = n }) c = subst (λ v. Gains ts v c) same g in
    record {
      world = h.world;
      sys = h.sys;
      told = h.told;
      by = h.by;
      serves = h.serves;
      stops = h.stops;
      answered = h.answered;
      asked = h.asked;
      mark = h.mark;
      rise = h.rise;
      between = h.between;
      shown = h.shown;
      own = h.own;
      event = h.event;
      hands = h.hands;
      plan = h.plan;
      happened = h.happened;
      lane = h.lane;
      log = h.log;
      aside = h.aside;
    }

-- room first
pub room-then : (ts : List ToldItem) (a b c : LaneView) → Roomier a b → Gains ts b c → Gains ts a c
room-then ts a b c room g = gains-spared ts a b c b.spare room.same g

pub room-gains : (a b : LaneView) → Roomier a b → Gains [] a b
room-gains a b room = room-then [] a b b room (gains-none b)

-- the same by object: the lane goes on for the object for which it worked
pub grows-then : (g h : List Told) (a b c : LaneView) → Grows g a b → Grows h b c → Grows (g ++ h) a c
grows-then g h a b c first second =
    let on : Gains (map (for_object a.by) h) b c = subst (λ o. Gains (map (for_object o) h) b c) first.by second in
    rw (map-append (for_object a.by) g h) (gains-then (map (for_object a.by) g) (map (for_object a.by) h) a b c first on)

pub grows-room : (g : List Told) (a b c : LaneView) → Roomier a b → Grows g b c → Grows g a c
grows-room g a b c room second =
    let by : b.by ≡ a.by = rw room.same refl in
    let on : Gains (map (for_object a.by) g) b c = subst (λ o. Gains (map (for_object o) g) b c) by second in
    room-then (map (for_object a.by) g) a b c room on

-- what stands in the hands still does where they are the same
pub stands-still : (e : HeldEntry) (a b : LaneView) → b.hands ≡ a.hands → b.sys ≡ a.sys → EntryStands e a → EntryStands e b
stands-still (token.Static sig) a b hands sys h = subst (λ s. IsTrue (is_static s sig)) (sym sys) h
stands-still (token.Pool k) a b hands sys h = (h.0, rw hands h.1)

pub stands-roomier : (e : HeldEntry) (a b : LaneView) → Roomier a b → EntryStands e a → EntryStands e b
stands-roomier e a b room h = stands-still e a b (rw room.same refl) (rw room.same refl) h
