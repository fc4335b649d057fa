-- What contracts see of a lane gains exactly the record that comes.
use Rattle.std.proofs.Common.{◌≡◌, ℕ, zero, suc, ◌+◌, ◌<◌, ◌≤◌, ◌==◌, Bool, true, false, ◌||◌, cond, List, [], ◌∷◌, ◌++◌, length, map, slice_set, refl, sym, ◌∙◌, ap, subst, arith, IsTrue, ◌⊎◌, Some, None}
use Rattle.std.specs.List.{list_any, list_all}
use Rattle.std.specs.Option.{unwrap_or}
use Rattle.std.proofs.lemmas.Bool.{and_from, and_parts}
use Rattle.std.proofs.lemmas.List.{map-append}
use Rattle.std.proofs.lemmas.Bool.Decides.{nat_tests}
use Rattle.qp_model.specs.declared.record.Rec.{Rec}
use Rattle.qp_model.specs.declared.words.Word.{Word}
use Rattle.qp_model.specs.declared.words.Word.TheVariants as word
use Rattle.qp_model.specs.declared.systems.System.{System}
use Rattle.qp_model.specs.declared.bodies.Entry.{Entry}
use Rattle.qp_model.specs.declared.bodies.Body.{Body}
use Rattle.qp_model.specs.declared.bodies.Body.TheVariants.{Took, New, Inc, Dec, Post, Lifo}
use Rattle.qp_model.specs.Record.{Item, item_of, entry}
use Rattle.qp_model.specs.Told.{ToldItem, for_object}
use Rattle.qp_model.specs.History.{Draws, touch_of, same_word, mark_of, drawn_on, drawn_as, hist, total, is_numbered, all_items, lane_items}
use Rattle.qp_model.specs.Machine.{after}
use Rattle.qp_model.specs.FreeBlocks.{free_blocks, pool_next}
use Rattle.qp_model.specs.References.{references, refs_next}
use Rattle.qp_model.specs.Line.{line, line_next}
use Rattle.qp_model.specs.Knowing.{Facts, event_of_entry, known_of, told, told_lane, ceiling_after, ceiling_over}
use Rattle.qp_model.specs.Settled.{AllSettled, is_settled, all_settled, Settled}
use Rattle.qp_model.specs.Sites.{ring_of, blocks_of}
use Rattle.qp_model.specs.WordLaw.{is_object, is_block, is_pool}
use Rattle.qp_model.proofs.ListLemmas.{list_all-middle, list_all-parts, slice_set-twice}
use Rattle.qp_model.proofs.MachineLemmas.{after-append}
use Rattle.qp_model.proofs.HistoryLemmas.{hist-draws}
use Rattle.qp_model.proofs.WordLemmas.{hist-stays}
use Rattle.qp_model.proofs.LineLemmas.{same_number}
use Rattle.qp_model.proofs.KnowingLemmas.{told_lane-append, told_lane-stays, same_word-is}
use Rattle.qp_model.proofs.SettledLemmas.{all_settled-from, settled-from}
use Rattle.qp_calls.specs.Tokens.{Token, Held, token_of, stands, handles, hands_of, hands_by, hands_after}
use Rattle.qp_calls.specs.LaneView.{LaneView, Gains, Purse, Own, mark_or, mark_by, mark_after, shown_from, own_of, own_after, ceiling_in, handled_in, is_known}
use Rattle.qp_calls.proofs.Advancing.{between-one}
use Rattle.qp_calls.proofs.HandLemmas.{same-equal}
use Rattle.qp_plain_sound.specs.Log.{lane_recs, log_of, with_record}
use Rattle.qp_plain_sound.specs.WordStates.{line_in, refs_in, pool_in}
use Rattle.qp_plain_sound.specs.Sound.{SoundWorld, facts_in, hands_in, is_made, handles_made, all_made}
use Rattle.qp_plain_sound.specs.May.{May}
use Rattle.qp_plain_sound.specs.View.{view_of, told_aside, shown_in, event_in, own_of_line}
use Rattle.qp_plain_sound.proofs.Events.{event-stays}
use Rattle.qp_plain_sound.proofs.Staying.{pool-stays, refs-stays, line-stays}
use Rattle.qp_plain_sound.proofs.Standing.{refs-count}
use Rattle.qp_plain_sound.proofs.Marks.{Next, total-next, total-rises, total-same}
use Rattle.qp_plain_sound.proofs.NextLemmas.{next-of, queue_total}
use Rattle.qp_plain_sound.proofs.Logs.{lane-set_same, log-grows}
use Rattle.qp_plain_sound.proofs.LaterLemmas.{held-is_made}
use Rattle.qp_plain_sound.proofs.WorldLemmas as world

-- the ceiling of what is told is that of the records
pub ceiling-told : (w : Facts) (c d : ℕ) (is : List Item) → ceiling_in d (told_lane w c is) ≡ ceiling_over d is
unfolding ceiling_in told_lane ceiling_over told
ceiling-told w c d [] = refl
ceiling-told w c d (i ∷ is) = ceiling-told w (ceiling_after c i.body) (ceiling_after d i.body) is

-- what a test of bodies finds among the records told, it finds among the records
pub any-told : (p : Body → Bool) (w : Facts) (c : ℕ) (is : List Item) → list_any (λ t. p t.told.body) (told_lane w c is) ≡ list_any (λ i. p i.body) is
unfolding told_lane told
any-told p w c [] = refl
any-told p w c (i ∷ is) = ap (λ z. p i.body || z) (any-told p w (ceiling_after c i.body) is)

same-entry : (d e : Entry) → token_of d ≡ token_of e → d ≡ e
same-entry d e h =
    let p : d.pool ≡ e.pool = cc in
    let b : d.block ≡ e.block = cc in
    let n : d.name ≡ e.name = cc in
    ap (λ x. record { pool = x; block = d.block; name = d.name }) p ∙ ap (λ x. record { pool = e.pool; block = x; name = d.name }) b ∙ ap (λ x. record { pool = e.pool; block = e.block; name = x }) n

-- a reference that a record handles was made, where all that it handles was
handled-made : (items : List Item) (e : Entry) (b : Body) → handles (token_of e) b ≡ true → handles_made items b ≡ true → is_made items e ≡ true
handled-made items e (Took f l m x) h k = rw (same-entry e x (same-equal (token_of e) (token_of x) h)) k
handled-made items e (Inc p b r) h k = rw (same-entry e (entry p b r) (same-equal (token_of e) (Held p b r) h)) k
handled-made items e (Dec p b d n) h k = rw (same-entry e (entry p b n) (same-equal (token_of e) (Held p b n) h)) k
handled-made items e (Post a f l m x) h k = rw (same-entry e x (same-equal (token_of e) (token_of x) h)) k
handled-made items e (Lifo f l m x) h k = rw (same-entry e x (same-equal (token_of e) (token_of x) h)) k
handled-made items e _ h k = absurd (cc)

pub any-made : (items : List Item) (e : Entry) (js : List Item) → list_any (λ j. handles (token_of e) j.body) js ≡ true → list_all (λ j. handles_made items j.body) js ≡ true → is_made items e ≡ true
any-made items e [] h k = absurd (cc)
any-made items e (j ∷ js) h k = go (handles (token_of e) j.body) refl h (any-made items e js)
  where
    go : (u : Bool) → handles (token_of e) j.body ≡ u → (u || list_any (λ i. handles (token_of e) i.body) js) ≡ true
        → (list_any (λ i. handles (token_of e) i.body) js ≡ true → list_all (λ i. handles_made items i.body) js ≡ true → is_made items e ≡ true) → is_made items e ≡ true
    go true at g later = handled-made items e j.body at (and_parts _ _ k).0
    go false at g later = later g (and_parts _ _ k).1

pub all-lane : (p : Item → Bool) (lanes : List (List Rec)) (k : ℕ) → list_all p (all_items lanes) ≡ true → list_all p (lane_items (lane_recs lanes k)) ≡ true
unfolding all_items lane_items
all-lane p [] k h = refl
all-lane p (l ∷ ls) zero h = (list_all-parts p (lane_items l) (all_items ls) h).0
all-lane p (l ∷ ls) (suc k) h = all-lane p ls k (list_all-parts p (lane_items l) (all_items ls) h).1

-- References that the records of lanes handle were made.
lane-made : (w : Facts) (items : List Item) (e : Entry) (l : List Rec) → handled_in (token_of e) (told_lane w 0 (lane_items l)) ≡ true
    → list_all (λ j. handles_made items j.body) (lane_items l) ≡ true → is_made items e ≡ true
lane-made w items e l h all = any-made items e (lane_items l) (sym (any-told (handles (token_of e)) w 0 (lane_items l)) ∙ h) all

lanes-made : (w : Facts) (items : List Item) (e : Entry) (ls : List (List Rec)) → list_any (handled_in (token_of e)) (map (λ l. told_lane w 0 (lane_items l)) ls) ≡ true
    → list_all (λ j. handles_made items j.body) (all_items ls) ≡ true → is_made items e ≡ true
unfolding all_items
lanes-made w items e [] h all = absurd (cc)
lanes-made w items e (l ∷ ls) h all =
    let parts = list_all-parts (λ j. handles_made items j.body) (lane_items l) (all_items ls) all in
    go (handled_in (token_of e) (told_lane w 0 (lane_items l))) refl h (λ k. lanes-made w items e ls k parts.1)
  where
    go : (u : Bool) → handled_in (token_of e) (told_lane w 0 (lane_items l)) ≡ u → (u || list_any (handled_in (token_of e)) (map (λ l. told_lane w 0 (lane_items l)) ls)) ≡ true
        → (list_any (handled_in (token_of e)) (map (λ l. told_lane w 0 (lane_items l)) ls) ≡ true → is_made items e ≡ true) → is_made items e ≡ true
    go true is k later = lane-made w items e l is (list_all-parts (λ j. handles_made items j.body) (lane_items l) (all_items ls) all).0
    go false is k later = later k

-- one lane may be left out
items-left : (p : Item → Bool) (ls : List (List Rec)) (at : ℕ) → list_all p (all_items ls) ≡ true → list_all p (all_items (slice_set ls at [])) ≡ true
unfolding all_items lane_items
items-left p [] at h = refl
items-left p (l ∷ ls) zero h = (list_all-parts p (lane_items l) (all_items ls) h).1
items-left p (l ∷ ls) (suc at) h =
    let parts = list_all-parts p (lane_items l) (all_items ls) h in
    all-both p (lane_items l) (all_items (slice_set ls at [])) parts.0 (items-left p ls at parts.1)
  where
    all-both : {X : Type 0} (p : X → Bool) (xs ys : List X) → list_all p xs ≡ true → list_all p ys ≡ true → list_all p (xs ++ ys) ≡ true
    all-both p [] ys h k = k
    all-both p (x ∷ xs) ys h k = and_from _ _ (and_parts _ _ h).0 (all-both p xs ys (and_parts _ _ h).1 k)

-- what a lane knows was made
pub known-made : (sys : System) (lanes : List (List Rec)) (order : List ℕ) (k : ℕ) (e : Entry) → SoundWorld sys lanes order
    → ((((e.pool == 0) || stands (token_of e) (hands_in sys lanes order)) || handled_in (token_of e) (told_lane (facts_in sys lanes) 0 (lane_items (lane_recs lanes k))))
    || list_any (handled_in (token_of e)) (told_aside sys lanes k)) ≡ true
    → is_made (all_items lanes) e ≡ true
unfolding is_made all_made
known-made sys lanes order k e old h =
    go (e.pool == 0) (stands (token_of e) (hands_in sys lanes order)) (handled_in (token_of e) (told_lane (facts_in sys lanes) 0 (lane_items (lane_recs lanes k)))) refl refl refl h
  where
    go : (u v x : Bool) → (e.pool == 0) ≡ u → stands (token_of e) (hands_in sys lanes order) ≡ v → handled_in (token_of e) (told_lane (facts_in sys lanes) 0 (lane_items (lane_recs lanes k))) ≡ x
        → (((u || v) || x) || list_any (handled_in (token_of e)) (told_aside sys lanes k)) ≡ true → is_made (all_items lanes) e ≡ true
    go true v x p s t q = rw p refl
    go false true x p s t q = held-is_made sys lanes (hands_in sys lanes order) old.sound e.pool e.block e.name s
    go false false true p s t q = lane-made (facts_in sys lanes) (all_items lanes) e (lane_recs lanes k) t (all-lane (λ j. handles_made (all_items lanes) j.body) lanes k old.made)
    go false false false p s t q =
        lanes-made (facts_in sys lanes) (all_items lanes) e (slice_set lanes k []) q (items-left (λ j. handles_made (all_items lanes) j.body) lanes k old.made)

-- no token depends on the ceiling
hands-ceiling : (hands : List Token) (w : Facts) (o c : ℕ) (b : Body) → hands_of hands b (known_of w o c b) ≡ hands_of hands b (known_of w o 0 b)
unfolding known_of
hands-ceiling hands w o c (Dec p b d k) = refl
hands-ceiling hands w o c _ = refl

-- a block given out shows its own word as it was
from-mark : (w : Word) (n : ℕ) (b : Body) → ((p k c from sig : ℕ) (pars : List ℕ) → b ≡ New p k c from sig pars → same_word (word.Block p c) w ≡ true → n ≡ from) → n ≡ mark_or n (shown_from w b)
from-mark w n (New p k c from sig pars) h = go (same_word (word.Block p c) w) refl
  where
    go : (u : Bool) → same_word (word.Block p c) w ≡ u → n ≡ mark_or n (cond u (Some from) None)
    go true e = h p k c from sig pars refl e
    go false e = refl
from-mark w n _ h = refl

module _ (sys : System) (lanes : List (List Rec)) (order : List ℕ) (at : ℕ) (r : Rec) (o : ℕ) (b : Body) (old : SoundWorld sys lanes order) (within : at < length lanes)
    (is : item_of r ≡ record { of = o; body = b }) (may : May sys lanes (hands_in sys lanes order) o b) where
  abbrev more : List (List Rec)
  more = with_record lanes at r

  abbrev lane : List Item
  lane = lane_items (lane_recs lanes at)

  abbrev front : List Item
  front = world.front sys lanes order at r o b old within is may

  abbrev rest : List Item
  rest = world.rest sys lanes order at r o b old within is may

  abbrev this : Item
  this = record { of = o; body = b }

  items_before : all_items lanes ≡ front ++ rest
  items_before = world.items_before sys lanes order at r o b old within is may

  items_after : all_items more ≡ front ++ this ∷ rest
  items_after = world.items_after sys lanes order at r o b old within is may

  -- the lane's records are settled and made
  lane_middle : (p : Item → Bool) → list_all p (all_items lanes) ≡ true → list_all p lane ≡ true
  lane_middle p h = list_all-middle p (all_items (world.before sys lanes order at r o b old within is may)) lane rest (subst (λ z. list_all p z ≡ true) items_before h)

  lane_settled : AllSettled (front ++ rest) lane
  unfolding all_settled
  lane_settled =
      subst (λ z. AllSettled z lane) items_before
      (all_settled-from (all_items lanes) lane (lane_middle (λ j. is_settled (all_items lanes) j.body) old.settled))

  lane_now : lane_items (lane_recs more at) ≡ lane ++ this ∷ []
  unfolding lane_items
  lane_now = ap (map item_of) (lane-set_same lanes at (lane_recs lanes at ++ r ∷ []) within) ∙ map-append item_of (lane_recs lanes at) (r ∷ []) ∙ ap (λ i. map item_of (lane_recs lanes at) ++ i ∷ []) is

  abbrev told_before : List ToldItem
  told_before = told_lane (facts_in sys lanes) 0 lane

  -- the record as it is told
  abbrev pub told_now : ToldItem
  told_now = for_object o (told (facts_in sys more) o (ceiling_in 0 told_before) b)

  pub told-more : told_lane (facts_in sys more) 0 (lane_items (lane_recs more at)) ≡ told_before ++ told_now ∷ []
  told-more =
      ap (told_lane (facts_in sys more) 0) lane_now
      ∙ told_lane-append (facts_in sys more) 0 lane this
      ∙ ap (λ c. told_lane (facts_in sys more) 0 lane ++ for_object o (told (facts_in sys more) o c b) ∷ []) (sym (ceiling-told (facts_in sys lanes) 0 0 lane))
      ∙ ap (λ ts. ts ++ told_now ∷ []) told_then
    where
      told_then : told_lane (facts_in sys more) 0 lane ≡ told_before
      told_then =
          ap (λ z. told_lane (record { sys = sys; items = z }) 0 lane) items_after
          ∙ told_lane-stays sys front this rest (world.later sys lanes order at r o b old within is may) 0 lane lane_settled
          ∙ sym (ap (λ z. told_lane (record { sys = sys; items = z }) 0 lane) items_before)

  -- Marks.
  pub marks-now : (w : Word) → total w (all_items more) ≡ mark_or (total w (all_items lanes)) (mark_of w (touch_of o b))
  marks-now w =
      ap (total w) items_after
      ∙ total-next front this rest w (subst (λ z. Next z (touch_of o b)) items_before (next-of sys lanes old.sound.words (hands_in sys lanes order) o b may))
      ∙ ap (λ z. mark_or (total w z) (mark_of w (touch_of o b))) (sym items_before)

  pub marks-rise : (w : Word) → total w (all_items lanes) ≤ total w (all_items more)
  marks-rise w = let t = total-rises front this rest w in let a = ap (total w) items_after in let c = ap (total w) items_before in omega (arith, t, a, c)

  pub undrawn : (w : Word) → total w (all_items more) ≡ total w (all_items lanes) → drawn_on w (touch_of o b) ≡ false
  undrawn w same = total-same front this rest w (sym (ap (total w) items_after) ∙ same ∙ ap (total w) items_before)

  marks-from : (w : Word) → total w (all_items more) ≡ mark_or (total w (all_items more)) (shown_from w b)
  unfolding May
  marks-from w = from-mark w (total w (all_items more)) b (λ p k c from sig pars says same. given p k c from sig pars says (same_word-is (word.Block p c) w same))
    where
      given : (p k c from sig : ℕ) (pars : List ℕ) → b ≡ New p k c from sig pars → word.Block p c ≡ w → total w (all_items more) ≡ from
      given p k c from sig pars says w_is =
          let m : May sys lanes (hands_in sys lanes order) o (New p k c from sig pars) = subst (May sys lanes (hands_in sys lanes order) o) says may in
          let quiet : total (word.Block p c) (all_items more) ≡ total (word.Block p c) (all_items lanes) =
          marks-now (word.Block p c) ∙ ap (λ x. mark_or (total (word.Block p c) (all_items lanes)) (mark_of (word.Block p c) (touch_of o x))) says in
          ap (λ v. total v (all_items more)) (sym w_is) ∙ quiet ∙ sym (refs-count sys lanes old.sound.words p c m.block) ∙ sym m.since

  -- What words show, where their marks stay.
  pub shown-still : (w : Word) → total w (all_items more) ≡ total w (all_items lanes) → shown_in sys more w ≡ shown_in sys lanes w
  unfolding shown_in
  shown-still w same = go w (undrawn w same)
    where
      here : {X : Type 0} (f : List (List Rec) → X) → f (world.grown_lanes sys lanes order at r o b old within is may) ≡ f (world.split_lanes sys lanes order at r o b old within is may) → f more ≡ f lanes
      here f e = ap f (world.is_grown sys lanes order at r o b old within is may) ∙ e ∙ sym (ap f (world.is_split sys lanes order at r o b old within is may))

      go : (v : Word) → drawn_on v (touch_of o b) ≡ false → shown_in sys more v ≡ shown_in sys lanes v
      go (word.Pool p) k = here (λ ls. shown_in sys ls (word.Pool p)) (rw (pool-stays sys _ _ _ r this is p k) refl)
      go (word.Block p c) k = here (λ ls. shown_in sys ls (word.Block p c)) (rw (refs-stays sys _ _ _ r this is p c k) refl)
      go (word.Queue a) k = here (λ ls. shown_in sys ls (word.Queue a)) (rw (line-stays sys _ _ _ r this is a k) refl)
      go _ k = refl

  -- The line of a queue on which the record draws a number.
  pub line-still : (a : ℕ) → drawn_on (word.Queue a) (touch_of o b) ≡ false → line_in sys more a ≡ line_in sys lanes a
  line-still a k =
      ap (λ ls. line_in sys ls a) (world.is_grown sys lanes order at r o b old within is may)
      ∙ line-stays sys _ _ _ r this is a k
      ∙ sym (ap (λ ls. line_in sys ls a) (world.is_split sys lanes order at r o b old within is may))

  -- a word on which the record draws the next number has it at the end of its history
  pub hist-now : (w : Word) → same_word w w ≡ true → IsTrue (is_numbered w (all_items lanes)) → touch_of o b ≡ Draws w (suc (total w (all_items lanes)))
      → hist w (all_items more) ≡ hist w (all_items lanes) ++ this ∷ []
  hist-now w self numbers draws =
      let next : drawn_as w (total w (front ++ rest)) (touch_of o b) ≡ true =
      subst (λ z. drawn_as w (total w z) (touch_of o b) ≡ true) items_before (rw draws (and_from _ _ self (same_number (suc (total w (all_items lanes)))))) in
      ap (hist w) items_after
      ∙ hist-draws w front this rest (subst (λ z. IsTrue (is_numbered w z)) items_before numbers) next
      ∙ ap (λ z. hist w z ++ this ∷ []) (sym items_before)

  pub line-now : (a : ℕ) → IsTrue (is_object sys a) → touch_of o b ≡ Draws (word.Queue a) (suc (total (word.Queue a) (all_items lanes))) → line_in sys more a ≡ line_next (line_in sys lanes a) b
  unfolding line_in
  line-now a h draws =
      ap (after (line (ring_of sys a))) (hist-now (word.Queue a) (same_number a) (old.sound.words.queues a h).numbers draws)
      ∙ after-append (line (ring_of sys a)) (hist (word.Queue a) (all_items lanes)) this

  pub pool-now : (p : ℕ) → IsTrue (is_pool sys p) → touch_of o b ≡ Draws (word.Pool p) (suc (total (word.Pool p) (all_items lanes))) → pool_in sys more p ≡ pool_next (pool_in sys lanes p) b
  unfolding pool_in
  pool-now p h draws =
      ap (after (free_blocks (blocks_of sys p))) (hist-now (word.Pool p) (same_number p) (old.sound.words.pools p h).numbers draws)
      ∙ after-append (free_blocks (blocks_of sys p)) (hist (word.Pool p) (all_items lanes)) this

  pub refs-now : (p c : ℕ) → IsTrue (is_block sys p c) → touch_of o b ≡ Draws (word.Block p c) (suc (total (word.Block p c) (all_items lanes))) → refs_in more p c ≡ refs_next (refs_in lanes p c) b
  unfolding refs_in
  refs-now p c h draws =
      ap (after references) (hist-now (word.Block p c) (and_from _ _ (same_number p) (same_number c)) (old.sound.words.blocks p c h).numbers draws)
      ∙ after-append references (hist (word.Block p c) (all_items lanes)) this

  pub pool-still : (p : ℕ) → drawn_on (word.Pool p) (touch_of o b) ≡ false → pool_in sys more p ≡ pool_in sys lanes p
  pool-still p k =
      ap (λ ls. pool_in sys ls p) (world.is_grown sys lanes order at r o b old within is may)
      ∙ pool-stays sys _ _ _ r this is p k
      ∙ sym (ap (λ ls. pool_in sys ls p) (world.is_split sys lanes order at r o b old within is may))

  pub refs-still : (p c : ℕ) → drawn_on (word.Block p c) (touch_of o b) ≡ false → refs_in more p c ≡ refs_in lanes p c
  refs-still p c k =
      ap (λ ls. refs_in ls p c) (world.is_grown sys lanes order at r o b old within is may)
      ∙ refs-stays sys _ _ _ r this is p c k
      ∙ sym (ap (λ ls. refs_in ls p c) (world.is_split sys lanes order at r o b old within is may))

  pub set-still : (s : ℕ) → drawn_on (word.Signal s) (touch_of o b) ≡ false → hist (word.Signal s) (all_items more) ≡ hist (word.Signal s) (all_items lanes)
  set-still s k =
      ap (λ ls. hist (word.Signal s) (all_items ls)) (world.is_grown sys lanes order at r o b old within is may)
      ∙ hist-stays _ _ _ r this is (word.Signal s) k
      ∙ sym (ap (λ ls. hist (word.Signal s) (all_items ls)) (world.is_split sys lanes order at r o b old within is may))

  -- The last-in posts and takes of queues.
  own-still : (a : ℕ) → drawn_on (word.Queue a) (touch_of o b) ≡ false → own_of_line (line_in sys more a) ≡ own_of_line (line_in sys lanes a)
  own-still a k = ap own_of_line (line-still a k)

  module _ (c : ℕ) (h : IsTrue (is_object sys c)) (draws : touch_of o b ≡ Draws (word.Queue c) (suc (total (word.Queue c) (all_items lanes)))) (step : Own → Own)
      (steps : own_of_line (line_next (line_in sys lanes c) b) ≡ step (own_of_line (line_in sys lanes c))) where
    -- those of the queue on which a number is drawn, and of the others
    own-drawn : (a : ℕ) → own_of_line (line_in sys more a) ≡ cond (c == a) (step (own_of_line (line_in sys lanes a))) (own_of_line (line_in sys lanes a))
    own-drawn a = go (c == a) refl
      where
        go : (u : Bool) → (c == a) ≡ u → own_of_line (line_in sys more a) ≡ cond u (step (own_of_line (line_in sys lanes a))) (own_of_line (line_in sys lanes a))
        go true e =
            let at_a : c ≡ a = grind (arith, nat_tests) in
            subst (λ x. own_of_line (line_in sys more x) ≡ step (own_of_line (line_in sys lanes x))) at_a (ap own_of_line (line-now c h draws) ∙ steps)
        go false e = own-still a (rw (draws, e) refl)

  same-either : (u : Bool) (x : Own) → cond u x x ≡ x
  same-either true x = refl
  same-either false x = refl

  own-now : (a : ℕ) (c : Body) → b ≡ c → own_of_line (line_in sys more a) ≡ own_of a (own_of_line (line_in sys lanes a)) o c
  unfolding May
  own-now a (Took f l m e) same =
      let t : May sys lanes (hands_in sys lanes order) o (Took f l m e) = subst (May sys lanes (hands_in sys lanes order) o) same may in
      let q = queue_total sys lanes old.sound.words (hands_in sys lanes order) o f l t.0 t.2.queue in
      let up : m ≡ t.0 + 1 = t.1 in
      own-drawn o t.2.queue.object (ap (touch_of o) same ∙ ap (Draws (word.Queue o)) (omega (arith, q, up))) (λ x. record { l = x.l; m = x.m + 1 })
      (ap (λ x. own_of_line (line_next (line_in sys lanes o) x)) same) a
  own-now a (Lifo f l m e) same =
      let t : May sys lanes (hands_in sys lanes order) o (Lifo f l m e) = subst (May sys lanes (hands_in sys lanes order) o) same may in
      let q = queue_total sys lanes old.sound.words (hands_in sys lanes order) o f t.0 m t.2.queue in
      let up : l ≡ t.0 + 1 = t.1 in
      own-drawn o t.2.queue.object (ap (touch_of o) same ∙ ap (Draws (word.Queue o)) (omega (arith, q, up))) (λ x. record { l = x.l + 1; m = x.m })
      (ap (λ x. own_of_line (line_next (line_in sys lanes o) x)) same) a
  own-now a (Post c f l m e) same =
      let t : May sys lanes (hands_in sys lanes order) o (Post c f l m e) = subst (May sys lanes (hands_in sys lanes order) o) same may in
      let q = queue_total sys lanes old.sound.words (hands_in sys lanes order) c t.0 l m t.2.queue in
      let up : f ≡ t.0 + 1 = t.1 in
      own-drawn c t.2.queue.object (ap (touch_of o) same ∙ ap (Draws (word.Queue c)) (omega (arith, q, up))) (λ x. x)
      (ap (λ x. own_of_line (line_next (line_in sys lanes c) x)) same) a
      ∙ same-either (c == a) (own_of_line (line_in sys lanes a))
  own-now a _ same = own-still a (subst (λ x. drawn_on (word.Queue a) (touch_of o x) ≡ false) (sym same) refl)

  -- What the other lanes tell.
  told-stays : (l : List Rec) → list_all (λ j. is_settled (all_items lanes) j.body) (lane_items l) ≡ true
      → told_lane (facts_in sys more) 0 (lane_items l) ≡ told_lane (facts_in sys lanes) 0 (lane_items l)
  unfolding all_settled
  told-stays l settled =
      ap (λ z. told_lane (record { sys = sys; items = z }) 0 (lane_items l)) items_after
      ∙ told_lane-stays sys front this rest (world.later sys lanes order at r o b old within is may) 0 (lane_items l)
      (subst (λ z. AllSettled z (lane_items l)) items_before (all_settled-from (all_items lanes) (lane_items l) settled))
      ∙ sym (ap (λ z. told_lane (record { sys = sys; items = z }) 0 (lane_items l)) items_before)

  all-stay : (ls : List (List Rec)) → list_all (λ j. is_settled (all_items lanes) j.body) (all_items ls) ≡ true
      → map (λ l. told_lane (facts_in sys more) 0 (lane_items l)) ls ≡ map (λ l. told_lane (facts_in sys lanes) 0 (lane_items l)) ls
  unfolding all_items
  all-stay [] h = refl
  all-stay (l ∷ ls) h =
      let parts = list_all-parts (λ j. is_settled (all_items lanes) j.body) (lane_items l) (all_items ls) h in
      ap (λ t. t ∷ map (λ l. told_lane (facts_in sys more) 0 (lane_items l)) ls) (told-stays l parts.0)
      ∙ ap (λ ts. told_lane (facts_in sys lanes) 0 (lane_items l) ∷ ts) (all-stay ls parts.1)

  pub aside-stays : told_aside sys more at ≡ told_aside sys lanes at
  unfolding all_settled
  aside-stays =
      ap (map (λ l. told_lane (facts_in sys more) 0 (lane_items l))) (slice_set-twice lanes at (lane_recs lanes at ++ r ∷ []) [])
      ∙ all-stay (slice_set lanes at []) (items-left (λ j. is_settled (all_items lanes) j.body) lanes at old.settled)

  pub log-now : log_of more (order ++ at ∷ []) ≡ log_of lanes order ++ record { lane = at; item = this } ∷ []
  log-now =
      log-grows lanes more order (order ++ at ∷ []) at r old.orders (record { within = within; lanes_are = refl; order_is = refl })
      ∙ ap (λ i. log_of lanes order ++ record { lane = at; item = i } ∷ []) is

  made-before : (e : Entry) → is_made (front ++ rest) e ≡ true → (e.pool ≡ 0) ⊎ (e.name < length (hist (word.Block e.pool e.block) (front ++ rest)))
  unfolding is_made is_settled Settled
  made-before e h = settled-from (front ++ rest) (Took 0 0 0 e) h

  pub event_of-still : (e : Entry) → is_made (all_items lanes) e ≡ true → event_of_entry (facts_in sys more) e ≡ event_of_entry (facts_in sys lanes) e
  event_of-still e made =
      ap (λ z. event_of_entry (record { sys = sys; items = z }) e) items_after
      ∙ event-stays sys front this rest (world.later sys lanes order at r o b old within is may) e (made-before e (subst (λ z. is_made z e ≡ true) items_before made))
      ∙ sym (ap (λ z. event_of_entry (record { sys = sys; items = z }) e) items_before)

  event-still : (e : Entry) → is_made (all_items lanes) e ≡ true → event_in sys more e ≡ event_in sys lanes e
  unfolding event_in
  event-still e made = ap (λ x. unwrap_or x (record { sig = 0; pars = [] })) (event_of-still e made)

  -- The lane has one record more.
  module _ (spare left by : ℕ) (stops answered : List ℕ) (purses : List Purse) where
    abbrev pub old_view : LaneView
    old_view = view_of sys lanes order at spare by stops answered purses

    abbrev pub new_view : LaneView
    new_view = view_of sys more (order ++ at ∷ []) at left by stops answered purses

    pub view-gains : Gains (told_now ∷ []) old_view new_view
    unfolding view_of mark_after mark_by own_after told hands_after hands_by is_known
    view-gains = record {
      world = refl;
      sys = refl;
      told = told-more;
      by = refl;
      serves = λ x. refl;
      stops = refl;
      answered = refl;
      asked = refl;
      mark = λ w. marks-from w ∙ ap (λ n. mark_or n (shown_from w b)) (marks-now w);
      rise = marks-rise;
      between = λ w. between-one w (old_view.mark w) (new_view.mark w) told_now (marks-from w ∙ ap (λ n. mark_or n (shown_from w b)) (marks-now w)) (marks-rise w);
      shown = shown-still;
      own = λ a. own-now a b refl;
      event = λ e k. event-still e (known-made sys lanes order at e old k);
      hands = world.hands_now sys lanes order at r o b old within is may ∙ sym (hands-ceiling (hands_in sys lanes order) (facts_in sys more) o (ceiling_in 0 told_before) b);
      plan = refl;
      happened = refl;
      lane = refl;
      log = log-now;
      aside = ap (λ t. record { told = t; purses = purses }) aside-stays;
    }
