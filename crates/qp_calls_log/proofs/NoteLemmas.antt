-- Notes and codes, by the log of their lane.
use Rattle.std.proofs.Common.{◌≡◌, ℕ, ◌+◌, ◌<◌, ◌≤◌, ◌==◌, nat_lt, Bool, true, false, List, [], ◌∷◌, map, refl, sym, ◌∙◌, ap, subst, arith, inl, inr}
use Rattle.std.specs.List.{list_any}
use Rattle.std.proofs.lemmas.Bool.{and_from, or_right}
use Rattle.std.proofs.lemmas.Bool.Decides.{nat_tests}
use Rattle.qp_model.specs.declared.record.Rec.{Rec}
use Rattle.qp_model.specs.declared.bodies.Body.{Body}
use Rattle.qp_model.specs.declared.bodies.Body.TheVariants.{Arm, Armed, Back, Dec, Disarm, Fire, Full, Idle, Inc, Lifo, New, Nil, NoBlock, NoEntry, NoLifo, Post, Pub, Rearm, Same, Seen, Short, Sub, Tick, Took, Unsub, BadTicks, Spent, Spill}
use Rattle.qp_model.specs.Record.{Item, item_of, body_of}
use Rattle.qp_model.specs.Ends.{is_spill, spills_in}
use Rattle.qp_model.specs.History.{Neither, touch_of, lane_items}
use Rattle.qp_model.specs.Told.{ToldItem, for_object}
use Rattle.qp_calls.specs.LaneView.{LaneView, handled_in, ceiling_in}
use Rattle.qp_calls.specs.Notes.{IsNote, MayNote, MayStop, note_told, told_note, spare_after, stop_code, last_code}
use Rattle.qp_calls.specs.Tokens.{Token, handles, hands_by, hands_after}
use Rattle.qp_calls_log.specs.declared.log.Log.{Log}
use Rattle.qp_calls_log.specs.Lane.{is_plain, spill_place}
use Rattle.qp_calls.specs.LaneLaws.{is_caused_in}
use Rattle.qp_calls_log.specs.LaneLaws.{TellsLog, told-any}
use Rattle.qp_calls_log.proofs.LogLemmas.{no-spills}

-- A note touches no word,
note-touches : (v : LaneView) (b : Body) → IsNote b v → (o : ℕ) → touch_of o b ≡ Neither
note-touches v (New p n b from sig pars) h o = let wrong : false ≡ true = h.0 in absurd (cc)
note-touches v (Inc p b r) h o = let wrong : false ≡ true = h.0 in absurd (cc)
note-touches v (Dec p b d k) h o = let wrong : false ≡ true = h.0 in absurd (cc)
note-touches v (Back p n b to) h o = let wrong : false ≡ true = h.0 in absurd (cc)
note-touches v (Short p n free reserve) h o = let wrong : false ≡ true = h.0 in absurd (cc)
note-touches v (NoBlock p n free) h o = let wrong : false ≡ true = h.0 in absurd (cc)
note-touches v (Post a f l m e) h o = let wrong : false ≡ true = h.0 in absurd (cc)
note-touches v (Lifo f l m e) h o = let wrong : false ≡ true = h.0 in absurd (cc)
note-touches v (Took f l m e) h o = let wrong : false ≡ true = h.0 in absurd (cc)
note-touches v (Seen p f l m) h o = let wrong : false ≡ true = h.0 in absurd (cc)
note-touches v (Nil f l m) h o = let wrong : false ≡ true = h.0 in absurd (cc)
note-touches v (Full a f l m margin) h o = let wrong : false ≡ true = h.0 in absurd (cc)
note-touches v (NoEntry a f l m) h o = let wrong : false ≡ true = h.0 in absurd (cc)
note-touches v (NoLifo a f l m) h o = let wrong : false ≡ true = h.0 in absurd (cc)
note-touches v (Sub sig n) h o = let wrong : false ≡ true = h.0 in absurd (cc)
note-touches v (Unsub sig n) h o = let wrong : false ≡ true = h.0 in absurd (cc)
note-touches v (Same sig n) h o = let wrong : false ≡ true = h.0 in absurd (cc)
note-touches v (Pub sig n set) h o = let wrong : false ≡ true = h.0 in absurd (cc)
note-touches v (Arm t n ticks interval) h o = let wrong : false ≡ true = h.0 in absurd (cc)
note-touches v (Disarm t n former) h o = let wrong : false ≡ true = h.0 in absurd (cc)
note-touches v (Rearm t n former ticks) h o = let wrong : false ≡ true = h.0 in absurd (cc)
note-touches v (Idle t n) h o = let wrong : false ≡ true = h.0 in absurd (cc)
note-touches v (Armed t n counter) h o = let wrong : false ≡ true = h.0 in absurd (cc)
note-touches v (Tick t n counter) h o = let wrong : false ≡ true = h.0 in absurd (cc)
note-touches v (Fire t n reload) h o = let wrong : false ≡ true = h.0 in absurd (cc)
note-touches v _ h o = refl

pub note-off : (v : LaneView) (r : Rec) → MayNote r v → touch_of (item_of r).of (item_of r).body ≡ Neither
unfolding MayNote item_of
note-off v r may = note-touches v (body_of r) may r.of

-- moves no token,
leaves-hands : (v : LaneView) (b : Body) → IsNote b v → (hands : List Token) (c : ℕ) → hands_by hands (note_told c b) ≡ hands
unfolding hands_by
leaves-hands v (New p n b from sig pars) h hands c = let wrong : false ≡ true = h.0 in absurd (cc)
leaves-hands v (Inc p b r) h hands c = let wrong : false ≡ true = h.0 in absurd (cc)
leaves-hands v (Dec p b d k) h hands c = let wrong : false ≡ true = h.0 in absurd (cc)
leaves-hands v (Back p n b to) h hands c = let wrong : false ≡ true = h.0 in absurd (cc)
leaves-hands v (Post a f l m e) h hands c = let wrong : false ≡ true = h.0 in absurd (cc)
leaves-hands v (Lifo f l m e) h hands c = let wrong : false ≡ true = h.0 in absurd (cc)
leaves-hands v (Took f l m e) h hands c = let wrong : false ≡ true = h.0 in absurd (cc)
leaves-hands v _ h hands c = refl

pub note-hands : (v : LaneView) (r : Rec) → MayNote r v → (hands : List Token) → hands_after hands (map (for_object r.of) (told_note r v)) ≡ hands
unfolding MayNote told_note hands_after
note-hands v r may hands = leaves-hands v (body_of r) may hands (ceiling_in 0 v.told)

-- and handles none.
handles-none : (v : LaneView) (b : Body) → IsNote b v → (x : Token) (c : ℕ) → handles x (note_told c b).body ≡ false
handles-none v (Inc p b r) h x c = let wrong : false ≡ true = h.0 in absurd (cc)
handles-none v (Dec p b d k) h x c = let wrong : false ≡ true = h.0 in absurd (cc)
handles-none v (Post a f l m e) h x c = let wrong : false ≡ true = h.0 in absurd (cc)
handles-none v (Lifo f l m e) h x c = let wrong : false ≡ true = h.0 in absurd (cc)
handles-none v (Took f l m e) h x c = let wrong : false ≡ true = h.0 in absurd (cc)
handles-none v _ h x c = refl

pub note-handles : (v : LaneView) (r : Rec) → MayNote r v → (x : Token) → handled_in x (map (for_object r.of) (told_note r v)) ≡ false
unfolding MayNote told_note
note-handles v r may x = rw (handles-none v (body_of r) may x (ceiling_in 0 v.told)) refl

-- The record of a note: a `spill` that is the lane's first, or another for which there is spare.
plain-note : (v : LaneView) (b : Body) → is_spill b ≡ false → IsNote b v → (is_plain b ≡ true) × (0 < v.spare)
plain-note v (Spill n) none h = absurd (cc)
plain-note v (BadTicks t ticks interval) none h = (refl, h.1)
plain-note v (Nil f l m) none h = let wrong : false ≡ true = h.0 in absurd (cc)
plain-note v _ none h = (refl, h.1)

no-spill_yet : (v : LaneView) (b : Body) → is_spill b ≡ true → IsNote b v → list_any (λ t. is_spill t.told.body) v.told ≡ false
no-spill_yet v (Spill n) is_one h = h.2
no-spill_yet v _ is_one h = absurd (cc)

pub first-spill : (g : Log) (v : LaneView) (r : Rec) → TellsLog g v → MayNote r v → is_spill (item_of r).body ≡ true → g.spilled ≡ false
unfolding MayNote item_of
first-spill g v r tells may is_one =
    let none = no-spill_yet v (body_of r) is_one may in
    let here : spills_in (lane_items g.recs.items) ≡ false = subst (λ (is : List Item). spills_in is ≡ false) tells.told (sym (told-any is_spill v.told) ∙ none) in
    let zero_of = no-spills (lane_items g.recs.items) here in
    place g.spilled (omega (arith, zero_of, g.spills))
  where
    place : (b : Bool) → spill_place b ≡ 1 → b ≡ false
    place true e = absurd (cc)
    place false e = refl

pub other-note : (v : LaneView) (r : Rec) → MayNote r v → is_spill (item_of r).body ≡ false → (is_plain (item_of r).body ≡ true) × (0 < v.spare)
unfolding MayNote item_of
other-note v r may isnt = plain-note v (body_of r) isnt may

pub spare-kept : (r : Rec) (before after : ℕ) → is_spill (item_of r).body ≡ true → after ≡ before → after ≡ spare_after r before
unfolding spare_after item_of
spare-kept r before after is_one same = rw is_one same

pub spare-less : (r : Rec) (before after : ℕ) → is_spill (item_of r).body ≡ false → after + 1 ≡ before → after ≡ spare_after r before
unfolding spare_after item_of
spare-less r before after isnt less = rw isnt (omega (arith, less))

-- A code that may be handed in is 1 to 7,
stop-small : (b : Body) → stop_code b ≤ 6
stop-small (NoEntry a f l m) = omega arith
stop-small (NoBlock p n free) = omega arith
stop-small (Armed t n c) = omega arith
stop-small (BadTicks t n i) = omega arith
stop-small (NoLifo a f l m) = omega arith
stop-small Spent = omega arith
stop-small (Spill n) = omega arith
stop-small _ = omega arith

pub last-small : (ts : List ToldItem) → last_code ts ≤ 6
unfolding last_code
last-small [] = omega arith
last-small (t ∷ []) = stop-small t.told.body
last-small (t ∷ u ∷ ts) = last-small (u ∷ ts)

pub code-within : (v : LaneView) (code : ℕ) → MayStop code v → (0 < code) × (code ≤ 7)
code-within v code (inl seven) = (omega (arith, seven), omega (arith, seven))
code-within v code (inr last) = let le = last-small v.told in (last.0, omega (arith, le, last.1))

-- and has its record.
last-caused : (code : ℕ) (ts : List ToldItem) → 0 < code → last_code ts ≡ code → list_any (λ t. stop_code t.told.body == code) ts ≡ true
unfolding last_code
last-caused code [] some is = absurd (omega (arith, some, is))
last-caused code (t ∷ []) some is = let here : (stop_code t.told.body == code) ≡ true = grind (arith, nat_tests) in rw here refl
last-caused code (t ∷ u ∷ ts) some is = or_right (stop_code t.told.body == code) _ (last-caused code (u ∷ ts) some is)

pub stop-caused : (g : Log) (v : LaneView) (code : ℕ) → TellsLog g v → MayStop code v → is_caused_in (lane_items g.recs.items) code ≡ true
stop-caused g v code tells (inl seven) = let is : (code == 7) ≡ true = grind (arith, nat_tests) in rw is refl
stop-caused g v code tells (inr last) =
    or_right (code == 7) _
    (and_from _ _ above
    (sym (told-any (λ b. stop_code b == code) v.told ∙ ap (list_any (λ (i : Item). stop_code i.body == code)) tells.told) ∙ last-caused code v.told last.0 last.1))
  where
    above : nat_lt 0 code ≡ true
    above = let some = last.0 in grind (arith, nat_tests)
