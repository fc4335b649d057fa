-- Parts of an agenda, as the records that they add.
use Rattle.std.proofs.Common.{◌≡◌, ℕ, ◌≤◌, max, true, List, [], ◌∷◌, ◌++◌, map, refl, sym, ◌∙◌, ap, subst, arith, inl, IsTrue, Option, Some, None, append-nil}
use Rattle.std.specs.List.{list_all}
use Rattle.std.proofs.lemmas.Bool.{and_parts}
use Rattle.qp_chart.specs.declared.actions.Plain.{Plain}
use Rattle.qp_chart.specs.Task as task
use Rattle.qp_chart.specs.Task.{Task}
use Rattle.qp_model.specs.declared.record.Rec.{Rec}
use Rattle.qp_model.specs.declared.bodies.Body.{Body}
use Rattle.qp_model.specs.declared.bodies.Body.TheVariants as item
use Rattle.qp_model.specs.Record.{item_of, body_of}
use Rattle.qp_model.specs.Told.{plain, raised, for_object}
use Rattle.qp_model.specs.Pieces.{Point}
use Rattle.qp_model.specs.Acts.{Moment}
use Rattle.qp_model.specs.Step.{tasks_left}
use Rattle.qp_model.specs.StepNotes.{note_of}
use Rattle.qp_model.proofs.ReachLemmas.{reaches-note, reaches-raise, reaches-restore}
use Rattle.qp_calls.specs.declared.tokens.HeldEntry.{HeldEntry}
use Rattle.qp_calls.specs.declared.answers.RoomFault.{RoomFault}
use Rattle.qp_calls.specs.Tokens.{Token, hands_after, hands_by}
use Rattle.qp_calls.specs.Counting.{count_of}
use Rattle.qp_calls.specs.LaneView.{LaneView, Grows, GrowsOf, Roomier, ceiling_in}
use Rattle.qp_calls.specs.Notes.{MayNote, needs_spare_alone, spare_after, told_note, note_told}
use Rattle.qp_calls.specs.Clauses.{IsFault, EntryStands, entry_of}
use Rattle.qp_calls.specs.Groups.{Refused}
use Rattle.qp_calls.specs.Deferring.{ChangeAlike, StandAll, is_named, tokens_in}
use Rattle.qp_calls.proofs.CountLemmas.{stand-front, stand-same, stand-tail}
use Rattle.qp_calls.proofs.Flushing.{fault-still}
use Rattle.qp_calls.proofs.Growing.{gains-none, grows-room}
use Rattle.qp_calls.proofs.Noting.{adds-note, may-note}
use Rattle.qp_calls.proofs.NoteLemmas.{ceiling-append}
use Rattle.qp_dispatch.specs.declared.lasting.Lasting.{Lasting}
use Rattle.qp_dispatch.specs.declared.part.Under.{Under}
use Rattle.qp_dispatch.specs.Lasts.{config_of, actor_of}
use Rattle.qp_dispatch.specs.Acting.{ActDone, ActAsserts, ActionKeeps}
use Rattle.qp_dispatch.specs.Parts.{PartGoes, Asserts, CutShort, StandWith, held_by}
use Rattle.qp_dispatch.proofs.Quiet.{Quiet, spills-append}
use Rattle.qp_dispatch.proofs.ActLemmas.{all-right, calm-quiet, counts-join}
use Rattle.qp_model.proofs.ListLemmas.{list_all-front}
use Rattle.qp_model.proofs.RecordLemmas.{body-is, of-is}

-- Notes.

pub note-here : (r : Rec) (a v : LaneView) → Roomier a v → IsTrue (needs_spare_alone (body_of r)) → 8 ≤ v.spare → MayNote r v
unfolding MayNote item_of
note-here r a v room is some = may-note r.of (body_of r) r v refl is (omega (arith, some))

pub noted : (r : Rec) (a v w : LaneView) → Roomier a v → IsTrue (needs_spare_alone (body_of r)) → a.by ≡ r.of → 8 ≤ v.spare → GrowsOf r.of (told_note r v) v w → w.spare ≡ spare_after r v.spare
    → Grows (told_note r a) a w
unfolding told_note item_of
noted r a v w room is mine some grown spare =
    let by : r.of ≡ v.by = rw room.same (sym mine) in
    let one = adds-note r.of (body_of r) r v w refl is by (omega (arith, some)) grown spare in
    let told : v.told ≡ a.told = rw room.same refl in
    subst (λ t. Grows (note_told (ceiling_in 0 t) (body_of r) ∷ []) a w) told (grows-room (note_told (ceiling_in 0 v.told) (body_of r) ∷ []) a v w room one.grows)

pub rec-mine : (me : ℕ) (b : Body) (r : Rec) (v : LaneView) → item_of r ≡ record { of = me; body = b } → v.by ≡ me → v.by ≡ r.of
rec-mine me b r v is by = by ∙ sym (of-is me b r is)

pub rec-note : (me : ℕ) (b : Body) (r : Rec) → item_of r ≡ record { of = me; body = b } → needs_spare_alone b ≡ true → IsTrue (needs_spare_alone (body_of r))
rec-note me b r is note = rw (body-is me b r is) note

pub rec-told : (me : ℕ) (b : Body) (r : Rec) (v w : LaneView) → item_of r ≡ record { of = me; body = b } → Grows (told_note r v) v w → Grows (note_told (ceiling_in 0 v.told) b ∷ []) v w
unfolding told_note
rec-told me b r v w is grown = subst (λ x. Grows (note_told (ceiling_in 0 v.told) x ∷ []) v w) (body-is me b r is) grown

-- What stands.

pub stand-in : (es : List HeldEntry) (e : HeldEntry) (fs : List HeldEntry) (v : LaneView) → StandAll (es ++ e ∷ fs) v → EntryStands e v
stand-in [] e fs v all = stand-front e fs v all
stand-in (x ∷ es) e fs v all = stand-in es e fs v (stand-tail x (es ++ e ∷ fs) v all)

-- fewer entries stand too, in any order
pub stand-fewer : (es fs : List HeldEntry) (v : LaneView) → list_all (λ e. is_named v.sys e) fs ≡ true
    → ((t : Token) → count_of t (tokens_in (map entry_of fs)) ≤ count_of t (tokens_in (map entry_of es))) → StandAll es v → StandAll fs v
stand-fewer es fs v named less all = record { named = named; counts = λ t. omega (arith, less t, all.counts t) }

-- without those in the middle
pub stand-without : (es ds fs : List HeldEntry) (v : LaneView) → StandAll ((es ++ ds) ++ fs) v → StandAll ((es ++ []) ++ fs) v
stand-without es ds fs v all =
    let left = list_all-front (λ e. is_named v.sys e) (es ++ ds) fs all.named in
    let named = list_all-front (λ e. is_named v.sys e) es ds left in
    let right = all-right (λ e. is_named v.sys e) (es ++ ds) fs all.named in
    rw (append-nil es)
    (stand-fewer ((es ++ ds) ++ fs) (es ++ fs) v (all-both es fs v named right) (λ t. omega (arith, counts-join t (es ++ ds) fs, counts-join t es ds, counts-join t es fs)) all)
  where
    all-both : (es fs : List HeldEntry) (v : LaneView) → list_all (λ e. is_named v.sys e) es ≡ true → list_all (λ e. is_named v.sys e) fs ≡ true → list_all (λ e. is_named v.sys e) (es ++ fs) ≡ true
    all-both [] fs v h k = k
    all-both (x ∷ es) fs v h k = let parts = and_parts (is_named v.sys x) (list_all (λ e. is_named v.sys e) es) h in rw (parts.0, all-both es fs v parts.1 k) refl

-- Parts that leave the object's entries.

still-hands : (k m : Lasting) (u : Option Under) (v w : LaneView) → m.list ≡ k.list → w.hands ≡ v.hands → ChangeAlike (map entry_of (held_by k u)) (map entry_of (held_by m u)) v w
still-hands k m u v w list hands t = rw (list, hands) refl

still-stand : (k m : Lasting) (u : Option Under) (v w : LaneView) → m.list ≡ k.list → w.hands ≡ v.hands → w.sys ≡ v.sys → StandWith k u m u v w
still-stand k m u v w list hands sys others all = rw list (stand-same (held_by k u ++ others) v w all hands sys)

keeps-same : (k m : Lasting) → m.list ≡ k.list → m.leaf ≡ k.leaf → ActionKeeps k m
keeps-same k m list leaf = record { leaf = leaf; room = rw list refl; few = λ few. rw list few }

-- a note of the agenda
record IsPlain (b : Body) (c : ℕ) (v : LaneView) : Type 0 where
  told : note_told c b ≡ plain b
  quiet : Quiet (plain b ∷ [])
  note : needs_spare_alone b ≡ true
  hands : hands_after v.hands (for_object v.by (plain b) ∷ []) ≡ v.hands

note-plain : (t : Task) (b : Body) (c : ℕ) (v : LaneView) → note_of t ≡ Some b → IsPlain b c v
unfolding hands_after hands_by
note-plain t b c v is = by t is
  where
    as_is : (n : Body) → n ≡ b → IsPlain n c v → IsPlain b c v
    as_is n same h = subst (λ x. IsPlain x c v) same h

    by : (t : Task) → note_of t ≡ Some b → IsPlain b c v
    by task.Begin e = as_is item.Begin (cc) (record { told = refl; quiet = refl; note = refl; hands = refl })
    by (task.Run s n) e = as_is (item.Run s n) (cc) (record { told = refl; quiet = refl; note = refl; hands = refl })
    by task.Unhandled e = as_is item.Unhandled (cc) (record { told = refl; quiet = refl; note = refl; hands = refl })
    by (task.Exit s) e = as_is (item.Exit s) (cc) (record { told = refl; quiet = refl; note = refl; hands = refl })
    by (task.Enter s) e = as_is (item.Enter s) (cc) (record { told = refl; quiet = refl; note = refl; hands = refl })
    by (task.Init s) e = as_is (item.Init s) (cc) (record { told = refl; quiet = refl; note = refl; hands = refl })
    by task.Done e = as_is item.Done (cc) (record { told = refl; quiet = refl; note = refl; hands = refl })
    by (task.Do p) e = absurd (cc)
    by (task.Raise x) e = absurd (cc)
    by task.Restore e = absurd (cc)

pub is-noted : (t : Task) (b : Body) (v : LaneView) → note_of t ≡ Some b → needs_spare_alone b ≡ true
is-noted t b v is = (note-plain t b 0 v is).note

pub goes-note : (me ceiling : ℕ) (at : Moment) (t : Task) (b : Body) (k : Lasting) (v w : LaneView) → note_of t ≡ Some b → Grows (note_told (ceiling_in 0 v.told) b ∷ []) v w
    → PartGoes me at (t ∷ []) [] ceiling ceiling k None k None v w
goes-note me ceiling at t b k v w is grown =
    let form = note-plain t b (ceiling_in 0 v.told) v is in
    let note : Grows (plain b ∷ []) v w = subst (λ x. Grows (x ∷ []) v w) form.told grown in
    let calm = calm-quiet (plain b ∷ []) v w note form.quiet in
    let hands : w.hands ≡ v.hands = note.hands ∙ form.hands in
    record {
      g = plain b ∷ [];
      grows = note;
      reaches = λ chart ts leaf. reaches-note v.sys (actor_of me chart k) at ts leaf (config_of k) t b is;
      lane = λ here. here ∙ sym calm.ceiling;
      spills = calm.spills;
      keeps = keeps-same k k refl refl;
      hands = still-hands k k None v w refl hands;
      stand = still-stand k k None v w refl hands note.sys;
      publishing = tt;
    }

-- `locked` begins
pub goes-raise : (me to c top : ℕ) (at : Moment) (k : Lasting) (v w : LaneView) → top ≡ max c to → c ≡ ceiling_in 0 v.told → Grows (note_told (ceiling_in 0 v.told) (item.Lock top) ∷ []) v w
    → PartGoes me at (task.Raise to ∷ []) [] c top k None (record k { former = c }) None v w
unfolding hands_after hands_by ceiling_in
goes-raise me to c top at k v w top_is is grown =
    let note : Grows (raised (max c to) c ∷ []) v w =
    subst (λ x. Grows (raised (max c to) x ∷ []) v w) (sym is) (subst (λ x. Grows (raised x (ceiling_in 0 v.told) ∷ []) v w) top_is grown) in
    record {
      g = raised (max c to) c ∷ [];
      grows = note;
      reaches = λ chart ts leaf. reaches-raise v.sys (actor_of me chart k) at ts leaf (config_of k) to c;
      lane = λ here. rw note.told (top_is ∙ sym (ceiling-append 0 v.told (for_object v.by (raised (max c to) c) ∷ [])));
      spills = λ none. rw note.told (spills-append v.by v.told (raised (max c to) c ∷ []) none refl);
      keeps = keeps-same k (record k { former = c }) refl refl;
      hands = still-hands k (record k { former = c }) None v w refl note.hands;
      stand = still-stand k (record k { former = c }) None v w refl note.hands note.sys;
      publishing = tt;
    }

-- `locked` ends
pub goes-restore : (me c : ℕ) (at : Moment) (k : Lasting) (v w : LaneView) → Grows (note_told (ceiling_in 0 v.told) (item.Unlock k.former) ∷ []) v w
    → PartGoes me at (task.Restore ∷ []) (Point ∷ []) c k.former k None k None v w
unfolding hands_after hands_by ceiling_in
goes-restore me c at k v w note =
    record {
      g = plain (item.Unlock k.former) ∷ [];
      grows = note;
      reaches = λ chart ts leaf. reaches-restore v.sys (actor_of me chart k) at ts leaf (config_of k);
      lane = λ here. rw note.told (sym (ceiling-append 0 v.told (for_object v.by (plain (item.Unlock k.former)) ∷ [])));
      spills = λ none. rw note.told (spills-append v.by v.told (plain (item.Unlock k.former) ∷ []) none refl);
      keeps = keeps-same k k refl refl;
      hands = still-hands k k None v w refl note.hands;
      stand = still-stand k k None v w refl note.hands note.sys;
      publishing = tt;
    }

-- nothing was done
pub cut-still : (me : ℕ) (at : Moment) (pre : List Task) (k : Lasting) (u : Option Under) (f : RoomFault) (v w : LaneView) → Refused f v w → CutShort me at pre k u k u v w × IsFault w f
cut-still me at pre k u f v w h = (cut h.0, fault-still f v w h.0 h.1)
  where
    cut : w ≡ v → CutShort me at pre k u k u v w
    cut same = rw same (record { g = []; grows = gains-none v; front = inl refl; spills = λ none. none; stand = λ others all. all })

-- nothing was done, and a publication is given up: its token stays in the hands
pub cut-lost : (me : ℕ) (at : Moment) (pre : List Task) (k : Lasting) (u : Under) (f : RoomFault) (v w : LaneView) → Refused f v w → CutShort me at pre k (Some u) k None v w × IsFault w f
cut-lost me at pre k u f v w h = (cut h.0, fault-still f v w h.0 h.1)
  where
    cut : w ≡ v → CutShort me at pre k (Some u) k None v w
    cut same =
        rw same
        (record { g = []; grows = gains-none v; front = inl refl; spills = λ none. none; stand = λ others all. stand-without k.list.entries.items (u.publication.entry ∷ []) others v all })

-- Actions.

bare-held : (k : Lasting) (others : List HeldEntry) → held_by k None ++ others ≡ k.list.entries.items ++ others
bare-held k others = ap (λ x. x ++ others) (append-nil k.list.entries.items)

pub goes-act : (me ceiling : ℕ) (at : Moment) (p : Plain) (k m : Lasting) (v w : LaneView) → ActDone me at p k m v w → PartGoes me at (task.Do p ∷ []) (Point ∷ []) ceiling ceiling k None m None v w
goes-act me ceiling at p k m v w h = record {
  g = h.g;
  grows = h.grows;
  reaches = h.reaches;
  lane = λ here. here ∙ sym h.calm.ceiling;
  spills = h.calm.spills;
  keeps = h.keeps;
  hands = rw (append-nil k.list.entries.items, append-nil m.list.entries.items) h.hands;
  stand = λ others all. rw (bare-held m others) (h.stand others (rw (bare-held k others) at all));
  publishing = tt;
}

pub asserts-act : (me code : ℕ) (at : Moment) (p : Plain) (k m : Lasting) (v w : LaneView) → ActAsserts me at p code k m v w → Asserts me at (task.Do p ∷ []) code k None m None v w
unfolding tasks_left
asserts-act me code at p k m v w h = record {
  g = h.g;
  grows = h.grows;
  does = λ chart ts leaf. h.does chart ts;
  some = h.some;
  last = h.last;
  stand = λ others all. rw (bare-held m others) (h.stand others (rw (bare-held k others) at all));
}
