-- What a lane has seen of words, against what they are at the end.
use Rattle.std.proofs.Common.{◌≡◌, ℕ, zero, suc, ◌+◌, ◌%◌, ◌≤◌, Bool, true, false, cond, List, [], ◌∷◌, ◌++◌, length, get_or, refl, sym, ◌∙◌, ap, subst, arith, eqb, eqb-true, ltb, IsTrue}
use Rattle.std.specs.Prelude.{count_ones}
use Rattle.qp_model.specs.declared.record.Rec.{Rec}
use Rattle.qp_model.specs.declared.systems.System.{System}
use Rattle.qp_model.specs.declared.words.Word.{Word}
use Rattle.qp_model.specs.declared.words.Word.TheVariants as word
use Rattle.qp_model.specs.Record.{Item}
use Rattle.qp_model.specs.Lists.{count_up}
use Rattle.qp_model.specs.History.{touch, hist, numbered, total, is_numbered, all_items}
use Rattle.qp_model.specs.Machine.{after, after_from}
use Rattle.qp_model.specs.FreeBlocks.{Pool}
use Rattle.qp_model.specs.References.{Refs}
use Rattle.qp_model.specs.Line.{Line}
use Rattle.qp_model.specs.Sites.{blocks_of}
use Rattle.qp_model.specs.WordLaw.{Words, is_object}
use Rattle.qp_model.proofs.HistoryLemmas.{length-hist}
use Rattle.qp_calls.specs.LaneView.{Shown, FreeBlocks, References, Counts, first_shown}
use Rattle.qp_plain_sound.specs.WordStates.{pool_in, refs_in, line_in}
use Rattle.qp_plain_sound.specs.View.{shown_in}
use Rattle.qp_port_law.specs.Sealed.{is_event_table_word}
use Rattle.qp_table.specs.Counting.{Each}
use Rattle.qp_table.specs.TwoTables.{on_table, Thins}
use Rattle.qp_table.specs.Rule.{pool_at, block_at, queue_at, bits_value, mark_in, Holds}
use Rattle.qp_table.specs.After.{empty_view}
use Rattle.qp_table.specs.declared.view.Glance.{Glance}
use Rattle.qp_table.specs.declared.view.View.{View}
use Rattle.qp_table.proofs.Counting.{get-last}
use Rattle.qp_table.proofs.Views.{SawFrom}
use Rattle.qp_table.proofs.Lanes.{adds-nothing}
use Rattle.qp_table.proofs.Bounds.{pool-ascends, refs-count, map-small}
use Rattle.qp_table.proofs.Marks.{queue-mark, line-shows}
use Rattle.qp_table.proofs.Maps.{ones-length}
use Rattle.qp_table.specs.Words.{place_of, is_here, first_value, later, latest, value_seen, mark_seen, as_shown, shown_seen}
use Rattle.qp_table.proofs.Facts.{found-ahead}
use Rattle.qp_shared_ends.specs.Lanes.{lanes_recs}
use Rattle.qp_shared_ends.specs.SeatEnd.{AtEnd}
use Rattle.qp_shared_ends.proofs.Histories.{pool-is, refs-is, line-is, queue-hist}
use Rattle.qp_shared_ends.proofs.Pasts.{pool-long, block-long}

pub length-up : (from n : ℕ) → length (count_up from n) ≡ n
length-up from zero = refl
length-up from (suc n) = let r = length-up (from + 1) n in omega arith

module _ (sys : System) (v : View) (end : AtEnd sys v) (js : List (List Rec)) (thin : Thins (λ i. on_table (touch i)) js (lanes_recs v.logs)) (law : Words sys js) where
  abbrev h : Holds sys end.words end.views
  h = end.holds

  abbrev items : List Item
  items = all_items js

  abbrev at : Word → ℕ
  at w = get_or end.words (place_of w) 0

  -- behind what the word is, or that
  abbrev Behind : ℕ → ℕ → Type 0
  Behind w x = (mark_in w x ≤ mark_in w (get_or end.words w 0)) × (mark_in w x ≡ mark_in w (get_or end.words w 0) → x ≡ get_or end.words w 0)

  first-behind : (w : Word) → IsTrue (is_here sys w) → Behind (place_of w) (first_value sys w)
  unfolding value_seen latest
  first-behind w here = let a = found-ahead sys end.words (end.views ++ empty_view ∷ []) (adds-nothing sys end.words end.views h) (length end.views) empty_view (get-last end.views empty_view) w here in (a.le, a.same)

  glance-behind : (g : Glance) → SawFrom end.words h.was g → Behind g.word g.value
  glance-behind g s = (s.1, λ e. s.2 ∙ (ap (h.was g.word) e ∙ sym (h.seen.now g.word s.0)))

  latest-behind : (w x : ℕ) (seen : List Glance) → Behind w x → Each (SawFrom end.words h.was) seen → Behind w (latest w x seen)
  unfolding latest
  latest-behind w x [] b e = b
  latest-behind w x (g ∷ seen) b e = latest-behind w (cond (eqb g.word w) (later w x g.value) x) seen (go (eqb g.word w) refl) e.1
    where
      which : (t : Bool) → Behind w g.value → Behind w (cond {A = ℕ} t g.value x)
      which true c = c
      which false c = b

      go : (t : Bool) → eqb g.word w ≡ t → Behind w (cond {A = ℕ} t (later w x g.value) x)
      go true is = which (ltb (mark_in w x) (mark_in w g.value)) (subst (λ z. Behind z g.value) (eqb-true g.word w is) (glance-behind g e.0))
      go false is = b

  module _ (seen : List Glance) (saw : Each (SawFrom end.words h.was) seen) where
    value-behind : (w : Word) → IsTrue (is_here sys w) → Behind (place_of w) (value_seen sys w seen)
    unfolding value_seen
    value-behind w here = latest-behind (place_of w) (first_value sys w) seen (first-behind w here) saw

    numbers : (w : Word) → is_event_table_word w ≡ true → IsTrue (is_here sys w) → is_numbered w items ≡ true
    numbers (word.Pool p) on here = (law.pools p here).numbers
    numbers (word.Block p b) on here = (law.blocks p b here).numbers
    numbers (word.Queue a) on here = (law.queues a here).numbers
    numbers (word.Signal s) on here = absurd (cc)
    numbers (word.Timer t) on here = absurd (cc)

    queue-long : (a : ℕ) → IsTrue (is_object sys a) → mark_in (queue_at a) (get_or end.words (queue_at a) 0) ≡ length (hist (word.Queue a) items)
    queue-long a object = queue-mark sys end.words end.views h a object ∙ ap length (sym (queue-hist sys end.words end.views h end.id v end.is end.all js thin a object))

    -- a word shows as many operations as its history has
    long : (w : Word) → is_event_table_word w ≡ true → IsTrue (is_here sys w) → mark_in (place_of w) (at w) ≡ total w items
    long (word.Pool p) on here = pool-long sys v end js thin p here ∙ length-hist (word.Pool p) items (numbers (word.Pool p) on here)
    long (word.Block p b) on here = block-long sys v end js thin p b here ∙ length-hist (word.Block p b) items (numbers (word.Block p b) on here)
    long (word.Queue a) on here = queue-long a here ∙ length-hist (word.Queue a) items (numbers (word.Queue a) on here)
    long (word.Signal s) on here = absurd (cc)
    long (word.Timer t) on here = absurd (cc)

    pub mark-known : (w : Word) → is_event_table_word w ≡ true → mark_seen sys seen w ≤ total w items
    unfolding mark_seen
    mark-known w on = go (is_here sys w) refl
      where
        go : (t : Bool) → is_here sys w ≡ t → cond t (mark_in (place_of w) (value_seen sys w seen)) 0 ≤ total w items
        go true here = let b = (value-behind w here).0 in let l = long w on here in omega arith
        go false here = omega arith

    -- what the words show at the end
    shows-now : (w : Word) → is_event_table_word w ≡ true → IsTrue (is_here sys w) → as_shown w (at w) ≡ shown_in sys js w
    unfolding shown_in
    shows-now (word.Pool p) on here =
        let few = (h.fitting.small p here).1 in let up = pool-ascends sys h.lanes h.now h.leaves h.logs.count h.logs.room p here in
        let small = map-small (blocks_of sys p) (h.now.pool p).free few up in let value = h.shows.pools p here in
        let bits : get_or end.words (pool_at p) 0 % 4294967296 ≡ bits_value (h.now.pool p).free = omega arith in
        ap FreeBlocks (ap count_ones bits ∙ (ones-length 0 (blocks_of sys p) (h.now.pool p).free up ∙ ap (λ (s : Pool). length s.free) (sym (pool-is sys end.words end.views h end.id v end.is end.all js thin p here))))
    shows-now (word.Block p b) on here =
        let c = refs-count sys h.lanes h.now h.leaves h.logs.count h.logs.room p b here in let c0 = c.0 in let c1 = c.1 in let value = h.shows.blocks p b here in
        let left : get_or end.words (block_at p b) 0 % 4294967296 ≡ length (h.now.refs p b).names = omega arith in
        ap References (left ∙ ap (λ (s : Refs). length s.names) (sym (refs-is sys end.words end.views h end.id v end.is end.all js thin p b here)))
    shows-now (word.Queue a) on here =
        let l = line-shows sys end.words end.views h a here in let e = sym (line-is sys end.words end.views h end.id v end.is end.all js thin a here) in
        (λ i. Counts (l.0 i) (l.1 i) (l.2 i)) ∙ ap (λ (s : Line). Counts s.f s.l s.m) e
    shows-now (word.Signal s) on here = absurd (cc)
    shows-now (word.Timer t) on here = absurd (cc)

    no-hist : (w : Word) → total w items ≡ 0 → hist w items ≡ []
    unfolding hist numbered
    no-hist w none = ap (numbered w items) none

    -- a word that the system hasn't and that had no operation
    shows-first : (w : Word) → is_event_table_word w ≡ true → total w items ≡ 0 → first_shown sys w ≡ shown_in sys js w
    unfolding shown_in pool_in refs_in line_in after after_from
    shows-first (word.Pool p) on none = ap FreeBlocks (sym (rw (no-hist (word.Pool p) none) (length-up 0 (blocks_of sys p))))
    shows-first (word.Block p b) on none = ap References (sym (rw (no-hist (word.Block p b) none) refl))
    shows-first (word.Queue a) on none = sym (rw (no-hist (word.Queue a) none) refl)
    shows-first (word.Signal s) on none = absurd (cc)
    shows-first (word.Timer t) on none = absurd (cc)

    pub mark-says : (w : Word) → is_event_table_word w ≡ true → mark_seen sys seen w ≡ total w items → shown_seen sys seen w ≡ shown_in sys js w
    unfolding mark_seen shown_seen
    mark-says w on = go (is_here sys w) refl
      where
        go : (t : Bool) → is_here sys w ≡ t → cond t (mark_in (place_of w) (value_seen sys w seen)) 0 ≡ total w items → cond {A = Shown} t (as_shown w (value_seen sys w seen)) (first_shown sys w) ≡ shown_in sys js w
        go true here e = ap (as_shown w) ((value-behind w here).1 (e ∙ sym (long w on here))) ∙ shows-now w on here
        go false here e = shows-first w on (sym e)
