-- The event of an entry whose content was read is that of the life in which its reference was made.
use Rattle.std.proofs.Common.{◌≡◌, ◌<◌, Bool, true, false, ◌&&◌, ◌||◌, cond, List, [], ◌∷◌, length, refl, sym, ◌∙◌, ap, subst, Some, None, arith, eqb, eqb-true, eq-eqb, IsTrue, if◌then◌else◌}
use Rattle.std.specs.List.{list_any}
use Rattle.std.proofs.lemmas.Bool.{and_parts}
use mathlib.Core.Logic.{dite}
use native.Mathlib.Decide.{ℕ_discrete}
use Rattle.qp_model.specs.declared.record.Rec.{Rec}
use Rattle.qp_model.specs.declared.systems.System.{System}
use Rattle.qp_model.specs.declared.bodies.Entry.{Entry}
use Rattle.qp_model.specs.declared.words.Word.TheVariants as word
use Rattle.qp_model.specs.Told.{Event}
use Rattle.qp_model.specs.History.{touch, hist, all_items}
use Rattle.qp_model.specs.Knowing.{last_given, life_event, event_of_entry}
use Rattle.qp_model.specs.References.{Refs, references}
use Rattle.qp_model.specs.WordLaw.{is_block}
use Rattle.qp_model.proofs.MachineLemmas.{count-after}
use Rattle.qp_model.proofs.WordLawLemmas.{references-counts}
use Rattle.qp_plain_sound.specs.Sound.{facts_in}
use Rattle.qp_table.specs.Counting.{Each}
use Rattle.qp_table.specs.TwoTables.{on_table, Thins}
use Rattle.qp_table.specs.Rule.{is_entry, event_of_content, IsKnown, Holds}
use Rattle.qp_table.specs.declared.view.Content.{Content}
use Rattle.qp_table.specs.declared.view.View.{View}
use Rattle.qp_table.proofs.Steps.{pool-of}
use Rattle.qp_table.specs.Lane.{event_read, event_seen, has_content}
use Rattle.qp_shared_ends.specs.Lanes.{lanes_recs}
use Rattle.qp_shared_ends.specs.SeatEnd.{AtEnd}
use Rattle.qp_shared_ends.proofs.Histories.{pool-hist, block-hist}
use Rattle.qp_shared_ends.proofs.Contents.{lt-true}

module _ (sys : System) (v : View) (end : AtEnd sys v) (js : List (List Rec)) (thin : Thins (λ i. on_table (touch i)) js (lanes_recs v.logs)) where
  abbrev h : Holds sys end.words end.views
  h = end.holds

  -- the event of a life
  life-is : (e : Entry) (q : Content) → 0 < e.pool → q.entry ≡ e → IsKnown sys h.lanes h.now q → life_event (facts_in sys js) e.pool e.block e.name ≡ Some (event_of_content q.event)
  unfolding life_event
  life-is e q pos is known =
      let k = subst (λ (x : Entry). (0 < x.pool → IsTrue (is_block sys x.pool x.block)) × (0 < x.pool → x.name < (h.now.refs x.pool x.block).count)
      × (0 < x.pool → last_given x.block x.name None (hist (word.Pool x.pool) (all_items h.lanes)) ≡ Some (event_of_content q.event))) is (known.block, known.made, known.given) in
      let block = k.0 pos in let made = k.1 pos in
      let count : (h.now.refs e.pool e.block).count ≡ length (hist (word.Block e.pool e.block) (all_items js)) =
      ap (λ (s : Refs). s.count) (sym (h.leaves.refs e.pool e.block block)) ∙ (count-after references references-counts (hist (word.Block e.pool e.block) (all_items h.lanes)) (h.leaves.law.blocks e.pool e.block block).allowed
      ∙ ap length (sym (block-hist sys end.words end.views h end.id v end.is end.all js thin e.pool e.block block))) in
      subst (λ (t : Bool). (if t then last_given e.block e.name None (hist (word.Pool e.pool) (all_items js)) else None) ≡ Some (event_of_content q.event)) (sym (lt-true e.name (length (hist (word.Block e.pool e.block) (all_items js))) (omega arith)))
      (ap (last_given e.block e.name None) (pool-hist sys end.words end.views h end.id v end.is end.all js thin e.pool (pool-of sys e.pool e.block block).0) ∙ k.2 pos)

  entry-is : (e : Entry) (q : Content) → is_entry e q.entry ≡ true → q.entry ≡ e
  entry-is e q t = let a = and_parts (eqb q.entry.pool e.pool && eqb q.entry.block e.block) (eqb q.entry.name e.name) t in let b = and_parts (eqb q.entry.pool e.pool) (eqb q.entry.block e.block) a.0 in
      λ i. record { pool = eqb-true q.entry.pool e.pool b.0 i; block = eqb-true q.entry.block e.block b.1 i; name = eqb-true q.entry.name e.name a.1 i }

  contents-is : (e : Entry) (qs : List Content) → 0 < e.pool → Each (IsKnown sys h.lanes h.now) qs → list_any (λ (q : Content). is_entry e q.entry) qs ≡ true → life_event (facts_in sys js) e.pool e.block e.name ≡ Some (event_read qs e)
  contents-is e [] pos known there = absurd (cc)
  contents-is e (q ∷ qs) pos known there = go (is_entry e q.entry) refl there (λ k. contents-is e qs pos known.1 k)
    where
      go : (t : Bool) → is_entry e q.entry ≡ t → (t || list_any (λ (q : Content). is_entry e q.entry) qs) ≡ true → (list_any (λ (q : Content). is_entry e q.entry) qs ≡ true → life_event (facts_in sys js) e.pool e.block e.name ≡ Some (event_read qs e))
          → life_event (facts_in sys js) e.pool e.block e.name ≡ Some (cond {A = Event} t (event_of_content q.event) (event_read qs e))
      go true is k r = life-is e q pos (entry-is e q is) known.0
      go false is k r = r k

  pub event-read : (qs : List Content) → Each (IsKnown sys h.lanes h.now) qs → (e : Entry) → has_content qs e ≡ true → event_of_entry (facts_in sys js) e ≡ Some (event_seen qs e)
  unfolding event_of_entry event_seen
  event-read qs known e there = go (eqb e.pool 0) refl there
    where
      go : (t : Bool) → eqb e.pool 0 ≡ t → (t || list_any (λ (q : Content). is_entry e q.entry) qs) ≡ true
          → (if t then Some (record { sig = e.block; pars = [] }) else life_event (facts_in sys js) e.pool e.block e.name) ≡ Some (cond {A = Event} t (record { sig = e.block; pars = [] }) (event_read qs e))
      go true is k = refl
      go false is k = contents-is e qs (dite (ℕ_discrete e.pool 0) (λ z. let y = sym is ∙ eq-eqb e.pool 0 z in absurd (cc)) (λ ne. omega arith)) known k
