-- Journals whose records name words of their system, and in which the event of an entry is known when it is taken.
use Rattle.std.specs.Prelude.{◌≡◌, ℕ, ◌==◌, nat_le, Bool, true, false, not, List, ◌∷◌, ◌++◌, map, length, IsTrue}
use Rattle.std.specs.List.{filter, list_all}
use Rattle.qp_model.specs.declared.stimulus.Stim.{Stim}
use Rattle.qp_model.specs.declared.systems.System.{System}
use Rattle.qp_model.specs.declared.journals.Journal.{Journal}
use Rattle.qp_model.specs.declared.bodies.Entry.{Entry}
use Rattle.qp_model.specs.declared.bodies.Body.TheVariants.{Took}
use Rattle.qp_model.specs.History.{all_items, lane_items}
use Rattle.qp_model.specs.Home.{lane_at}
use Rattle.qp_model.specs.Knowing.{event_of_entry}
use Rattle.qp_model.specs.OneOrder.{Placed, acts_next, is_turn, turns_at, with_stimuli}
use Rattle.qp_model.specs.Ends.{is_spill, spills_in}
use Rattle.qp_model.specs.Record.{Item}
use Rattle.qp_model_order.specs.Placing.{look_item}
use Rattle.qp_model_order.specs.RunOrder.{placed}
use Rattle.qp_model.specs.Lawful.{facts_of, source_lanes}
use Rattle.qp_unique.specs.Fronts.{names_its}

-- a lane without its `spill`
abbrev pub unspilt : List Item → List Item
unspilt lane = filter (λ i. not (is_spill i.body)) lane

-- the records of a run with one thread in their order, but for its `spill`
unfoldable pub unspilt_order : System → Journal → List Placed
unfolding with_stimuli source_lanes lane_items
unspilt_order sys j = with_stimuli true (map (λ lane. unspilt lane) (source_lanes sys j)) (unspilt (lane_items (lane_at j 0)))

-- behind more records than these in its lane a `spill` may stand
unfoldable pub spill_free : ℕ
spill_free = 999992

-- No lane has more records than these.
abbrev pub has_short_lanes : Journal → Bool
has_short_lanes j = list_all (λ lane. nat_le (length lane) spill_free) j.lanes

-- Lane 0 ended with a `spill`, and its last look lacks the stimulus that acts in it.
pub record LacksStimulus (sys : System) (stimuli : List (List Stim)) (j : Journal) : Type 0 where
  pub spilt : spills_in (lane_items (lane_at j 0)) ≡ true
  pub before : List Placed
  pub number : ℕ
  pub floor : ℕ
  pub behind : List Placed
  pub look : unspilt_order sys j ≡ before ++ placed 0 (look_item number floor) ∷ behind
  pub lacks : is_turn (acts_next sys stimuli before (floor == 0)) (turns_at 1 number (source_lanes sys j)) ≡ false

pub record IsTidy (sys : System) (j : Journal) : Type 0 where
  pub named : IsTrue (list_all (λ i. names_its sys i.of i.body) (all_items j.lanes))
  -- what the records before an entry is taken tell of its event stays
  pub events : (xs : List Placed) (x : Placed) (ys : List Placed) (f l m : ℕ) (e : Entry) → unspilt_order sys j ≡ xs ++ x ∷ ys → x.item.body ≡ Took f l m e
      → event_of_entry (facts_of sys j) e ≡ event_of_entry (record { sys = sys; items = map (λ z. z.item) xs }) e
