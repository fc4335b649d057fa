-- What the world and the kernel of a run leave when it has ended.
use Rattle.std.specs.Prelude.{◌≡◌, ℕ, ◌+◌, ◌<◌, ◌≤◌, true, false, List, [], length, Some, None, IsTrue}
use Rattle.std.specs.List.{list_all, count_by}
use Rattle.qp_model.specs.declared.record.Rec.{Rec}
use Rattle.qp_model.specs.declared.stimulus.Stim.{Stim}
use Rattle.qp_model.specs.declared.systems.System.{System}
use Rattle.qp_model.specs.declared.systems.ObjectDef.{ObjectDef}
use Rattle.qp_model.specs.declared.words.Word.{Word}
use Rattle.qp_model.specs.declared.words.Word.TheVariants as word
use Rattle.qp_model.specs.Acts.{Config}
use Rattle.qp_model.specs.Ends.{may_cut}
use Rattle.qp_model.specs.End.{has_room}
use Rattle.qp_model.specs.History.{lane_items}
use Rattle.qp_model.specs.KernelLane.{Over}
use Rattle.qp_model.specs.Knowing.{told_lane}
use Rattle.qp_model.specs.OneOrder.{acts_next, enters, leaves}
use Rattle.qp_model.specs.WordLaw.{is_object}
use Rattle.qp_model.specs.Sites.{object_at}
use Rattle.qp_calls.specs.Counting.{count_of}
use Rattle.qp_calls.specs.Deferring.{tokens_in}
use Rattle.qp_calls.specs.LaneView.{LaneView, Counts}
use Rattle.qp_calls.specs.Tokens.{Token}
use Rattle.qp_model_order.specs.RunOrder.{has_stim}
use Rattle.qp_plain_sound.specs.Log.{lane_recs, log_of}
use Rattle.qp_plain_sound.specs.Sound.{SoundWorld, facts_in, hands_in}
use Rattle.qp_plain_sound.specs.View.{shown_in}
use Rattle.qp_plain_sound.specs.WordStates.{line_in}
use Rattle.qp_kernel.specs.Stages as stage
use Rattle.qp_kernel.specs.ZeroEnds.{ZeroEnds}
use Rattle.qp_kernel.specs.Turning.{KernelState, Stands, Terms, kernel_in}
use Rattle.qp_kernel.specs.Laws.{kept_by}
use Rattle.qp_kernel.specs.Happenings.{IsInOrder, IsOrderEnded, lanes_of, lane_told, lane_order}

-- These lanes were left by a world whose kernel lane was seen so: it tells of lane 0, of the lanes of the sources, and of the order of all
-- records.
pub record IsLeft (sys : System) (stimuli : List (List Stim)) (lanes : List (List Rec)) (v : LaneView) : Type 0 where
  pub of : v.sys ≡ sys
  pub plan : v.plan ≡ stimuli
  pub order : List ℕ
  pub world : SoundWorld sys lanes order
  pub count : length lanes ≡ 1 + length stimuli
  pub zero : told_lane (facts_in sys lanes) 0 (lane_items (lane_recs lanes 0)) ≡ v.told
  pub sources : (n : ℕ) → 0 < n → n < length lanes → told_lane (facts_in sys lanes) 0 (lane_items (lane_recs lanes n)) ≡ lane_told n v.happened
  pub log : log_of lanes order ≡ lane_order v
  pub shown : (w : Word) → v.shown w ≡ shown_in sys lanes w
  pub hands : v.hands ≡ hands_in sys lanes order
  -- as many posts and takes as the queues tell stand in the order
  pub entered : (a : ℕ) → IsTrue (is_object sys a) → count_by (λ x. enters a x.item) (lane_order v) ≡ (line_in sys lanes a).f + (line_in sys lanes a).l
  pub left : (a : ℕ) → IsTrue (is_object sys a) → count_by (λ x. leaves a x.item) (lane_order v) ≡ (line_in sys lanes a).m
  pub room : list_all (λ lane. has_room (lane_items lane)) lanes ≡ true

-- The kernel came to the end of its row at the base: nothing is left to be done.
pub record IsIdle (sys : System) (terms : Terms) (v : LaneView) : Type 0 where
  pub single : terms.threaded ≡ false
  pub state : KernelState
  pub told : state.told ≡ v.told
  pub stands : Stands sys terms state
  pub looks : ℕ
  pub settled : state.upto ≡ looks
  pub now : (n : ℕ) → n ≤ looks → has_stim (lanes_of v) n ≡ state.now n
  pub in_order : IsInOrder sys looks v
  pub owed : state.owed ≡ 0
  pub started : state.reading.unstarted ≡ []
  pub base : state.reading.running ≡ []
  pub over : state.reading.place ≡ Over
  -- each object rests, and the hands are the entries that they keep
  pub keeps : ℕ → Config
  pub rest : (d : ObjectDef) → object_at sys d.priority ≡ Some d → state.stages d.priority ≡ stage.Resting (keeps d.priority)
  pub hands : (t : Token) → count_of t v.hands ≡ count_of t (tokens_in (kept_by keeps sys.objects))
  -- no source may act, and every queue is empty
  pub next : acts_next sys v.plan (lane_order v) true ≡ None
  pub empties : (d : ObjectDef) → object_at sys d.priority ≡ Some d → (f l m : ℕ) × (v.shown (word.Queue d.priority) ≡ Counts f l m) × (f + l ≡ m)

-- The run stopped early, however it stated its end.
pub record HasStoppedEarly (sys : System) (terms : Terms) (v : LaneView) : Type 0 where
  pub single : terms.threaded ≡ false
  pub zero : (end : ℕ) → may_cut end ≡ true → ZeroEnds sys (kernel_in terms) terms.budget end 1 v.told (has_stim (lanes_of v))
  pub in_order : (end : ℕ) → may_cut end ≡ true → IsOrderEnded sys end v
