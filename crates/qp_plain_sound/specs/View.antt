-- What contracts see of a lane of a world, by the records of all lanes.
use Rattle.std.specs.Prelude.{ℕ, true, List, [], length, map, slice_set}
use Rattle.std.specs.Option.{unwrap_or}
use Rattle.qp_model.specs.declared.record.Rec.{Rec}
use Rattle.qp_model.specs.declared.words.Word.{Word}
use Rattle.qp_model.specs.declared.words.Word.TheVariants as word
use Rattle.qp_model.specs.declared.systems.System.{System}
use Rattle.qp_model.specs.declared.bodies.Entry.{Entry}
use Rattle.qp_model.specs.Told.{Event, ToldItem}
use Rattle.qp_model.specs.Line.{Line}
use Rattle.qp_model.specs.History.{all_items, lane_items, total}
use Rattle.qp_model.specs.Knowing.{event_of_entry, told_lane}
use Rattle.qp_calls.specs.LaneView.{LaneView, Purse, Own, Shown, FreeBlocks, References, Counts, NotShown, codes_in}
use Rattle.qp_plain_sound.specs.Log.{lane_recs, log_of}
use Rattle.qp_plain_sound.specs.WordStates.{pool_in, refs_in, line_in}
use Rattle.qp_plain_sound.specs.Sound.{facts_in, hands_in}

abbrev pub counts_of : Line → Shown
counts_of s = Counts s.f s.l s.m

-- what a word shows after all its operations
unfoldable pub shown_in : System → List (List Rec) → Word → Shown
unfolding pool_in refs_in line_in
shown_in sys lanes (word.Pool p) = FreeBlocks (length (pool_in sys lanes p).free)
shown_in sys lanes (word.Block p b) = References (length (refs_in lanes p b).names)
shown_in sys lanes (word.Queue a) = counts_of (line_in sys lanes a)
shown_in sys lanes _ = NotShown

-- the event of an entry; any other entry has none
unfoldable pub event_in : System → List (List Rec) → Entry → Event
unfolding event_of_entry all_items
event_in sys lanes e = unwrap_or (event_of_entry (facts_in sys lanes) e) (record { sig = 0; pars = [] })

-- the last-in posts and takes of a queue, among the world's records
abbrev pub own_of_line : Line → Own
own_of_line s = record { l = s.l; m = s.m }

-- what the lanes tell, but for lane `at`
abbrev pub told_aside : System → List (List Rec) → ℕ → List (List ToldItem)
told_aside sys lanes at = map (λ l. told_lane (facts_in sys lanes) 0 (lane_items l)) (slice_set lanes at [])

-- Lane `at` of the world: its marks are the numbers of operations so far, and the hands are the world's. `answered` has a 0 for each question that found no
-- code.
unfoldable pub view_of : System → List (List Rec) → List ℕ → (at spare by : ℕ) → (stops answered : List ℕ) → List Purse → LaneView
unfolding told_lane all_items lane_items total shown_in line_in event_in hands_in log_of
view_of sys lanes order at spare by stops answered purses = record {
  world = [];
  sys = sys;
  told = told_lane (facts_in sys lanes) 0 (lane_items (lane_recs lanes at));
  spare = spare;
  by = by;
  serves = λ o. true;
  stops = stops;
  answered = codes_in answered;
  asked = length answered;
  mark = λ w. total w (all_items lanes);
  shown = shown_in sys lanes;
  own = λ a. own_of_line (line_in sys lanes a);
  event = event_in sys lanes;
  hands = hands_in sys lanes order;
  plan = [];
  happened = [];
  lane = at;
  log = log_of lanes order;
  aside = record { told = told_aside sys lanes at; purses = purses };
}
