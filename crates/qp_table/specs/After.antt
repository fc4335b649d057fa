-- The views after each kind of step.
use Rattle.std.specs.Prelude.{◌≡◌, ℕ, suc, ◌+◌, ◌/◌, ◌%◌, ◌<◌, eqb, List, [], ◌∷◌, ◌++◌, Bool, true, false, cond, IsTrue, length, slice_index, slice_set}
use mathlib.Core.Option.{some}
use lib.ListN.{get_elem?}
use Rattle.qp_model.specs.declared.record.Rec.{Rec}
use Rattle.qp_model.specs.declared.bodies.Entry.{Entry}
use Rattle.qp_model.specs.declared.systems.System.{System}
use Rattle.qp_model.specs.Parts.{is_static}
use Rattle.qp_table.specs.Counting.{sum_over, many, without}
use Rattle.qp_table.specs.Rule.{queue_at, Holds, is_spot, is_ref, is_entry, is_place, fills_with, gives_of}
use Rattle.qp_table.specs.declared.view.SeatLog.{SeatLog}
use Rattle.qp_table.specs.declared.view.Fill.{Fill}
use Rattle.qp_table.specs.declared.view.PendingGive.{PendingGive}
use Rattle.qp_table.specs.declared.view.Spot.{Spot}
use Rattle.qp_table.specs.declared.view.CellPlace.{CellPlace}
use Rattle.qp_table.specs.declared.view.Serve.{Serve}
use Rattle.qp_table.specs.declared.view.View.{View}
use Rattle.qp_table.specs.declared.view.Glance.{Glance}

-- a record of this kind for object o
abbrev pub rec_of : ℕ → ℕ → List ℕ → Rec
rec_of kind o nums = record { kind = kind; of = o; nums = record { items = nums } }

-- a record more in the lane's own list
abbrev pub logged : Rec → List SeatLog → List SeatLog
logged r [] = []
logged r (g ∷ gs) = record g { recs = g.recs ++ r ∷ [] } ∷ gs

-- a word was seen
abbrev pub glanced : View → ℕ → ℕ → View
glanced v w n = record v { seen = v.seen ++ record { word = w; value = n } ∷ [] }

-- a record, and what the word then showed
abbrev pub noted : View → ℕ → ℕ → Rec → View
noted v w n r = record (glanced v w n) { logs = logged r v.logs }

abbrev pub spot : ℕ → ℕ → ℕ → Spot
spot p b n = record { pool = p; block = b; at = n }

abbrev pub ref : ℕ → ℕ → ℕ → Entry
ref p b k = record { pool = p; block = b; name = k }

-- the first reference k to a fresh block: its give is done
abbrev pub began : View → ℕ → ℕ → Rec → ℕ → ℕ → ℕ → View
began v w n r p b k = record (noted v w n r) { fresh = without (is_spot p b) v.fresh; gives = without (gives_of p b) v.gives; hands = v.hands ++ ref p b k ∷ [] }

-- another reference k
abbrev pub doubled : View → ℕ → ℕ → Rec → ℕ → ℕ → ℕ → View
doubled v w n r p b k = record (noted v w n r) { hands = v.hands ++ ref p b k ∷ [] }

-- the reference k is gone; where the word n counts no other, the block is used, after so many operations
abbrev pub reference_dropped : View → ℕ → ℕ → Rec → ℕ → ℕ → ℕ → View
reference_dropped v w n r p b k = record (noted v w n r) { hands = without (is_ref p b k) v.hands; used = cond (eqb (n % 4294967296) 0) (v.used ++ spot p b (n / 4294967296) ∷ []) v.used }

-- the event words to be written, from place j on
abbrev pub fills_for : ℕ → ℕ → ℕ → List ℕ → List Fill
fills_for p b j [] = []
fills_for p b j (n ∷ ns) = record { pool = p; block = b; place = j; value = n } ∷ fills_for p b (suc j) ns

-- a give that is begun, and one of which the beginning of the life was read
abbrev pub begun_give : ℕ → ℕ → List ℕ → PendingGive
begun_give p b event = record { pool = p; block = b; event = event; read = false }

abbrev pub give_read : Bool → PendingGive → PendingGive
give_read t g = record g { read = cond t true g.read }

abbrev pub reading : ℕ → ℕ → List PendingGive → List PendingGive
reading p b [] = []
reading p b (g ∷ gs) = give_read (gives_of p b g) g ∷ reading p b gs

-- block b is given out for an event, after so many operations of its own
abbrev pub gave : View → ℕ → ℕ → Rec → ℕ → ℕ → ℕ → List ℕ → View
gave v w n r p b from event = record (noted v w n r) { fresh = v.fresh ++ spot p b from ∷ []; gives = v.gives ++ begun_give p b event ∷ []; fills = v.fills ++ fills_for p b 0 event }

abbrev pub filled : View → ℕ → ℕ → ℕ → ℕ → View
filled v p b j n = record v { fills = without (fills_with p b j n) v.fills }

abbrev pub put_back : View → ℕ → ℕ → Rec → ℕ → ℕ → View
put_back v w n r p b = record (noted v w n r) { used = without (is_spot p b) v.used }

-- the block's word was seen: where its give is under way, the beginning of its life is read
abbrev pub read_from : View → ℕ → ℕ → ℕ → ℕ → View
read_from v w n p b = record (glanced v w n) { gives = reading p b v.gives }

-- the event of an entry was read
abbrev pub learned : View → Entry → List ℕ → View
learned v e event = record v { contents = v.contents ++ record { entry = e; event = event } ∷ [] }

-- Whatever the words and views are when the word w becomes f of what it was, the seat has a new view that keeps the rule, and `tells` holds of the number found and of the new view
abbrev pub WordSteps : System → ℕ → View → ℕ → (ℕ → ℕ) → (ℕ → View → Type 0) → Type 0
WordSteps sys id v w f tells = (words : List ℕ) (views : List View) → Holds sys words views → get_elem? views id ≡ some v → slice_index words w < 18446744073709551616
    → (u : View) × Holds sys (slice_set words w (f (slice_index words w))) (slice_set views id u) × tells (slice_index words w) u

-- whatever state meets the rule, and whichever of its views it is
abbrev pub FromAnyState : ((sys : System) (words : List ℕ) (views : List View) → Holds sys words views → ℕ → View → Type 0) → Type 0
FromAnyState P = (sys : System) (words : List ℕ) (views : List View) (holds : Holds sys words views) (id : ℕ) (v : View) → get_elem? views id ≡ some v → P sys words views holds id v

-- the rule stands after the word w became n and the view became u
abbrev pub HoldsWith : System → List ℕ → ℕ → ℕ → List View → ℕ → View → Type 0
HoldsWith sys words w n views id u = Holds sys (slice_set words w n) (slice_set views id u)

-- the lane has its own log, with room for a record
pub record HasRoom (v : View) : Type 0 where
  pub own : SeatLog
  pub others : List SeatLog
  pub is : v.logs ≡ own ∷ others
  pub room : sum_over (λ (g : SeatLog). length g.recs) v.logs < 1000001

-- The entry is static, or its reference is in hand
pub record InHand (sys : System) (e : Entry) (v : View) : Type 0 where
  pub static : e.pool ≡ 0 → IsTrue (is_static sys e.block) × (e.block < 65536) × (e.name ≡ 0)
  pub pooled : 0 < e.pool → 0 < many (is_entry e) v.hands

-- the hands without an entry, and with one: a static one has no reference
abbrev pub hands_without : Entry → List Entry → List Entry
hands_without e hands = cond (eqb e.pool 0) hands (without (is_entry e) hands)

abbrev pub gained : Entry → List Entry → List Entry
gained e hands = cond (eqb e.pool 0) hands (hands ++ e ∷ [])

-- the place of an entry that was claimed as operation k of queue a
abbrev pub place : ℕ → ℕ → Entry → ℕ → CellPlace
place a j e k = record { queue = a; cell = j; entry = e; number = k }

-- the queue's own counts, with so many last-in posts and takes more
abbrev pub bump : ℕ → ℕ → ℕ → List Serve → List Serve
bump a l m [] = []
bump a l m (x ∷ xs) = cond (eqb x.object a) (record x { lifos = x.lifos + l; takes = x.takes + m }) x ∷ bump a l m xs

abbrev pub claimed : View → ℕ → ℕ → Rec → ℕ → Entry → ℕ → View
claimed v a n r j e k = record (noted v (queue_at a) n r) { hands = hands_without e v.hands; claims = v.claims ++ place a j e k ∷ [] }

abbrev pub put_first : View → ℕ → ℕ → Rec → ℕ → Entry → ℕ → View
put_first v a n r j e k = record (noted v (queue_at a) n r) { hands = hands_without e v.hands; claims = v.claims ++ place a j e k ∷ []; serves = bump a 1 0 v.serves }

abbrev pub laid : View → ℕ → ℕ → Entry → View
laid v a j e = record v { claims = without (is_place a j e) v.claims }

abbrev pub emptied : View → ℕ → ℕ → Entry → View
emptied v a j e = record v { takes = v.takes ++ place a j e 0 ∷ [] }

abbrev pub view_took : View → ℕ → ℕ → Rec → ℕ → Entry → View
view_took v a n r j e = record (noted v (queue_at a) n r) { takes = without (is_place a j e) v.takes; hands = gained e v.hands; serves = bump a 0 1 v.serves }

-- those that pass the test
abbrev pub passing : (Serve → Bool) → List Serve → List Serve
passing t [] = []
passing t (x ∷ xs) = cond (t x) (x ∷ passing t xs) (passing t xs)

abbrev pub failing : (Serve → Bool) → List Serve → List Serve
failing t [] = []
failing t (x ∷ xs) = cond (t x) (failing t xs) (x ∷ failing t xs)

abbrev pub empty_view : View
empty_view = record { logs = []; lane_numbers = []; fresh = []; used = []; hands = []; gives = []; fills = []; claims = []; takes = []; serves = []; contents = []; seen = [] }

-- a seat that has seen what another has, and nothing else
abbrev pub onlooker : View → View
onlooker v = record empty_view { seen = v.seen }

-- lane number n is handed out, with an empty log
abbrev pub granting : ℕ → View → View
granting n v = record v { lane_numbers = without (λ k. eqb k n) v.lane_numbers }

abbrev pub granted : ℕ → View → View
granted n v = record v { logs = v.logs ++ record { number = n; recs = [] } ∷ [] }

-- the objects that pass the test are handed over
abbrev pub handing : (Serve → Bool) → View → View
handing t v = record v { serves = failing t v.serves }

abbrev pub handed : (Serve → Bool) → View → View → View
handed t v w = record w { serves = w.serves ++ passing t v.serves }

-- one view takes over another
abbrev pub views_joined : View → View → View
views_joined v w = record {
  logs = v.logs ++ w.logs;
  lane_numbers = v.lane_numbers ++ w.lane_numbers;
  fresh = v.fresh ++ w.fresh;
  used = v.used ++ w.used;
  hands = v.hands ++ w.hands;
  gives = v.gives ++ w.gives;
  fills = v.fills ++ w.fills;
  claims = v.claims ++ w.claims;
  takes = v.takes ++ w.takes;
  serves = v.serves ++ w.serves;
  contents = v.contents ++ w.contents;
  seen = v.seen ++ w.seen;
}

-- the view that the table begins with: it has lane 0, serves these objects and has all other lanes to hand out
abbrev pub newcomer : List ℕ → List Serve → View
newcomer numbers xs = record empty_view { logs = record { number = 0; recs = [] } ∷ []; lane_numbers = numbers; serves = xs }

-- the record of a last-in post that finds the queue full
abbrev pub full_rec : ℕ → ℕ → Rec
full_rec a x = rec_of 42 a (5 ∷ a ∷ (x % 2097152) ∷ (x / 2097152 % 2097152) ∷ (x / 4398046511104) ∷ [])

-- more was seen
abbrev pub SeesMore : List Glance → List Glance → Type 0
SeesMore old new = (more : List Glance) × (new ≡ old ++ more)
