-- What ties a lane's records to what it knows of both tables.
use Rattle.std.specs.Prelude.{◌≡◌, ℕ, ◌+◌, ◌-◌, ◌/◌, ◌%◌, ◌<◌, ◌≤◌, eqb, nat_le, Bool, true, false, ◌&&◌, List, [], ◌∷◌, ◌++◌, cond, length, count_ones, IsTrue, IsFalse}
use Rattle.std.proofs.Props.{props}
use Rattle.std.specs.List.{filter, list_all, list_any}
use Rattle.qp_model.specs.declared.record.Rec.{Rec}
use Rattle.qp_model.specs.declared.systems.System.{System}
use Rattle.qp_model.specs.declared.words.Word.{Word}
use Rattle.qp_model.specs.declared.words.Word.TheVariants as word
use Rattle.qp_model.specs.declared.bodies.Entry.{Entry}
use Rattle.qp_model.specs.declared.bodies.Body.{Body}
use Rattle.qp_model.specs.declared.bodies.Body.TheVariants.{New, Dec, Lock, Sub, Unsub, Same}
use Rattle.qp_model.specs.Record.{Item}
use Rattle.qp_model.specs.Told.{Known, Free, Left, Former, Member, ToldItem}
use Rattle.qp_model.specs.History.{touch, lane_items, marks}
use Rattle.qp_model.specs.Knowing.{ceiling_after}
use Rattle.qp_model.specs.Parts.{is_static, params_of}
use Rattle.qp_model.specs.WordLaw.{is_pool, is_block, is_signal}
use Rattle.qp_table.specs.TwoTables.{on_side}
use Rattle.qp_table.specs.Counting.{many}
use Rattle.qp_table.specs.Rule.{Fitting, pool_at, block_at, mark_in, is_entry, is_spot, is_spot_at, is_serve}
use Rattle.qp_table.specs.declared.view.Glance.{Glance}
use Rattle.qp_table.specs.declared.view.SeatLog as table_log
use Rattle.qp_table.specs.declared.view.View.{View}
use Rattle.qp_calls.specs.LaneView.{codes_in, handled_in, ceiling_in}
use Rattle.qp_calls.specs.Tokens.{Token, token_of, hands_after}
use Rattle.qp_calls_log.specs.declared.Log.{Log}
use Rattle.qp_table.specs.Words.{mark_seen}
use Rattle.qp_table.specs.Lane.{own_recs, on_table_of, tell_lane, event_seen, has_content, is_read, tokens, tokens_of_view, lane_number}
use Rattle.qp_table.specs.Telling.{is_on_table}
use Rattle.qp_table.specs.Asked.{is_unfinished, is_begun}
use Rattle.qp_table.specs.Told.{HasPlace}
use Rattle.qp_side.specs.Rule.{SideFitting, signal_at, member_by}
use Rattle.qp_side.specs.Told.{last_seen}
use Rattle.qp_side.specs.declared.view.SideView.{SideView}

-- the records of a list that are on the side table
unfoldable pub on_side_of : List Rec → List Item
on_side_of recs = filter (λ i. on_side (touch i)) (lane_items recs)

-- the records of the first log
abbrev pub recs_of : List table_log.SeatLog → List Rec
recs_of [] = []
recs_of (g ∷ gs) = g.recs

-- the lane's records, as they are told
abbrev pub told_by : Log → List ℕ → View → List ToldItem
told_by g numbers v = tell_lane (event_seen v.contents) g.recs.items numbers

-- Entries.

-- an entry in hand is a reference to a block, small enough for a cell, and its event was read
abbrev pub IsRead : View → Type 0
IsRead v = (e : Entry) → 0 < many (is_entry e) v.hands → IsTrue (is_read v.contents e) × (0 < e.pool) × (e.name < 281474976710656)

-- the event of every reference that a record handles was read
abbrev pub AreRead : List ToldItem → View → Type 0
AreRead told v = (e : Entry) → IsTrue (handled_in (token_of e) told) → IsTrue (has_content v.contents e)

-- What is known beside records.

-- a word was seen to be such a value
abbrev pub was_seen : List Glance → ℕ → (ℕ → Bool) → Bool
was_seen seen w test = list_any (λ (g : Glance). eqb g.word w && test g.value) seen

-- Free blocks before a block was given out, and references left after one was dropped, are those of a word that the lane has seen; a signal is one of the system
abbrev pub is_borne_out : System → List Glance → Body → Known → Bool
is_borne_out sys seen (New p n b from sig pars) (Free k) = is_pool sys p && was_seen seen (pool_at p) (λ x. eqb (x / 4294967296) n && eqb (count_ones (x % 4294967296)) k)
is_borne_out sys seen (Dec p b d r) (Left k) = is_block sys p b && was_seen seen (block_at p b) (λ x. eqb (x / 4294967296) (d + 1) && eqb (x % 4294967296) k)
is_borne_out sys seen (Same sig n) k = is_signal sys sig
is_borne_out sys seen _ _ = true

abbrev pub borne_out : System → List Glance → ToldItem → Bool
borne_out sys seen t = is_borne_out sys seen t.told.body t.told.known

-- whether object o is a subscriber of signal s by these records, which is so at first where b says so
unfoldable pub member_over : ℕ → ℕ → Bool → List Item → Bool
member_over o s b [] = b
member_over o s b (i ∷ is) = member_over o s (member_by o s i b) is

-- a change of subscribers is of an object that the lane serves, and its number isn't below any that the lane has seen
abbrev pub ChangeIs : (ℕ → Bool) → List Item → ℕ → ℕ → ℕ → Type 0
ChangeIs serves before o s n = IsTrue (serves o) × IsTrue (list_all (λ m. nat_le m n) (marks (word.Signal s) before))

-- what is known of subscribers at a record behind these of its lane
abbrev pub SubscriberIs : (ℕ → Bool) → List Item → ℕ → Body → Known → Type 0
SubscriberIs serves before o (Sub s n) k = ChangeIs serves before o s n
SubscriberIs serves before o (Unsub s n) k = ChangeIs serves before o s n
SubscriberIs serves before o (Same s n) k = IsTrue (serves o) × (k ≡ Member (member_over o s false before))
SubscriberIs serves before o _ k = Unit {0}

unfoldable pub KnowSubscribers : (ℕ → Bool) → List Item → List ToldItem → Type 0
KnowSubscribers serves before [] = Unit {0}
KnowSubscribers serves before (t ∷ ts) = SubscriberIs serves before t.of t.told.body t.told.known × KnowSubscribers serves (before ++ record { of = t.of; body = t.told.body } ∷ []) ts

-- the ceiling beside a `lock` is that of the lane before it
abbrev pub FormerIs : ℕ → Body → Known → Type 0
FormerIs c (Lock x) k = k ≡ Former c
FormerIs c _ k = Unit {0}

unfoldable pub AreFormer : ℕ → List ToldItem → Type 0
AreFormer c [] = Unit {0}
AreFormer c (t ∷ ts) = FormerIs c t.told.body t.told.known × AreFormer (ceiling_after c t.told.body) ts

FormerIs-prop : (c : ℕ) (b : Body) (k : Known) → IsProp (FormerIs c b k)
FormerIs-prop c (Lock x) k = hlevel props
FormerIs-prop c _ k = hlevel props

AreFormer-prop : (c : ℕ) (ts : List ToldItem) → IsProp (AreFormer c ts)
unfolding AreFormer
AreFormer-prop c [] = hlevel props
AreFormer-prop c (t ∷ ts) = hlevel (FormerIs-prop c t.told.body t.told.known, AreFormer-prop (ceiling_after c t.told.body) ts)

SubscriberIs-prop : (serves : ℕ → Bool) (before : List Item) (o : ℕ) (b : Body) (k : Known) → IsProp (SubscriberIs serves before o b k)
SubscriberIs-prop serves before o (Sub s n) k = hlevel props
SubscriberIs-prop serves before o (Unsub s n) k = hlevel props
SubscriberIs-prop serves before o (Same s n) k = hlevel props
SubscriberIs-prop serves before o _ k = hlevel props

KnowSubscribers-prop : (serves : ℕ → Bool) (before : List Item) (ts : List ToldItem) → IsProp (KnowSubscribers serves before ts)
unfolding KnowSubscribers
KnowSubscribers-prop serves before [] = hlevel props
KnowSubscribers-prop serves before (t ∷ ts) = hlevel (SubscriberIs-prop serves before t.of t.told.body t.told.known, KnowSubscribers-prop serves (before ++ record { of = t.of; body = t.told.body } ∷ []) ts)

-- Between calls.

-- no fill, no claim and no take is under way, no give is unfinished, and each fresh block has a give the beginning of whose life was read
pub record IsStill (v : View) : Type 0 where
  pub fills : v.fills ≡ []
  pub claims : v.claims ≡ []
  pub takes : v.takes ≡ []
  pub done : IsFalse (list_any (is_unfinished v.fills) v.gives)
  pub begun : (p b : ℕ) → many (is_spot p b) v.fresh ≤ many (is_begun p b) v.gives

-- a fresh or used block has its words
abbrev pub IsPlaced : View → Type 0
IsPlaced v = (p b : ℕ) → 0 < many (is_spot p b) v.fresh + many (is_spot p b) v.used → HasPlace p b

-- a used block's life ended no later than the lane has seen of the block
abbrev pub IsWorn : System → View → Type 0
IsWorn sys v = (p b n : ℕ) → 0 < many (is_spot_at p b n) v.used → n ≤ mark_seen sys v.seen (word.Block p b)

-- no record has a greater mark than the lane has seen
abbrev pub IsBehind : System → List Rec → View → Type 0
IsBehind sys recs v = (w : Word) → IsTrue (is_on_table w) → IsTrue (list_all (λ m. nat_le m (mark_seen sys v.seen w)) (marks w (lane_items recs)))

abbrev pub IsSideBehind : System → List Rec → SideView → Type 0
IsSideBehind sys recs s = (k : ℕ) → IsTrue (is_signal sys k) → IsTrue (list_all (λ m. nat_le m (mark_in (signal_at k) (last_seen (signal_at k) s))) (marks (word.Signal k) (lane_items recs)))

-- The lane with this log, these numbers beside its records, this ceiling, and these views of both tables, of a world that became so many lanes.
pub record LaneHolds (sys : System) (count ceiling : ℕ) (g : Log) (numbers : List ℕ) (v : View) (s : SideView) : Type 0 where
  -- sizes that both tables have room for
  pub fitting : Fitting sys
  pub side_fitting : SideFitting sys
  -- a static event has no parameters
  pub bare : (sig : ℕ) → IsTrue (is_static sys sig) → params_of sys sig ≡ 0
  -- one log on each table, of one number
  pub lane : length v.logs ≡ 1
  pub side_lane : length s.view.logs ≡ 1
  pub number : lane_number s.view ≡ lane_number v
  -- the records, by the tables that they are on
  pub same : on_table_of g.recs.items ≡ own_recs v
  pub same_side : on_side_of g.recs.items ≡ own_recs s.view
  pub serves : (o : ℕ) → list_any (is_serve o) s.view.serves ≡ list_any (is_serve o) v.serves
  pub stops : g.stops.list ≡ s.stops
  pub answered : codes_in g.answered.list ≡ s.answered
  pub beside : length numbers ≡ length g.recs.items
  pub hands : (t : Token) → tokens t (hands_after [] (told_by g numbers v)) ≡ tokens_of_view v t
  pub read : IsRead v
  pub handled : AreRead (told_by g numbers v) v
  pub still : IsStill v
  pub placed : IsPlaced v
  pub worn : IsWorn sys v
  pub behind : IsBehind sys g.recs.items v
  pub side_behind : IsSideBehind sys g.recs.items s
  pub borne : IsTrue (list_all (borne_out sys v.seen) (told_by g numbers v))
  pub subscribers : KnowSubscribers (λ o. list_any (is_serve o) v.serves) [] (told_by g numbers v)
  pub formers : AreFormer 0 (told_by g numbers v)
  pub ceiling_is : ceiling_in 0 (told_by g numbers v) ≡ ceiling
  -- lane 0 has the numbers that were given to no lane
  pub rights : length v.logs + length v.lane_numbers ≡ cond (eqb (lane_number v) 0) (50 - count) 1
  pub side_rights : length s.view.logs + length s.view.lane_numbers ≡ cond (eqb (lane_number v) 0) (50 - count) 1

pub LaneHolds-prop : (sys : System) (count ceiling : ℕ) (g : Log) (numbers : List ℕ) (v : View) (s : SideView) → IsProp (LaneHolds sys count ceiling g numbers v s)
LaneHolds-prop sys count ceiling g numbers v s = hlevel (props, AreFormer-prop, KnowSubscribers-prop)
