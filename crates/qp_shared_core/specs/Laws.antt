-- Each step of a running lane is one of the core, whatever the other lanes are. Its conditions are those of its law in qp_table.
use Rattle.std.specs.Prelude.{◌≡◌, ℕ, ◌+◌, ◌%◌, ◌^◌, ◌<◌, ◌≤◌, eqb, Bool, [], ◌∷◌, length, IsTrue, IsFalse, Some, None}
use Rattle.std.specs.declared.option.Option.{Option}
use Rattle.std.specs.List.{list_any}
use Rattle.std.specs.Option.{unwrap_or}
use prog.Atomic.{either}
use Rattle.qp_base.specs.declared.event.Ev.{Ev}
use Rattle.qp_model.specs.declared.systems.System.{System}
use Rattle.qp_model.specs.declared.bodies.Entry.{Entry}
use Rattle.qp_model.specs.declared.words.Word.TheVariants as word
use Rattle.qp_model.specs.Sites.{ring_of}
use Rattle.qp_model.specs.WordLaw.{is_pool, is_object}
use Rattle.qp_table.specs.Counting.{many}
use Rattle.qp_table.specs.Rule.{pool_at, block_at, event_word_at, queue_at, cell_at, is_ref, is_spot, is_spot_at, fills_with, fills_of, is_place, on_queue, is_serve, is_lifo, is_take_of, records, code, IsContent}
use Rattle.qp_table.specs.After.{HasRoom, InHand, rec_of}
use Rattle.qp_table.specs.QueueLaws.{f_in, l_in, m_in, cells_of, front_cell}
use Rattle.qp_table.specs.declared.view.View.{View}
use Rattle.qp_core_steps.specs.declared.ops.Op.TheVariants as op
use Rattle.qp_table.specs.Asked.{size_of, is_unfinished, is_begun, is_asked, IsOldest}
use Rattle.qp_table.specs.Told.{ReadTold, EyePoolTold, IsLowest, GiveTold, DropTold, FirstTold, MoreTold, BackTold, FromTold, FillTold, LookTold, SeenTold, NilTold, free_in, EyeTold, TryTold, LayTold, SwapTold, FreeTold, EyeLastTold, LastTold}
use Rattle.qp_shared_core.specs.CoreStep.{AreCore}
use Rattle.qp_shared_core.specs.Ops.{look_at_pool, give_or_look, look_for_take, look_for_post, claim_or_look, look_for_last, last_or_look, empty_or_peek}

-- Blocks.

abbrev pub DropsAreCore : Type 0
DropsAreCore = (sys : System) (o : ℕ) (v : View) → HasRoom v → (p b k : ℕ) → 0 < many (is_ref p b k) v.hands → AreCore sys o v (block_at p b) (λ n. (n + 4294967295) % 18446744073709551616) (λ n. op.Drop p b k) (DropTold sys o p b k v)

abbrev pub FirstReferencesAreCore : Type 0
FirstReferencesAreCore = (sys : System) (o : ℕ) (v : View) → HasRoom v → (p b : ℕ) → 0 < many (is_spot p b) v.fresh → 0 < many (is_begun p b) v.gives → many (fills_of p b) v.fills ≡ 0
    → AreCore sys o v (block_at p b) (λ n. (n + 4294967297) % 18446744073709551616) (λ n. op.Make p b) (FirstTold sys o p b v)

abbrev pub MoreReferencesAreCore : Type 0
MoreReferencesAreCore = (sys : System) (o : ℕ) (v : View) → HasRoom v → (p b k : ℕ) → 0 < many (is_ref p b k) v.hands → AreCore sys o v (block_at p b) (λ n. (n + 4294967297) % 18446744073709551616) (λ n. op.Make p b) (MoreTold sys o p b v)

abbrev pub BacksAreCore : Type 0
BacksAreCore = (sys : System) (o : ℕ) (v : View) → HasRoom v → (p b m k : ℕ) → k ≡ 4294967296 + 2 ^ b → k < 9000000000 → 0 < many (is_spot_at p b m) v.used
    → AreCore sys o v (pool_at p) (λ n. (n + k) % 18446744073709551616) (λ n. op.Back p b) (BackTold sys o p b m k v)

abbrev pub BeginningsAreCore : Type 0
BeginningsAreCore = (sys : System) (o : ℕ) (v : View) (p b m : ℕ) → AreCore sys o v (block_at p b) (λ n. n) (λ n. op.Look (word.Block p b) None) (FromTold sys p b m v)

abbrev pub FillsAreCore : Type 0
FillsAreCore = (sys : System) (o : ℕ) (v : View) (p b j x : ℕ) → 0 < many (fills_with p b j x) v.fills → IsTrue (list_any (is_asked p b j x) v.gives) → AreCore sys o v (event_word_at p b j) (λ n. x) (λ n. op.Fill p b j x) (FillTold p b j x v)

-- at a place that the pool's blocks have
abbrev pub ReadsAreCore : Type 0
ReadsAreCore = (sys : System) (o : ℕ) (v : View) (p b k j : ℕ) → 0 < p → 0 < many (is_ref p b k) v.hands → j ≤ size_of sys p → AreCore sys o v (event_word_at p b j) (λ n. n) (λ n. op.Read p b j) (ReadTold sys p b k j v)

-- Pools.

abbrev pub PoolEyesAreCore : Type 0
PoolEyesAreCore = (sys : System) (o : ℕ) (v : View) → HasRoom v → (p : ℕ) → IsTrue (is_pool sys p) → (reserve : Option ℕ) → AreCore sys o v (pool_at p) (λ n. n) (look_at_pool p o reserve) (EyePoolTold sys p o reserve v)

abbrev pub GivesAreCore : Type 0
GivesAreCore = (sys : System) (o : ℕ) (v : View) → HasRoom v → (p : ℕ) → IsTrue (is_pool sys p) → (reserve : Option ℕ) (ev : Ev) (b old new : ℕ) → IsFalse (list_any (is_unfinished v.fills) v.gives) → length ev.pars.items ≤ size_of sys p → IsContent sys ev.sig ev.pars.items
    → IsLowest b (old % 4294967296) → new + 2 ^ b ≡ old + 4294967296
    → AreCore sys o v (pool_at p) (λ n. either (eqb n old) new n) (give_or_look p o reserve ev old) (GiveTold sys p o reserve b ev.sig ev.pars.items v old new)

-- Queues.

abbrev pub LooksAreCore : Type 0
LooksAreCore = (sys : System) (o : ℕ) (v : View) (a : ℕ) → IsTrue (is_object sys a) → AreCore sys o v (queue_at a) (λ n. n) (λ n. op.Look (word.Queue a) None) (LookTold sys a v)

abbrev pub SeenCountsAreCore : Type 0
SeenCountsAreCore = (sys : System) (o : ℕ) (v : View) → HasRoom v → (a : ℕ) → IsTrue (is_object sys a)
    → AreCore sys o v (queue_at a) (λ n. n) (λ n. op.Look (word.Queue a) (Some (rec_of 7 0 (a ∷ f_in n ∷ l_in n ∷ m_in n ∷ [])))) (SeenTold sys a v)

abbrev pub EmptyQueuesAreCore : Type 0
EmptyQueuesAreCore = (sys : System) (v : View) → HasRoom v → (a : ℕ) → IsTrue (is_object sys a) → (is_new : ℕ → Bool) → AreCore sys a v (queue_at a) (λ n. n) (look_for_take a is_new) (NilTold sys is_new a v)

abbrev pub EyesAreCore : Type 0
EyesAreCore = (sys : System) (o : ℕ) (v : View) → HasRoom v → (a : ℕ) → IsTrue (is_object sys a) → (margin : Option ℕ) → AreCore sys o v (queue_at a) (λ n. n) (look_for_post sys a o margin) (EyeTold sys a o margin v)

abbrev pub TriesAreCore : Type 0
TriesAreCore = (sys : System) (o : ℕ) (v : View) → HasRoom v → (a : ℕ) → IsTrue (is_object sys a) → (margin : Option ℕ) (e : Entry) (old : ℕ) → InHand sys e v → unwrap_or margin 0 < free_in (ring_of sys a) old
    → AreCore sys o v (queue_at a) (λ n. either (eqb n old) (old + 1) n) (claim_or_look sys a o margin e old) (TryTold sys a o margin e v old)

abbrev pub LastEyesAreCore : Type 0
LastEyesAreCore = (sys : System) (v : View) → HasRoom v → (a : ℕ) → IsTrue (is_object sys a) → AreCore sys a v (queue_at a) (λ n. n) (look_for_last sys a) (EyeLastTold sys a v)

abbrev pub LastTriesAreCore : Type 0
LastTriesAreCore = (sys : System) (v : View) → HasRoom v → (a : ℕ) → IsTrue (is_object sys a) → (e : Entry) (old : ℕ) → InHand sys e v → IsTrue (list_any (is_serve a) v.serves) → many (on_queue a) v.takes ≡ 0 → 0 < free_in (ring_of sys a) old
    → AreCore sys a v (queue_at a) (λ n. either (eqb n old) (old + 2097152) n) (last_or_look sys a e old) (LastTold sys a e v old)

abbrev pub LaysAreCore : Type 0
LaysAreCore = (sys : System) (o : ℕ) (v : View) (a j : ℕ) (e : Entry) → IsTrue (is_object sys a) → j < cells_of sys a → 0 < many (is_place a j e) v.claims → IsOldest a j e v.claims → AreCore sys o v (cell_at a j) (λ n. code e) (λ n. op.Lay a) (LayTold a j e v)

abbrev pub SwapsAreCore : Type 0
SwapsAreCore = (sys : System) (o : ℕ) (v : View) (a l m : ℕ) → IsTrue (is_object sys a) → IsTrue (list_any (is_serve a) v.serves) → l ≡ records (is_lifo a) v.logs → m ≡ records (is_take_of a) v.logs → many (on_queue a) v.takes ≡ 0
    → AreCore sys o v (cell_at a (front_cell sys a l m)) (λ n. 0) (empty_or_peek a) (SwapTold sys a (front_cell sys a l m) v)

abbrev pub FreesAreCore : Type 0
FreesAreCore = (sys : System) (v : View) → HasRoom v → (a j : ℕ) (e : Entry) → IsTrue (is_object sys a) → IsTrue (list_any (is_serve a) v.serves) → 0 < many (is_place a j e) v.takes
    → AreCore sys a v (queue_at a) (λ n. (n + 4398046511104) % 18446744073709551616) (λ n. op.Free a) (FreeTold sys a j e v)

-- All of them.
pub record StepsAreCore : Type 0 where
  pub drops : DropsAreCore
  pub first_references : FirstReferencesAreCore
  pub more_references : MoreReferencesAreCore
  pub backs : BacksAreCore
  pub beginnings : BeginningsAreCore
  pub fills : FillsAreCore
  pub reads : ReadsAreCore
  pub pool_eyes : PoolEyesAreCore
  pub gives : GivesAreCore
  pub looks : LooksAreCore
  pub seen_counts : SeenCountsAreCore
  pub empty_queues : EmptyQueuesAreCore
  pub eyes : EyesAreCore
  pub tries : TriesAreCore
  pub last_eyes : LastEyesAreCore
  pub last_tries : LastTriesAreCore
  pub lays : LaysAreCore
  pub swaps : SwapsAreCore
  pub frees : FreesAreCore
