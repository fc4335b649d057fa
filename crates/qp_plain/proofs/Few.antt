-- How many records and operations a world has at most.
use Rattle.std.proofs.Common.{ℕ, suc, ◌+◌, ◌*◌, ◌≤◌, ◌==◌, Bool, true, false, cond, List, [], ◌∷◌, length, map, arith, IsTrue, length-append}
use Rattle.std.proofs.lemmas.List.{length-set}
use Rattle.qp_model.specs.declared.record.Rec.{Rec}
use Rattle.qp_model.specs.declared.words.Word.{Word}
use Rattle.qp_model.specs.declared.words.Word.TheVariants as word
use Rattle.qp_model.specs.declared.systems.System.{System}
use Rattle.qp_model.specs.Record.{Item}
use Rattle.qp_model.specs.History.{hist, total, all_items, lane_items}
use Rattle.qp_model.specs.WordLaw.{Words, is_pool, is_block, is_object, is_signal, is_timer}
use Rattle.qp_model.specs.declared.bodies.Body.{Body}
use Rattle.qp_model.specs.declared.bodies.Body.TheVariants.{Inc, Dec}
use Rattle.qp_model.specs.Lists.{without_one}
use Rattle.qp_model.specs.Machine.{after, after_from}
use Rattle.qp_model.specs.References.{Refs, references, refs_next}
use Rattle.qp_plain_sound.specs.WordStates.{pool_in, refs_in, line_in, set_in, clock_in}
use Rattle.qp_plain_sound.proofs.Standing.{pool-count, refs-count, line-count, set-count, clock-count}
use Rattle.qp_calls_log.specs.declared.log.Log.{Log}
use Rattle.qp_plain.specs.declared.book.Book.{Book}
use Rattle.qp_plain.specs.Books.{log_recs}
use Rattle.qp_plain.specs.Book.{lists_of, logs_of}
use Rattle.qp_calls_log.proofs.LogLemmas.{length-kinds}
use Rattle.qp_model.proofs.HistoryLemmas.{total-length}

one-lane : (g : Log) → length (lane_items (log_recs g)) ≤ 1000001
one-lane g = let all = length-kinds (lane_items g.recs.items) in omega (arith, all, g.few, g.spills)

all-lanes : (logs : List Log) → length (all_items (map log_recs logs)) ≤ length logs * 1000001
unfolding all_items
all-lanes [] = omega arith
all-lanes (g ∷ gs) =
    let one = one-lane g in
    let more = all-lanes gs in
    let both = length-append (lane_items (log_recs g)) (all_items (map log_recs gs)) in
    omega (arith, one, more, both)

pub records-few : (b : Book) → length (all_items (lists_of b)) ≤ 49000049
records-few b =
    let all = all-lanes (logs_of b) in
    let long = length-set b.others.items b.at b.here in
    omega (arith, all, long, b.few)

module _ (sys : System) (b : Book) (words : Words sys (lists_of b)) where
  few : (w : Word) → total w (all_items (lists_of b)) ≤ 49000049
  few w = let t = total-length w (all_items (lists_of b)) in let all = records-few b in omega (arith, t, all)

  pub pool-few : (p : ℕ) → IsTrue (is_pool sys p) → (pool_in sys (lists_of b) p).count ≤ 49000049
  pool-few p h = let is = pool-count sys (lists_of b) words p h in let le = few (word.Pool p) in omega (arith, is, le)

  pub refs-few : (p c : ℕ) → IsTrue (is_block sys p c) → (refs_in (lists_of b) p c).count ≤ 49000049
  refs-few p c h = let is = refs-count sys (lists_of b) words p c h in let le = few (word.Block p c) in omega (arith, is, le)

  pub line-few : (a : ℕ) → IsTrue (is_object sys a) → (line_in sys (lists_of b) a).f + (line_in sys (lists_of b) a).l + (line_in sys (lists_of b) a).m ≤ 49000049
  line-few a h = let is = line-count sys (lists_of b) words a h in let le = few (word.Queue a) in omega (arith, is, le)

  pub set-few : (g : ℕ) → IsTrue (is_signal sys g) → (set_in (lists_of b) g).count ≤ 49000049
  set-few g h = let is = set-count sys (lists_of b) words g h in let le = few (word.Signal g) in omega (arith, is, le)

  pub clock-few : (t : ℕ) → IsTrue (is_timer sys t) → (clock_in (lists_of b) t).count ≤ 49000049
  clock-few t h = let is = clock-count sys (lists_of b) words t h in let le = few (word.Timer t) in omega (arith, is, le)

-- no more references stand than operations were made
names-from : (s : Refs) (history : List Item) → length s.names ≤ s.count → length (after_from references s history).names ≤ (after_from references s history).count
unfolding after_from
names-from s [] h = h
names-from s (i ∷ is) h = names-from (refs_next s i.body) is (step s i.body h)
  where
    shorter : (k : ℕ) (xs : List ℕ) → length (without_one k xs) ≤ length xs
    shorter k [] = omega arith
    shorter k (x ∷ xs) = go (x == k) (shorter k xs)
      where
        go : (b : Bool) → length (without_one k xs) ≤ length xs → length (cond b xs (x ∷ without_one k xs)) ≤ suc (length xs)
        go true le = omega arith
        go false le = omega (arith, le)

    step : (s : Refs) (b : Body) → length s.names ≤ s.count → length (refs_next s b).names ≤ (refs_next s b).count
    step s (Inc p c r) le = omega (arith, le)
    step s (Dec p c d k) le = let less = shorter k s.names in omega (arith, le, less)
    step s _ le = le

pub names-counted : (lanes : List (List Rec)) (p c : ℕ) → length (refs_in lanes p c).names ≤ (refs_in lanes p c).count
unfolding refs_in after
names-counted lanes p c = names-from references.first (hist (word.Block p c) (all_items lanes)) (omega arith)
