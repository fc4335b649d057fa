-- By what the words hold, a call goes on by one record alone.
use Rattle.std.proofs.Common.{◌≡◌, ℕ, zero, suc, ◌+◌, ◌-◌, ◌≤◌, ◌==◌, nat_lt, max, Bool, true, false, not, ◌&&◌, ◌||◌, List, [], ◌∷◌, length, Some, None, is_none, refl, sym, subst, ap, arith}
use Rattle.std.proofs.lemmas.Bool.Decides.{nat_tests}
use Rattle.std.specs.declared.option.Option.{Option}
use Rattle.std.specs.Option.{unwrap_or, option_map}
use Rattle.qp_chart.specs.StateTree.{has}
use Rattle.qp_model.specs.declared.systems.System.{System}
use Rattle.qp_model.specs.declared.bodies.Entry.{Entry}
use Rattle.qp_model.specs.declared.bodies.Body.{Body}
use Rattle.qp_model.specs.declared.bodies.Body.TheVariants as item
use Rattle.qp_model.specs.Record.{entry}
use Rattle.qp_model.specs.Line.{same_entry}
use Rattle.qp_model.specs.Lists.{is_first, without_one}
use Rattle.qp_model.specs.Lives.{life_may}
use Rattle.qp_model.specs.Subscribers.{bits_of_set}
use Rattle.qp_model.specs.Told.{Told, Known, Nothing, Free, Left, Former, Member, plain, raised, dropped}
use Rattle.qp_model.specs.Calls as call
use Rattle.qp_model.specs.Calls.{Call, Granted}
use Rattle.qp_model.specs.Sites.{ring_of}
use Rattle.qp_model.specs.Sources.{same_list}
use Rattle.qp_model.specs.Parts.{is_static, sizes_of, first_pool, room_before, timer_number}
use Rattle.qp_model.specs.Shapes.{ticks_fit}
use Rattle.qp_model.proofs.RecordLemmas.{same_entry-is}
use Rattle.qp_check_calls.specs.CallState.{Behind, Ends, Goal, ToQueue, ToFront, ToDeferred, ToSet, CallStage, Begins, Refers, Puts, Raises, Restores, Drops, Returns, Flushes, Whole}
use Rattle.qp_check_calls.specs.CallStateNext.{is_of, refer_next, queue_next, front_next, set_next, put_next, raise_next, restore_next, drop_next, return_next, flush_next, block_next, new_next, event_next, now_next, defer_next, recall_next, subscribe_next, unsubscribe_next, arm_next, rearm_next, disarm_next, begin_next, stage_next}
use Rattle.qp_check_calls.proofs.StageLemmas.{only-passed}
use Rattle.qp_unique.specs.Held.{WordsHeld, IsCounted, MayComeNext, comes_next, known_then}
use Rattle.qp_unique.specs.NextInCall.{first_of_list, post_told, lifo_told, put_told, refer_told, drop_told, return_told, block_told, new_told, again_told, now_told, defer_told, recall_told, subscribe_told, unsubscribe_told, arm_told, rearm_told, disarm_told, begin_told, flush_told, stage_told}
use Rattle.qp_unique.specs.Laws.{CallGoesOnAlone}
use Rattle.qp_check_calls.proofs.NewLemmas.{same_list-is, is_of-is}

-- a record, as it is told
abbrev tells : Body → Known → Told
tells body known = record { body = body; known = known }

module _ (sys : System) (h : WordsHeld) where
  -- a post granted has the counts after it
  pub post-granted : (o a f l m : ℕ) (e : Entry) (margin : Option ℕ) → comes_next sys h o (item.Post a f l m e) ≡ true
      → nat_lt (unwrap_or margin 0) (room_before (ring_of sys a) f l m) ≡ true
      → post_told (ring_of sys a) (h.lines a) a margin e ≡ plain (item.Post a f l m e)
  unfolding comes_next post_told
  post-granted o a f l m e margin comes free =
      let e1 : f ≡ (h.lines a).f + 1 = grind (arith, nat_tests) in
      let e2 : l ≡ (h.lines a).l = grind (arith, nat_tests) in
      let e3 : m ≡ (h.lines a).m = grind (arith, nat_tests) in
      rw (sym e1, sym e2, sym e3, free) refl

  -- a refusal and an assertion show that too few entries are free
  post-refused : (o a f l m k : ℕ) (e : Entry) → comes_next sys h o (item.Full a f l m k) ≡ true
      → post_told (ring_of sys a) (h.lines a) a (Some k) e ≡ plain (item.Full a f l m k)
  unfolding comes_next post_told room_before
  post-refused o a f l m k e comes =
      let e1 : f ≡ (h.lines a).f = grind (arith, nat_tests) in
      let e2 : l ≡ (h.lines a).l = grind (arith, nat_tests) in
      let e3 : m ≡ (h.lines a).m = grind (arith, nat_tests) in
      let few : ring_of sys a + 1 - (f + l - m) ≤ k = grind (arith, nat_tests) in
      let same : (h.lines a).f + 1 - 1 + (h.lines a).l - (h.lines a).m ≡ f + l - m = omega (arith, e1, e2, e3) in
      let no : nat_lt k (ring_of sys a + 1 - ((h.lines a).f + 1 - 1 + (h.lines a).l - (h.lines a).m)) ≡ false = rw same (grind (arith, nat_tests)) in
      rw (no, sym e1, sym e2, sym e3) refl

  pub post-asserted : (o a f l m : ℕ) (e : Entry) → comes_next sys h o (item.NoEntry a f l m) ≡ true
      → post_told (ring_of sys a) (h.lines a) a None e ≡ plain (item.NoEntry a f l m)
  unfolding comes_next post_told room_before
  post-asserted o a f l m e comes =
      let e1 : f ≡ (h.lines a).f = grind (arith, nat_tests) in
      let e2 : l ≡ (h.lines a).l = grind (arith, nat_tests) in
      let e3 : m ≡ (h.lines a).m = grind (arith, nat_tests) in
      let full : f + l - m ≡ ring_of sys a + 1 = grind (arith, nat_tests) in
      let same : ring_of sys a + 1 - ((h.lines a).f + 1 - 1 + (h.lines a).l - (h.lines a).m) ≡ 0 = omega (arith, e1, e2, e3, full) in
      let no : nat_lt 0 (ring_of sys a + 1 - ((h.lines a).f + 1 - 1 + (h.lines a).l - (h.lines a).m)) ≡ false = rw same refl in
      rw (no, sym e1, sym e2, sym e3) refl

  queue-alone : (o : ℕ) (kept : List Entry) (to : ℕ) (margin : Option ℕ) (behind : Behind) (e : Entry) (b : Body) (k : Known) (next : CallStage)
      → queue_next kept (ring_of sys to) to margin behind e b k ≡ Some next → comes_next sys h o b ≡ true
      → post_told (ring_of sys to) (h.lines to) to margin e ≡ tells b k
  unfolding queue_next
  queue-alone o kept to margin behind e (item.Post a f l m x) Nothing next is comes =
      let test : ((a == to) && same_entry x e && nat_lt (unwrap_or margin 0) (room_before (ring_of sys to) f l m)) ≡ true = (only-passed _ _ _ is).0 in
      let e1 : a ≡ to = grind (arith, nat_tests) in
      let same : same_entry x e ≡ true = grind (arith, nat_tests) in
      let e2 : x ≡ e = same_entry-is x e same in
      let free : nat_lt (unwrap_or margin 0) (room_before (ring_of sys to) f l m) ≡ true = grind (arith, nat_tests) in
      let whole = post-granted o a f l m x margin comes (rw e1 free) in
      subst (λ y. post_told (ring_of sys y) (h.lines y) y margin e ≡ plain (item.Post a f l m x)) e1
      (subst (λ y. post_told (ring_of sys a) (h.lines a) a margin y ≡ plain (item.Post a f l m x)) e2 whole)
  queue-alone o kept to None behind e (item.Full a f l m j) Nothing next is comes =
      let test : ((a == to) && false) ≡ true = (only-passed _ _ _ is).0 in let no : false ≡ true = grind (arith, nat_tests) in absurd (cc)
  queue-alone o kept to (Some i) behind e (item.Full a f l m j) Nothing next is comes =
      let test : ((a == to) && (i == j)) ≡ true = (only-passed _ _ _ is).0 in
      let e1 : a ≡ to = grind (arith, nat_tests) in
      let e2 : i ≡ j = grind (arith, nat_tests) in
      subst (λ y. post_told (ring_of sys y) (h.lines y) y (Some i) e ≡ plain (item.Full a f l m j)) e1
      (subst (λ y. post_told (ring_of sys a) (h.lines a) a (Some y) e ≡ plain (item.Full a f l m j)) (sym e2) (post-refused o a f l m j e comes))
  queue-alone o kept to (Some i) behind e (item.NoEntry a f l m) Nothing next is comes =
      let test : ((a == to) && false) ≡ true = (only-passed _ _ _ is).0 in let no : false ≡ true = grind (arith, nat_tests) in absurd (cc)
  queue-alone o kept to None behind e (item.NoEntry a f l m) Nothing next is comes =
      let test : ((a == to) && true) ≡ true = (only-passed _ _ _ is).0 in
      let e1 : a ≡ to = grind (arith, nat_tests) in
      subst (λ y. post_told (ring_of sys y) (h.lines y) y None e ≡ plain (item.NoEntry a f l m)) e1 (post-asserted o a f l m e comes)
  queue-alone o kept to margin behind e b k next is comes = absurd (cc)

  -- an entry that is free at the front, or none
  front-alone : (o : ℕ) (recalled : Option Entry) (e : Entry) (b : Body) (k : Known) (next : CallStage) → IsCounted h
      → front_next o recalled e b k ≡ Some next → comes_next sys h o b ≡ true → lifo_told (ring_of sys o) (h.lines o) o e ≡ tells b k
  unfolding comes_next
  front-alone o recalled e (item.Lifo f l m x) Nothing next counted is comes =
      let same : same_entry x e ≡ true = (only-passed _ _ _ is).0 in
      let e1 : x ≡ e = same_entry-is x e same in
      let e2 : f ≡ (h.lines o).f = grind (arith, nat_tests) in
      let e3 : l ≡ (h.lines o).l + 1 = grind (arith, nat_tests) in
      let e4 : m ≡ (h.lines o).m = grind (arith, nat_tests) in
      let room : length (h.lines o).entries ≤ ring_of sys o = grind (arith, nat_tests) in
      let some : (h.lines o).f + (h.lines o).l - (h.lines o).m ≤ ring_of sys o = omega (arith, room, counted.counted o) in
      let no : ((h.lines o).f + (h.lines o).l - (h.lines o).m == ring_of sys o + 1) ≡ false = grind (arith, nat_tests) in
      rw (no, sym e1, sym e2, sym e3, sym e4) refl
  front-alone o recalled e (item.NoLifo a f l m) Nothing next counted is comes =
      let test : (a == o) ≡ true = (only-passed _ _ _ is).0 in
      let e1 : a ≡ o = grind (arith, nat_tests) in
      let here : comes_next sys h o (item.NoLifo o f l m) ≡ true = subst (λ y. comes_next sys h o (item.NoLifo y f l m) ≡ true) e1 comes in
      let e2 : f ≡ (h.lines o).f = grind (arith, nat_tests) in
      let e3 : l ≡ (h.lines o).l = grind (arith, nat_tests) in
      let e4 : m ≡ (h.lines o).m = grind (arith, nat_tests) in
      let full : (f + l - m == ring_of sys o + 1) ≡ true = grind (arith, nat_tests) in
      rw (sym e2, sym e3, sym e4, full, e1) refl
  front-alone o recalled e b k next counted is comes = absurd (cc)

  put-alone : (o : ℕ) (kept : List Entry) (goal : Goal) (e : Entry) (b : Body) (k : Known) (next : CallStage) → IsCounted h
      → put_next sys o kept goal e b k ≡ Some next → comes_next sys h o b ≡ true → put_told sys h o goal e ≡ tells b k
  unfolding put_next put_told set_next comes_next
  put-alone o kept (ToQueue to margin behind) e b k next counted is comes = queue-alone o kept to margin behind e b k next is comes
  put-alone o kept (ToFront recalled) e b k next counted is comes = front-alone o recalled e b k next counted is comes
  put-alone o kept ToDeferred e (item.Defer x) Nothing next counted is comes =
      let e1 : x ≡ e = same_entry-is x e ((only-passed _ _ _ is).0) in rw e1 refl
  put-alone o kept (ToSet sig) e (item.Pub s n set) Nothing next counted is comes =
      let test : (s == sig) ≡ true = (only-passed _ _ _ is).0 in
      let e1 : s ≡ sig = grind (arith, nat_tests) in
      let here : comes_next sys h o (item.Pub sig n set) ≡ true = subst (λ y. comes_next sys h o (item.Pub y n set) ≡ true) e1 comes in
      let e2 : n ≡ (h.sets sig).count = grind (arith, nat_tests) in
      let e3 : bits_of_set (h.sets sig).members ≡ set = grind (arith, nat_tests) in
      rw (e1, e2, e3) refl
  put-alone o kept _ e b k next counted is comes = absurd (cc)

  refer-alone : (o p b : ℕ) (goal : Goal) (body : Body) (k : Known) (next : CallStage) → refer_next p b goal body k ≡ Some next
      → comes_next sys h o body ≡ true → refer_told h p b ≡ tells body k
  unfolding comes_next
  refer-alone o p b goal (item.Inc q c r) Nothing next is comes =
      let test : ((q == p) && (c == b)) ≡ true = (only-passed _ _ _ is).0 in
      let e1 : q ≡ p = grind (arith, nat_tests) in
      let e2 : c ≡ b = grind (arith, nat_tests) in
      let e3 : r ≡ (h.blocks q c).count = grind (arith, nat_tests) in
      rw (e3, e1, e2) refl
  refer-alone o p b goal body k next is comes = absurd (cc)

  return-alone : (o : ℕ) (kept : List Entry) (p b d : ℕ) (behind : Behind) (body : Body) (k : Known) (next : CallStage)
      → return_next kept p b d behind body k ≡ Some next → comes_next sys h o body ≡ true → return_told h p b d ≡ tells body k
  unfolding comes_next
  return-alone o kept p b d behind (item.Back q n c to) Nothing next is comes =
      let test : ((q == p) && (c == b) && (to == d + 1)) ≡ true = (only-passed _ _ _ is).0 in
      let e1 : q ≡ p = grind (arith, nat_tests) in
      let e2 : c ≡ b = grind (arith, nat_tests) in
      let e3 : to ≡ d + 1 = grind (arith, nat_tests) in
      let e4 : n ≡ (h.pools q).count = grind (arith, nat_tests) in
      rw (e4, e1, e2, e3) refl
  return-alone o kept p b d behind body k next is comes = absurd (cc)

  drop-alone : (o : ℕ) (kept : List Entry) (e : Entry) (behind : Behind) (body : Body) (k : Known) (next : CallStage)
      → drop_next kept e behind body k ≡ Some next → comes_next sys h o body ≡ true → k ≡ known_then h o body → drop_told h e ≡ tells body k
  unfolding comes_next known_then
  drop-alone o kept e behind (item.Dec p b d n) (Left left) next is comes known =
      let test : ((p == e.pool) && (b == e.block) && (n == e.name)) ≡ true = (only-passed _ _ _ is).0 in
      let e1 : p ≡ e.pool = grind (arith, nat_tests) in
      let e2 : b ≡ e.block = grind (arith, nat_tests) in
      let e3 : n ≡ e.name = grind (arith, nat_tests) in
      let e4 : d ≡ (h.blocks p b).count = grind (arith, nat_tests) in
      rw (known, e4, e1, e2, e3) refl
  drop-alone o kept e behind body k next is comes known = absurd (cc)

  least : (n : ℕ) (xs : List ℕ) → is_first n xs ≡ true → first_of_list xs ≡ n
  least n [] h = absurd (cc)
  least n (x ∷ xs) h = grind (arith, nat_tests)

  none-is : (x : Option ℕ) → is_none x ≡ true → x ≡ None
  none-is None h = refl
  none-is (Some k) h = absurd (cc)

  block-given : (o p n b from sig : ℕ) (pars : List ℕ) (reserve : Option ℕ) → comes_next sys h o (item.New p n b from sig pars) ≡ true
      → nat_lt (unwrap_or reserve 0) (length (h.pools p).free) ≡ true
      → block_told h p sig pars reserve ≡ tells (item.New p n b from sig pars) (Free (length (h.pools p).free))
  unfolding comes_next
  block-given o p n b from sig pars reserve comes free =
      let e1 : n ≡ (h.pools p).count = grind (arith, nat_tests) in
      let first : is_first b (h.pools p).free ≡ true = grind (arith, nat_tests) in
      let e2 : first_of_list (h.pools p).free ≡ b = least b (h.pools p).free first in
      let life : life_may b (h.lives p b) (item.New p n b from sig pars) ≡ true = grind (arith, nat_tests) in
      let e3 : from ≡ (h.lives p b).edge = edge-is (h.lives p b).out (h.lives p b).edge b from life in
      rw (free, e2, e1, e3) refl
    where
      edge-is : (out : Bool) (edge b from : ℕ) → (not (b == b) || (not out && (from == edge))) ≡ true → from ≡ edge
      edge-is out edge b from test = grind (arith, nat_tests)

  block-by : (p : ℕ) (pool : Option ℕ) (sig : ℕ) (pars : List ℕ) (reserve : Option ℕ) (t : Told) → is_of pool p ≡ true → block_told h p sig pars reserve ≡ t
      → option_map (λ p. block_told h p sig pars reserve) pool ≡ Some t
  block-by p None sig pars reserve t is whole = absurd (cc)
  block-by p (Some q) sig pars reserve t is whole = let e1 : q ≡ p = grind (arith, nat_tests) in rw e1 (ap Some whole)

  block-none : (o p n free sig : ℕ) (pars : List ℕ) → comes_next sys h o (item.NoBlock p n free) ≡ true → block_told h p sig pars None ≡ plain (item.NoBlock p n free)
  unfolding comes_next
  block-none o p n free sig pars comes =
      let e2 : n ≡ (h.pools p).count = grind (arith, nat_tests) in
      let e3 : length (h.pools p).free ≡ free = grind (arith, nat_tests) in
      let zero_is : free ≡ 0 = grind (arith, nat_tests) in
      let no : nat_lt 0 (length (h.pools p).free) ≡ false = rw (e3, zero_is) refl in
      rw (no, e2, e3) refl

  block-short : (o p n free r sig : ℕ) (pars : List ℕ) → comes_next sys h o (item.Short p n free r) ≡ true → block_told h p sig pars (Some r) ≡ plain (item.Short p n free r)
  unfolding comes_next
  block-short o p n free r sig pars comes =
      let e2 : n ≡ (h.pools p).count = grind (arith, nat_tests) in
      let e3 : length (h.pools p).free ≡ free = grind (arith, nat_tests) in
      let few : free ≤ r = grind (arith, nat_tests) in
      let no : nat_lt r (length (h.pools p).free) ≡ false = rw e3 (grind (arith, nat_tests)) in
      rw (no, e2, e3) refl

  block-alone : (o : ℕ) (sizes : List ℕ) (sig : ℕ) (pars : List ℕ) (reserve : Option ℕ) (goal : Goal) (body : Body) (k : Known) (next : CallStage)
      → block_next sizes sig pars reserve goal body k ≡ Some next → comes_next sys h o body ≡ true → k ≡ known_then h o body
      → option_map (λ p. block_told h p sig pars reserve) (first_pool sizes (length pars)) ≡ Some (tells body k)
  unfolding block_next known_then
  block-alone o sizes sig pars reserve goal (item.New p n b from s ps) (Free free) next is comes known =
      by (first_pool sizes (length pars)) ((only-passed (is_of (first_pool sizes (length pars)) p && (s == sig) && same_list ps pars && nat_lt (unwrap_or reserve 0) free) _ _ is).0)
    where
      by : (pool : Option ℕ) → (is_of pool p && (s == sig) && same_list ps pars && nat_lt (unwrap_or reserve 0) free) ≡ true
          → option_map (λ p. block_told h p sig pars reserve) pool ≡ Some (tells (item.New p n b from s ps) (Free free))
      by pool test =
          let found : is_of pool p ≡ true = grind (arith, nat_tests) in
          let e1 : s ≡ sig = grind (arith, nat_tests) in
          let same : same_list ps pars ≡ true = grind (arith, nat_tests) in
          let e2 : ps ≡ pars = same_list-is ps pars same in
          let e3 : free ≡ length (h.pools p).free = cc in
          let some : nat_lt (unwrap_or reserve 0) (length (h.pools p).free) ≡ true = subst (λ x. nat_lt (unwrap_or reserve 0) x ≡ true) e3 (grind (arith, nat_tests)) in
          block-by p pool sig pars reserve _ found (rw (e3, sym e1, sym e2) (block-given o p n b from s ps reserve comes some))
  block-alone o sizes sig pars reserve goal (item.NoBlock p n free) Nothing next is comes known =
      by (first_pool sizes (length pars)) ((only-passed (is_of (first_pool sizes (length pars)) p && is_none reserve) _ _ is).0)
    where
      by : (pool : Option ℕ) → (is_of pool p && is_none reserve) ≡ true → option_map (λ p. block_told h p sig pars reserve) pool ≡ Some (plain (item.NoBlock p n free))
      by pool test =
          let found : is_of pool p ≡ true = grind (arith, nat_tests) in
          let none : is_none reserve ≡ true = grind (arith, nat_tests) in
          let e1 : reserve ≡ None = none-is reserve none in
          block-by p pool sig pars reserve _ found (rw e1 (block-none o p n free sig pars comes))
  block-alone o sizes sig pars reserve goal (item.Short p n free r) Nothing next is comes known =
      by (first_pool sizes (length pars)) ((only-passed (is_of (first_pool sizes (length pars)) p && is_of reserve r) _ _ is).0)
    where
      by : (pool : Option ℕ) → (is_of pool p && is_of reserve r) ≡ true → option_map (λ p. block_told h p sig pars reserve) pool ≡ Some (plain (item.Short p n free r))
      by pool test =
          let found : is_of pool p ≡ true = grind (arith, nat_tests) in
          let some : is_of reserve r ≡ true = grind (arith, nat_tests) in
          let e1 : reserve ≡ Some r = is_of-is reserve r some in
          block-by p pool sig pars reserve _ found (rw e1 (block-short o p n free r sig pars comes))
  block-alone o sizes sig pars reserve goal body k next is comes known = absurd (cc)

  new-alone : (fixed : Bool) (o : ℕ) (kept : List Entry) (sig : ℕ) (pars : List ℕ) (reserve : Option ℕ) (goal : Goal) (body : Body) (k : Known) (next : CallStage)
      → IsCounted h → new_next fixed sys o kept sig pars reserve goal body k ≡ Some next → comes_next sys h o body ≡ true → k ≡ known_then h o body
      → new_told fixed sys h o sig pars reserve goal ≡ Some (tells body k)
  unfolding new_next new_told
  new-alone true o kept sig pars reserve goal body k next counted is comes known = ap Some (put-alone o kept goal (entry 0 sig 0) body k next counted is comes)
  new-alone false o kept sig pars reserve goal body k next counted is comes known = block-alone o (sizes_of sys) sig pars reserve goal body k next is comes known

  again-alone : (p o : ℕ) (kept : List Entry) (goal : Goal) (e : Entry) (body : Body) (k : Known) (next : CallStage)
      → IsCounted h → event_next p sys o kept goal e body k ≡ Some next → comes_next sys h o body ≡ true → again_told p sys h o goal e ≡ tells body k
  unfolding event_next again_told
  again-alone zero o kept goal e body k next counted is comes = put-alone o kept goal e body k next counted is comes
  again-alone (suc p) o kept goal e body k next counted is comes = refer-alone o e.pool e.block goal body k next is comes

  now-alone : (o : ℕ) (now : Option Entry) (kept : List Entry) (goal : Goal) (body : Body) (k : Known) (next : CallStage)
      → IsCounted h → now_next sys o now kept goal body k ≡ Some next → comes_next sys h o body ≡ true → now_told sys h o now goal ≡ Some (tells body k)
  unfolding now_next now_told
  now-alone o None kept goal body k next counted is comes = absurd (cc)
  now-alone o (Some e) kept goal body k next counted is comes = ap Some (again-alone e.pool o kept goal e body k next counted is comes)

  defer-alone : (fits : Bool) (o : ℕ) (now : Option Entry) (kept : List Entry) (body : Body) (k : Known) (next : CallStage)
      → IsCounted h → defer_next fits sys o now kept body k ≡ Some next → comes_next sys h o body ≡ true → defer_told fits sys h o now ≡ Some (tells body k)
  unfolding defer_next defer_told
  defer-alone true o now kept body k next counted is comes = now-alone o now kept ToDeferred body k next counted is comes
  defer-alone false o now kept item.NoDefer Nothing next counted is comes = refl
  defer-alone false o now kept body k next counted is comes = absurd (cc)

  recall-alone : (kept : List Entry) (body : Body) (k : Known) (next : CallStage) → recall_next kept body k ≡ Some next → recall_told kept ≡ tells body k
  recall-alone [] item.NoRecall Nothing next is = refl
  recall-alone [] body k next is = absurd (cc)
  recall-alone (x ∷ others) (item.Recall e) Nothing next is = let e1 : x ≡ e = same_entry-is x e ((only-passed _ _ _ is).0) in rw e1 refl
  recall-alone (x ∷ others) body k next is = absurd (cc)

  flush-alone : (kept : List Entry) (total : ℕ) (body : Body) (k : Known) (next : CallStage) → flush_next kept total body k ≡ Some next → flush_told kept ≡ Some (tells body k)
  flush-alone [] total body k next is = absurd (cc)
  flush-alone (x ∷ others) total (item.Flush e) Nothing next is = let e1 : x ≡ e = same_entry-is x e ((only-passed _ _ _ is).0) in rw e1 refl
  flush-alone (x ∷ others) total body k next is = absurd (cc)

  subscribe-alone : (o sig : ℕ) (body : Body) (k : Known) (next : CallStage) → subscribe_next sig body k ≡ Some next
      → comes_next sys h o body ≡ true → k ≡ known_then h o body → subscribe_told h o sig ≡ tells body k
  unfolding comes_next known_then
  subscribe-alone o sig (item.Sub s n) Nothing next is comes known =
      let test : (s == sig) ≡ true = (only-passed _ _ _ is).0 in
      let e1 : s ≡ sig = grind (arith, nat_tests) in
      let e2 : n ≡ (h.sets s).count = grind (arith, nat_tests) in
      let out : has (h.sets s).members o ≡ false = grind (arith, nat_tests) in
      rw (sym e1, out, e2) refl
  subscribe-alone o sig (item.Same s n) (Member true) next is comes known =
      let test : (s == sig) ≡ true = (only-passed _ _ _ is).0 in
      let e1 : s ≡ sig = grind (arith, nat_tests) in
      let e2 : n ≡ (h.sets s).count = grind (arith, nat_tests) in
      let inside : has (h.sets s).members o ≡ true = cc in
      rw (sym e1, inside, e2) refl
  subscribe-alone o sig body k next is comes known = absurd (cc)

  unsubscribe-alone : (o sig : ℕ) (body : Body) (k : Known) (next : CallStage) → unsubscribe_next sig body k ≡ Some next
      → comes_next sys h o body ≡ true → k ≡ known_then h o body → unsubscribe_told h o sig ≡ tells body k
  unfolding comes_next known_then
  unsubscribe-alone o sig (item.Unsub s n) Nothing next is comes known =
      let test : (s == sig) ≡ true = (only-passed _ _ _ is).0 in
      let e1 : s ≡ sig = grind (arith, nat_tests) in
      let e2 : n ≡ (h.sets s).count = grind (arith, nat_tests) in
      let inside : has (h.sets s).members o ≡ true = grind (arith, nat_tests) in
      rw (sym e1, inside, e2) refl
  unsubscribe-alone o sig (item.Same s n) (Member false) next is comes known =
      let test : (s == sig) ≡ true = (only-passed _ _ _ is).0 in
      let e1 : s ≡ sig = grind (arith, nat_tests) in
      let e2 : n ≡ (h.sets s).count = grind (arith, nat_tests) in
      let out : has (h.sets s).members o ≡ false = cc in
      rw (sym e1, out, e2) refl
  unsubscribe-alone o sig body k next is comes known = absurd (cc)

  arm-alone : (o t ticks interval : ℕ) (body : Body) (k : Known) (next : CallStage) → arm_next t ticks interval body k ≡ Some next
      → comes_next sys h o body ≡ true → arm_told (h.clocks t) t ticks interval ≡ tells body k
  unfolding arm_next arm_told comes_next
  arm-alone o t ticks interval (item.Arm u n x i) Nothing next is comes =
      let test : ((u == t) && (x == ticks) && (i == interval) && ticks_fit ticks interval) ≡ true = (only-passed _ _ _ is).0 in
      let e1 : u ≡ t = grind (arith, nat_tests) in
      let e2 : x ≡ ticks = grind (arith, nat_tests) in
      let e3 : i ≡ interval = grind (arith, nat_tests) in
      let fit : ticks_fit ticks interval ≡ true = grind (arith, nat_tests) in
      let e4 : n ≡ (h.clocks u).count = grind (arith, nat_tests) in
      let off : ((h.clocks u).counter == 0) ≡ true = grind (arith, nat_tests) in
      rw (fit, sym e1, off, e2, e3, e4) refl
  arm-alone o t ticks interval (item.Armed u n c) Nothing next is comes =
      let test : ((u == t) && ticks_fit ticks interval) ≡ true = (only-passed _ _ _ is).0 in
      let e1 : u ≡ t = grind (arith, nat_tests) in
      let fit : ticks_fit ticks interval ≡ true = grind (arith, nat_tests) in
      let e2 : n ≡ (h.clocks u).count = grind (arith, nat_tests) in
      let e3 : (h.clocks u).counter ≡ c = grind (arith, nat_tests) in
      let on : ((h.clocks u).counter == 0) ≡ false = grind (arith, nat_tests) in
      rw (fit, sym e1, on, e2, e3) refl
  arm-alone o t ticks interval (item.BadTicks u x i) Nothing next is comes =
      let test : ((u == t) && (x == ticks) && (i == interval) && not (ticks_fit ticks interval)) ≡ true = (only-passed _ _ _ is).0 in
      let e1 : u ≡ t = grind (arith, nat_tests) in
      let e2 : x ≡ ticks = grind (arith, nat_tests) in
      let e3 : i ≡ interval = grind (arith, nat_tests) in
      let fit : ticks_fit ticks interval ≡ false = grind (arith, nat_tests) in
      rw (fit, e1, e2, e3) refl
  arm-alone o t ticks interval body k next is comes = absurd (cc)

  rearm-alone : (o t ticks : ℕ) (body : Body) (k : Known) (next : CallStage) → rearm_next t ticks body k ≡ Some next
      → comes_next sys h o body ≡ true → rearm_told (h.clocks t) t ticks ≡ tells body k
  unfolding rearm_next rearm_told comes_next
  rearm-alone o t ticks (item.Rearm u n former x) Nothing next is comes =
      let test : ((u == t) && (x == ticks) && ticks_fit ticks 0) ≡ true = (only-passed _ _ _ is).0 in
      let e1 : u ≡ t = grind (arith, nat_tests) in
      let e2 : x ≡ ticks = grind (arith, nat_tests) in
      let fit : ticks_fit ticks 0 ≡ true = grind (arith, nat_tests) in
      let e3 : n ≡ (h.clocks u).count = grind (arith, nat_tests) in
      let e4 : (h.clocks u).counter ≡ former = grind (arith, nat_tests) in
      rw (fit, sym e1, e2, e3, e4) refl
  rearm-alone o t ticks (item.BadTicks u x i) Nothing next is comes =
      let test : ((u == t) && (x == ticks) && (i == 0) && not (ticks_fit ticks 0)) ≡ true = (only-passed _ _ _ is).0 in
      let e1 : u ≡ t = grind (arith, nat_tests) in
      let e2 : x ≡ ticks = grind (arith, nat_tests) in
      let e3 : i ≡ 0 = grind (arith, nat_tests) in
      let fit : ticks_fit ticks 0 ≡ false = grind (arith, nat_tests) in
      rw (fit, e1, e2, e3) refl
  rearm-alone o t ticks body k next is comes = absurd (cc)

  disarm-alone : (o t : ℕ) (body : Body) (k : Known) (next : CallStage) → disarm_next t body k ≡ Some next
      → comes_next sys h o body ≡ true → disarm_told (h.clocks t) t ≡ tells body k
  unfolding comes_next
  disarm-alone o t (item.Disarm u n former) Nothing next is comes =
      let test : (u == t) ≡ true = (only-passed _ _ _ is).0 in
      let e1 : u ≡ t = grind (arith, nat_tests) in
      let e2 : n ≡ (h.clocks u).count = grind (arith, nat_tests) in
      let e3 : (h.clocks u).counter ≡ former = grind (arith, nat_tests) in
      let on : ((h.clocks u).counter == 0) ≡ false = grind (arith, nat_tests) in
      rw (sym e1, on, e2, e3) refl
  disarm-alone o t (item.Idle u n) Nothing next is comes =
      let test : (u == t) ≡ true = (only-passed _ _ _ is).0 in
      let e1 : u ≡ t = grind (arith, nat_tests) in
      let e2 : n ≡ (h.clocks u).count = grind (arith, nat_tests) in
      let off : ((h.clocks u).counter == 0) ≡ true = grind (arith, nat_tests) in
      rw (sym e1, off, e2) refl
  disarm-alone o t body k next is comes = absurd (cc)

  begin-alone : (o : ℕ) (now : Option Entry) (kept : List Entry) (room : ℕ) (x : Call) (body : Body) (k : Known) (next : CallStage)
      → IsCounted h → begin_next sys o now kept room x body k ≡ Some next → comes_next sys h o body ≡ true → k ≡ known_then h o body
      → begin_told sys h o now kept room x ≡ Some (tells body k)
  unfolding begin_next begin_told
  begin-alone o now kept room (call.Post to sig pars margin reserve) body k next counted is comes known =
      new-alone (is_static sys sig) o kept sig pars reserve (ToQueue to margin (Ends Granted)) body k next counted is comes known
  begin-alone o now kept room (call.Lifo sig pars reserve) body k next counted is comes known =
      new-alone (is_static sys sig) o kept sig pars reserve (ToFront None) body k next counted is comes known
  begin-alone o now kept room (call.Forward to margin) body k next counted is comes known = now-alone o now kept (ToQueue to margin (Ends Granted)) body k next counted is comes
  begin-alone o now kept room (call.Publish sig pars reserve) body k next counted is comes known =
      new-alone (is_static sys sig) o kept sig pars reserve (ToSet sig) body k next counted is comes known
  begin-alone o now kept room call.Defer body k next counted is comes known = defer-alone (nat_lt (length kept) room) o now kept body k next counted is comes
  begin-alone o now kept room call.Recall body k next counted is comes known = ap Some (recall-alone kept body k next is)
  begin-alone o now kept room call.Flush body k next counted is comes known = absurd (cc)
  begin-alone o now kept room (call.Subscribe sig) body k next counted is comes known = ap Some (subscribe-alone o sig body k next is comes known)
  begin-alone o now kept room (call.Unsubscribe sig) body k next counted is comes known = ap Some (unsubscribe-alone o sig body k next is comes known)
  begin-alone o now kept room (call.Arm t ticks interval) body k next counted is comes known =
      ap Some (arm-alone o (timer_number sys.timers o t) ticks interval body k next is comes)
  begin-alone o now kept room (call.Rearm t ticks) body k next counted is comes known = ap Some (rearm-alone o (timer_number sys.timers o t) ticks body k next is comes)
  begin-alone o now kept room (call.Disarm t) body k next counted is comes known = ap Some (disarm-alone o (timer_number sys.timers o t) body k next is comes)

  raise-alone : (o : ℕ) (own : Entry) (a : ℕ) (others : List ℕ) (body : Body) (k : Known) (next : CallStage) → raise_next own a others body k ≡ Some next
      → k ≡ known_then h o body → raised (max h.ceiling a) h.ceiling ≡ tells body k
  unfolding known_then
  raise-alone o own a others (item.Lock c) (Former former) next is known =
      let test : (c == max former a) ≡ true = (only-passed _ _ _ is).0 in
      let e1 : c ≡ max former a = grind (arith, nat_tests) in
      let e2 : former ≡ h.ceiling = cc in
      rw (e1, e2) refl
  raise-alone o own a others body k next is known = absurd (cc)

  restore-alone : (own : Entry) (former : ℕ) (body : Body) (k : Known) (next : CallStage) → restore_next own former body k ≡ Some next → plain (item.Unlock former) ≡ tells body k
  restore-alone own former (item.Unlock c) Nothing next is =
      let test : (c == former) ≡ true = (only-passed _ _ _ is).0 in
      let e1 : c ≡ former = grind (arith, nat_tests) in
      rw e1 refl
  restore-alone own former body k next is = absurd (cc)

  stage-alone : (o : ℕ) (now : Option Entry) (kept : List Entry) (s : CallStage) (body : Body) (k : Known) (next : CallStage)
      → IsCounted h → stage_next sys o now kept s body k ≡ Some next → comes_next sys h o body ≡ true → k ≡ known_then h o body
      → stage_told sys h o now kept s ≡ Some (tells body k)
  unfolding stage_next stage_told
  stage-alone o now kept (Begins room x) body k next counted is comes known = begin-alone o now kept room x body k next counted is comes known
  stage-alone o now kept (Refers p b goal) body k next counted is comes known = ap Some (refer-alone o p b goal body k next is comes)
  stage-alone o now kept (Puts goal e) body k next counted is comes known = ap Some (put-alone o kept goal e body k next counted is comes)
  stage-alone o now kept (Raises own a others) body k next counted is comes known = ap Some (raise-alone o own a others body k next is known)
  stage-alone o now kept (Restores own former) body k next counted is comes known = ap Some (restore-alone own former body k next is)
  stage-alone o now kept (Drops e behind) body k next counted is comes known = ap Some (drop-alone o kept e behind body k next is comes known)
  stage-alone o now kept (Returns p b d behind) body k next counted is comes known = ap Some (return-alone o kept p b d behind body k next is comes)
  stage-alone o now kept (Flushes total) body k next counted is comes known = flush-alone kept total body k next is
  stage-alone o now kept (Whole answer) body k next counted is comes known = absurd (cc)

pub call_goes_on_alone : CallGoesOnAlone
call_goes_on_alone sys h o now kept s next t counted comes is = stage-alone sys h o now kept s t.body t.known next counted is comes.may comes.known

-- an entry's reference that is dropped, and a block that comes back
pub dropped-alone : (sys : System) (h : WordsHeld) (o : ℕ) (e : Entry) (d left : ℕ) → MayComeNext sys h o (dropped e.pool e.block d e.name left)
    → drop_told h e ≡ dropped e.pool e.block d e.name left
unfolding comes_next known_then
dropped-alone sys h o e d left comes =
    let test : comes_next sys h o (item.Dec e.pool e.block d e.name) ≡ true = comes.may in
    let number : d ≡ (h.blocks e.pool e.block).count = grind (arith, nat_tests) in
    let known : Left left ≡ Left (length (without_one e.name (h.blocks e.pool e.block).names)) = comes.known in
    rw (known, sym number) refl

pub returned-alone : (sys : System) (h : WordsHeld) (o p b d n : ℕ) → MayComeNext sys h o (plain (item.Back p n b (d + 1))) → return_told h p b d ≡ plain (item.Back p n b (d + 1))
unfolding comes_next
returned-alone sys h o p b d n comes =
    let test : comes_next sys h o (item.Back p n b (d + 1)) ≡ true = comes.may in
    let number : n ≡ (h.pools p).count = grind (arith, nat_tests) in
    rw (sym number) refl
