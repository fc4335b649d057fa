-- The records of calls, for the tokens that they use: each stands in what the records before have left in the hands.
use Rattle.std.proofs.Common.{◌≡◌, ◌∙◌, ℕ, zero, suc, ◌+◌, ◌<◌, ◌≤◌, ◌==◌, nat_lt, nat_le, Bool, true, false, ◌||◌, List, [], ◌∷◌, ◌++◌, length, refl, sym, ap, subst, arith, ◌⊎◌, inl, inr, Option, Some, None, IsTrue, cond}
use Rattle.std.specs.Prelude.{⊤, drop, map}
use Rattle.std.specs.List.{AllByRecursion, list_any, position}
use Rattle.std.specs.Option.{option_and_then, option_map}
use Rattle.std.proofs.lemmas.Bool.{and_from, and_parts}
use Rattle.std.proofs.lemmas.Bool.Decides.{nat_tests}
use Rattle.std.proofs.lemmas.List.{length-map}
use Rattle.std.proofs.lemmas.List.Quantifiers.{position-Some}
use Rattle.std.proofs.lemmas.Option.{same_Some}
use Rattle.qp_model.specs.declared.systems.System.{System}
use Rattle.qp_model.specs.declared.bodies.Entry.{Entry}
use Rattle.qp_model.specs.declared.bodies.Body.{Body}
use Rattle.qp_model.specs.declared.bodies.Body.TheVariants as item
use Rattle.qp_model.specs.Record.{entry}
use Rattle.qp_model.specs.Told.{Told, Event, plain, told_new, dropped, raised, same_in, told_took}
use Rattle.qp_model.specs.declared.words.Word.{Word}
use Rattle.qp_model.specs.declared.words.Word.TheVariants as word
use Rattle.qp_model.specs.History.{Touch, Draws, Shows, Neither, touch_of}
use Rattle.qp_model.specs.Line.{same_entry, is_front}
use Rattle.qp_model.specs.Calls as call
use Rattle.qp_model.specs.Calls.{Call, Answer, Granted, Refused, Flushed, AtQueue, AtPool, AtTimer, AtTicks, AtFront, is_assertion}
use Rattle.qp_model.specs.Parts.{is_static, sizes_of, first_pool, members, timer_number}
use Rattle.qp_model.specs.Sites.{ring_of}
use Rattle.qp_model.specs.WordLaw.{is_pool, is_object, is_timer}
use Rattle.qp_model.specs.Deferral.{keep, kept_after, KeepsDeferred}
use Rattle.qp_model.specs.Shapes.{Fits, Releases, Drops, releases_by, MakesBlock, MakesNew, NoBlockFor, MakesAgain, again_by, MakesAgainNow, Posts, PostsFront, PostsNew, PostsNewFront, Forwards, PostsOne, PostsToAll, PostsUpTo, raising, restoring, PublishesFirst, PublishesLast, Publishes, Defers, Recalls, Flushes, Subscribes, Unsubscribes, Arms, Rearms, Disarms, answers_ticks, ticks_fit}
use Rattle.qp_model.proofs.FitsLemmas.{calm-drops}
use Rattle.qp_model.proofs.DeferralLemmas.{kept-append, kept-calm}
use Rattle.qp_calls.specs.Counting.{one_if, times, count_of}
use Rattle.qp_calls.specs.Deferring.{tokens_in}
use Rattle.qp_calls.specs.Tokens.{Token, Held, Loose, same_token, token_of, take_out, stands, hands_by}
use Rattle.qp_calls.proofs.CountLemmas.{count_in, count-with, count-without, is_in, tokens-append, count-stands}
use Rattle.qp_calls.proofs.HandLemmas.{same-self, same-equal}
use Rattle.qp_plain_sound.proofs.EndLemmas.{none-loose}
use Rattle.qp_model.proofs.RecordLemmas.{same_entry-is}

-- Counts.

-- taking a token out takes out at most that one
pub count-out : (t x : Token) (hands : List Token) → count_of t hands ≤ count_of t (take_out x hands) + one_if (same_token t x)
unfolding take_out times
count-out t x [] = omega arith
count-out t x (y ∷ ys) = go (same_token x y) refl (count-out t x ys)
  where
    go : (u : Bool) → same_token x y ≡ u → count_of t ys ≤ count_of t (take_out x ys) + one_if (same_token t x) → count_of t (y ∷ ys) ≤ count_of t (cond u ys (y ∷ take_out x ys)) + one_if (same_token t x)
    go true is ih = let same : x ≡ y = same-equal x y is in rw same (omega arith)
    go false is ih = omega (arith, ih)

count-cons : (t x : Token) (hands : List Token) → count_of t (x ∷ hands) ≡ one_if (same_token t x) + count_of t hands
unfolding times
count-cons t x hands = refl

-- an entry of a block is one token
in-pool : (t : Token) (e : Entry) → 0 < e.pool → count_in t e ≡ one_if (same_token t (token_of e))
in-pool t e some = go (e.pool == 0) refl
  where
    go : (u : Bool) → (e.pool == 0) ≡ u → cond u 0 (one_if (same_token t (token_of e))) ≡ one_if (same_token t (token_of e))
    go true is = let none : e.pool ≡ 0 = grind (arith, nat_tests, is) in absurd (omega (arith, some, none))
    go false is = refl

-- a static one is none
in-static : (t : Token) (e : Entry) → e.pool ≡ 0 → count_in t e ≡ 0
in-static t e none = let is : (e.pool == 0) ≡ true = grind (arith, nat_tests, none) in rw is refl

-- no entry is a block without a reference
in-loose : (p b : ℕ) (u : Bool) (e : Entry) → count_in (Loose p b u) e ≡ 0
in-loose p b u e = go (e.pool == 0)
  where
    go : (v : Bool) → cond v 0 (one_if (same_token (Loose p b u) (token_of e))) ≡ 0
    go true = refl
    go false = refl

stands-own : (e : Entry) (F : Token → ℕ) (hands : List Token) → 0 < e.pool → ((t : Token) → count_in t e + F t ≤ count_of t hands) → stands (token_of e) hands ≡ true
stands-own e F hands some within =
    let self : same_token (token_of e) (token_of e) ≡ true = same-self (token_of e) in
    let count : one_if (same_token (token_of e) (token_of e)) ≡ 1 = ap one_if self in
    count-stands (token_of e) hands (let w = within (token_of e) in let p = in-pool (token_of e) e some in omega (arith, w, p, count))

pub is-in-own : (e : Entry) (F : Token → ℕ) (hands : List Token) → ((t : Token) → count_in t e + F t ≤ count_of t hands) → is_in e hands ≡ true
is-in-own e F hands within = go (e.pool == 0) refl
  where
    go : (u : Bool) → (e.pool == 0) ≡ u → (u || stands (token_of e) hands) ≡ true
    go true is = refl
    go false is = let some : 0 < e.pool = grind (arith, nat_tests, is) in stands-own e F hands some within

-- What each record uses.

-- What is claimed of what a call names: objects, signals, timers and events.
pub record Named : Type 1 where
  pub Object : ℕ → Type 0
  pub Signal : ℕ → Type 0
  pub Timer : ℕ → Type 0
  pub Event : ℕ → List ℕ → Type 0

-- What is claimed beside it of pools, blocks, entries, new events, those that an event is posted to, and of a record that the kernel rests;
-- and what is known beside a record.
pub record Claims : Type 1 where
  pub names : Named
  pub Pool : ℕ → Type 0
  pub Block : ℕ → ℕ → Type 0
  pub Good : Entry → Type 0
  pub New : ℕ → ℕ → List ℕ → Type 0
  pub Member : ℕ → Type 0
  pub Rests : Type 0
  pub Knows : Told → Type 0

-- What is claimed follows from what the system has and from what is known: of a block that a pool gives, of a static event, of the entry
-- that a step takes, of the members of a publication.
pub record Rules (sys : System) (P : Claims) : Type 0 where
  pub object : (a : ℕ) → IsTrue (is_object sys a) → P.names.Object a
  pub timer : (t : ℕ) → IsTrue (is_timer sys t) → P.names.Timer t
  pub pool : (p : ℕ) → IsTrue (is_pool sys p) → P.Pool p
  pub new : (p sig : ℕ) (pars : List ℕ) → first_pool (sizes_of sys) (length pars) ≡ Some p → P.names.Event sig pars → P.New p sig pars
  pub made : (p n b from sig free : ℕ) (pars : List ℕ) → IsTrue (is_pool sys p) → P.Knows (told_new p n b from sig pars free) → P.Block p b
  pub good : (p b r : ℕ) → P.Block p b → P.Good (entry p b r)
  pub block : (e : Entry) → 0 < e.pool → P.Good e → P.Block e.pool e.block
  pub static : (sig : ℕ) → is_static sys sig ≡ true → P.Good (entry 0 sig 0)
  pub takes : (f l m : ℕ) (e : Entry) (ev : Event) → P.Knows (told_took f l m e ev) → P.Good e
  pub member : (a : ℕ) → P.names.Object a → P.Member a
  pub subscribed : (sig n set : ℕ) → P.names.Signal sig → P.Knows (plain (item.Pub sig n set)) → AllByRecursion P.Member (members set)

-- the word that a record touches
abbrev pub Has : Claims → Word → Type 0
Has P (word.Pool p) = P.Pool p
Has P (word.Block p b) = P.Block p b
Has P (word.Queue a) = P.names.Object a
Has P (word.Signal sig) = P.names.Signal sig
Has P (word.Timer t) = P.names.Timer t

abbrev pub HasTouched : Claims → Touch → Type 0
HasTouched P (Draws w mark) = Has P w
HasTouched P (Shows w mark) = Has P w
HasTouched P Neither = ⊤

-- a record of object o: what it names is as is claimed, and its tokens stand in the hands
abbrev pub Uses : ℕ → Claims → List Token → Body → Type 0
Uses o P H item.Malformed = ⊥
Uses o P H (item.Rest k) = P.Rests
Uses o P H (item.New p n b from sig pars) = P.New p sig pars
Uses o P H (item.Inc p b r) = P.Block p b × (IsTrue (stands (Loose p b false) H) ⊎ ((k : ℕ) × IsTrue (stands (Held p b k) H)))
Uses o P H (item.Dec p b d k) = P.Block p b × IsTrue (stands (Held p b k) H)
Uses o P H (item.Back p n b to) = P.Block p b × IsTrue (stands (Loose p b true) H)
Uses o P H (item.Post a f l m e) = P.Member a × P.Good e × IsTrue (is_in e H)
Uses o P H (item.Lifo f l m e) = P.names.Object o × P.Good e × IsTrue (is_in e H)
Uses o P H (item.Full a f l m margin) = P.Member a
Uses o P H (item.NoEntry a f l m) = P.Member a
Uses o P H (item.Sub sig n) = P.names.Signal sig × P.names.Object o
Uses o P H (item.Arm t n ticks interval) = P.names.Timer t × IsTrue (ticks_fit ticks interval)
Uses o P H (item.Rearm t n former ticks) = P.names.Timer t × IsTrue (ticks_fit ticks 0)
Uses o P H b = HasTouched P (touch_of o b)

-- the first pool that is large enough is one of the system's
pub first-there : (sys : System) (n p : ℕ) → first_pool (sizes_of sys) n ≡ Some p → IsTrue (is_pool sys p)
unfolding first_pool sizes_of
first-there sys n p h = go (position (λ size. nat_le n size) (map (λ d. d.size) sys.pools)) refl h
  where
    go : (found : Option ℕ) → position (λ size. nat_le n size) (map (λ d. d.size) sys.pools) ≡ found → option_map (λ i. i + 1) found ≡ Some p → IsTrue (is_pool sys p)
    go None e k = absurd (cc)
    go (Some i) e k =
        let is : i + 1 ≡ p = cc in
        let within : i < length (map (λ d. d.size) sys.pools) = (position-Some (λ size. nat_le n size) (map (λ d. d.size) sys.pools) i 0 e).0 in
        let count : length (map (λ d. d.size) sys.pools) ≡ length sys.pools = length-map sys.pools (λ d. d.size) in
        let some : nat_lt 0 p ≡ true = grind (arith, nat_tests, is) in
        let few : nat_le p (length sys.pools) ≡ true = grind (arith, nat_tests, is, within, count) in
        and_from _ _ some few

-- what a call of object o names
abbrev pub CallNames : Named → System → ℕ → Call → Type 0
CallNames N sys o (call.Post to sig pars margin reserve) = N.Object to × N.Event sig pars
CallNames N sys o (call.Lifo sig pars reserve) = N.Object o × N.Event sig pars
CallNames N sys o (call.Forward to margin) = N.Object to
CallNames N sys o (call.Publish sig pars reserve) = N.Signal sig × N.Event sig pars
CallNames N sys o call.Defer = ⊤
CallNames N sys o call.Recall = N.Object o
CallNames N sys o call.Flush = ⊤
CallNames N sys o (call.Subscribe sig) = N.Signal sig × N.Object o
CallNames N sys o (call.Unsubscribe sig) = N.Signal sig
CallNames N sys o (call.Arm t ticks interval) = N.Timer (timer_number sys.timers o t)
CallNames N sys o (call.Rearm t ticks) = N.Timer (timer_number sys.timers o t)
CallNames N sys o (call.Disarm t) = N.Timer (timer_number sys.timers o t)

-- what is asked of a number of each token
abbrev pub Bag : Type 0
Bag = Token → ℕ

abbrev pub Within : Bag → List Token → Type 0
Within B H = (t : Token) → B t ≤ count_of t H

abbrev pub NoLoose : Bag → Type 0
NoLoose B = (p b : ℕ) (u : Bool) → B (Loose p b u) ≡ 0

-- the hands after these records
abbrev pub hands_told : List Token → List Told → List Token
hands_told H [] = H
hands_told H (t ∷ ts) = hands_told (hands_by H t) ts

module _ (sys : System) (o : ℕ) (P : Claims) where
  abbrev pub Known : List Told → Type 0
  Known ts = AllByRecursion P.Knows ts

  -- each record uses what the ones before it have left
  abbrev pub Lin : List Token → List Told → Type 0
  Lin H [] = ⊤
  Lin H (t ∷ ts) = Uses o P H t.body × (P.Knows t → Lin (hands_by H t) ts)

  -- from hands with so much, the records may be made, and leave so much
  abbrev pub Leads : Bag → List Told → Bag → Type 0
  Leads B g S = (H : List Token) → Within B H → Lin H g × (Known g → Within S (hands_told H g))

  pub lin-append : (H : List Token) (g h : List Told) → Lin H g → (Known g → Lin (hands_told H g) h) → Lin H (g ++ h)
  lin-append H [] h l k = k tt
  lin-append H (t ∷ g) h l k = (l.0, λ here. lin-append (hands_by H t) g h (l.1 here) (λ later. k (here, later)))

  pub lin-front : (H : List Token) (g h : List Told) → Lin H (g ++ h) → Lin H g
  lin-front H [] h l = tt
  lin-front H (t ∷ g) h l = (l.0, λ here. lin-front (hands_by H t) g h (l.1 here))

  pub told-append : (H : List Token) (g h : List Told) → hands_told H (g ++ h) ≡ hands_told (hands_told H g) h
  told-append H [] h = refl
  told-append H (t ∷ g) h = told-append (hands_by H t) g h

  pub known-front : (g h : List Told) → Known (g ++ h) → Known g
  known-front [] h k = tt
  known-front (t ∷ g) h k = (k.0, known-front g h k.1)

  pub known-back : (g h : List Told) → Known (g ++ h) → Known h
  known-back [] h k = k
  known-back (t ∷ g) h k = known-back g h k.1

  pub leads-same : (B S : Bag) (g h : List Told) → g ≡ h → Leads B h S → Leads B g S
  leads-same B S g h is l = subst (λ x. Leads B x S) (sym is) l

  pub leads-nil : (B : Bag) → Leads B [] B
  leads-nil B H within = (tt, λ k. within)

  -- the hands may have more, and less may be told of what is left
  pub leads-less : (B C S T : Bag) (g : List Told) → ((t : Token) → B t ≤ C t) → ((t : Token) → T t ≤ S t) → Leads B g S → Leads C g T
  leads-less B C S T g more less l H within =
      let from = l H (λ t. let m = more t in let w = within t in omega (arith, m, w)) in
      (from.0, λ k t. let left = from.1 k t in let few = less t in omega (arith, left, few))

  pub leads-append : (B M S : Bag) (g h : List Told) → Leads B g M → (Known g → Leads M h S) → Leads B (g ++ h) S
  leads-append B M S g h l k H within =
      let first = l H within in (
        lin-append H g h first.0 (λ known. (k known (hands_told H g) (first.1 known)).0),
        λ known.
            let front = known-front g h known in
            subst (Within S) (sym (told-append H g h)) ((k front (hands_told H g) (first.1 front)).1 (known-back g h known)),
      )

  -- a record that does nothing to the hands
  pub still : (B : Bag) (t : Told) → ((H : List Token) → Uses o P H t.body) → ((H : List Token) → hands_by H t ≡ H) → Leads B (t ∷ []) B
  still B t uses same H within = ((uses H, λ k. tt), λ k. subst (Within B) (sym (same H)) within)

  module _ (rules : Rules sys P) where
    -- Blocks.

    drop-one : (e : Entry) (d left : ℕ) (F : Bag) → 0 < e.pool → P.Good e → Leads (λ t. count_in t e + F t) (dropped e.pool e.block d e.name (suc left) ∷ []) F
    unfolding hands_by
    drop-one e d left F some good H within = (
      ((rules.block e some good, stands-own e F H some within), λ k. tt),
      λ k t.
          let out = count-out t (token_of e) H in
          let w = within t in
          let p = in-pool t e some in
          omega (arith, out, w, p),
    )

    drop-last : (e : Entry) (d n : ℕ) (F : Bag) → 0 < e.pool → P.Good e
        → Leads (λ t. count_in t e + F t) (dropped e.pool e.block d e.name 0 ∷ plain (item.Back e.pool n e.block (d + 1)) ∷ []) F
    unfolding hands_by take_out stands
    drop-last e d n F some good H within = (
      ((rules.block e some good, stands-own e F H some within), λ k. ((rules.block e some good, loose), λ j. tt)),
      λ k t.
          let out = count-out t (token_of e) H in
          let w = within t in
          let p = in-pool t e some in
          let gone : count_of t (cond (same_token own own) rest (own ∷ take_out own rest)) ≡ count_of t rest = ap (λ u. count_of t (cond u rest (own ∷ take_out own rest))) (same-self own) in
          omega (arith, out, w, p, gone),
    )
      where
        own : Token
        own = Loose e.pool e.block true

        rest : List Token
        rest = take_out (token_of e) H

        loose : (same_token own own || list_any (λ x. same_token own x) rest) ≡ true
        loose = ap (λ u. u || list_any (λ x. same_token own x) rest) (same-self own)

    pub drops-leads : (e : Entry) (g : List Told) (F : Bag) → P.Good e → Drops e g → Leads (λ t. count_in t e + F t) g F
    unfolding Drops releases_by
    drops-leads e g F good h = go e.pool refl h
      where
        from : 0 < e.pool → Releases e.pool e.block e.name g → Leads (λ t. count_in t e + F t) g F
        from some (inl (d, left, is)) = leads-same (λ t. count_in t e + F t) F g _ is (drop-one e d left F some good)
        from some (inr (d, n, is)) = leads-same (λ t. count_in t e + F t) F g _ is (drop-last e d n F some good)

        go : (p : ℕ) → e.pool ≡ p → releases_by p e g → Leads (λ t. count_in t e + F t) g F
        go zero is h = leads-same (λ t. count_in t e + F t) F g [] h (leads-less F (λ t. count_in t e + F t) F F [] (λ t. omega arith) (λ t. omega arith) (leads-nil F))
        go (suc p) is h = from (omega (arith, is)) h

    -- a head leaves its entry in the hands
    abbrev pub Heads : Bag → List Told → Entry → Type 0
    Heads F head e = Leads F head (λ t. count_in t e + F t) × (Known head → P.Good e)

    new-block : (p n b from sig free r : ℕ) (pars : List ℕ) (F : Bag) → first_pool (sizes_of sys) (length pars) ≡ Some p → P.names.Event sig pars
        → Leads F (told_new p n b from sig pars free ∷ plain (item.Inc p b r) ∷ []) (λ t. count_in t (entry p b r) + F t)
    unfolding hands_by take_out stands
    new-block p n b from sig free r pars F first event H within = (
      (rules.new p sig pars first event, λ k. ((rules.made p n b from sig free pars pool k, inl loose), λ j. tt)),
      λ k t.
          let w = within t in
          let some : 0 < p = above p pool in
          let is = in-pool t (entry p b r) some in
          let gone : count_of t (cond (same_token own own) H (own ∷ take_out own H)) ≡ count_of t H = ap (λ u. count_of t (cond u H (own ∷ take_out own H))) (same-self own) in
          let more = count-cons t (Held p b r) (cond (same_token own own) H (own ∷ take_out own H)) in
          omega (arith, w, is, gone, more),
    )
      where
        pool : IsTrue (is_pool sys p)
        pool = first-there sys (length pars) p first

        own : Token
        own = Loose p b false

        loose : (same_token own own || list_any (λ x. same_token own x) H) ≡ true
        loose = ap (λ u. u || list_any (λ x. same_token own x) H) (same-self own)

        above : (p : ℕ) → IsTrue (is_pool sys p) → 0 < p
        above p h = let test : nat_lt 0 p ≡ true = (and_parts (nat_lt 0 p) (nat_le p (length sys.pools)) h).0 in grind (arith, nat_tests, test)

    new-head : (fixed : Bool) (sig : ℕ) (pars : List ℕ) (reserve : Option ℕ) (head : List Told) (e : Entry) (F : Bag) → is_static sys sig ≡ fixed → P.names.Event sig pars
        → MakesNew fixed (sizes_of sys) sig pars reserve head e → Heads F head e
    unfolding MakesNew MakesBlock
    new-head true sig pars reserve head e F fixed event (is, at) = (
      leads-same F (λ t. count_in t e + F t) head [] is
          (leads-less F F F (λ t. count_in t e + F t) [] (λ t. omega arith) (λ t. let none = in-static t e (ap (λ x. x.pool) at) in omega (arith, none)) (leads-nil F)),
      λ k. subst P.Good (sym at) (rules.static sig fixed),
    )
    new-head false sig pars reserve head e F fixed event (p, n, b, from, free, r, is, at, first, more) =
        let pool : IsTrue (is_pool sys p) = first-there sys (length pars) p first in (
          leads-same F (λ t. count_in t e + F t) head _ is
              (subst (λ x. Leads F (told_new p n b from sig pars free ∷ plain (item.Inc p b r) ∷ []) (λ t. count_in t x + F t)) (sym at) (new-block p n b from sig free r pars F first event)),
          λ k. subst P.Good (sym at) (rules.good p b r (rules.made p n b from sig free pars pool (subst Known is k).0)),
        )

    no_block-leads : (fixed : Bool) (pars : List ℕ) (reserve : Option ℕ) (answer : Answer) (g : List Told) (F : Bag) → NoBlockFor fixed (sizes_of sys) pars reserve answer g → Leads F g F
    unfolding NoBlockFor hands_by
    no_block-leads fixed pars None AtPool g F (p, n, free, pooled, first, is) =
        leads-same F F g _ is (still F (plain (item.NoBlock p n free)) (λ H. rules.pool p (first-there sys (length pars) p first)) (λ H. refl))
    no_block-leads fixed pars (Some r) Refused g F (p, n, free, pooled, first, is) =
        leads-same F F g _ is (still F (plain (item.Short p n free r)) (λ H. rules.pool p (first-there sys (length pars) p first)) (λ H. refl))
    no_block-leads fixed pars reserve answer g F h = absurd h

    -- another reference beside one in the hands
    again-one : (old : Entry) (r : ℕ) (F : Bag) → 0 < old.pool → P.Good old → NoLoose F
        → Leads (λ t. count_in t old + F t) (plain (item.Inc old.pool old.block r) ∷ []) (λ t. count_in t (entry old.pool old.block r) + (count_in t old + F t))
    unfolding hands_by
    again-one old r F some good none H within = (((rules.block old some good, inr (old.name, stands-own old F H some within)), λ k. tt), λ k t. go t)
      where
        go : (t : Token) → count_in t (entry old.pool old.block r) + (count_in t old + F t) ≤ count_of t (Held old.pool old.block r ∷ take_out (Loose old.pool old.block false) H)
        go (Held q c s) =
            let w = within (Held q c s) in
            let out = count-out (Held q c s) (Loose old.pool old.block false) H in
            let more = count-cons (Held q c s) (Held old.pool old.block r) (take_out (Loose old.pool old.block false) H) in
            let is = in-pool (Held q c s) (entry old.pool old.block r) some in
            omega (arith, w, out, more, is)
        go (Loose q c u) =
            let first = in-loose q c u (entry old.pool old.block r) in
            let second = in-loose q c u old in
            let third = none q c u in
            omega (arith, first, second, third)

    again-head : (old : Entry) (head : List Told) (e : Entry) (F : Bag) → P.Good old → NoLoose F → MakesAgain old head e
        → Leads (λ t. count_in t old + F t) head (λ t. count_in t e + (count_in t old + F t)) × (P.Good e)
    unfolding MakesAgain again_by
    again-head old head e F good none h = go old.pool refl h
      where
        B : Bag
        B = λ t. count_in t old + F t

        go : (p : ℕ) → old.pool ≡ p → again_by p old head e → Leads B head (λ t. count_in t e + B t) × (P.Good e)
        go zero at (is, same) = (
          leads-same B (λ t. count_in t e + B t) head [] is
              (leads-less B B B (λ t. count_in t e + B t) [] (λ t. omega arith) (λ t. let no = in-static t e (ap (λ x. x.pool) same ∙ at) in omega (arith, no)) (leads-nil B)),
          subst P.Good (sym same) good,
        )
        go (suc p) at (r, is, same) =
            let some : 0 < old.pool = omega (arith, at) in (
              leads-same B (λ t. count_in t e + B t) head _ is
                  (subst (λ x. Leads B (plain (item.Inc old.pool old.block r) ∷ []) (λ t. count_in t x + B t)) (sym same) (again-one old r F some good none)),
              subst P.Good (sym same) (rules.good old.pool old.block r (rules.block old some good)),
            )

    -- an entry in the hands goes into a queue
    pub post-one : (a f l m : ℕ) (e : Entry) (F : Bag) → P.Member a → P.Good e → Leads (λ t. count_in t e + F t) (plain (item.Post a f l m e) ∷ []) F
    unfolding hands_by
    post-one a f l m e F object good H within = (
      ((object, good, is-in-own e F H within), λ k. tt),
      λ k t. let w = within t in let left = count-without t e H (is-in-own e F H within) in omega (arith, w, left),
    )

    lifo-one : (f l m : ℕ) (e : Entry) (F : Bag) → P.names.Object o → P.Good e → Leads (λ t. count_in t e + F t) (plain (item.Lifo f l m e) ∷ []) F
    unfolding hands_by
    lifo-one f l m e F object good H within = (
      ((object, good, is-in-own e F H within), λ k. tt),
      λ k t. let w = within t in let left = count-without t e H (is-in-own e F H within) in omega (arith, w, left),
    )

    posts-leads : (ring to : ℕ) (margin : Option ℕ) (head : List Told) (e : Entry) (answer : Answer) (g : List Told) (B F : Bag) → P.Member to
        → Leads B head (λ t. count_in t e + F t) → (Known head → P.Good e) → Posts ring to margin head e answer g → Leads B g F
    unfolding Posts hands_by
    posts-leads ring to margin head e Granted g B F object made good (f, l, m, is, room) =
        leads-same B F g _ is (leads-append B (λ t. count_in t e + F t) F head _ made (λ k. post-one to f l m e F object (good k)))
    posts-leads ring to (Some n) head e Refused g B F object made good (f, l, m, rel, is, drops) =
        leads-same B F g _ is
        (leads-append B (λ t. count_in t e + F t) F head (plain (item.Full to f l m n) ∷ rel) made
        (λ k. leads-append (λ t. count_in t e + F t) (λ t. count_in t e + F t) F (plain (item.Full to f l m n) ∷ []) rel (still (λ t. count_in t e + F t) (plain (item.Full to f l m n)) (λ H. object) (λ H. refl))
        (λ j. drops-leads e rel F (good k) drops)))
    posts-leads ring to None head e AtQueue g B F object made good (f, l, m, is) =
        leads-same B F g _ is
        (leads-append B (λ t. count_in t e + F t) F head _ made
        (λ k. leads-less (λ t. count_in t e + F t) (λ t. count_in t e + F t) (λ t. count_in t e + F t) F (plain (item.NoEntry to f l m) ∷ []) (λ t. omega arith) (λ t. omega arith)
        (still (λ t. count_in t e + F t) (plain (item.NoEntry to f l m)) (λ H. object) (λ H. refl))))
    posts-leads ring to margin head e answer g B F object made good h = absurd h

    front-leads : (head : List Told) (e : Entry) (answer : Answer) (g : List Told) (B F : Bag) → P.names.Object o
        → Leads B head (λ t. count_in t e + F t) → (Known head → P.Good e) → PostsFront o head e answer g → Leads B g F
    unfolding PostsFront hands_by
    front-leads head e Granted g B F object made good (f, l, m, is) =
        leads-same B F g _ is (leads-append B (λ t. count_in t e + F t) F head _ made (λ k. lifo-one f l m e F object (good k)))
    front-leads head e AtFront g B F object made good (f, l, m, is) =
        leads-same B F g _ is
        (leads-append B (λ t. count_in t e + F t) F head _ made
        (λ k. leads-less (λ t. count_in t e + F t) (λ t. count_in t e + F t) (λ t. count_in t e + F t) F (plain (item.NoLifo o f l m) ∷ []) (λ t. omega arith) (λ t. omega arith)
        (still (λ t. count_in t e + F t) (plain (item.NoLifo o f l m)) (λ H. object) (λ H. refl))))
    front-leads head e answer g B F object made good h = absurd h

    -- Publications.

    post_one-leads : (ring : ℕ) (e : Entry) (to : ℕ) (answer : Answer) (g : List Told) (F : Bag) → P.Member to → P.Good e → NoLoose F → PostsOne ring e to answer g
        → Leads (λ t. count_in t e + F t) g (λ t. count_in t e + F t)
    unfolding PostsOne
    post_one-leads ring e to answer g F object good none (head, again, makes, posts) =
        let made = again-head e head again F good none makes in
        posts-leads ring to None head again answer g (λ t. count_in t e + F t) (λ t. count_in t e + F t) object made.0 (λ k. made.1) posts

    all-leads : (e : Entry) (ms : List ℕ) (g : List Told) (F : Bag) → AllByRecursion P.Member ms → P.Good e → NoLoose F → PostsToAll (ring_of sys) e ms g
        → Leads (λ t. count_in t e + F t) g (λ t. count_in t e + F t)
    unfolding PostsToAll
    all-leads e [] g F objects good none h = leads-same (λ t. count_in t e + F t) (λ t. count_in t e + F t) g [] h (leads-nil (λ t. count_in t e + F t))
    all-leads e (a ∷ others) g F objects good none (first, rest, is, post, posts) =
        leads-same (λ t. count_in t e + F t) (λ t. count_in t e + F t) g (first ++ rest) is
        (leads-append (λ t. count_in t e + F t) (λ t. count_in t e + F t) (λ t. count_in t e + F t) first rest (post_one-leads (ring_of sys a) e a Granted first F objects.0 good none post)
        (λ k. all-leads e others rest F objects.1 good none posts))

    up_to-leads : (e : Entry) (ms : List ℕ) (g : List Told) (F : Bag) → AllByRecursion P.Member ms → P.Good e → NoLoose F → PostsUpTo (ring_of sys) e ms g
        → Leads (λ t. count_in t e + F t) g (λ t. count_in t e + F t)
    unfolding PostsUpTo
    up_to-leads e [] g F objects good none h = absurd h
    up_to-leads e (a ∷ others) g F objects good none (inl post) = post_one-leads (ring_of sys a) e a AtQueue g F objects.0 good none post
    up_to-leads e (a ∷ others) g F objects good none (inr (first, rest, is, post, posts)) =
        leads-same (λ t. count_in t e + F t) (λ t. count_in t e + F t) g (first ++ rest) is
        (leads-append (λ t. count_in t e + F t) (λ t. count_in t e + F t) (λ t. count_in t e + F t) first rest (post_one-leads (ring_of sys a) e a Granted first F objects.0 good none post)
        (λ k. up_to-leads e others rest F objects.1 good none posts))

    raising-leads : (p former : ℕ) (ms : List ℕ) (F : Bag) → Leads F (raising p former ms) F
    unfolding raising hands_by
    raising-leads p former [] F = leads-nil F
    raising-leads zero former (a ∷ others) F = leads-nil F
    raising-leads (suc p) former (a ∷ others) F = still F (raised _ former) (λ H. tt) (λ H. refl)

    restoring-leads : (p former : ℕ) (ms : List ℕ) (F : Bag) → Leads F (restoring p former ms) F
    unfolding restoring hands_by
    restoring-leads p former [] F = leads-nil F
    restoring-leads zero former (a ∷ others) F = leads-nil F
    restoring-leads (suc p) former (a ∷ others) F = still F (plain (item.Unlock former)) (λ H. tt) (λ H. refl)

    -- a publication up to its first post
    record First (F : Bag) (g : List Told) (e : Entry) (ms : List ℕ) : Type 0 where
      leads : Leads F g (λ t. count_in t e + F t)
      good : Known g → P.Good e
      all : Known g → AllByRecursion P.Member ms

    first-leads : (fixed : Bool) (sig : ℕ) (pars : List ℕ) (reserve : Option ℕ) (e : Entry) (former : ℕ) (ms : List ℕ) (g : List Told) (F : Bag) → is_static sys sig ≡ fixed → P.names.Signal sig
        → P.names.Event sig pars → PublishesFirst fixed (sizes_of sys) o sig pars reserve e former ms g → First F g e ms
    unfolding PublishesFirst hands_by
    first-leads fixed sig pars reserve e former ms g F is_fixed signal event (head, n, set, makes, members_are, is) =
        let made = new-head fixed sig pars reserve head e F is_fixed event makes in
        let M : Bag = λ t. count_in t e + F t in
        let rest : List Told = plain (item.Pub sig n set) ∷ raising o former ms in
        record {
          leads = leads-same F M g (head ++ rest) is
              (leads-append F M M head rest made.0
              (λ k. leads-append M M M (plain (item.Pub sig n set) ∷ []) (raising o former ms) (still M (plain (item.Pub sig n set)) (λ H. signal) (λ H. refl)) (λ j. raising-leads o former ms M)));
          good = λ k. made.1 (known-front head rest (subst Known is k));
          all = λ k. subst (AllByRecursion P.Member) (sym members_are) (rules.subscribed sig n set signal (known-back head rest (subst Known is k)).0);
        }

    last-leads : (e : Entry) (former : ℕ) (ms : List ℕ) (g : List Told) (F : Bag) → P.Good e → PublishesLast o e former ms g → Leads (λ t. count_in t e + F t) g F
    unfolding PublishesLast
    last-leads e former ms g F good (rel, drops, is) =
        leads-same (λ t. count_in t e + F t) F g (restoring o former ms ++ rel) is
        (leads-append (λ t. count_in t e + F t) (λ t. count_in t e + F t) F (restoring o former ms) rel (restoring-leads o former ms (λ t. count_in t e + F t)) (λ k. drops-leads e rel F good drops))

    publishes-leads : (fixed : Bool) (sig : ℕ) (pars : List ℕ) (reserve : Option ℕ) (answer : Answer) (g : List Told) (F : Bag) → is_static sys sig ≡ fixed → P.names.Signal sig
        → P.names.Event sig pars → NoLoose F → Publishes fixed (sizes_of sys) (ring_of sys) o sig pars reserve answer g → Leads F g F
    unfolding Publishes
    publishes-leads fixed sig pars reserve Granted g F is_fixed signal event none (e, former, ms, first, posts, last, begins, all, ends, is) =
        let begun = first-leads fixed sig pars reserve e former ms first F is_fixed signal event begins in
        let M : Bag = λ t. count_in t e + F t in
        leads-same F F g (first ++ (posts ++ last)) is
        (leads-append F M F first (posts ++ last) begun.leads
        (λ k. leads-append M M F posts last (all-leads e ms posts F (begun.all k) (begun.good k) none all) (λ j. last-leads e former ms last F (begun.good k) ends)))
    publishes-leads fixed sig pars reserve AtQueue g F is_fixed signal event none (e, former, ms, first, posts, begins, all, is) =
        let begun = first-leads fixed sig pars reserve e former ms first F is_fixed signal event begins in
        let M : Bag = λ t. count_in t e + F t in
        leads-same F F g (first ++ posts) is
        (leads-append F M F first posts begun.leads
        (λ k. leads-less M M M F posts (λ t. omega arith) (λ t. omega arith) (up_to-leads e ms posts F (begun.all k) (begun.good k) none all)))
    publishes-leads fixed sig pars reserve answer g F is_fixed signal event none h = no_block-leads fixed pars reserve answer g F h

    -- Deferral.

    abbrev pub AllGood : List Entry → Type 0
    AllGood es = AllByRecursion P.Good es

    abbrev pub bag_of : List Entry → Bag
    bag_of es = λ t. count_of t (tokens_in es)

    good-more : (es : List Entry) (e : Entry) → AllGood es → P.Good e → AllGood (es ++ e ∷ [])
    good-more [] e all good = (good, tt)
    good-more (x ∷ xs) e all good = (all.0, good-more xs e all.1 good)

    -- what a call leaves of the deferred list: its entries are good, and their tokens stand
    record Keeps (B : Bag) (g : List Told) (new : List Entry) (F : Bag) : Type 0 where
      leads : Leads B g (λ t. bag_of new t + F t)
      good : Known g → AllGood new

    -- the deferral adds the entry at the end
    deferred : (room : ℕ) (old new : List Entry) (head : List Told) (e : Entry) → kept_after room old (head ++ plain (item.Defer e) ∷ []) ≡ Some new → kept_after room old head ≡ Some old → new ≡ old ++ e ∷ []
    unfolding kept_after keep
    deferred room old new head e kept calm = go (nat_lt (length old) room) (sym (kept-append room old old head (plain (item.Defer e) ∷ []) calm) ∙ kept)
      where
        go : (fits : Bool) → option_and_then (λ rest. Some rest) (cond fits (Some (old ++ e ∷ [])) None) ≡ Some new → new ≡ old ++ e ∷ []
        go true h = sym (same_Some _ _ h)
        go false h = absurd (cc)

    calm-again : (room : ℕ) (kept : List Entry) (old : Entry) (head : List Told) (e : Entry) → MakesAgain old head e → kept_after room kept head ≡ Some kept
    unfolding MakesAgain again_by kept_after keep
    calm-again room kept old head e h = go old.pool h
      where
        go : (p : ℕ) → again_by p old head e → kept_after room kept head ≡ Some kept
        go zero (is, same) = subst (λ x. kept_after room kept x ≡ Some kept) (sym is) refl
        go (suc p) (r, is, same) = subst (λ x. kept_after room kept x ≡ Some kept) (sym is) refl

    refused-defer : (room : ℕ) (old new : List Entry) → kept_after room old (plain item.NoDefer ∷ []) ≡ Some new → new ≡ old
    unfolding kept_after keep
    refused-defer room old new h = go (nat_lt (length old) room) h
      where
        go : (fits : Bool) → option_and_then (λ rest. Some rest) (cond fits None (Some old)) ≡ Some new → new ≡ old
        go true h = absurd (cc)
        go false h = sym (same_Some _ _ h)

    refused-recall : (room : ℕ) (old new : List Entry) → kept_after room old (plain item.NoRecall ∷ []) ≡ Some new → new ≡ old
    unfolding kept_after keep
    refused-recall room old new h = go (length old == 0) h
      where
        go : (none : Bool) → option_and_then (λ rest. Some rest) (cond none (Some old) None) ≡ Some new → new ≡ old
        go true h = sym (same_Some _ _ h)
        go false h = absurd (cc)

    defers-keeps : (now : Entry) (room : ℕ) (old new : List Entry) (answer : Answer) (g : List Told) (F : Bag) → P.Good now → AllGood old → NoLoose F
        → Defers (Some now) answer g → kept_after room old g ≡ Some new
        → Keeps (λ t. count_in t now + (bag_of old t + F t)) g new (λ t. count_in t now + F t)
    unfolding Defers MakesAgainNow hands_by
    defers-keeps now room old new Granted g F good all none (head, e, makes, is) kept =
        let G : Bag = λ t. bag_of old t + F t in
        let B : Bag = λ t. count_in t now + G t in
        let made = again-head now head e G good (λ p b u. let one_of = none-loose p b u old in let two_of = none p b u in omega (arith, one_of, two_of)) makes in
        let whole : new ≡ old ++ e ∷ [] = deferred room old new head e (subst (λ x. kept_after room old x ≡ Some new) is kept) (calm-again room old now head e makes) in
        record {
          leads = leads-same B (λ t. bag_of new t + (count_in t now + F t)) g _ is
              (leads-append B (λ t. count_in t e + B t) (λ t. bag_of new t + (count_in t now + F t)) head (plain (item.Defer e) ∷ []) made.0
              (λ k. leads-less (λ t. count_in t e + B t) (λ t. count_in t e + B t) (λ t. count_in t e + B t) (λ t. bag_of new t + (count_in t now + F t)) (plain (item.Defer e) ∷ []) (λ t. omega arith)
              (λ t. let more = ap (λ es. count_of t (tokens_in es)) whole in let sum = tokens-append t old e in omega (arith, more, sum))
              (still (λ t. count_in t e + B t) (plain (item.Defer e)) (λ H. tt) (λ H. refl))));
          good = λ k. subst AllGood (sym whole) (good-more old e all made.1);
        }
    defers-keeps now room old new Refused g F good all none is kept =
        let same : new ≡ old = refused-defer room old new (subst (λ x. kept_after room old x ≡ Some new) is kept) in
        let B : Bag = λ t. count_in t now + (bag_of old t + F t) in
        record {
          leads = leads-same B (λ t. bag_of new t + (count_in t now + F t)) g _ is
              (leads-less B B B (λ t. bag_of new t + (count_in t now + F t)) (plain item.NoDefer ∷ []) (λ t. omega arith)
              (λ t. let more = ap (λ es. count_of t (tokens_in es)) same in omega (arith, more)) (still B (plain item.NoDefer) (λ H. tt) (λ H. refl)));
          good = λ k. subst AllGood (sym same) all;
        }
    defers-keeps now room old new answer g F good all none h kept = absurd h

    -- the entry recalled or flushed is the oldest
    record Oldest (room : ℕ) (old new : List Entry) (k : Entry) (rest : List Told) : Type 0 where
      others : List Entry
      whole : old ≡ k ∷ others
      behind : kept_after room others rest ≡ Some new

    oldest : (room : ℕ) (old new : List Entry) (k : Entry) (rest : List Told) → option_and_then (λ next. kept_after room next rest) (cond (is_front k old) (Some (drop 1 old)) None) ≡ Some new → Oldest room old new k rest
    oldest room [] new k rest h = absurd (cc)
    oldest room (x ∷ xs) new k rest h = go (same_entry x k) refl h
      where
        go : (u : Bool) → same_entry x k ≡ u → option_and_then (λ next. kept_after room next rest) (cond u (Some xs) None) ≡ Some new → Oldest room (x ∷ xs) new k rest
        go true is h = record { others = xs; whole = ap (λ y. y ∷ xs) (same_entry-is x k is); behind = h }
        go false is h = absurd (cc)

    recalled : (room : ℕ) (old new : List Entry) (k : Entry) (rest : List Told) → kept_after room old (plain (item.Recall k) ∷ rest) ≡ Some new → Oldest room old new k rest
    unfolding kept_after keep
    recalled room old new k rest h = oldest room old new k rest h

    flushed : (room : ℕ) (old new : List Entry) (k : Entry) (rest : List Told) → kept_after room old (plain (item.Flush k) ∷ rest) ≡ Some new → Oldest room old new k rest
    unfolding kept_after keep
    flushed room old new k rest h = oldest room old new k rest h

    -- its token is one of those that stand for the list
    front-counts : (old others : List Entry) (k : Entry) (t : Token) → old ≡ k ∷ others → bag_of old t ≡ count_in t k + bag_of others t
    front-counts old others k t is = ap (λ es. count_of t (tokens_in es)) is ∙ count-with t k (tokens_in others)

    front-leads_of : (e : Entry) (g : List Told) (answer : Answer) (B F : Bag) (head : List Told) → P.names.Object o → Leads B head (λ t. count_in t e + F t) → P.Good e → PostsFront o head e answer g → Leads B g F
    front-leads_of e g answer B F head object made good posts = front-leads head e answer g B F object made (λ k. good) posts

    -- the records behind a recalled entry's post leave the list without it
    recall-calm : (room : ℕ) (others new : List Entry) (k e : Entry) (head one_if rel : List Told) → MakesAgain k head e → PostsFront o head e Granted one_if → Drops k rel → kept_after room others (one_if ++ rel) ≡ Some new → new ≡ others
    unfolding PostsFront kept_after keep
    recall-calm room others new k e head one_if rel makes (f, l, m, is) drops kept =
        let first : kept_after room others head ≡ Some others = calm-again room others k head e makes in
        let second : kept_after room others one_if ≡ Some others = subst (λ x. kept_after room others x ≡ Some others) (sym is) (kept-append room others others head _ first) in
        let third : kept_after room others rel ≡ Some others = kept-calm room others rel (calm-drops k rel drops) in
        same_Some _ _ (sym kept ∙ kept-append room others others one_if rel second ∙ third)

    recalls-keeps : (room : ℕ) (old new : List Entry) (answer : Answer) (g : List Told) (F : Bag) → P.names.Object o → AllGood old → NoLoose F → is_assertion answer ≡ false
        → Recalls o answer g → kept_after room old g ≡ Some new → Keeps (λ t. bag_of old t + F t) g new F
    unfolding Recalls hands_by
    recalls-keeps room old new Granted g F object all none calm (k, e, head, one_if, rel, makes, posts, drops, is) kept =
        let at = recalled room old new k (one_if ++ rel) (subst (λ x. kept_after room old x ≡ Some new) is kept) in
        let both = subst AllGood at.whole all in
        let R : Bag = λ t. bag_of at.others t + F t in
        let B : Bag = λ t. bag_of old t + F t in
        let K : Bag = λ t. count_in t k + R t in
        let same : new ≡ at.others = recall-calm room at.others new k e head one_if rel makes posts drops at.behind in
        let made = again-head k head e R both.0 (λ p b u. let one_of = none-loose p b u at.others in let two_of = none p b u in omega (arith, one_of, two_of)) makes in
        record {
          leads = leads-same B (λ t. bag_of new t + F t) g _ is
              (leads-less K B R (λ t. bag_of new t + F t) (plain (item.Recall k) ∷ (one_if ++ rel)) (λ t. let first = front-counts old at.others k t at.whole in omega (arith, first))
              (λ t. let more = ap (λ es. count_of t (tokens_in es)) same in omega (arith, more))
              (leads-append K K R (plain (item.Recall k) ∷ []) (one_if ++ rel) (still K (plain (item.Recall k)) (λ H. tt) (λ H. refl))
              (λ j. leads-append K K R one_if rel (front-leads_of e one_if Granted K K head object made.0 made.1 posts) (λ i. drops-leads k rel R both.0 drops))));
          good = λ j. subst AllGood (sym same) both.1;
        }
    recalls-keeps room old new Refused g F object all none calm is kept =
        let same : new ≡ old = refused-recall room old new (subst (λ x. kept_after room old x ≡ Some new) is kept) in
        let B : Bag = λ t. bag_of old t + F t in
        record {
          leads = leads-same B (λ t. bag_of new t + F t) g _ is
              (leads-less B B B (λ t. bag_of new t + F t) (plain item.NoRecall ∷ []) (λ t. omega arith) (λ t. let more = ap (λ es. count_of t (tokens_in es)) same in omega (arith, more))
              (still B (plain item.NoRecall) (λ H. tt) (λ H. refl)));
          good = λ k. subst AllGood (sym same) all;
        }
    recalls-keeps room old new AtFront g F object all none calm h kept = absurd (cc)
    recalls-keeps room old new answer g F object all none calm h kept = absurd h

    -- an assertion ends the list: what it leaves is no matter
    recalls-ends : (room : ℕ) (old new : List Entry) (g : List Told) (F : Bag) → P.names.Object o → AllGood old → NoLoose F
        → Recalls o AtFront g → kept_after room old g ≡ Some new → Leads (λ t. bag_of old t + F t) g (λ t. 0)
    unfolding Recalls hands_by
    recalls-ends room old new g F object all none (k, e, head, one_if, makes, posts, is) kept =
        let at = recalled room old new k one_if (subst (λ x. kept_after room old x ≡ Some new) is kept) in
        let both = subst AllGood at.whole all in
        let R : Bag = λ t. bag_of at.others t + F t in
        let B : Bag = λ t. bag_of old t + F t in
        let K : Bag = λ t. count_in t k + R t in
        let made = again-head k head e R both.0 (λ p b u. let one_of = none-loose p b u at.others in let two_of = none p b u in omega (arith, one_of, two_of)) makes in
        leads-same B (λ t. 0) g _ is
        (leads-less K B K (λ t. 0) (plain (item.Recall k) ∷ one_if) (λ t. let first = front-counts old at.others k t at.whole in omega (arith, first)) (λ t. omega arith)
        (leads-append K K K (plain (item.Recall k) ∷ []) one_if (still K (plain (item.Recall k)) (λ H. tt) (λ H. refl)) (λ j. front-leads_of e one_if AtFront K K head object made.0 made.1 posts)))

    flushes-keeps : (room n : ℕ) (old new : List Entry) (g : List Told) (F : Bag) → AllGood old → Flushes n g → kept_after room old g ≡ Some new → Keeps (λ t. bag_of old t + F t) g new F
    unfolding Flushes hands_by kept_after
    flushes-keeps room zero old new g F all is kept =
        let same : new ≡ old = sym (same_Some _ _ (subst (λ x. kept_after room old x ≡ Some new) is kept)) in
        let B : Bag = λ t. bag_of old t + F t in
        record {
          leads = leads-same B (λ t. bag_of new t + F t) g [] is
              (leads-less B B B (λ t. bag_of new t + F t) [] (λ t. omega arith) (λ t. let more = ap (λ es. count_of t (tokens_in es)) same in omega (arith, more)) (leads-nil B));
          good = λ k. subst AllGood (sym same) all;
        }
    flushes-keeps room (suc n) old new g F all (k, rel, rest, drops, flushes, is) kept =
        let at = flushed room old new k (rel ++ rest) (subst (λ x. kept_after room old x ≡ Some new) is kept) in
        let both = subst AllGood at.whole all in
        let R : Bag = λ t. bag_of at.others t + F t in
        let B : Bag = λ t. bag_of old t + F t in
        let K : Bag = λ t. count_in t k + R t in
        let S : Bag = λ t. bag_of new t + F t in
        let calm : kept_after room at.others rel ≡ Some at.others = kept-calm room at.others rel (calm-drops k rel drops) in
        let later = flushes-keeps room n at.others new rest F both.1 flushes (sym (kept-append room at.others at.others rel rest calm) ∙ at.behind) in
        record {
          leads = leads-same B S g _ is
              (leads-less K B S S (plain (item.Flush k) ∷ (rel ++ rest)) (λ t. let first = front-counts old at.others k t at.whole in omega (arith, first)) (λ t. omega arith)
              (leads-append K K S (plain (item.Flush k) ∷ []) (rel ++ rest) (still K (plain (item.Flush k)) (λ H. tt) (λ H. refl))
              (λ j. leads-append K R S rel rest (drops-leads k rel R both.0 drops) (λ i. later.leads))));
          good = λ j. later.good (known-back rel rest (subst Known is j).1);
        }

    -- All calls.

    abbrev pub now_bag : Option Entry → Bag
    now_bag None = λ t. 0
    now_bag (Some e) = λ t. count_in t e

    abbrev pub NowGood : Option Entry → Type 0
    NowGood None = ⊤
    NowGood (Some e) = P.Good e

    now-loose : (now : Option Entry) (G : Bag) → NoLoose G → NoLoose (λ t. now_bag now t + G t)
    now-loose None G none p b u = let is = none p b u in omega (arith, is)
    now-loose (Some e) G none p b u = let is = none p b u in let no = in-loose p b u e in omega (arith, is, no)

    -- a call that leaves the deferred list
    abbrev leaves_list : Call → Bool
    leaves_list call.Defer = false
    leaves_list call.Recall = false
    leaves_list call.Flush = false
    leaves_list _ = true

    new-leads : (fixed : Bool) (ring to sig : ℕ) (pars : List ℕ) (margin reserve : Option ℕ) (answer : Answer) (g : List Told) (B : Bag) → is_static sys sig ≡ fixed → P.names.Object to
        → P.names.Event sig pars → PostsNew fixed (sizes_of sys) ring to sig pars margin reserve answer g → Leads B g B
    unfolding PostsNew
    new-leads fixed ring to sig pars margin reserve answer g B is object event (inl none) = no_block-leads fixed pars reserve answer g B none
    new-leads fixed ring to sig pars margin reserve answer g B is object event (inr (head, e, makes, posts)) =
        let made = new-head fixed sig pars reserve head e B is event makes in posts-leads ring to margin head e answer g B B (rules.member to object) made.0 made.1 posts

    lifo-leads : (fixed : Bool) (sig : ℕ) (pars : List ℕ) (reserve : Option ℕ) (answer : Answer) (g : List Told) (B : Bag) → is_static sys sig ≡ fixed → P.names.Object o
        → P.names.Event sig pars → PostsNewFront fixed (sizes_of sys) o sig pars reserve answer g → Leads B g B
    unfolding PostsNewFront
    lifo-leads fixed sig pars reserve answer g B is object event (inl none) = no_block-leads fixed pars reserve answer g B none
    lifo-leads fixed sig pars reserve answer g B is object event (inr (head, e, makes, posts)) =
        let made = new-head fixed sig pars reserve head e B is event makes in front-leads head e answer g B B object made.0 made.1 posts

    forwards-leads : (ring : ℕ) (now : Option Entry) (to : ℕ) (margin : Option ℕ) (answer : Answer) (g : List Told) (G : Bag) → P.names.Object to → NowGood now → NoLoose G
        → Forwards ring now to margin answer g → Leads (λ t. now_bag now t + G t) g (λ t. now_bag now t + G t)
    unfolding Forwards MakesAgainNow
    forwards-leads ring None to margin answer g G object good none (head, e, makes, posts) = absurd makes
    forwards-leads ring (Some old) to margin answer g G object good none (head, e, makes, posts) =
        let made = again-head old head e G good none makes in
        posts-leads ring to margin head e answer g (λ t. count_in t old + G t) (λ t. count_in t old + G t) (rules.member to object) made.0 (λ k. made.1) posts

    subscribes-leads : (sig : ℕ) (answer : Answer) (g : List Told) (B : Bag) → P.names.Signal sig → P.names.Object o → Subscribes sig answer g → Leads B g B
    unfolding Subscribes hands_by
    subscribes-leads sig Granted g B signal object (n, is) = leads-same B B g _ is (still B (plain (item.Sub sig n)) (λ H. (signal, object)) (λ H. refl))
    subscribes-leads sig Refused g B signal object (n, is) = leads-same B B g _ is (still B (same_in sig n true) (λ H. signal) (λ H. refl))
    subscribes-leads sig answer g B signal object h = absurd h

    unsubscribes-leads : (sig : ℕ) (answer : Answer) (g : List Told) (B : Bag) → P.names.Signal sig → Unsubscribes sig answer g → Leads B g B
    unfolding Unsubscribes hands_by
    unsubscribes-leads sig Granted g B signal (n, is) = leads-same B B g _ is (still B (plain (item.Unsub sig n)) (λ H. signal) (λ H. refl))
    unsubscribes-leads sig Refused g B signal (n, is) = leads-same B B g _ is (still B (same_in sig n false) (λ H. signal) (λ H. refl))
    unsubscribes-leads sig answer g B signal h = absurd h

    arms-leads : (t ticks interval : ℕ) (answer : Answer) (g : List Told) (B : Bag) → P.names.Timer t → Arms t ticks interval answer g → IsTrue (answers_ticks (ticks_fit ticks interval) answer)
        → Leads B g B
    unfolding Arms hands_by
    arms-leads t ticks interval Granted g B timer (n, is) fit = leads-same B B g _ is (still B (plain (item.Arm t n ticks interval)) (λ H. (timer, fit)) (λ H. refl))
    arms-leads t ticks interval AtTimer g B timer (n, c, is) fit = leads-same B B g _ is (still B (plain (item.Armed t n c)) (λ H. timer) (λ H. refl))
    arms-leads t ticks interval AtTicks g B timer h fit = leads-same B B g _ h (still B (plain (item.BadTicks t ticks interval)) (λ H. tt) (λ H. refl))
    arms-leads t ticks interval answer g B timer h fit = absurd h

    rearms-leads : (t ticks : ℕ) (answer : Answer) (g : List Told) (B : Bag) → P.names.Timer t → Rearms t ticks answer g → IsTrue (answers_ticks (ticks_fit ticks 0) answer) → Leads B g B
    unfolding Rearms hands_by
    rearms-leads t ticks Granted g B timer (n, former, is) fit = leads-same B B g _ is (still B (plain (item.Rearm t n (suc former) ticks)) (λ H. (timer, fit)) (λ H. refl))
    rearms-leads t ticks Refused g B timer (n, is) fit = leads-same B B g _ is (still B (plain (item.Rearm t n 0 ticks)) (λ H. (timer, fit)) (λ H. refl))
    rearms-leads t ticks AtTicks g B timer h fit = leads-same B B g _ h (still B (plain (item.BadTicks t ticks 0)) (λ H. tt) (λ H. refl))
    rearms-leads t ticks answer g B timer h fit = absurd h

    disarms-leads : (t : ℕ) (answer : Answer) (g : List Told) (B : Bag) → P.names.Timer t → Disarms t answer g → Leads B g B
    unfolding Disarms hands_by
    disarms-leads t Granted g B timer (n, former, is) = leads-same B B g _ is (still B (plain (item.Disarm t n former)) (λ H. timer) (λ H. refl))
    disarms-leads t Refused g B timer (n, is) = leads-same B B g _ is (still B (plain (item.Idle t n)) (λ H. timer) (λ H. refl))
    disarms-leads t answer g B timer h = absurd h

    pub other-leads : (now : Option Entry) (x : Call) (answer : Answer) (g : List Told) (G : Bag) → leaves_list x ≡ true → CallNames P.names sys o x → NowGood now → NoLoose G → Fits sys o now x answer g
        → Leads (λ t. now_bag now t + G t) g (λ t. now_bag now t + G t)
    unfolding Fits
    other-leads now (call.Post to sig pars margin reserve) answer g G leaves names good none h =
        new-leads (is_static sys sig) (ring_of sys to) to sig pars margin reserve answer g (λ t. now_bag now t + G t) refl names.0 names.1 h
    other-leads now (call.Lifo sig pars reserve) answer g G leaves names good none h = lifo-leads (is_static sys sig) sig pars reserve answer g (λ t. now_bag now t + G t) refl names.0 names.1 h
    other-leads now (call.Forward to margin) answer g G leaves names good none h = forwards-leads (ring_of sys to) now to margin answer g G names good none h
    other-leads now (call.Publish sig pars reserve) answer g G leaves names good none h =
        publishes-leads (is_static sys sig) sig pars reserve answer g (λ t. now_bag now t + G t) refl names.0 names.1 (now-loose now G none) h
    other-leads now call.Defer answer g G leaves names good none h = absurd (cc)
    other-leads now call.Recall answer g G leaves names good none h = absurd (cc)
    other-leads now call.Flush answer g G leaves names good none h = absurd (cc)
    other-leads now (call.Subscribe sig) answer g G leaves names good none h = subscribes-leads sig answer g (λ t. now_bag now t + G t) names.0 names.1 h
    other-leads now (call.Unsubscribe sig) answer g G leaves names good none h = unsubscribes-leads sig answer g (λ t. now_bag now t + G t) names h
    other-leads now (call.Arm t ticks interval) answer g G leaves names good none h = arms-leads (timer_number sys.timers o t) ticks interval answer g (λ t. now_bag now t + G t) names h.0 h.1
    other-leads now (call.Rearm t ticks) answer g G leaves names good none h = rearms-leads (timer_number sys.timers o t) ticks answer g (λ t. now_bag now t + G t) names h.0 h.1
    other-leads now (call.Disarm t) answer g G leaves names good none h = disarms-leads (timer_number sys.timers o t) answer g (λ t. now_bag now t + G t) names h

    -- what stands for the entry at hand and the deferred ones
    abbrev pub held : Option Entry → List Entry → Bag
    held now kept = λ t. now_bag now t + bag_of kept t

    kept-none : (es : List Entry) → NoLoose (bag_of es)
    kept-none es p b u = none-loose p b u es

    now-none : (now : Option Entry) → NoLoose (now_bag now)
    now-none None p b u = refl
    now-none (Some e) p b u = in-loose p b u e

    defers-any : (now : Option Entry) (room : ℕ) (old new : List Entry) (answer : Answer) (g : List Told) → NowGood now → AllGood old → Defers now answer g → kept_after room old g ≡ Some new
        → Leads (held now old) g (held now new) × (Known g → AllGood new)
    unfolding Defers MakesAgainNow hands_by
    defers-any (Some e) room old new answer g good all h kept =
        let k = defers-keeps e room old new answer g (λ t. 0) good all (λ p b u. refl) h kept in
        (leads-less (λ t. count_in t e + (bag_of old t + 0)) (held (Some e) old) (λ t. bag_of new t + (count_in t e + 0)) (held (Some e) new) g (λ t. omega arith) (λ t. omega arith) k.leads, k.good)
    defers-any None room old new Granted g good all (head, e, makes, is) kept = absurd makes
    defers-any None room old new Refused g good all is kept =
        let same : new ≡ old = refused-defer room old new (subst (λ x. kept_after room old x ≡ Some new) is kept) in
        let B : Bag = held None old in (
          leads-same B (held None new) g _ is
              (leads-less B B B (held None new) (plain item.NoDefer ∷ []) (λ t. omega arith) (λ t. let more = ap (λ es. count_of t (tokens_in es)) same in omega (arith, more))
              (still B (plain item.NoDefer) (λ H. tt) (λ H. refl))),
          λ k. subst AllGood (sym same) all,
        )
    defers-any None room old new answer g good all h kept = absurd h

    -- a call that is answered leaves the entry at hand, and the deferred ones
    pub call-leads : (now : Option Entry) (room : ℕ) (old new : List Entry) (x : Call) (answer : Answer) (g : List Told) → CallNames P.names sys o x → NowGood now → AllGood old → is_assertion answer ≡ false
        → Fits sys o now x answer g → KeepsDeferred room x g old new → Leads (held now old) g (held now new) × (Known g → AllGood new)
    unfolding Fits KeepsDeferred
    call-leads now room old new call.Defer answer g names good all calm h keeps = defers-any now room old new answer g good all h keeps
    call-leads now room old new call.Recall answer g names good all calm h keeps =
        let k = recalls-keeps room old new answer g (now_bag now) names all (now-none now) calm h keeps in
        (leads-less (λ t. bag_of old t + now_bag now t) (held now old) (λ t. bag_of new t + now_bag now t) (held now new) g (λ t. omega arith) (λ t. omega arith) k.leads, k.good)
    call-leads now room old new call.Flush (Flushed n) g names good all calm h keeps =
        let k = flushes-keeps room n old new g (now_bag now) all h keeps.0 in
        (leads-less (λ t. bag_of old t + now_bag now t) (held now old) (λ t. bag_of new t + now_bag now t) (held now new) g (λ t. omega arith) (λ t. omega arith) k.leads, k.good)
    call-leads now room old new call.Flush answer g names good all calm h keeps = absurd h
    call-leads now room old new x answer g names good all calm h keeps = (
      leads-less (held now old) (held now old) (held now old) (held now new) g (λ t. omega arith) (λ t. let same = ap (λ es. count_of t (tokens_in es)) keeps in omega (arith, same))
          (other-leads now x answer g (bag_of old) refl names good (kept-none old) h),
      λ k. subst AllGood (sym keeps) all,
    )

    -- a call that ends in an assertion
    pub call-ends : (now : Option Entry) (room : ℕ) (old new : List Entry) (x : Call) (answer : Answer) (g : List Told) → CallNames P.names sys o x → NowGood now → AllGood old → is_assertion answer ≡ true
        → Fits sys o now x answer g → KeepsDeferred room x g old new → Leads (held now old) g (λ t. 0)
    unfolding Fits KeepsDeferred Defers Recalls
    call-ends now room old new call.Defer Granted g names good all asserts h keeps = absurd (cc)
    call-ends now room old new call.Defer Refused g names good all asserts h keeps = absurd (cc)
    call-ends now room old new call.Defer answer g names good all asserts h keeps = absurd h
    call-ends now room old new call.Recall AtFront g names good all asserts h keeps =
        leads-less (λ t. bag_of old t + now_bag now t) (held now old) (λ t. 0) (λ t. 0) g (λ t. omega arith) (λ t. omega arith) (recalls-ends room old new g (now_bag now) names all (now-none now) h keeps)
    call-ends now room old new call.Recall Granted g names good all asserts h keeps = absurd (cc)
    call-ends now room old new call.Recall Refused g names good all asserts h keeps = absurd (cc)
    call-ends now room old new call.Recall answer g names good all asserts h keeps = absurd h
    call-ends now room old new call.Flush (Flushed n) g names good all asserts h keeps = absurd (cc)
    call-ends now room old new call.Flush answer g names good all asserts h keeps = absurd h
    call-ends now room old new x answer g names good all asserts h keeps =
        leads-less (held now old) (held now old) (held now old) (λ t. 0) g (λ t. omega arith) (λ t. omega arith) (other-leads now x answer g (bag_of old) refl names good (kept-none old) h)
