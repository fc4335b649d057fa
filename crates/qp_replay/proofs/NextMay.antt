-- The next record of a serial order of a lawful journal may come next in the world of the records before it.
use Rattle.std.proofs.Common.{length, cond, ◌≡◌, ◌∙◌, ℕ, zero, suc, ◌+◌, ◌<◌, ◌≤◌, ◌==◌, nat_lt, nat_le, Bool, true, false, ◌&&◌, ◌||◌, List, ◌∷◌, ◌++◌, refl, sym, ap, subst, arith, ◌⊎◌, inl, inr, Some, IsTrue}
use Rattle.std.specs.Prelude.{⊤}
use Rattle.std.proofs.lemmas.Bool.{and_from, and_parts}
use Rattle.std.proofs.lemmas.Bool.Decides.{nat_tests}
use Rattle.qp_model.specs.declared.record.Rec.{Rec}
use Rattle.qp_model.specs.declared.words.Word.{Word}
use Rattle.qp_model.specs.declared.systems.System.{System}
use Rattle.qp_model.specs.declared.bodies.Entry.{Entry}
use Rattle.qp_model.specs.declared.bodies.Body.{Body}
use Rattle.qp_model.specs.declared.bodies.Body.TheVariants as item
use Rattle.qp_model.specs.Record.{Item, entry}
use Rattle.qp_model.specs.Told.{Told, Known, Left}
use Rattle.qp_model.specs.History.{all_items, hist}
use Rattle.qp_model.specs.Parts.{is_static}
use Rattle.qp_model.specs.WordLaw.{Words, is_block, is_object, is_pool}
use Rattle.qp_model.specs.Places.{IsSerial, RecordPlace, item_at, items_at}
use Rattle.qp_calls.specs.Counting.{count_of, times}
use Rattle.qp_calls.specs.Tokens.{Token, Held, Loose, hands_of, stands, take_out, token_of, with_left, without_entry}
use Rattle.qp_calls.proofs.CountLemmas.{count-with, count-without, is_in, count-stands}
use Rattle.qp_plain_sound.specs.May.{May}
use Rattle.qp_plain_sound.specs.Sound.{SoundWorld, hands_in, is_event, is_good}
use Rattle.qp_plain_sound.proofs.Times.{stands-times, take_out-absent, times-take_out}
use Rattle.qp_replay.proofs.NextBlocks.{back-may, new-may}
use Rattle.qp_replay.proofs.NextRecords.{arm-may, armed-may, dec-may, disarm-may, fire-may, full-may, idle-may, inc-may, lifo-may, nil-may, no_block-may, no_entry-may, no_lifo-may, post-may, pub-may, rearm-may, same-may, seen-may, short-may, sub-may, tick-may, took-may, unsub-may}
use Rattle.qp_replay.proofs.Histories.{on_word}
use Rattle.qp_replay.proofs.CallRecords.{Claims, Rules, Uses, first-there}
use Rattle.qp_replay.proofs.NamedRecords.{SureBody, system_names}

pool-of : (sys : System) (p b : ℕ) → IsTrue (is_block sys p b) → IsTrue (is_pool sys p)
unfolding is_block
pool-of sys p b h = (and_parts (is_pool sys p) _ h).0

-- a record taken states a good entry
abbrev pub TookGood : System → Body → Type 0
TookGood sys (item.Took f l m e) = IsTrue (is_good sys e)
TookGood sys b = ⊤

-- what is known of an earlier record
pub record Knows (sys : System) (t : Told) : Type 0 where
  pub sure : SureBody sys t.body
  pub took : TookGood sys t.body

-- what is claimed: blocks and members are the system's, and entries are good
abbrev pub claims : System → Claims
claims sys = record {
  names = system_names sys;
  Pool = λ p. IsTrue (is_pool sys p);
  Block = λ p b. IsTrue (is_block sys p b);
  Good = λ e. IsTrue (is_good sys e);
  New = λ p sig pars. IsTrue (is_pool sys p) × IsTrue (is_event sys (record { sig = sig; pars = pars }));
  Member = λ a. IsTrue (is_object sys a);
  Rests = ⊤;
  Knows = Knows sys;
}

-- a good entry of a block is of a block of the system
good-block : (sys : System) (e : Entry) → 0 < e.pool → is_good sys e ≡ true → is_block sys e.pool e.block ≡ true
good-block sys e some good = go (e.pool == 0) refl good
  where
    go : (u : Bool) → (e.pool == 0) ≡ u → cond u (is_static sys e.block && (e.name == 0)) (is_block sys e.pool e.block) ≡ true → is_block sys e.pool e.block ≡ true
    go true is h = let none : e.pool ≡ 0 = grind (arith, nat_tests, is) in absurd (omega (arith, some, none))
    go false is h = h

block-good : (sys : System) (p b r : ℕ) → is_block sys p b ≡ true → is_good sys (entry p b r) ≡ true
unfolding is_block
block-good sys p b r h = go (p == 0) refl
  where
    go : (u : Bool) → (p == 0) ≡ u → cond u (is_static sys b && (r == 0)) (is_block sys p b) ≡ true
    go true is =
        let some : nat_lt 0 p ≡ true = (and_parts (nat_lt 0 p) (nat_le p (length sys.pools)) (and_parts (is_pool sys p) _ h).0).0 in
        let none : p ≡ 0 = grind (arith, nat_tests, is) in
        let more : 0 < p = grind (arith, nat_tests, some) in
        absurd (omega (arith, more, none))
    go false is = h

static-good : (sys : System) (sig : ℕ) → is_static sys sig ≡ true → is_good sys (entry 0 sig 0) ≡ true
static-good sys sig h = and_from _ _ h refl

pub rules-known : (sys : System) → Rules sys (claims sys)
rules-known sys = record {
  object = λ a is. is;
  timer = λ t is. is;
  pool = λ p is. is;
  new = λ p sig pars first event. (first-there sys (length pars) p first, event);
  made = λ p n b from sig free pars pool known. known.sure.blocks p n b from sig pars refl pool;
  good = block-good sys;
  block = good-block sys;
  static = static-good sys;
  takes = λ f l m e ev known. known.took;
  member = λ a is. is;
  subscribed = λ sig n set signal known. known.sure.subscribed sig n set refl signal;
}

module _ (sys : System) (lanes : List (List Rec)) (order A B : List RecordPlace) (x : RecordPlace) (i : Item) (serial : IsSerial lanes order) (split : order ≡ A ++ x ∷ B)
    (at : item_at lanes x ≡ Some i) (words : Words sys lanes) (W : List (List Rec)) (O : List ℕ) (hists : (w : Word) → hist w (all_items W) ≡ on_word w (items_at lanes A)) (world : SoundWorld sys W O)
    (H : List Token) (few : (t : Token) → count_of t H ≤ count_of t (hands_in sys W O)) (o : ℕ) where
  pub next-may : (b : Body) → i ≡ record { of = o; body = b } → Uses o (claims sys) H b → ((p n c from sig : ℕ) (pars : List ℕ) → b ≡ item.New p n c from sig pars → IsTrue (is_pool sys p) → IsTrue (is_block sys p c))
      → May sys W (hands_in sys W O) o b
  unfolding May
  next-may (item.Took f l m e) is uses own = took-may sys lanes order A B x i serial split at words W O hists world (hands_in sys W O) H few o f l m e is uses
  next-may (item.Nil f l m) is uses own = nil-may sys lanes order A B x i serial split at words W O hists world (hands_in sys W O) H few o f l m is uses
  next-may (item.Seen p f l m) is uses own = seen-may sys lanes order A B x i serial split at words W O hists world (hands_in sys W O) H few o p f l m is uses
  next-may (item.New p n b from sig pars) is uses own = new-may sys lanes order A B x i serial split at words W O hists world H few o p n b from sig pars is uses.0 (own p n b from sig pars refl uses.0) uses.1
  next-may (item.Short p n free reserve) is uses own = short-may sys lanes order A B x i serial split at words W O hists world (hands_in sys W O) H few o p n free reserve is uses
  next-may (item.Inc p b r) is uses own = inc-may sys lanes order A B x i serial split at words W O hists world (hands_in sys W O) H few o p b r is uses.0 uses.1
  next-may (item.Dec p b d k) is uses own = dec-may sys lanes order A B x i serial split at words W O hists world (hands_in sys W O) H few o p b d k is uses.0 uses.1
  next-may (item.Back p n b to) is uses own = back-may sys lanes order A B x i serial split at words W O hists world H few o p n b to is (pool-of sys p b uses.0) uses.0 uses.1
  next-may (item.Post a f l m e) is uses own = post-may sys lanes order A B x i serial split at words W O hists world (hands_in sys W O) H few o a f l m e is uses.0 uses.1 uses.2
  next-may (item.Lifo f l m e) is uses own = lifo-may sys lanes order A B x i serial split at words W O hists world (hands_in sys W O) H few o f l m e is uses.0 uses.1 uses.2
  next-may (item.Full a f l m margin) is uses own = full-may sys lanes order A B x i serial split at words W O hists world (hands_in sys W O) H few o a f l m margin is uses
  next-may (item.Pub sig n set) is uses own = pub-may sys lanes order A B x i serial split at words W O hists world (hands_in sys W O) H few o sig n set is uses
  next-may (item.Sub sig n) is uses own = sub-may sys lanes order A B x i serial split at words W O hists world (hands_in sys W O) H few o sig n is uses.0 uses.1
  next-may (item.Unsub sig n) is uses own = unsub-may sys lanes order A B x i serial split at words W O hists world (hands_in sys W O) H few o sig n is uses
  next-may (item.Same sig n) is uses own = same-may sys lanes order A B x i serial split at words W O hists world (hands_in sys W O) H few o sig n is uses
  next-may (item.Arm t n ticks interval) is uses own = arm-may sys lanes order A B x i serial split at words W O hists world (hands_in sys W O) H few o t n ticks interval is uses.0
  next-may (item.Disarm t n former) is uses own = disarm-may sys lanes order A B x i serial split at words W O hists world (hands_in sys W O) H few o t n former is uses
  next-may (item.Rearm t n former ticks) is uses own = rearm-may sys lanes order A B x i serial split at words W O hists world (hands_in sys W O) H few o t n former ticks is uses.0
  next-may (item.Idle t n) is uses own = idle-may sys lanes order A B x i serial split at words W O hists world (hands_in sys W O) H few o t n is uses
  next-may (item.Tick t n counter) is uses own = tick-may sys lanes order A B x i serial split at words W O hists world (hands_in sys W O) H few o t n counter is uses
  next-may (item.Fire t n reload) is uses own = fire-may sys lanes order A B x i serial split at words W O hists world (hands_in sys W O) H few o t n reload is uses
  next-may (item.NoEntry a f l m) is uses own = no_entry-may sys lanes order A B x i serial split at words W O hists world (hands_in sys W O) H few o a f l m is uses
  next-may (item.NoBlock p n free) is uses own = no_block-may sys lanes order A B x i serial split at words W O hists world (hands_in sys W O) H few o p n free is uses
  next-may (item.Armed t n counter) is uses own = armed-may sys lanes order A B x i serial split at words W O hists world (hands_in sys W O) H few o t n counter is uses
  next-may (item.NoLifo a f l m) is uses own = no_lifo-may sys lanes order A B x i serial split at words W O hists world (hands_in sys W O) H few o a f l m is uses
  next-may b is uses own = tt

-- What a record does to the hands of the world and to those of its owner is the same.

more-stands : (t : Token) (L G : List Token) → ((u : Token) → count_of u L ≤ count_of u G) → stands t L ≡ true → stands t G ≡ true
more-stands t L G few h = let some = stands-times t L h in let less = few t in count-stands t G (omega (arith, some, less))

module _ (sys : System) (o : ℕ) (L G : List Token) (few : (u : Token) → count_of u L ≤ count_of u G)
    (alone : (p b k : ℕ) → stands (Held p b k) G ≡ true → stands (Loose p b false) G ≡ false) where
  -- both lose a token that stands in the owner's
  out-same : (x t : Token) → stands x L ≡ true → count_of t (take_out x G) + count_of t L ≡ count_of t G + count_of t (take_out x L)
  out-same x t h =
      let first = times-take_out x t L h in
      let second = times-take_out x t G (more-stands x L G few h) in
      omega (arith, first, second)

  fresh-same : (p b : ℕ) (t : Token) → (stands (Loose p b false) L ≡ true) ⊎ ((k : ℕ) × (stands (Held p b k) L ≡ true))
      → count_of t (take_out (Loose p b false) G) + count_of t L ≡ count_of t G + count_of t (take_out (Loose p b false) L)
  fresh-same p b t (inl loose) = out-same (Loose p b false) t loose
  fresh-same p b t (inr (k, held)) =
      let none : stands (Loose p b false) G ≡ false = alone p b k (more-stands (Held p b k) L G few held) in
      let also : stands (Loose p b false) L ≡ false = nothing (stands (Loose p b false) L) refl none in
      let first = ap (count_of t) (take_out-absent (Loose p b false) G none) in
      let second = ap (count_of t) (take_out-absent (Loose p b false) L also) in
      omega (arith, first, second)
    where
      nothing : (u : Bool) → stands (Loose p b false) L ≡ u → stands (Loose p b false) G ≡ false → u ≡ false
      nothing false e none = refl
      nothing true e none = let there = more-stands (Loose p b false) L G few e in absurd (differ (sym none ∙ there))
        where
          differ : false ≡ true → ⊥
          differ e = absurd (cc)

  inside-too : (e : Entry) → is_in e L ≡ true → is_in e G ≡ true
  inside-too e h = go (e.pool == 0) h
    where
      go : (u : Bool) → (u || stands (token_of e) L) ≡ true → (u || stands (token_of e) G) ≡ true
      go true h = refl
      go false h = more-stands (token_of e) L G few h

  without-same : (e : Entry) (t : Token) → is_in e L ≡ true → count_of t (without_entry e G) + count_of t L ≡ count_of t G + count_of t (without_entry e L)
  without-same e t h =
      let first = count-without t e L h in
      let second = count-without t e G (inside-too e h) in
      omega (arith, first, second)

  left-same : (p b d n : ℕ) (k : ℕ) (t : Token) → stands (Held p b k) L ≡ true
      → count_of t (with_left p b (Left n) (take_out (Held p b k) G)) + count_of t L ≡ count_of t G + count_of t (with_left p b (Left n) (take_out (Held p b k) L))
  unfolding times
  left-same p b d zero k t h = let same = out-same (Held p b k) t h in omega (arith, same)
  left-same p b d (suc n) k t h = out-same (Held p b k) t h

  -- what is known beside a dropped reference is the same
  abbrev pub LeftAlike : Body → Known → Known → Type 0
  LeftAlike (item.Dec p b d k) j h = (n : ℕ) × (j ≡ Left n) × (h ≡ Left n)
  LeftAlike b j h = Unit {0}

  pub hands-same : (b : Body) (j h : Known) (t : Token) → LeftAlike b j h → Uses o (claims sys) L b → count_of t (hands_of G b j) + count_of t L ≡ count_of t G + count_of t (hands_of L b h)
  unfolding times
  hands-same (item.Took f l m e) j h t alike uses = let first = count-with t e G in let second = count-with t e L in omega (arith, first, second)
  hands-same (item.New p n b from sig pars) j h t alike uses = omega arith
  hands-same (item.Inc p b r) j h t alike uses = let same = fresh-same p b t uses.1 in omega (arith, same)
  hands-same (item.Dec p b d k) j h t (n, is, also) uses =
      subst (λ z. count_of t (hands_of G (item.Dec p b d k) z) + count_of t L ≡ count_of t G + count_of t (hands_of L (item.Dec p b d k) h)) (sym is)
      (subst (λ z. count_of t (hands_of G (item.Dec p b d k) (Left n)) + count_of t L ≡ count_of t G + count_of t (hands_of L (item.Dec p b d k) z)) (sym also) (left-same p b d n k t uses.1))
  hands-same (item.Back p n b to) j h t alike uses = out-same (Loose p b true) t uses.1
  hands-same (item.Post a f l m e) j h t alike uses = without-same e t uses.2
  hands-same (item.Lifo f l m e) j h t alike uses = without-same e t uses.2
  hands-same b j h t alike uses = omega arith
