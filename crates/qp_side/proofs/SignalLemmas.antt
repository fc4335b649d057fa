-- Steps on the word of a signal.
use Rattle.std.proofs.Common.{◌≡◌, ℕ, zero, suc, ◌+◌, ◌-◌, ◌*◌, ◌/◌, ◌%◌, ◌^◌, ◌<◌, ◌≤◌, ◌==◌, Bool, true, false, not, ◌&&◌, ◌||◌, cond, List, [], ◌∷◌, ◌++◌, length, set, get_or, refl, sym, ap, subst, ◌∙◌, arith, eqb, eq-eqb, ne_eqb, mod-eq_of_lt, true≢false, get_or-set_same, get_or-set_other, IsTrue}
use Rattle.std.specs.Int.{bit_at}
use Rattle.std.proofs.lemmas.Nat.{or_lt}
use Rattle.std.proofs.lemmas.Nat.Bits.{bit_at-lt}
use mathlib.Core.Option.{some}
use mathlib.Core.Logic.{dite}
use native.Mathlib.Decide.{ℕ_discrete}
use lib.ListN.{get_elem?}
use Rattle.qp_chart.specs.StateTree.{has}
use Rattle.qp_model.specs.declared.record.Rec.{Rec}
use Rattle.qp_model.specs.declared.systems.System.{System}
use Rattle.qp_model.specs.declared.words.Word.TheVariants as word
use Rattle.qp_model.specs.declared.bodies.Body.TheVariants.{Pub, Sub, Unsub, Same}
use Rattle.qp_model.specs.Lists.{without_all}
use Rattle.qp_model.specs.Record.{Item, item_of, body_of, body_at}
use Rattle.qp_model.specs.Subscribers.{Subscribers, subscribers, bits_of_set}
use Rattle.qp_model.specs.WordLaw.{is_object, is_signal}
use Rattle.qp_model.proofs.SideLemmas.{held-sub, held-unsub, held-same, held-pub}
use Rattle.qp_model.proofs.WordLawLemmas.{subscribers-counts}
use Rattle.qp_plain_words.proofs.SetLemmas.{set-adds, has-bit, set-put, members-put, set-take}
use Rattle.qp_table.specs.Counting.{Each, many}
use Rattle.qp_table.specs.Now.{at}
use Rattle.qp_table.specs.Rule.{mark_in, is_serve}
use Rattle.qp_table.specs.After.{rec_of, HasRoom}
use Rattle.qp_table.proofs.Bounds.{has-without}
use Rattle.qp_table.proofs.Marks.{low-mark}
use Rattle.qp_side.specs.Rule.{signal_at, timer_at, set_value, AreSubscribers, SideShows, SideHolds}
use Rattle.qp_side.specs.Told.{side_glanced, side_noted, SideSaw, bit_value, bit_in, eyed_signal}
use Rattle.qp_side.specs.Laws.{EyeSignalsTell, SubsTell, UnsubsTell, PubsTell}
use Rattle.qp_side.specs.declared.view.SideView.{SideView}
use Rattle.qp_side.proofs.Places.{signal-low, timer-low, few-operations, at-here, at-else}
use Rattle.qp_side.proofs.StepLemmas.{saw, glances, served-known, lane, held-set, leaves-set, leaves-shown-set, drawn, shown}

-- what the records say
sub-says : (o s n : ℕ) → item_of (rec_of 31 o (s ∷ n ∷ [])) ≡ record { of = o; body = Sub s n }
unfolding item_of body_of body_at
sub-says o s n = refl

unsub-says : (o s n : ℕ) → item_of (rec_of 32 o (s ∷ n ∷ [])) ≡ record { of = o; body = Unsub s n }
unfolding item_of body_of body_at
unsub-says o s n = refl

same-says : (o s n : ℕ) → item_of (rec_of 33 o (s ∷ n ∷ [])) ≡ record { of = o; body = Same s n }
unfolding item_of body_of body_at
same-says o s n = refl

pub-says : (o s n set : ℕ) → item_of (rec_of 23 o (s ∷ n ∷ set ∷ [])) ≡ record { of = o; body = Pub s n set }
unfolding item_of body_of body_at
pub-says o s n set = refl

each-without : (P : ℕ → Type 0) (o : ℕ) (xs : List ℕ) → Each P xs → Each P (without_all o xs)
each-without P o [] e = tt
each-without P o (x ∷ xs) e = go (x == o) (each-without P o xs e.1)
  where
    go : (t : Bool) → Each P (without_all o xs) → Each P (cond t (without_all o xs) (x ∷ without_all o xs))
    go true h = h
    go false h = (e.0, h)

-- of the members of a set with o put in, or taken out
has-put : (o : ℕ) (xs : List ℕ) (p : ℕ) → has (o ∷ without_all o xs) p ≡ cond (eqb o p) true (has xs p)
has-put o xs p = go (eqb o p) (has xs p) (has (without_all o xs) p) (has-without o p xs)
  where
    go : (t h w : Bool) → w ≡ (h && not t) → (t || w) ≡ cond t true h
    go true h w e = refl
    go false true w e = e
    go false false w e = e

has-taken : (o : ℕ) (xs : List ℕ) (p : ℕ) → has (without_all o xs) p ≡ cond (eqb o p) false (has xs p)
has-taken o xs p = has-without o p xs ∙ go (eqb o p) (has xs p)
  where
    go : (t h : Bool) → (h && not t) ≡ cond t false h
    go true true = refl
    go true false = refl
    go false true = refl
    go false false = refl

module _ (sys : System) (words : List ℕ) (views : List SideView) (holds : SideHolds sys words views) (id : ℕ) (v : SideView) (at_id : get_elem? views id ≡ some v) (s : ℕ) (signal : IsTrue (is_signal sys s)) where
  abbrev n : ℕ
  n = get_or words (signal_at s) 0

  abbrev q : Subscribers
  q = holds.now.set s

  known : AreSubscribers sys q.members
  known = holds.shows.members s signal

  low : signal_at s < 4224
  low = let l = signal-low sys holds.fitting s signal in omega arith

  count-few : q.count ≤ 49000049
  count-few = few-operations subscribers (word.Signal s) holds.lanes q subscribers-counts (holds.leaves.law.signals s signal) (holds.leaves.set s signal) holds.logs.count holds.logs.room

  -- the word as its state
  reads : (n / 4294967296 ≡ q.count) × (n % 4294967296 ≡ bits_of_set q.members)
  reads = let e = holds.shows.sets s signal in let b = known.small in (omega arith, omega arith)

  bit-reads : (o : ℕ) → is_object sys o ≡ true → has q.members o ≡ eqb (bit_in o n) 1
  bit-reads o there = let r = holds.fitting.objects o there in
      subst (λ z. has q.members o ≡ eqb (bit_at z (o - 1)) 1) (sym reads.1) (has-bit q.members known.once o r.0 r.1)

  saw-here : (u : SideView) → u.view.seen ≡ v.view.seen ++ record { word = signal_at s; value = n } ∷ [] → SideSaw (signal_at s) v u n n
  saw-here u seen = let l = low in saw sys words views holds id v at_id (signal_at s) n u (omega arith) (omega arith) (λ e. refl) seen

  -- the words with this one changed
  shows-next : (next : Subscribers) (x : ℕ) → x ≡ set_value next → AreSubscribers sys next.members → SideShows sys (set words (signal_at s) x) (record holds.now { set = at s next holds.now.set })
  shows-next next x is members = let l = low in let wd = holds.shows.wide in let ls = signal-low sys holds.fitting s signal in record {
    wide = wide-set words (signal_at s) x ∙ wd;
    sets = λ y h. dite (ℕ_discrete y s)
        (λ e. ap (λ z. get_or (set words (signal_at s) x) (signal_at z) 0) e ∙ (get_or-set_same words (signal_at s) x 0 (omega arith) ∙ (is ∙ sym (ap set_value (ap (at s next holds.now.set) e ∙ at-here s next holds.now.set)))))
        (λ ne. get_or-set_other words (signal_at s) (signal_at y) x 0 (λ e. ne (omega arith)) ∙ (holds.shows.sets y h ∙ sym (ap set_value (at-else s next holds.now.set y ne))));
    clocks = λ t h. let r = timer-low sys holds.fitting t h in let r0 = r.0 in get_or-set_other words (signal_at s) (timer_at t) x 0 (λ e. omega arith) ∙ holds.shows.clocks t h;
    members = λ y h. dite (ℕ_discrete y s)
        (λ e. subst (λ (z : Subscribers). AreSubscribers sys z.members) (sym (ap (at s next holds.now.set) e ∙ at-here s next holds.now.set)) members)
        (λ ne. subst (λ (z : Subscribers). AreSubscribers sys z.members) (sym (at-else s next holds.now.set y ne)) (holds.shows.members y h));
    small = holds.shows.small;
  }
    where
      wide-set : (ws : List ℕ) (i y : ℕ) → length (set ws i y) ≡ length ws
      wide-set [] i y = refl
      wide-set (w ∷ ws) zero y = refl
      wide-set (w ∷ ws) (suc i) y = ap suc (wide-set ws i y)

  module _ (room : HasRoom v.view) where
    -- a look with the record `same`, or with `pub`
    shows-same : (o : ℕ) → SideHolds sys (set words (signal_at s) n) (set views id (side_noted v (signal_at s) n (rec_of 33 o (s ∷ (n / 4294967296) ∷ []))))
    shows-same o =
        let r = rec_of 33 o (s ∷ (n / 4294967296) ∷ []) in let c = reads.0 in let x = lane sys words views holds id v at_id room in
        shown sys words views holds id v at_id room r (record { of = o; body = Same s (n / 4294967296) }) (same-says o s (n / 4294967296)) (signal_at s) low
        (leaves-shown-set sys words views holds id v at_id room r (record { of = o; body = Same s (n / 4294967296) }) (same-says o s (n / 4294967296)) s
        (held-same x.before room.own.recs x.behind r s q (held-set sys words views holds id v at_id room s signal) o (same-says o s (n / 4294967296) ∙ ap (λ k. record { of = o; body = Same s k }) c))
        (λ y ne. rw (ne_eqb s y (λ e. ne (sym e))) refl) (λ t. refl)) (λ p z b. refl)

    shows-pub : (o : ℕ) → SideHolds sys (set words (signal_at s) n) (set views id (side_noted v (signal_at s) n (rec_of 23 o (s ∷ (n / 4294967296) ∷ (n % 4294967296) ∷ []))))
    shows-pub o =
        let r = rec_of 23 o (s ∷ (n / 4294967296) ∷ (n % 4294967296) ∷ []) in let c = reads in let x = lane sys words views holds id v at_id room in
        shown sys words views holds id v at_id room r (record { of = o; body = Pub s (n / 4294967296) (n % 4294967296) }) (pub-says o s (n / 4294967296) (n % 4294967296)) (signal_at s) low
        (leaves-shown-set sys words views holds id v at_id room r (record { of = o; body = Pub s (n / 4294967296) (n % 4294967296) }) (pub-says o s (n / 4294967296) (n % 4294967296)) s
        (held-pub x.before room.own.recs x.behind r s q (held-set sys words views holds id v at_id room s signal) o (pub-says o s (n / 4294967296) (n % 4294967296) ∙ (λ i. record { of = o; body = Pub s (c.0 i) (c.1 i) })))
        (λ y ne. rw (ne_eqb s y (λ e. ne (sym e))) refl) (λ t. refl)) (λ p z b. refl)

    module _ (o : ℕ) (mine : 0 < many (is_serve o) v.view.serves) where
      there : is_object sys o ≡ true
      there = served-known sys words views holds id v at_id o mine

      apart-from : (p : ℕ) → many (is_serve p) v.view.serves ≡ 0 → eqb o p ≡ false
      apart-from p none = ne_eqb o p (λ e. let z : many (is_serve o) v.view.serves ≡ 0 = subst (λ y. many (is_serve y) v.view.serves ≡ 0) (sym e) none in absurd (omega arith))

      -- the word with one more subscriber, or one less
      module _ (next : Subscribers) (k : ℕ) (r : Rec) (i : Item) (is : item_of r ≡ i) (up : next.count ≡ q.count + 1) (members : AreSubscribers sys next.members) (adds : bits_of_set next.members + 4294967296 ≡ bits_of_set q.members + k) where
        new-value : n + k ≡ set_value next
        new-value = let e = holds.shows.sets s signal in omega arith

        pub more : mark_in (signal_at s) n < mark_in (signal_at s) (n + k)
        more = let l = low in let a = low-mark (signal_at s) n l in let b = low-mark (signal_at s) (n + k) l in let e = holds.shows.sets s signal in let f = new-value in let x = known.small in let y = members.small in omega arith

        pub one-more : (n + k) / 4294967296 ≡ n / 4294967296 + 1
        one-more = let e = holds.shows.sets s signal in let f = new-value in let x = known.small in let y = members.small in omega arith

        pub not-over : (n + k) % 18446744073709551616 ≡ n + k
        not-over = let c = count-few in let f = new-value in let y = members.small in mod-eq_of_lt (omega arith)

        pub saw-more : (u : SideView) → u.view.seen ≡ v.view.seen ++ record { word = signal_at s; value = n + k } ∷ [] → SideSaw (signal_at s) v u n (n + k)
        saw-more u seen = let l = low in let m = more in saw sys words views holds id v at_id (signal_at s) (n + k) u (omega arith) (omega arith) (λ e. absurd (omega arith)) seen

      changed : (c : Bool) (next : Subscribers) → ((p : ℕ) → has next.members p ≡ cond (eqb o p) c (has q.members p)) → (p y : ℕ) → has (at s next holds.now.set y).members p ≡ cond (eqb s y && eqb o p) c (has (holds.now.set y).members p)
      changed c next one p y = dite (ℕ_discrete s y)
          (λ e. subst (λ z. has (at s next holds.now.set z).members p ≡ cond (eqb s z && eqb o p) c (has (holds.now.set z).members p)) e
          (ap (λ (z : Subscribers). has z.members p) (at-here s next holds.now.set) ∙ (one p ∙ ap (λ (t : Bool). cond (t && eqb o p) c (has q.members p)) (sym (eq-eqb s s refl)))))
          (λ ne. ap (λ (z : Subscribers). has z.members p) (at-else s next holds.now.set y (λ e. ne (sym e))) ∙ ap (λ (t : Bool). cond (t && eqb o p) c (has (holds.now.set y).members p)) (sym (ne_eqb s y ne)))

      unchanged : (c : Bool) (p : ℕ) → many (is_serve p) v.view.serves ≡ 0 → (y : ℕ) (b : Bool) → cond (eqb s y && eqb o p) c b ≡ b
      unchanged c p none y b = ap (λ (t : Bool). cond (eqb s y && t) c b) (apart-from p none) ∙ go (eqb s y)
        where
          go : (t : Bool) → cond (t && false) c b ≡ b
          go true = refl
          go false = refl

      comes : has q.members o ≡ false → let k = 4294967296 + bit_value o in SideHolds sys (set words (signal_at s) ((n + k) % 18446744073709551616)) (set views id (side_noted v (signal_at s) (n + k) (rec_of 31 o (s ∷ (n / 4294967296) ∷ []))))
          × ((u : SideView) → u.view.seen ≡ v.view.seen ++ record { word = signal_at s; value = n + k } ∷ [] → SideSaw (signal_at s) v u n (n + k)) × ((n + k) / 4294967296 ≡ n / 4294967296 + 1)
      comes out =
          let k : ℕ = 4294967296 + bit_value o in
          let r = rec_of 31 o (s ∷ (n / 4294967296) ∷ []) in let i : Item = record { of = o; body = Sub s (n / 4294967296) } in let is : item_of r ≡ i = sub-says o s (n / 4294967296) in
          let next : Subscribers = record { count = q.count + 1; members = o ∷ without_all o q.members } in
          let b = holds.fitting.objects o there in
          let x = lane sys words views holds id v at_id room in
          let put : bits_of_set (o ∷ without_all o q.members) ≡ bits_of_set q.members + bit_value o = set-put q.members o out in
          let zero_bit : bit_at (bits_of_set q.members) (o - 1) ≡ 0 = zero-of (bit_at (bits_of_set q.members) (o - 1)) (bit_at-lt (bits_of_set q.members) (o - 1)) (sym (has-bit q.members known.once o b.0 b.1) ∙ out) in
          let sum = set-adds (bits_of_set q.members) o b.0 b.1 zero_bit in
          let below = or_lt 32 (bits_of_set q.members) (1 * 2 ^ (o - 1) % 4294967296) known.small (small-rest (1 * 2 ^ (o - 1))) in
          let members : AreSubscribers sys next.members = record { once = members-put q.members o b.0 b.1 known.once out; known = (there, each-without (λ z. IsTrue (is_object sys z)) o q.members known.known); small = rw put (subst (λ z. z < 4294967296) sum below) } in
          let adds : bits_of_set next.members + 4294967296 ≡ bits_of_set q.members + k = omega arith in (
            subst (λ z. SideHolds sys (set words (signal_at s) z) (set views id (side_noted v (signal_at s) (n + k) r))) (sym (not-over next k r i is refl members adds))
                (drawn sys words views holds id v at_id room r i is (signal_at s) (n + k) (record holds.now { set = at s next holds.now.set }) low (more next k r i is refl members adds)
                (leaves-set sys words views holds id v at_id room r i is s next
                (held-sub x.before room.own.recs x.behind r s q (held-set sys words views holds id v at_id room s signal) o (is ∙ ap (λ m. record { of = o; body = Sub s m }) reads.0) out)
                (λ y ne. rw (ne_eqb s y (λ e. ne (sym e))) refl) (λ t. refl))
                (shows-next next (n + k) (new-value next k r i is refl members adds) members)
                (λ p y h. changed true next (has-put o q.members) p y) (λ p none y c. unchanged true p none y c)),
            saw-more next k r i is refl members adds,
            one-more next k r i is refl members adds,
          )
        where
          zero-of : (z : ℕ) → z < 2 → eqb z 1 ≡ false → z ≡ 0
          zero-of z less off = dite (ℕ_discrete z 1) (λ e. absurd (true≢false (sym (eq-eqb z 1 e) ∙ off))) (λ ne. omega arith)

          small-rest : (x : ℕ) → x % 4294967296 < 4294967296
          small-rest x = omega arith

      goes : has q.members o ≡ true → let k = 4294967296 - bit_value o in SideHolds sys (set words (signal_at s) ((n + k) % 18446744073709551616)) (set views id (side_noted v (signal_at s) (n + k) (rec_of 32 o (s ∷ (n / 4294967296) ∷ []))))
          × ((u : SideView) → u.view.seen ≡ v.view.seen ++ record { word = signal_at s; value = n + k } ∷ [] → SideSaw (signal_at s) v u n (n + k)) × ((n + k) / 4294967296 ≡ n / 4294967296 + 1)
      goes is_in =
          let k : ℕ = 4294967296 - bit_value o in
          let r = rec_of 32 o (s ∷ (n / 4294967296) ∷ []) in let i : Item = record { of = o; body = Unsub s (n / 4294967296) } in let is : item_of r ≡ i = unsub-says o s (n / 4294967296) in
          let next : Subscribers = record { count = q.count + 1; members = without_all o q.members } in
          let x = lane sys words views holds id v at_id room in
          let taken = set-take q.members o known.once is_in in let bits = taken.bits in let small = known.small in
          let members : AreSubscribers sys next.members = record { once = taken.members; known = each-without (λ z. IsTrue (is_object sys z)) o q.members known.known; small = omega arith } in
          let adds : bits_of_set next.members + 4294967296 ≡ bits_of_set q.members + k = omega arith in (
            subst (λ z. SideHolds sys (set words (signal_at s) z) (set views id (side_noted v (signal_at s) (n + k) r))) (sym (not-over next k r i is refl members adds))
                (drawn sys words views holds id v at_id room r i is (signal_at s) (n + k) (record holds.now { set = at s next holds.now.set }) low (more next k r i is refl members adds)
                (leaves-set sys words views holds id v at_id room r i is s next
                (held-unsub x.before room.own.recs x.behind r s q (held-set sys words views holds id v at_id room s signal) o (is ∙ ap (λ m. record { of = o; body = Unsub s m }) reads.0) is_in)
                (λ y ne. rw (ne_eqb s y (λ e. ne (sym e))) refl) (λ t. refl))
                (shows-next next (n + k) (new-value next k r i is refl members adds) members)
                (λ p y h. changed false next (has-taken o q.members) p y) (λ p none y c. unchanged false p none y c)),
            saw-more next k r i is refl members adds,
            one-more next k r i is refl members adds,
          )

pub eye-signals : EyeSignalsTell
eye-signals sys id v room bit o s signal mine words views holds at small =
    let n : ℕ = get_or words (signal_at s) 0 in
    let z = go (eqb (bit_in o n) bit) in (
      eyed_signal bit o s v n,
      z.0,
      (refl, saw-here sys words views holds id v at s signal (eyed_signal bit o s v n) z.1, sym (holds.home id v at o s mine signal) ∙ bit-reads sys words views holds id v at s signal o (served-known sys words views holds id v at o mine)),
    )
  where
    go : (t : Bool) → let n = get_or words (signal_at s) 0 in let u = cond {A = SideView} t (side_noted v (signal_at s) n (rec_of 33 o (s ∷ (n / 4294967296) ∷ []))) (side_glanced v (signal_at s) n) in
        SideHolds sys (set words (signal_at s) n) (set views id u) × (u.view.seen ≡ v.view.seen ++ record { word = signal_at s; value = n } ∷ [])
    go true = (shows-same sys words views holds id v at s signal room o, refl)
    go false = (let l = low sys words views holds id v at s signal in glances sys words views holds id v at (signal_at s) (omega arith), refl)

pub subs : SubsTell
subs sys id v room o s signal mine out words views holds at small =
    let z = comes sys words views holds id v at s signal room o mine (holds.home id v at o s mine signal ∙ out) in
    let u : SideView = side_noted v (signal_at s) (get_or words (signal_at s) 0 + (4294967296 + bit_value o)) (rec_of 31 o (s ∷ (get_or words (signal_at s) 0 / 4294967296) ∷ [])) in
    (u, z.0, (refl, z.1 u refl, z.2))

pub unsubs : UnsubsTell
unsubs sys id v room o s signal mine is_in words views holds at small =
    let z = goes sys words views holds id v at s signal room o mine (holds.home id v at o s mine signal ∙ is_in) in
    let u : SideView = side_noted v (signal_at s) (get_or words (signal_at s) 0 + (4294967296 - bit_value o)) (rec_of 32 o (s ∷ (get_or words (signal_at s) 0 / 4294967296) ∷ [])) in
    (u, z.0, (refl, z.1 u refl, z.2))

pub pubs : PubsTell
pubs sys id v room o s signal words views holds at small =
    let n : ℕ = get_or words (signal_at s) 0 in
    let u : SideView = side_noted v (signal_at s) n (rec_of 23 o (s ∷ (n / 4294967296) ∷ (n % 4294967296) ∷ [])) in
    (u, shows-pub sys words views holds id v at s signal room o, ((holds.now.set s).members, refl, saw-here sys words views holds id v at s signal u refl, (reads sys words views holds id v at s signal).1, known sys words views holds id v at s signal))
