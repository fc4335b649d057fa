-- Looks at a queue, with a record and without.
use Rattle.std.proofs.Common.{◌≡◌, ℕ, ◌+◌, ◌/◌, ◌%◌, ◌<◌, List, [], ◌∷◌, length, refl, sym, ap, subst, ◌∙◌}
use Rattle.std.specs.List.{list_any}
use Rattle.qp_model.specs.declared.record.Rec.{Rec}
use Rattle.qp_model.specs.declared.bodies.Entry.{Entry}
use Rattle.qp_model.specs.declared.bodies.Body.TheVariants.{Seen as seen_body}
use Rattle.qp_model.specs.declared.words.Word.TheVariants as word
use Rattle.qp_model.specs.Record.{item_of}
use Rattle.qp_table.specs.Counting.{many}
use Rattle.qp_table.specs.Rule.{queue_at, is_entry, is_serve}
use Rattle.qp_table.specs.After.{rec_of, glanced}
use Rattle.qp_table.specs.declared.view.View.{View}
use Rattle.qp_table.proofs.Looks.{seen-says}
use Rattle.qp_calls.specs.declared.answers.Counts as counts
use Rattle.qp_calls.specs.Clauses.{Counted, Sees}
use Rattle.qp_calls_log.specs.declared.log.Log.{Log}
use Rattle.qp_table.proofs.Gaining.{mark-rises}
use Rattle.qp_table.proofs.Saying.{same-number-of, same-own}
use Rattle.qp_table.specs.Told.{QueueTold, SeenTold}
use Rattle.qp_shared_loops.proofs.Following.{sees-none}
use Rattle.qp_shared_lane.specs.declared.lane.LaneState.{LaneState}
use Rattle.qp_shared_lane.specs.Lane.{state_view}
use Rattle.qp_shared_lane.specs.More.{IsPut, ViewFollows, AddsNothing}
use Rattle.qp_shared_queues.specs.Now.{counts_in_word}
use Rattle.qp_shared_queues.proofs.Views.{Alike, same-tokens, grown-still, read-still, worn-still, placed-still, still-alike}
use Rattle.qp_shared_queues.proofs.Lane.{then_view, ThenHolds, look-holds, look-looks, look-shows}
use Rattle.qp_shared_queues.proofs.Noting.{neutral-seen, noted-holds, noted-adds, noted-shows}

-- A look without a record.
module _ (l : LaneState) (a n : ℕ) (u : View) (is : u ≡ glanced l.seat.me.0 (queue_at a) n) (told : QueueTold l.sys.now a l.seat.me.0 u n n) where
  alike : Alike l.seat.me.0 u
  alike = record {
    lane_numbers = ap (λ (z : View). z.lane_numbers) is;
    serves = λ o. ap (λ (z : View). list_any (is_serve o) z.serves) is;
    fresh = ap (λ (z : View). z.fresh) is;
    used = ap (λ (z : View). z.used) is;
    fills = ap (λ (z : View). z.fills) is;
    claims = ap (λ (z : View). z.claims) is;
    takes = ap (λ (z : View). z.takes) is;
    gives = ap (λ (z : View). z.gives) is;
  }

  follows : ViewFollows l.sys.now l.seat.me.0 u
  follows = record {
    logs = ap (λ (z : View). length z.logs) is;
    number = same-number-of l.seat.me.0 u (ap (λ (z : View). z.logs) is);
    lane_numbers = alike.lane_numbers;
    serves = alike.serves;
    grown = grown-still l.seat.me.0 u (ap (λ (z : View). z.contents) is);
    read = read-still l.seat.me.0 u (ap (λ (z : View). z.contents) is) (λ e mine. subst (λ (xs : List Entry). 0 < many (is_entry e) xs) (ap (λ (z : View). z.hands) is) mine) l.holds.read;
    still = still-alike l.seat.me.0 u alike l.holds.still;
    placed = placed-still l.seat.me.0 u alike.fresh alike.used l.holds.placed;
    worn = worn-still l.sys.now l.seat.me.0 u alike.used (mark-rises l.sys.now (word.Queue a) l.seat.me.0 u n told.saw) l.holds.worn;
    rise = mark-rises l.sys.now (word.Queue a) l.seat.me.0 u n told.saw;
    seen = (record { word = queue_at a; value = n } ∷ [], ap (λ (z : View). z.seen) is);
  }

  adds : AddsNothing l.seat.me.0 u l.side.seat.me.0 l.side.seat.me.0
  adds = record {
    same = same-own l.seat.me.0 u (ap (λ (z : View). z.logs) is);
    same_side = refl;
    hands_are = same-tokens l.seat.me.0 u (ap (λ (z : View). z.hands) is) alike.fresh alike.used;
  }

  pub counted-holds : ThenHolds l l.log l.numbers.list u
  counted-holds = look-holds l a n _ u told.saw told.mark follows adds (n % 2097152) (n / 2097152 % 2097152) (n / 4398046511104) refl refl refl

  pub counted-there : Counted a (state_view l) (then_view l l.log l.numbers.list u) (counts_in_word n)
  counted-there = (
    look-looks l a n _ u told.saw told.mark follows adds (n % 2097152) (n / 2097152 % 2097152) (n / 4398046511104) refl refl refl,
    look-shows l a n _ u told.saw told.mark follows adds (n % 2097152) (n / 2097152 % 2097152) (n / 4398046511104) refl refl refl told.own,
    told.takes,
  )

  pub counted-for : (c : counts.Counts) → c ≡ counts_in_word n → Counted a (state_view l) (then_view l l.log l.numbers.list u) c
  counted-for c c_is = subst (Counted a (state_view l) (then_view l l.log l.numbers.list u)) (sym c_is) counted-there

-- A look with the record of it.
module _ (l : LaneState) (a n : ℕ) (u : View) (h : Log) (more : List ℕ) (rec : Rec) (told : SeenTold l.sys.now a l.seat.me.0 n u) (put : IsPut rec 0 l.log l.numbers.list h more) (c : counts.Counts) (c_is : c ≡ counts_in_word n) (says : item_of rec ≡ record { of = 0; body = seen_body a c.f c.l c.m }) where
  says-so : item_of rec ≡ record { of = 0; body = seen_body a (n % 2097152) (n / 2097152 % 2097152) (n / 4398046511104) }
  says-so = says ∙ ap (λ (z : counts.Counts). record { of = 0; body = seen_body a z.f z.l z.m }) c_is

  abbrev q : Rec
  q = rec_of 7 0 (a ∷ (n % 2097152) ∷ (n / 2097152 % 2097152) ∷ (n / 4398046511104) ∷ [])

  pub seen-holds : ThenHolds l h more u
  seen-holds = noted-holds l a 0 n _ (seen_body a (n % 2097152) (n / 2097152 % 2097152) (n / 4398046511104)) l.seat.me.0.seen rec q u h more told.0 (sees-none l.seat.me.0.seen) told.1.saw told.1.mark put says-so
      (seen-says a (n % 2097152) (n / 2097152 % 2097152) (n / 4398046511104)) (neutral-seen a (n % 2097152) (n / 2097152 % 2097152) (n / 4398046511104))

  pub sees-for : h.spare + 1 ≡ l.log.spare → Sees a (state_view l) (then_view l h more u) c
  sees-for spare = subst (Sees a (state_view l) (then_view l h more u)) (sym c_is) (
    noted-adds l a 0 n _ (seen_body a (n % 2097152) (n / 2097152 % 2097152) (n / 4398046511104)) l.seat.me.0.seen rec q u h more told.0 (sees-none l.seat.me.0.seen) told.1.saw told.1.mark put says-so
        (seen-says a (n % 2097152) (n / 2097152 % 2097152) (n / 4398046511104)) (neutral-seen a (n % 2097152) (n / 2097152 % 2097152) (n / 4398046511104)) spare,
    noted-shows l a 0 n _ (seen_body a (n % 2097152) (n / 2097152 % 2097152) (n / 4398046511104)) l.seat.me.0.seen rec q u h more told.0 (sees-none l.seat.me.0.seen) told.1.saw told.1.mark put says-so
        (seen-says a (n % 2097152) (n / 2097152 % 2097152) (n / 4398046511104)) (neutral-seen a (n % 2097152) (n / 2097152 % 2097152) (n / 4398046511104)) (n % 2097152) (n / 2097152 % 2097152) (n / 4398046511104) refl refl refl told.1.own,
    told.1.takes,
  )
