-- What a step on one word does to the marks of all.
use Rattle.std.proofs.Common.{◌≡◌, ℕ, suc, ◌+◌, ◌/◌, ◌<◌, ◌≤◌, Bool, true, false, cond, eq-eqb, true≢false, IsTrue, refl, sym, ap, subst, ◌∙◌, arith}
use Rattle.qp_model.specs.declared.record.Rec.{Rec}
use Rattle.qp_model.specs.declared.systems.System.{System}
use Rattle.qp_model.specs.declared.words.Word.{Word}
use Rattle.qp_model.specs.declared.words.Word.TheVariants as word
use Rattle.qp_model.specs.History.{same_word}
use Rattle.qp_model.specs.WordLaw.{is_signal, is_timer}
use Rattle.qp_table.specs.Rule.{mark_in}
use Rattle.qp_table.proofs.Marks.{low-mark}
use Rattle.qp_side.specs.Rule.{signal_at, timer_at, SideFitting}
use Rattle.qp_side.specs.Told.{last_seen, SideSaw}
use Rattle.qp_side.specs.declared.view.SideView.{SideView}
use Rattle.qp_side.proofs.Places.{signal-low, timer-low}
use Rattle.qp_side.specs.Seat.{side_mark, SideLooks, SideAdds}
use Rattle.qp_side.specs.Calls.{SideDraws}
use Rattle.qp_side.specs.Tries.{SideNotes}

-- a mark where nothing new was seen
kept : (b : Bool) (w : ℕ) (v u : SideView) → (b ≡ true → last_seen w u ≡ last_seen w v) → cond b (mark_in w (last_seen w u)) 0 ≡ cond b (mark_in w (last_seen w v)) 0
kept true w v u e = ap (mark_in w) (e refl)
kept false w v u e = refl

adds-rest : (w x : ℕ) (r : Rec) (v u : SideView) (n : ℕ) → SideNotes w r v n x u → u ≡ record v { view = record v.view { logs = u.view.logs; seen = u.view.seen } }
adds-rest w x r v u n notes = subst (λ (z : SideView). z ≡ record v { view = record v.view { logs = z.view.logs; seen = z.view.seen } }) (sym notes.is) refl

module _ (sys : System) (fit : SideFitting sys) where
  module _ (s : ℕ) (signal : IsTrue (is_signal sys s)) where
    signal-place : signal_at s < 4224
    signal-place = let l = signal-low sys fit s signal in omega arith

    signal-mark : (v : SideView) → side_mark sys v (word.Signal s) ≡ last_seen (signal_at s) v / 4294967296
    signal-mark v = ap (λ (b : Bool). cond {A = ℕ} b (mark_in (signal_at s) (last_seen (signal_at s) v)) 0) signal ∙ low-mark (signal_at s) (last_seen (signal_at s) v) signal-place

    module _ (v u : SideView) (n x : ℕ) (saw : SideSaw (signal_at s) v u n x) where
      pub signal-rise : side_mark sys v (word.Signal s) ≤ n / 4294967296
      signal-rise = let m = signal-mark v in let le = saw.le in let a = low-mark (signal_at s) (last_seen (signal_at s) v) signal-place in let b = low-mark (signal_at s) n signal-place in omega arith

      signal-others : (y : Word) → same_word (word.Signal s) y ≡ false → side_mark sys u y ≡ side_mark sys v y
      signal-others (word.Signal r) ne = kept (is_signal sys r) (signal_at r) v u (λ h. saw.others (signal_at r) (λ e. let same : s ≡ r = omega arith in absurd (true≢false (sym (eq-eqb s r same) ∙ ne))))
      signal-others (word.Timer t) ne = kept (is_timer sys t) (timer_at t) v u (λ h. saw.others (timer_at t) (λ e. let l = signal-low sys fit s signal in absurd (omega arith)))
      signal-others (word.Pool p) ne = refl
      signal-others (word.Block p b) ne = refl
      signal-others (word.Queue a) ne = refl

      pub signal-looks : SideLooks sys (word.Signal s) (x / 4294967296) v u
      signal-looks = let m = saw.rises in let r = signal-rise in let a = low-mark (signal_at s) n signal-place in let b = low-mark (signal_at s) x signal-place in record {
        here = signal-mark u ∙ ap (λ k. k / 4294967296) saw.value;
        rise = omega arith;
        others = signal-others;
      }

    pub signal-adds : (v u : SideView) (n x : ℕ) (r : Rec) → SideNotes (signal_at s) r v n x u → SideAdds sys (word.Signal s) (x / 4294967296) r v u
    signal-adds v u n x r notes = record { logs = ap (λ (z : SideView). z.view.logs) notes.is; rest = adds-rest (signal_at s) x r v u n notes; marks = signal-looks v u n x notes.saw }

    pub signal-draws : (v u : SideView) (n x : ℕ) (r : Rec) → SideNotes (signal_at s) r v n x u → x / 4294967296 ≡ n / 4294967296 + 1 → SideDraws sys (word.Signal s) (n / 4294967296) r v u
    signal-draws v u n x r notes more = record {
      adds = let e : x / 4294967296 ≡ suc (n / 4294967296) = omega arith in subst (λ k. SideAdds sys (word.Signal s) k r v u) e (signal-adds v u n x r notes);
      up = signal-rise v u n x notes.saw;
    }

  module _ (t : ℕ) (timer : IsTrue (is_timer sys t)) where
    timer-place : timer_at t < 4224
    timer-place = let l = (timer-low sys fit t timer).1 in omega arith

    pub timer-mark : (v : SideView) → side_mark sys v (word.Timer t) ≡ last_seen (timer_at t) v / 4294967296
    timer-mark v = ap (λ (b : Bool). cond {A = ℕ} b (mark_in (timer_at t) (last_seen (timer_at t) v)) 0) timer ∙ low-mark (timer_at t) (last_seen (timer_at t) v) timer-place

    module _ (v u : SideView) (n x : ℕ) (saw : SideSaw (timer_at t) v u n x) where
      pub timer-rise : side_mark sys v (word.Timer t) ≤ n / 4294967296
      timer-rise = let m = timer-mark v in let le = saw.le in let a = low-mark (timer_at t) (last_seen (timer_at t) v) timer-place in let b = low-mark (timer_at t) n timer-place in omega arith

      timer-others : (y : Word) → same_word (word.Timer t) y ≡ false → side_mark sys u y ≡ side_mark sys v y
      timer-others (word.Signal r) ne = kept (is_signal sys r) (signal_at r) v u (λ h. saw.others (signal_at r) (λ e. let l = signal-low sys fit r h in absurd (omega arith)))
      timer-others (word.Timer q) ne = kept (is_timer sys q) (timer_at q) v u (λ h. saw.others (timer_at q) (λ e. let same : t ≡ q = omega arith in absurd (true≢false (sym (eq-eqb t q same) ∙ ne))))
      timer-others (word.Pool p) ne = refl
      timer-others (word.Block p b) ne = refl
      timer-others (word.Queue a) ne = refl

      pub timer-looks : SideLooks sys (word.Timer t) (x / 4294967296) v u
      timer-looks = let m = saw.rises in let r = timer-rise in let a = low-mark (timer_at t) n timer-place in let b = low-mark (timer_at t) x timer-place in record {
        here = timer-mark u ∙ ap (λ k. k / 4294967296) saw.value;
        rise = omega arith;
        others = timer-others;
      }

    pub timer-adds : (v u : SideView) (n x : ℕ) (r : Rec) → SideNotes (timer_at t) r v n x u → SideAdds sys (word.Timer t) (x / 4294967296) r v u
    timer-adds v u n x r notes = record { logs = ap (λ (z : SideView). z.view.logs) notes.is; rest = adds-rest (timer_at t) x r v u n notes; marks = timer-looks v u n x notes.saw }

    pub timer-draws : (v u : SideView) (n x : ℕ) (r : Rec) → SideNotes (timer_at t) r v n x u → x / 4294967296 ≡ n / 4294967296 + 1 → SideDraws sys (word.Timer t) (n / 4294967296) r v u
    timer-draws v u n x r notes more = record {
      adds = let e : x / 4294967296 ≡ suc (n / 4294967296) = omega arith in subst (λ k. SideAdds sys (word.Timer t) k r v u) e (timer-adds v u n x r notes);
      up = timer-rise v u n x notes.saw;
    }
