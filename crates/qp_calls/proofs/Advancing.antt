-- Marks of records lie between what a lane knew of their words and what it knows.
use Rattle.std.proofs.Common.{◌≡◌, ◌⊎◌, inl, inr, ℕ, ◌≤◌, Bool, true, false, List, [], ◌∷◌, ◌++◌, Option, Some, None, refl, sym, ◌∙◌, ap, subst, arith, append-nil, append_assoc}
use Rattle.qp_model.specs.declared.words.Word.{Word}
use Rattle.qp_model.specs.declared.words.Word.TheVariants as word
use Rattle.qp_model.specs.declared.bodies.Body.{Body}
use Rattle.qp_model.specs.declared.bodies.Body.TheVariants.{New}
use Rattle.qp_model.specs.Told.{ToldItem}
use Rattle.qp_model.specs.History.{mark_of, same_word, touch_of}
use Rattle.qp_model.proofs.KnowingLemmas.{same_word-is}
use Rattle.qp_model.proofs.NumberLemmas.{every-append}
use Rattle.qp_calls.specs.LaneView.{Advances, AreBetween, Gains, IsBetween, LaneView, Looks, Shown, mark_after, mark_by, mark_or, shown_from}

-- A record of one word alone shows no other one; the block that is given out draws no number then.
apart : (w : Word) (o : ℕ) (b : Body) → (shown_from w b ≡ None) ⊎ (mark_of w (touch_of o b) ≡ None)
apart (word.Pool q) o (New p n b from sig pars) = inl refl
apart (word.Block q c) o (New p n b from sig pars) = inr refl
apart (word.Queue a) o (New p n b from sig pars) = inl refl
apart (word.Signal s) o (New p n b from sig pars) = inl refl
apart (word.Timer t) o (New p n b from sig pars) = inl refl
apart w o _ = inl refl

-- the mark of one record
pub between-one : (w : Word) (n m : ℕ) (t : ToldItem) → m ≡ mark_after w n (t ∷ []) → n ≤ m → AreBetween w n m (t ∷ [])
unfolding mark_after mark_by
between-one w n m t is up = (by (mark_of w (touch_of t.of t.told.body)) (shown_from w t.told.body) is (apart w t.of t.told.body), tt)
  where
    by : (o s : Option ℕ) → m ≡ mark_or (mark_or n o) s → (s ≡ None) ⊎ (o ≡ None) → IsBetween n m o
    by None s e which = tt
    by (Some k) None e which = (omega (arith, e, up), omega (arith, e))
    by (Some k) (Some j) e (inl none) = absurd (cc)
    by (Some k) (Some j) e (inr none) = absurd (cc)

wider : (l h l' h' : ℕ) (o : Option ℕ) → l' ≤ l → h ≤ h' → IsBetween l h o → IsBetween l' h' o
wider l h l' h' None low high is = tt
wider l h l' h' (Some k) low high is = (omega (arith, low, is.0), omega (arith, high, is.1))

-- between two, so between any further apart
pub between-wider : (w : Word) (l h l' h' : ℕ) (ts : List ToldItem) → l' ≤ l → h ≤ h' → AreBetween w l h ts → AreBetween w l' h' ts
between-wider w l h l' h' [] low high are = tt
between-wider w l h l' h' (t ∷ ts) low high are = (wider l h l' h' (mark_of w (touch_of t.of t.told.body)) low high are.0, between-wider w l h l' h' ts low high are.1)

-- the marks of records, and of more behind them
pub between-append : (w : Word) (l m h : ℕ) (ts us : List ToldItem) → l ≤ m → m ≤ h → AreBetween w l m ts → AreBetween w m h us → AreBetween w l h (ts ++ us)
between-append w l m h ts us low high one two = every-append (λ t. IsBetween l h (mark_of w (touch_of t.of t.told.body))) ts us (between-wider w l m l h ts (omega arith) high one) (between-wider w m h l h us low (omega arith) two)

-- A lane that goes on.

pub advances-then : (u v w : LaneView) → Advances u v → Advances v w → Advances u w
advances-then u v w one two = record {
  more = one.more ++ two.more;
  grows = two.grows ∙ ap (λ l. l ++ two.more) one.grows ∙ append_assoc u.told one.more two.more;
  rise = λ x. let a = one.rise x in let b = two.rise x in omega (arith, a, b);
  between = λ x. between-append x (u.mark x) (v.mark x) (w.mark x) one.more two.more (one.rise x) (two.rise x) (one.between x) (two.between x);
}

pub advances-gains : (ts : List ToldItem) (v w : LaneView) → Gains ts v w → Advances v w
advances-gains ts v w g = record { more = ts; grows = g.told; rise = g.rise; between = g.between }

-- no record came
pub advances-still : (v w : LaneView) → w.told ≡ v.told → ((x : Word) → v.mark x ≤ w.mark x) → Advances v w
advances-still v w same rise = record { more = []; grows = same ∙ sym (append-nil v.told); rise = rise; between = λ x. tt }

pub advances-none : (v : LaneView) → Advances v v
advances-none v = advances-still v v refl (λ x. omega arith)

-- a look
pub looks-rise : (w : Word) (n : ℕ) (x : Shown) (u v : LaneView) → Looks w n x u v → (y : Word) → u.mark y ≤ v.mark y
looks-rise w n x u v h y = by (same_word w y) refl
  where
    by : (b : Bool) → same_word w y ≡ b → u.mark y ≤ v.mark y
    by false e = let same = h.mark y e in omega (arith, same)
    by true e = subst (λ z. u.mark z ≤ v.mark z) (same_word-is w y e) (let here = h.here in let up = h.rise in omega (arith, here, up))

pub advances-looks : (w : Word) (n : ℕ) (x : Shown) (u v : LaneView) → Looks w n x u v → Advances u v
advances-looks w n x u v h = advances-still u v h.told (looks-rise w n x u v h)

-- what is the same but for other things than records and marks
pub advances-same : (v w : LaneView) → w.told ≡ v.told → w.mark ≡ v.mark → Advances v w
advances-same v w told mark = advances-still v w told (λ x. let e = ap (λ (m : Word → ℕ). m x) mark in omega (arith, e))
