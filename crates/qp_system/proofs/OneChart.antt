-- An action of a text is one: the names of expressions and events fix their numbers.
use Rattle.std.proofs.Common.{◌≡◌, ℕ, ℤ, pos, List, [], ◌∷◌, Option, Some, None, refl, sym, ◌∙◌, ap, subst}
use Rattle.std.proofs.lemmas.Option.{same_Some}
use Rattle.qp_chart_text.specs.Terms.{Word, Term, Address, ToMe, ToObject, Order, Set, Say, Post, Lifo, Forward, Publish, Defer, Recall, Flush, Subscribe, Unsubscribe, Arm, Rearm, Disarm, Command, Plain, Locked}
use Rattle.qp_chart_names.specs.declared.raw.RawChart.{RawChart}
use Rattle.qp_chart_names.specs.declared.raw.ObjName.{ObjName}
use Rattle.qp_chart_names.specs.declared.raw.Names.{Names}
use Rattle.qp_chart_names.specs.Pairs.{Corresponds}
use Rattle.qp_chart.specs.declared.expression.Bound.{Bound}
use Rattle.qp_chart.specs.declared.actions.Target.{Target}
use Rattle.qp_chart.specs.declared.actions.Target.TheVariants as target
use Rattle.qp_chart.specs.declared.actions.Plain as plain
use Rattle.qp_chart.specs.declared.actions.Plain.TheVariants as checked
use Rattle.qp_chart.specs.declared.actions.Act.{Act}
use Rattle.qp_chart.specs.declared.actions.Act.TheVariants as act
use Rattle.qp_chart.specs.declared.checked.Timer.{Timer}
use Rattle.qp_chart.specs.declared.checked.Row.{Row}
use Rattle.qp_chart.specs.declared.checked.State.{State}
use Rattle.qp_chart.specs.declared.checked.Chart.{Chart}
use Rattle.qp_chart_names.specs.declared.raw.RawTimer.{RawTimer}
use Rattle.qp_chart_names.specs.declared.raw.RawRow.{RawRow}
use Rattle.qp_chart_names.specs.declared.raw.RawState.{RawState}
use Rattle.qp_chart_names.specs.RawNumbers.{Refers, state_number}
use Rattle.qp_chart_names.specs.ActionFaults.{params_in, params_of_name}
use Rattle.qp_chart.specs.Binding.{Binds}
use Rattle.qp_chart.specs.ActionOf.{IsBoundOf, IsTargetOf, IsByteOf, IsPlainOf, IsActOf, IsActOfText, IsGuardOf}
use Rattle.qp_chart.specs.ChartOf.{AreActsOf, IsTimerOf, IsRowOf, IsStateOf, IsChartOf}

pub binds-one : (vars : List Word) (m n : ℕ) (e : Term) (b c : Bound) → Binds vars m e b → Binds vars n e c → b ≡ c
binds-one vars m n e b c h k = same_Some b c (sym h.made ∙ k.made)

-- what corresponds to a list is one
pub corresponds-one : {A B : Type 0} (Is : A → B → Type 0) → ((a : A) (b c : B) → Is a b → Is a c → b ≡ c)
    → (xs : List A) (bs cs : List B) → Corresponds Is xs bs → Corresponds Is xs cs → bs ≡ cs
unfolding Corresponds
corresponds-one Is one [] [] [] h k = refl
corresponds-one Is one [] [] (c ∷ cs) h k = absurd k
corresponds-one Is one [] (b ∷ bs) cs h k = absurd h
corresponds-one Is one (a ∷ xs) [] cs h k = absurd h
corresponds-one Is one (a ∷ xs) (b ∷ bs) [] h k = absurd k
corresponds-one Is one (a ∷ xs) (b ∷ bs) (c ∷ cs) h k = λ i. one a b c h.0 k.0 i ∷ corresponds-one Is one xs bs cs h.1 k.1 i

byte-one : (z : Option ℤ) (r s : Option ℕ) → IsByteOf z r → IsByteOf z s → r ≡ s
byte-one z None None h k = refl
byte-one z None (Some s) h k = let no = sym h ∙ k in cc
byte-one z (Some r) None h k = let no = sym h ∙ k in cc
byte-one z (Some r) (Some s) h k = let same = sym h ∙ k in let e : r ≡ s = cc in ap (λ n. Some n) e

module _ (names : Names) (chart : RawChart) (params : ℕ) where
  bound-one : (e : Term) (b c : Bound) → IsBoundOf chart params e b → IsBoundOf chart params e c → b ≡ c
  bound-one e b c h k = binds-one _ params params e b c h k

  target-one : (a : Address) (to at : Target) → IsTargetOf names a to → IsTargetOf names a at → to ≡ at
  target-one ToMe to at h k = h ∙ sym k
  target-one (ToObject name) to at (x, is, t) (y, iss, u) =
      t ∙ ap (λ (o : ObjName). target.Object o.priority) (same_Some x y (sym is ∙ iss)) ∙ sym u

  pars-one : (es : List Term) (bs cs : List Bound) → Corresponds (IsBoundOf chart params) es bs → Corresponds (IsBoundOf chart params) es cs → bs ≡ cs
  pars-one = corresponds-one (IsBoundOf chart params) bound-one

  pub plain-one : (o : Order) (p q : plain.Plain) → IsPlainOf names chart params o p → IsPlainOf names chart params o q → p ≡ q
  unfolding IsPlainOf
  plain-one (Set var value) p q (v, b, is, at, made) (w, c, iss, att, other) =
      is ∙ (λ i. checked.Set (same_Some v w (sym at ∙ att) i) (bound-one value b c made other i)) ∙ sym iss
  plain-one (Say value) p q (b, is, made) (c, iss, other) = is ∙ ap (λ b. checked.Say b) (bound-one value b c made other) ∙ sym iss
  plain-one (Post a event margin reserve) p q (to, sig, pars, m, r, is, t, e, mm, rr) (at, sign, pairs, n, s, iss, u, f, nn, ss) =
      is
      ∙ (λ i. checked.Post (target-one a to at t u i) (same_Some sig sign (sym e.signal_is ∙ f.signal_is) i) (pars-one event.pars pars pairs e.pars_are f.pars_are i) (byte-one margin m n mm nn i) (byte-one reserve r s rr ss i))
      ∙ sym iss
  plain-one (Lifo event reserve) p q (sig, pars, r, is, e, rr) (sign, pairs, s, iss, f, ss) =
      is ∙ (λ i. checked.Lifo (same_Some sig sign (sym e.signal_is ∙ f.signal_is) i) (pars-one event.pars pars pairs e.pars_are f.pars_are i) (byte-one reserve r s rr ss i)) ∙ sym iss
  plain-one (Forward a margin) p q (to, m, is, t, mm) (at, n, iss, u, nn) = is ∙ (λ i. checked.Forward (target-one a to at t u i) (byte-one margin m n mm nn i)) ∙ sym iss
  plain-one (Publish event reserve) p q (sig, pars, r, is, e, rr) (sign, pairs, s, iss, f, ss) =
      is ∙ (λ i. checked.Publish (same_Some sig sign (sym e.signal_is ∙ f.signal_is) i) (pars-one event.pars pars pairs e.pars_are f.pars_are i) (byte-one reserve r s rr ss i)) ∙ sym iss
  plain-one Defer p q h k = h ∙ sym k
  plain-one Recall p q h k = h ∙ sym k
  plain-one Flush p q h k = h ∙ sym k
  plain-one (Subscribe name) p q (s, is, at) (t, iss, att) = is ∙ ap (λ n. checked.Subscribe n) (same_Some s t (sym at ∙ att)) ∙ sym iss
  plain-one (Unsubscribe name) p q (s, is, at) (t, iss, att) = is ∙ ap (λ n. checked.Unsubscribe n) (same_Some s t (sym at ∙ att)) ∙ sym iss
  plain-one (Arm name ticks interval) p q (t, x, y, is, at, xx, yy) (u, z, w, iss, att, zz, ww) =
      is ∙ (λ i. checked.Arm (same_Some t u (sym at ∙ att) i) (bound-one ticks x z xx zz i) (bound-one interval y w yy ww i)) ∙ sym iss
  plain-one (Rearm name ticks) p q (t, x, is, at, xx) (u, z, iss, att, zz) = is ∙ (λ i. checked.Rearm (same_Some t u (sym at ∙ att) i) (bound-one ticks x z xx zz i)) ∙ sym iss
  plain-one (Disarm name) p q (t, is, at) (u, iss, att) = is ∙ ap (λ n. checked.Disarm n) (same_Some t u (sym at ∙ att)) ∙ sym iss

pos-one : (m n : ℕ) → pos m ≡ pos n → m ≡ n
pos-one m n e = cc

refers-one : (number : List ℕ → Option ℕ) (x : Option (List ℕ)) (p q : Option ℕ) → Refers number x p → Refers number x q → p ≡ q
refers-one number None None None h k = refl
refers-one number None None (Some q) h k = absurd k
refers-one number None (Some p) q h k = absurd h
refers-one number (Some x) None q h k = absurd h
refers-one number (Some x) (Some p) None h k = absurd k
refers-one number (Some x) (Some p) (Some q) h k = sym h ∙ k

module _ (names : Names) (chart : RawChart) where
  act-one : (params : ℕ) (o : Command) (a b : Act) → IsActOf names chart params o a → IsActOf names chart params o b → a ≡ b
  unfolding IsActOf
  act-one params (Plain o) a b (p, is, made) (q, iss, other) = is ∙ ap (λ p. act.Plain p) (plain-one names chart params o p q made other) ∙ sym iss
  act-one params (Locked z os) a b (c, ps, is, n, made) (d, qs, iss, m, other) =
      is ∙ (λ i. act.Locked (pos-one c d (sym n ∙ m) i) (corresponds-one (IsPlainOf names chart params) (plain-one names chart params) os ps qs made other i)) ∙ sym iss

  text-one : (inside : Option ℕ) (text : List ℕ) (a b : Act) → IsActOfText names chart inside text a → IsActOfText names chart inside text b → a ≡ b
  text-one inside text a b h k =
      act-one (params_in inside) k.command a b (subst (λ c. IsActOf names chart (params_in inside) c a) (same_Some h.command k.command (sym h.read ∙ k.read)) h.made) k.made

  acts-one : (inside : Option ℕ) (texts : List (List ℕ)) (xs ys : List Act) → AreActsOf names chart inside texts xs → AreActsOf names chart inside texts ys → xs ≡ ys
  acts-one inside = corresponds-one (IsActOfText names chart inside) (text-one inside)

  guard-one : (params : ℕ) (x : Option (List ℕ)) (b c : Option Bound) → IsGuardOf chart params x b → IsGuardOf chart params x c → b ≡ c
  guard-one params None None None h k = refl
  guard-one params None None (Some c) h k = absurd k
  guard-one params None (Some b) c h k = absurd h
  guard-one params (Some x) None c h k = absurd h
  guard-one params (Some x) (Some b) None h k = absurd k
  guard-one params (Some x) (Some b) (Some c) h k =
      ap (λ b. Some b) (bound-one names chart params k.term b c (subst (λ t. IsBoundOf chart params t b) (same_Some h.term k.term (sym h.read ∙ k.read)) h.made) k.made)

  timer-one : (raw : RawTimer) (t u : Timer) → IsTimerOf names raw t → IsTimerOf names raw u → t ≡ u
  timer-one raw t u h k = λ i. record {
    name = (h.name ∙ sym k.name) i;
    signal = same_Some t.signal u.signal (sym h.signal ∙ k.signal) i;
    rate = (h.rate ∙ sym k.rate) i;
  }

  row-one : (raw : RawRow) (r s : Row) → IsRowOf names chart raw r → IsRowOf names chart raw s → r ≡ s
  row-one raw r s h k = λ i. record {
    on = same_Some r.on s.on (sym h.on ∙ k.on) i;
    when = guard-one (params_of_name names raw.on) raw.when r.when s.when h.when k.when i;
    acts = acts-one (Some (params_of_name names raw.on)) raw.acts r.acts s.acts h.acts k.acts i;
    to = refers-one (state_number chart) raw.to r.to s.to h.to k.to i;
  }

  state-one : (raw : RawState) (s t : State) → IsStateOf names chart raw s → IsStateOf names chart raw t → s ≡ t
  state-one raw s t h k = λ i. record {
    name = (h.name ∙ sym k.name) i;
    parent = (h.parent ∙ sym k.parent) i;
    entry = acts-one None raw.entry s.entry t.entry h.entry k.entry i;
    exit = acts-one None raw.exit s.exit t.exit h.exit k.exit i;
    init = refers-one (state_number chart) raw.init s.init t.init h.init k.init i;
    init_do = acts-one None raw.init_do s.init_do t.init_do h.init_do k.init_do i;
    row = corresponds-one (IsRowOf names chart) row-one raw.row s.row t.row h.row k.row i;
  }

  -- what a file says of a chart is one chart
  pub chart-one : (c d : Chart) → IsChartOf names chart c → IsChartOf names chart d → c ≡ d
  chart-one c d h k = λ i. record {
    name = (h.name ∙ sym k.name) i;
    init = same_Some c.init d.init (sym h.init ∙ k.init) i;
    init_do = acts-one None chart.init_do c.init_do d.init_do h.init_do k.init_do i;
    vars = (h.vars ∙ sym k.vars) i;
    timer = corresponds-one (IsTimerOf names) timer-one chart.timer c.timer d.timer h.timer k.timer i;
    state = corresponds-one (IsStateOf names chart) state-one chart.state c.state d.state h.state k.state i;
  }
