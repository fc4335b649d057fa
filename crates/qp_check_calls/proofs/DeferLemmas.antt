-- The records of calls that change the deferred list.
use Rattle.std.proofs.Common.{◌≡◌, ◌↔◌, ℕ, nat_lt, Bool, true, false, List, [], ◌∷◌, ◌++◌, length, Some, None, refl, sym, ◌∙◌, ap, subst}
use Rattle.std.specs.declared.option.Option.{Option}
use Rattle.qp_model.specs.declared.systems.System.{System}
use Rattle.qp_model.specs.declared.bodies.Entry.{Entry}
use Rattle.qp_model.specs.declared.bodies.Body.{Body}
use Rattle.qp_model.specs.declared.bodies.Body.TheVariants as item
use Rattle.qp_model.specs.Told.{Told, Known, Nothing, plain}
use Rattle.qp_model.specs.Calls as call
use Rattle.qp_model.specs.Calls.{Answer, Granted, Refused}
use Rattle.qp_model.specs.Shapes.{Fits, Defers}
use Rattle.qp_model.specs.Deferral.{keep, kept_after, KeepsDeferred}
use Rattle.qp_check_calls.specs.CallState.{ToDeferred, CallStage, Begins, Whole}
use Rattle.qp_check_calls.specs.CallStateNext.{stage_next, begin_next, defer_next, full_next, list_after}
use Rattle.qp_check_calls.proofs.ReadLemmas.{At, at-step, at-stepped, at-ended, at-whole}
use Rattle.qp_check_calls.proofs.FrontLemmas.{at-deferred}
use Rattle.qp_check_calls.proofs.PostLemmas.{Again, at-now}
use Rattle.qp_check_calls.proofs.KeptLemmas.{kept-now}
use Rattle.qp_model.proofs.RecordLemmas.{told-is}

module _ (sys : System) (o : ℕ) (now : Option Entry) (kept : List Entry) (a : Answer) (k : List Entry) (room : ℕ) where
  -- the list has room
  defer-room : nat_lt (length kept) room ≡ true → (g : List Told)
      → At sys o now kept (Begins room call.Defer) a k g ↔ (Defers now a g × (kept_after room kept g ≡ Some k))
  unfolding stage_next begin_next defer_next Defers kept_after keep
  defer-room is g = (λ h. out (again.0 h), λ h. again.1 (into a refl h.0 h.1))
    where
      again : At sys o now kept (Begins room call.Defer) a k g ↔ Again sys o now kept a k ToDeferred g
      again = at-now sys o now kept a k ToDeferred (Begins room call.Defer) (λ body known. rw is refl) (λ b h. cc) g

      one : (e : Entry) → kept_after room kept (plain (item.Defer e) ∷ []) ≡ Some (kept ++ e ∷ [])
      one e = rw is refl

      out : Again sys o now kept a k ToDeferred g → Defers now a g × (kept_after room kept g ≡ Some k)
      out h =
          let last = (at-deferred sys o now kept a k h.1 h.2).0 h.5 in
          let whole : g ≡ h.0 ++ (plain (item.Defer h.1) ∷ []) = h.4 ∙ ap (λ x. h.0 ++ x) last.0 in
          let keeps : kept_after room kept g ≡ Some k =
          ap (λ x. kept_after room kept x) whole ∙ kept-now room kept now h.0 (plain (item.Defer h.1) ∷ []) h.1 h.3 ∙ one h.1 ∙ ap (λ x. Some x) (sym last.2) in
          (subst (λ x. Defers now x g) (sym last.1) (h.0, h.1, h.3, whole), keeps)

      into : (b : Answer) → a ≡ b → Defers now b g → kept_after room kept g ≡ Some k → Again sys o now kept a k ToDeferred g
      into Granted q h keeps =
          let list : Some (kept ++ h.1 ∷ []) ≡ Some k =
          sym (one h.1) ∙ sym (kept-now room kept now h.0 (plain (item.Defer h.1) ∷ []) h.1 h.2) ∙ ap (λ x. kept_after room kept x) (sym h.3) ∙ keeps in
          let same : k ≡ kept ++ h.1 ∷ [] = cc in
          (h.0, h.1, plain (item.Defer h.1) ∷ [], h.2, h.3, (at-deferred sys o now kept a k h.1 (plain (item.Defer h.1) ∷ [])).1 (refl, q, same))
      into Refused q h keeps =
          let dead : kept_after room kept (plain item.NoDefer ∷ []) ≡ None = rw is refl in
          let still : kept_after room kept (plain item.NoDefer ∷ []) ≡ Some k = ap (λ x. kept_after room kept x) (sym h) ∙ keeps in
          absurd (cc)
      into b q h keeps = absurd h

  -- the list is full
  defer-full : nat_lt (length kept) room ≡ false → (g : List Told)
      → At sys o now kept (Begins room call.Defer) a k g ↔ (Defers now a g × (kept_after room kept g ≡ Some k))
  unfolding stage_next begin_next defer_next Defers kept_after keep
  defer-full is g = (out g, λ h. into a refl h.0 h.1)
    where
      by : (t : Told) (g : List Told) (body : Body) (known : Known) → t.body ≡ body → t.known ≡ known → (next : CallStage)
          → full_next body known ≡ Some next → At sys o now (list_after kept body) next a k g → Defers now a (t ∷ g) × (kept_after room kept (t ∷ g) ≡ Some k)
      by t g item.NoDefer Nothing is_body is_known next f more =
          let stage : Whole Refused ≡ next = cc in
          let last = (at-whole sys o now kept Refused a k g).0 (subst (λ x. At sys o now kept x a k g) (sym stage) more) in
          let whole : t ≡ plain item.NoDefer = told-is t _ _ is_body is_known in
          let end : g ≡ [] = last.0 in
          let all : t ∷ g ≡ plain item.NoDefer ∷ [] = cc in
          let keeps : kept_after room kept (plain item.NoDefer ∷ []) ≡ Some kept = rw is refl in
          (subst (λ x. Defers now x (t ∷ g)) (sym last.1) all, ap (λ x. kept_after room kept x) all ∙ keeps ∙ ap (λ x. Some x) (sym last.2))
      by t g body known is_body is_known next f more = absurd (cc)

      out : (g : List Told) → At sys o now kept (Begins room call.Defer) a k g → Defers now a g × (kept_after room kept g ≡ Some k)
      out [] h = absurd (cc ((at-ended sys o now kept (Begins room call.Defer) a k h).0))
      out (t ∷ g) h =
          let one = at-stepped sys o now kept (Begins room call.Defer) a k t g h in
          let none : defer_next false sys o now kept t.body t.known ≡ Some one.0 = ap (λ x. defer_next x sys o now kept t.body t.known) (sym is) ∙ one.1 in
          by t g t.body t.known refl refl one.0 none one.2

      into : (b : Answer) → a ≡ b → Defers now b g → kept_after room kept g ≡ Some k → At sys o now kept (Begins room call.Defer) a k g
      into Granted q h keeps =
          let dead : kept_after room kept (plain (item.Defer h.1) ∷ []) ≡ None = rw is refl in
          let still : kept_after room kept (plain (item.Defer h.1) ∷ []) ≡ Some k =
          sym (kept-now room kept now h.0 (plain (item.Defer h.1) ∷ []) h.1 h.2) ∙ ap (λ x. kept_after room kept x) (sym h.3) ∙ keeps in
          absurd (cc)
      into Refused q h keeps =
          let one : kept_after room kept (plain item.NoDefer ∷ []) ≡ Some kept = rw is refl in
          let list : Some kept ≡ Some k = sym one ∙ ap (λ x. kept_after room kept x) (sym h) ∙ keeps in
          let same : k ≡ kept = cc in
          rw h (at-step sys o now kept _ (Whole Refused) a k _ [] (rw is refl) ((at-whole sys o now kept Refused a k []).1 (refl, q, same)))
      into b q h keeps = absurd h

  pub begin-defer : (g : List Told) → At sys o now kept (Begins room call.Defer) a k g ↔ (Fits sys o now call.Defer a g × KeepsDeferred room call.Defer g kept k)
  unfolding Fits KeepsDeferred
  begin-defer g = by (nat_lt (length kept) room) refl
    where
      by : (b : Bool) → nat_lt (length kept) room ≡ b → At sys o now kept (Begins room call.Defer) a k g ↔ (Defers now a g × (kept_after room kept g ≡ Some k))
      by true is = defer-room is g
      by false is = defer-full is g
