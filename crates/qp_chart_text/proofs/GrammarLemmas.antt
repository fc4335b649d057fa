-- What is read is in the grammar, and what is in the grammar is read.
use Rattle.std.proofs.Common.{◌≡◌, ◌≢◌, ◌≤◌, ℕ, zero, suc, Bool, true, false, List, [], ◌∷◌, ◌++◌, length, Option, Some, None, refl, ap, sym, ◌∙◌, arith, cond, subst, ◌==◌, eq-eqb, append_assoc, append-nil, length-append}
use Rattle.std.proofs.lemmas.Bool.{eqb-true, eqb-false, ne_eqb}
use Rattle.qp_chart_text.specs.declared.operators.Unary.{Unary}
use Rattle.qp_chart_text.specs.declared.operators.Unary.TheVariants as unary
use Rattle.qp_chart_text.specs.declared.operators.Binary.{Binary}
use Rattle.qp_chart_text.specs.declared.operators.Binary.TheVariants as binary
use Rattle.qp_chart_text.specs.declared.parser.Prefix.{Prefix}
use Rattle.qp_chart_text.specs.declared.parser.Prefix.TheVariants as prefix
use Rattle.std.specs.Prelude.{IfOk}
use Rattle.std.specs.Prelude as result
use Rattle.std.proofs.Common.{Result}
use Rattle.qp_chart_text.specs.declared.trees.Expr.{Expr}
use Rattle.qp_chart_text.specs.declared.trees.ExprFault.{ExprFault}
use Rattle.qp_chart_text.specs.declared.trees.ExprFault.TheVariants as fault
use Rattle.qp_chart_text.specs.Terms.{Term, term_of}
use Rattle.qp_chart_text.specs.Terms as term
use Rattle.qp_chart_text.specs.Tokens.{Tok, ◌>>=◌, tokens_of_text}
use Rattle.qp_chart_text.specs.Tokens as tok
use Rattle.qp_chart_text.specs.Reading.{Gives, Reader, rank_of, operator_at, step, more_at, level_at, atom_at, prefix_at, after_close, nested_at, term_operand_at, unary_at, expr_at, all_of, term_of_text}
use Rattle.qp_chart_text.specs.Grammar.{IsExpr, number, variable, ok, me, parameter, sign, parens, tighter, joined, compared, sign_token, IsExprText}
use Rattle.qp_chart_text.proofs.ParserLemmas.{ends}

-- no operator up to this rank begins the tokens
abbrev pub Stops : ℕ → List Tok → Type 0
Stops r ts = (k : ℕ) → k ≤ r → operator_at k ts ≡ None

stops_below : (r : ℕ) (ts : List Tok) → Stops (suc r) ts → Stops r ts
stops_below r ts s k h = s k (omega (arith, h))

at_rank : (op : Binary) (us : List Tok) (r : ℕ) → rank_of op ≡ r → operator_at r (tok.Op op ∷ us) ≡ Some (op, us)
unfolding operator_at
at_rank op us r h = rw (eq-eqb (rank_of op) r h) refl

off_rank : (op : Binary) (us : List Tok) (r k : ℕ) → rank_of op ≡ suc r → k ≤ r → operator_at k (tok.Op op ∷ us) ≡ None
unfolding operator_at
off_rank op us r k h le = let ne : rank_of op ≡ k → ⊥ = λ e. omega (arith, e, h, le) in rw (ne_eqb (rank_of op) k ne) refl

-- read in full where nothing follows that goes on
abbrev Full : ℕ → ℕ → List Tok → Term → Type 0
Full r d ts x = (rest : List Tok) → Stops r rest → level_at (unary_at d) r (ts ++ rest) ≡ Some (x, rest)

-- the left operand of what follows
abbrev Going : ℕ → ℕ → List Tok → Term → Type 0
Going zero d ts x = Unit {0}
Going (suc r) d ts x = suc r ≢ 3 → (rest : List Tok) → Stops r rest → (n : ℕ) × (length rest ≤ n) × (level_at (unary_at d) (suc r) (ts ++ rest) ≡ more_at (level_at (unary_at d) r) (suc r) n x rest)

unary_atom : (d : ℕ) (ts : List Tok) → prefix_at ts ≡ None → unary_at d ts ≡ atom_at ts
unfolding unary_at
unary_atom zero ts h = refl
unary_atom (suc d) ts h = rw h refl

level_next : (reader : Reader) (r : ℕ) (ts rest : List Tok) (x : Term) → level_at reader r ts ≡ Some (x, rest) → level_at reader (suc r) ts ≡ more_at (level_at reader r) (suc r) (length rest) x rest
unfolding level_at
level_next reader r ts rest x h = rw h refl

level_none : (reader : Reader) (ts : List Tok) → level_at reader zero ts ≡ reader ts
unfolding level_at
level_none reader ts = refl

-- one operator and its right operand
one_step : (reader : Reader) (r n : ℕ) (op : Binary) (us rest : List Tok) (x y : Term) → rank_of op ≡ suc r → reader us ≡ Some (y, rest) → more_at reader (suc r) (suc n) x (tok.Op op ∷ us) ≡ cond (suc r == 3) (Some (term.Two op x y, rest)) (more_at reader (suc r) n (term.Two op x y) rest)
unfolding more_at
one_step reader r n op us rest x y e h = rw (at_rank op us (suc r) e) (rw h refl)

read_tighter : (r d : ℕ) (ts : List Tok) (x : Term) → Full r d ts x → Full (suc r) d ts x × Going (suc r) d ts x
read_tighter r d ts x full = (
  (λ rest s. level_next (unary_at d) r (ts ++ rest) rest x (full rest (stops_below r rest s)) ∙ ends (level_at (unary_at d) r) (suc r) (length rest) x rest (s (suc r) (omega arith))),
  λ ne rest s. (length rest, omega arith, level_next (unary_at d) r (ts ++ rest) rest x (full rest s)),
)

go_on : (r d : ℕ) (op : Binary) (ts us : List Tok) (x y : Term) → rank_of op ≡ suc r → suc r ≢ 3 → Going (suc r) d ts x → Full r d us y → Going (suc r) d (ts ++ tok.Op op ∷ us) (term.Two op x y)
go_on r d op ts us x y e ne going full ne' rest s =
    let g = going ne (tok.Op op ∷ (us ++ rest)) (λ k le. off_rank op (us ++ rest) r k e le) in
    elim g.0 as (λ m. length (tok.Op op ∷ (us ++ rest)) ≤ m → level_at (unary_at d) (suc r) (ts ++ (tok.Op op ∷ (us ++ rest))) ≡ more_at (level_at (unary_at d) r) (suc r) m x (tok.Op op ∷ (us ++ rest)) → (n : ℕ) × (length rest ≤ n) × (level_at (unary_at d) (suc r) ((ts ++ tok.Op op ∷ us) ++ rest) ≡ more_at (level_at (unary_at d) r) (suc r) n (term.Two op x y) rest)) [
      | zero ↦ λ enough is. absurd (omega (arith, enough))
      | suc n ↦ λ enough is. (
        n,
        omega (arith, enough, length-append us rest),
        ap (level_at (unary_at d) (suc r)) (append_assoc ts (tok.Op op ∷ us) rest) ∙ is ∙ one_step (level_at (unary_at d) r) r n op (us ++ rest) rest x y e (full rest s) ∙ rw (ne_eqb (suc r) 3 ne) refl,
      )
    ] g.1 g.2

full_of : (r d : ℕ) (ts : List Tok) (x : Term) → suc r ≢ 3 → Going (suc r) d ts x → Full (suc r) d ts x
full_of r d ts x ne going rest s =
    let g = going ne rest (stops_below r rest s) in
    g.2 ∙ ends (level_at (unary_at d) r) (suc r) g.0 x rest (s (suc r) (omega arith))

full_compared : (d : ℕ) (op : Binary) (ts us : List Tok) (x y : Term) → rank_of op ≡ 3 → Full 2 d ts x → Full 2 d us y → Full 3 d (ts ++ tok.Op op ∷ us) (term.Two op x y)
full_compared d op ts us x y e fx fy rest s =
    ap (level_at (unary_at d) 3) (append_assoc ts (tok.Op op ∷ us) rest)
    ∙ level_next (unary_at d) 2 (ts ++ (tok.Op op ∷ (us ++ rest))) (tok.Op op ∷ (us ++ rest)) x (fx (tok.Op op ∷ (us ++ rest)) (λ k le. off_rank op (us ++ rest) 2 k e le))
    ∙ one_step (level_at (unary_at d) 2) 2 (length (us ++ rest)) op (us ++ rest) rest x y e (fy rest (stops_below 2 rest s))

full_atom : (d : ℕ) (t : Tok) (x : Term) → ((rest : List Tok) → prefix_at (t ∷ rest) ≡ None) → ((rest : List Tok) → atom_at (t ∷ rest) ≡ Some (x, rest)) → Full zero d (t ∷ []) x
full_atom d t x none is rest s = level_none (unary_at d) (t ∷ rest) ∙ unary_atom d (t ∷ rest) (none rest) ∙ is rest

full_sign : (d : ℕ) (op : Unary) (ts : List Tok) (x : Term) → Full zero d ts x → Full zero (suc d) (sign_token op ∷ ts) (term.One op x)
unfolding unary_at prefix_at
full_sign d unary.Not ts x full rest s = level_none (unary_at (suc d)) (tok.Bang ∷ (ts ++ rest)) ∙ rw (sym (level_none (unary_at d) (ts ++ rest)) ∙ full rest s) refl
full_sign d unary.Minus ts x full rest s = level_none (unary_at (suc d)) (tok.Op binary.Minus ∷ (ts ++ rest)) ∙ rw (sym (level_none (unary_at d) (ts ++ rest)) ∙ full rest s) refl

full_parens : (d : ℕ) (ts : List Tok) (x : Term) → Full 5 d ts x → Full zero (suc d) (tok.Open ∷ (ts ++ tok.Close ∷ [])) x
unfolding unary_at prefix_at operator_at after_close
full_parens d ts x full rest s =
    let inner : level_at (unary_at d) 5 ((ts ++ tok.Close ∷ []) ++ rest) ≡ Some (x, tok.Close ∷ rest) = ap (level_at (unary_at d) 5) (append_assoc ts (tok.Close ∷ []) rest) ∙ full (tok.Close ∷ rest) (λ k h. refl) in
    level_none (unary_at (suc d)) (tok.Open ∷ ((ts ++ tok.Close ∷ []) ++ rest)) ∙ rw inner refl

-- what is in the grammar is read
complete : {r d : ℕ} {ts : List Tok} {x : Term} → IsExpr r d ts x → Full r d ts x × Going r d ts x
unfolding atom_at prefix_at
complete (number {d = d} {n = n}) = (full_atom d (tok.Num n) (term.Num n) (λ rest. refl) (λ rest. refl), tt)
complete (variable {d = d} {name = name}) = (full_atom d (tok.Name name) (term.Var name) (λ rest. refl) (λ rest. refl), tt)
complete (ok {d = d}) = (full_atom d tok.Ok term.Ok (λ rest. refl) (λ rest. refl), tt)
complete (me {d = d}) = (full_atom d tok.Me term.Me (λ rest. refl) (λ rest. refl), tt)
complete (parameter {d = d} {j = j}) = (full_atom d (tok.Par j) (term.Par j) (λ rest. refl) (λ rest. refl), tt)
complete (sign {d = d} {op = op} {ts = ts} {x = x} h) = (full_sign d op ts x (complete h).0, tt)
complete (parens {d = d} {ts = ts} {x = x} h) = (full_parens d ts x (complete h).0, tt)
complete (tighter {r = r} {d = d} {ts = ts} {x = x} h) = read_tighter r d ts x (complete h).0
complete (joined {r = r} {d = d} {op = op} {ts = ts} {us = us} {x = x} {y = y} e ne a b) =
    let going = go_on r d op ts us x y e ne (complete a).1 (complete b).0 in
    (full_of r d (ts ++ tok.Op op ∷ us) (term.Two op x y) ne going, going)
complete (compared {d = d} {op = op} {ts = ts} {us = us} {x = x} {y = y} e a b) =
    (full_compared d op ts us x y e (complete a).0 (complete b).0, λ ne. absurd (ne refl))

-- a front of the tokens is in the grammar
pub record Takes (r d : ℕ) (ts : List Tok) (x : Term) (rest : List Tok) : Type 0 where
  pub front : List Tok
  pub splits : ts ≡ front ++ rest
  pub is : IsExpr r d front x

abbrev Sound : ℕ → ℕ → Reader → Type 0
Sound r d reader = (ts : List Tok) (x : Term) (rest : List Tok) → reader ts ≡ Some (x, rest) → Takes r d ts x rest

pub bind_ok : {A B : Type 0} (o : Option A) (f : A → Option B) (y : B) → (o >>= f) ≡ Some y → (x : A) × (o ≡ Some x) × (f x ≡ Some y)
bind_ok None f y h = cc
bind_ok (Some x) f y h = (x, refl, h)

pub some_of : {A : Type 0} (a c : A) → Some a ≡ Some c → a ≡ c
some_of a c h = cc

pub some_pair : {A B : Type 0} (a c : A) (b d : B) → ◌≡◌ {A = Option (A × B)} (Some (a, b)) (Some (c, d)) → (a ≡ c) × (b ≡ d)
some_pair {A} {B} a c b d h =
    let p : A × B = (a, b) in let q : A × B = (c, d) in
    let e : p ≡ q = some_of p q h in (ap (λ (p : A × B). p.0) e, ap (λ (p : A × B). p.1) e)

atom_sound : (d : ℕ) → Sound zero d atom_at
unfolding atom_at
atom_sound d [] x rest h = cc
atom_sound d (tok.Num n ∷ ts) x rest h = let p = some_pair (term.Num n) x ts rest h in subst (λ x. Takes zero d (tok.Num n ∷ ts) x rest) p.0 (record { front = tok.Num n ∷ []; splits = ap (λ r. tok.Num n ∷ r) p.1; is = number })
atom_sound d (tok.Name name ∷ ts) x rest h = let p = some_pair (term.Var name) x ts rest h in subst (λ x. Takes zero d (tok.Name name ∷ ts) x rest) p.0 (record { front = tok.Name name ∷ []; splits = ap (λ r. tok.Name name ∷ r) p.1; is = variable })
atom_sound d (tok.Ok ∷ ts) x rest h = let p = some_pair term.Ok x ts rest h in subst (λ x. Takes zero d (tok.Ok ∷ ts) x rest) p.0 (record { front = tok.Ok ∷ []; splits = ap (λ r. tok.Ok ∷ r) p.1; is = ok })
atom_sound d (tok.Me ∷ ts) x rest h = let p = some_pair term.Me x ts rest h in subst (λ x. Takes zero d (tok.Me ∷ ts) x rest) p.0 (record { front = tok.Me ∷ []; splits = ap (λ r. tok.Me ∷ r) p.1; is = me })
atom_sound d (tok.Par j ∷ ts) x rest h = let p = some_pair (term.Par j) x ts rest h in subst (λ x. Takes zero d (tok.Par j ∷ ts) x rest) p.0 (record { front = tok.Par j ∷ []; splits = ap (λ r. tok.Par j ∷ r) p.1; is = parameter })
atom_sound d (t ∷ ts) x rest h = cc

tested_op : (b : Bool) (op : Binary) (ts : List Tok) (x : Binary × List Tok) → cond b (Some (op, ts)) None ≡ Some x → (b ≡ true) × (op ≡ x.0) × (ts ≡ x.1)
tested_op true op ts (op', ts') h = let p = some_pair op op' ts ts' h in (refl, p.0, p.1)
tested_op false op ts x h = cc

-- the operator that begins the tokens
pub record Begins (r : ℕ) (ts : List Tok) (x : Binary × List Tok) : Type 0 where
  pub ranks : rank_of x.0 ≡ r
  pub splits : ts ≡ tok.Op x.0 ∷ x.1

operator_sound : (r : ℕ) (ts : List Tok) (x : Binary × List Tok) → operator_at r ts ≡ Some x → Begins r ts x
unfolding operator_at
operator_sound r [] x h = cc
operator_sound r (tok.Op op ∷ ts) x h =
    let p = tested_op (rank_of op == r) op ts x h in
    record { ranks = ap rank_of (sym p.1) ∙ eqb-true (rank_of op) r p.0; splits = ap (λ o. tok.Op o ∷ ts) p.1 ∙ ap (λ t. tok.Op x.0 ∷ t) p.2 }
operator_sound r (t ∷ ts) x h = cc

abbrev prefix_token : Prefix → Tok
prefix_token (prefix.Sign op) = sign_token op
prefix_token prefix.Parens = tok.Open

prefix_sound : (ts : List Tok) (p : Prefix) (us : List Tok) → prefix_at ts ≡ Some (p, us) → ts ≡ prefix_token p ∷ us
unfolding prefix_at
prefix_sound [] p us h = cc
prefix_sound (tok.Bang ∷ ts) p us h = let e = some_pair (prefix.Sign unary.Not) p ts us h in ap (λ p. prefix_token p ∷ ts) e.0 ∙ ap (λ t. prefix_token p ∷ t) e.1
prefix_sound (tok.Op binary.Minus ∷ ts) p us h = let e = some_pair (prefix.Sign unary.Minus) p ts us h in ap (λ p. prefix_token p ∷ ts) e.0 ∙ ap (λ t. prefix_token p ∷ t) e.1
prefix_sound (tok.Open ∷ ts) p us h = let e = some_pair prefix.Parens p ts us h in ap (λ p. prefix_token p ∷ ts) e.0 ∙ ap (λ t. prefix_token p ∷ t) e.1
prefix_sound (t ∷ ts) p us h = cc

pub close_sound : (ts us : List Tok) → after_close ts ≡ Some us → ts ≡ tok.Close ∷ us
unfolding after_close
close_sound [] us h = cc
close_sound (tok.Close ∷ ts) us h = let e : ts ≡ us = cc in ap (λ t. tok.Close ∷ t) e
close_sound (t ∷ ts) us h = cc

sign_sound : (d : ℕ) (op : Unary) (us : List Tok) (x : Term) (rest : List Tok) → Sound zero d (unary_at d) → nested_at (unary_at d) (prefix.Sign op) us ≡ Some (x, rest) → Takes zero (suc d) (sign_token op ∷ us) x rest
sign_sound d op us x rest below h =
    let i = bind_ok (unary_at d us) _ _ h in
    let p = some_pair (term.One op i.0.0) x i.0.1 rest i.2 in
    let t = below us i.0.0 i.0.1 i.1 in
    subst (λ x. Takes zero (suc d) (sign_token op ∷ us) x rest) p.0
    (record { front = sign_token op ∷ t.front; splits = ap (λ r. sign_token op ∷ r) (t.splits ∙ ap (λ r. t.front ++ r) p.1); is = sign t.is })

parens_sound : (d : ℕ) (us : List Tok) (x : Term) (rest : List Tok) → Sound 5 d (level_at (unary_at d) 5) → nested_at (unary_at d) prefix.Parens us ≡ Some (x, rest) → Takes zero (suc d) (tok.Open ∷ us) x rest
parens_sound d us x rest below h =
    let i = bind_ok (level_at (unary_at d) 5 us) _ _ h in
    let c = bind_ok (after_close i.0.1) _ _ i.2 in
    let p = some_pair i.0.0 x c.0 rest c.2 in
    let t = below us i.0.0 i.0.1 i.1 in
    subst (λ x. Takes zero (suc d) (tok.Open ∷ us) x rest) p.0
    (record {
      front = tok.Open ∷ (t.front ++ tok.Close ∷ []);
      splits = ap (λ r. tok.Open ∷ r) (t.splits ∙ ap (λ r. t.front ++ r) (close_sound i.0.1 c.0 c.1 ∙ ap (λ r. tok.Close ∷ r) p.1) ∙ sym (append_assoc t.front (tok.Close ∷ []) rest));
      is = parens t.is;
    })

-- behind these tokens of the left operand
abbrev Behind : ℕ → ℕ → List Tok → List Tok → Term → List Tok → Type 0
Behind r d front mid x rest = (all : List Tok) × (front ++ mid ≡ all ++ rest) × IsExpr r d all x

not_chosen : {A : Type 0} (b : Bool) (x y z : A) → b ≡ false → cond b x y ≡ z → y ≡ z
not_chosen true x y z e h = cc
not_chosen false x y z e h = h

chain_step : (d r : ℕ) (reader : Reader) → suc r ≢ 3 → Sound r d reader → (n : ℕ) (left : Term) (front mid : List Tok) (x : Term) (rest : List Tok) (op : Binary × List Tok) → IsExpr (suc r) d front left → Begins (suc r) mid op → ((left : Term) (front mid : List Tok) (x : Term) (rest : List Tok) → IsExpr (suc r) d front left → more_at reader (suc r) n left mid ≡ Some (x, rest) → Behind (suc r) d front mid x rest) → step reader (suc r) (more_at reader (suc r) n) left mid (Some op) ≡ Some (x, rest) → Behind (suc r) d front mid x rest
chain_step d r reader ne below n left front mid x rest (op, us) is begins again g =
    let i = bind_ok (reader us) _ _ g in
    let t = below us i.0.0 i.0.1 i.1 in
    let onwards : more_at reader (suc r) n (term.Two op left i.0.0) i.0.1 ≡ Some (x, rest) = not_chosen (suc r == 3) _ _ _ (ne_eqb (suc r) 3 ne) i.2 in
    let b = again (term.Two op left i.0.0) (front ++ tok.Op op ∷ t.front) i.0.1 x rest (joined begins.ranks ne is t.is) onwards in (
      b.0,
      ap (λ m. front ++ m) (begins.splits ∙ ap (λ r. tok.Op op ∷ r) t.splits) ∙ sym (append_assoc front (tok.Op op ∷ t.front) i.0.1) ∙ b.1,
      b.2,
    )

chain_sound : (d r : ℕ) (reader : Reader) → suc r ≢ 3 → Sound r d reader → (n : ℕ) (left : Term) (front mid : List Tok) (x : Term) (rest : List Tok) → IsExpr (suc r) d front left → more_at reader (suc r) n left mid ≡ Some (x, rest) → Behind (suc r) d front mid x rest
unfolding more_at
chain_sound d r reader ne below zero left front mid x rest is h =
    let p = some_pair left x mid rest h in (front, ap (λ m. front ++ m) p.1, subst (λ x. IsExpr (suc r) d front x) p.0 is)
chain_sound d r reader ne below (suc n) left front mid x rest is h =
    elim (operator_at (suc r) mid) as (λ o. operator_at (suc r) mid ≡ o → step reader (suc r) (more_at reader (suc r) n) left mid o ≡ Some (x, rest) → Behind (suc r) d front mid x rest) [
      | None ↦ λ e g. let p = some_pair left x mid rest g in (front, ap (λ m. front ++ m) p.1, subst (λ x. IsExpr (suc r) d front x) p.0 is)
      | Some op ↦ λ e g. chain_step d r reader ne below n left front mid x rest op is (operator_sound (suc r) mid op e) (chain_sound d r reader ne below n) g
    ] refl h

compare_sound : (d : ℕ) (reader : Reader) → Sound 2 d reader → (n : ℕ) (left : Term) (front mid : List Tok) (x : Term) (rest : List Tok) → IsExpr 2 d front left → more_at reader 3 n left mid ≡ Some (x, rest) → Behind 3 d front mid x rest
unfolding more_at
compare_sound d reader below zero left front mid x rest is h =
    let p = some_pair left x mid rest h in (front, ap (λ m. front ++ m) p.1, subst (λ x. IsExpr 3 d front x) p.0 (tighter is))
compare_sound d reader below (suc n) left front mid x rest is h =
    elim (operator_at 3 mid) as (λ o. operator_at 3 mid ≡ o → step reader 3 (more_at reader 3 n) left mid o ≡ Some (x, rest) → Behind 3 d front mid x rest) [
      | None ↦ λ e g. let p = some_pair left x mid rest g in (front, ap (λ m. front ++ m) p.1, subst (λ x. IsExpr 3 d front x) p.0 (tighter is))
      | Some op ↦ λ e g.
          let begins = operator_sound 3 mid op e in
          let i = bind_ok (reader op.1) _ _ g in
          let t = below op.1 i.0.0 i.0.1 i.1 in
          let p = some_pair (term.Two op.0 left i.0.0) x i.0.1 rest i.2 in (
            front ++ tok.Op op.0 ∷ t.front,
            ap (λ m. front ++ m) (begins.splits ∙ ap (λ r. tok.Op op.0 ∷ r) (t.splits ∙ ap (λ r. t.front ++ r) p.1)) ∙ sym (append_assoc front (tok.Op op.0 ∷ t.front) rest),
            subst (λ x. IsExpr 3 d (front ++ tok.Op op.0 ∷ t.front) x) p.0 (compared begins.ranks is t.is),
          )
    ] refl h

takes : (r d : ℕ) (front mid : List Tok) (ts : List Tok) (x : Term) (rest : List Tok) → ts ≡ front ++ mid → Behind r d front mid x rest → Takes r d ts x rest
takes r d front mid ts x rest e b = record { front = b.0; splits = e ∙ b.1; is = b.2 }

AtLevel : ℕ → ℕ → Type 0
AtLevel d r = Sound r d (level_at (unary_at d) r) → (n : ℕ) (ts : List Tok) (left : Term) (mid : List Tok) (x : Term) (rest : List Tok) → Takes r d ts left mid → more_at (level_at (unary_at d) r) (suc r) n left mid ≡ Some (x, rest) → Takes (suc r) d ts x rest

at_comparisons : (d : ℕ) → AtLevel d 2
unfolding AtLevel
at_comparisons d below n ts left mid x rest t h = takes 3 d t.front mid ts x rest t.splits (compare_sound d (level_at (unary_at d) 2) below n left t.front mid x rest t.is h)

elsewhere : (d r : ℕ) → suc r ≢ 3 → AtLevel d r
unfolding AtLevel
elsewhere d r ne below n ts left mid x rest t h = takes (suc r) d t.front mid ts x rest t.splits (chain_sound d r (level_at (unary_at d) r) ne below n left t.front mid x rest (tighter t.is) h)

not_three : (r : ℕ) → (r == 2) ≡ false → suc r ≢ 3
not_three r h e = eqb-false r 2 h (omega (arith, e))

at_level : (d r : ℕ) → AtLevel d r
at_level d r =
    elim (r == 2) as (λ b. (r == 2) ≡ b → AtLevel d r) [
      | true ↦ λ e. subst (AtLevel d) (sym (eqb-true r 2 e)) (at_comparisons d)
      | false ↦ λ e. elsewhere d r (not_three r e)
    ] refl

level_sound : (d r : ℕ) → Sound zero d (unary_at d) → Sound r d (level_at (unary_at d) r)
unfolding level_at AtLevel
level_sound d zero below = below
level_sound d (suc r) below = λ ts x rest h.
    let i = bind_ok (level_at (unary_at d) r ts) _ _ h in
    at_level d r (level_sound d r below) (length i.0.1) ts i.0.0 i.0.1 x rest (level_sound d r below ts i.0.0 i.0.1 i.1) i.2

nested_sound : (d : ℕ) (ts us : List Tok) (p : Prefix) (x : Term) (rest : List Tok) → Sound zero d (unary_at d) → ts ≡ prefix_token p ∷ us → nested_at (unary_at d) p us ≡ Some (x, rest) → Takes zero (suc d) ts x rest
nested_sound d ts us (prefix.Sign op) x rest below e h = subst (λ ts. Takes zero (suc d) ts x rest) (sym e) (sign_sound d op us x rest below h)
nested_sound d ts us prefix.Parens x rest below e h = subst (λ ts. Takes zero (suc d) ts x rest) (sym e) (parens_sound d us x rest (level_sound d 5 below) h)

unary_sound : (d : ℕ) → Sound zero d (unary_at d)
unfolding unary_at
unary_sound zero = atom_sound zero
unary_sound (suc d) = λ ts x rest h.
    elim (prefix_at ts) as (λ o. prefix_at ts ≡ o → term_operand_at (unary_at d) ts o ≡ Some (x, rest) → Takes zero (suc d) ts x rest) [
      | None ↦ λ e g. atom_sound (suc d) ts x rest g
      | Some p ↦ λ e g. nested_sound d ts p.1 p.0 x rest (unary_sound d) (prefix_sound ts p.0 p.1 e) g
    ] refl h

-- what is read is in the grammar
pub expr_sound : (ts : List Tok) (x : Term) (rest : List Tok) → expr_at ts ≡ Some (x, rest) → Takes 5 16 ts x rest
unfolding expr_at
expr_sound = level_sound 16 5 (unary_sound 16)

-- what is in the grammar is read, where nothing goes on
pub expr_complete : (ts : List Tok) (x : Term) (rest : List Tok) → IsExpr 5 16 ts x → Stops 5 rest → expr_at (ts ++ rest) ≡ Some (x, rest)
unfolding expr_at
expr_complete ts x rest h s = (complete h).0 rest s

whole : (x y : Term) (rest : List Tok) → all_of (y, rest) ≡ Some x → (y ≡ x) × (rest ≡ [])
whole x y [] h = (some_of y x h, refl)
whole x y (t ∷ ts) h = cc

pub text_sound : (text : List ℕ) (x : Term) → term_of_text text ≡ Some x → IsExprText text x
unfolding term_of_text
text_sound text x h =
    let i = bind_ok (tokens_of_text text) _ x h in
    let j = bind_ok (expr_at i.0) _ x i.2 in
    let w = whole x j.0.0 j.0.1 j.2 in
    let t = expr_sound i.0 j.0.0 j.0.1 j.1 in
    let all : i.0 ≡ t.front = t.splits ∙ ap (λ r. t.front ++ r) w.1 ∙ append-nil t.front in
    (i.0, i.1, subst (λ ts. IsExpr 5 16 ts x) (sym all) (subst (λ y. IsExpr 5 16 t.front y) w.0 t.is))

pub text_complete : (text : List ℕ) (x : Term) → IsExprText text x → term_of_text text ≡ Some x
unfolding term_of_text operator_at
text_complete text x (ts, tokens, is) =
    let read : expr_at ts ≡ Some (x, []) = ap expr_at (sym (append-nil ts)) ∙ expr_complete ts x [] is (λ k h. refl) in
    rw tokens (rw read refl)

pub none_some : {A : Type 0} (x : A) → None ≡ Some x → ⊥
none_some x h = cc

pub found_expr : (text : List ℕ) (r : Result Expr ExprFault) → Gives term_of r (term_of_text text) → IfOk r (λ e. IsExprText text (term_of e))
found_expr text (result.Ok e) h = text_sound text (term_of e) h
found_expr text (result.Err e) h = tt

pub no_expr : (text : List ℕ) (r : Result Expr ExprFault) → Gives term_of r (term_of_text text) → r ≡ result.Err fault.Bad → (x : Term) → IsExprText text x → ⊥
no_expr text r h e x is =
    let P : Result Expr ExprFault → Type 0 = λ r. Gives term_of r (term_of_text text) in
    let none : term_of_text text ≡ None = subst P e h in
    none_some x (sym none ∙ text_complete text x is)
