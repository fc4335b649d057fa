use Rattle.std.proofs.Common.{◌≡◌, ◌+◌, ◌-◌, ◌<◌, ◌∷◌, [], Bool, true, false, not, refl, sym, ap, ◌∙◌, List, ℕ, length, get_or, take, arith}
use Rattle.std.specs.List.{list_any}
use Rattle.std.specs.Str.{bytes_eq}
use Rattle.std.proofs.lemmas.List.{take_all, take-map, length-map}
use Rattle.std.proofs.Math.ListN.{get_or-map}
use Rattle.qp_chart_names.specs.declared.place.Part.TheVariants.{Key, Pos}
use Rattle.qp_chart_names.specs.Keys.{NAME}
use Rattle.qp_chart_names.specs.Codes.{DOUBLE}
use Rattle.qp_chart_names.specs.Faults.{fault_if}
use Rattle.qp_chart_names.specs.Known.{words}
use Rattle.qp_chart_names.specs.NameFaults.{double_at, double_fault}
use Rattle.qp_chart_names.proofs.NumberingLemmas.{IsNumbering-none, IsNumbering-more, Adds-fresh}
use Rattle.qp_chart_names.proofs.FaultLemmas.{passed-none, passed-one, passed-all, found-at}
use Rattle.qp_chart_names.proofs.tables.distinct.Goals as goal

-- whether the next name stands among the earlier ones
double-is : (list : ℕ) (names : List (List ℕ)) (i : ℕ) (name : List ℕ) (b : Bool) → list_any (bytes_eq name) (words (take i names)) ≡ b
    → double_at list (words names) (i + 1) name ≡ fault_if b DOUBLE (Key list ∷ Pos (i + 1) ∷ Key NAME ∷ [])
unfolding double_at
double-is list names i name b e =
    let same : i + 1 - 1 ≡ i = omega arith in
    let front : take i (words names) ≡ words (take i names) = take-map (λ (n : (List ℕ)). n) i names in
    rw (same, front, e) refl

-- a name of the list
name-at : (names : List (List ℕ)) (i : ℕ) (x : (List ℕ)) → x ≡ get_or names i x → x ≡ get_or (words names) i x
name-at names i x is = ap (λ (n : (List ℕ)). n) is ∙ sym (get_or-map (λ (n : (List ℕ)). n) names i x)

inside : (names : List (List ℕ)) (i : ℕ) → i < length names → i < length (words names)
inside names i h = rw (length-map names (λ (n : (List ℕ)). n)) h

pub loop-i-init : goal.loop-i-init
loop-i-init c = record { numbered = IsNumbering-none 1 _ c.new-places.ensures; passed = passed-none _ _ }

pub returns-then-not-branch-clause-fault : goal.returns-then-not-branch-clause-fault
unfolding double_fault
returns-then-not-branch-clause-fault c =
    let s = c.index-names-i.result in
    let names = c.args.names.now in
    let known : list_any (bytes_eq s) (words (take c.loop-i.i names)) ≡ true =
    Adds-fresh 1 _ c.loop-i.places c.add.new.self s _ _ c.loop-i.invariant.numbered c.in_ok-add.ensures ∙ ap not c.if-not-branch.true in
    found-at (double_at c.args.list (words names)) (words names) c.loop-i.i s _ c.loop-i.invariant.passed
    (inside names c.loop-i.i c.loop-i-test.true) (name-at names c.loop-i.i s c.index-names-i.is)
    (rw (double-is c.args.list names c.loop-i.i s true known) c.below.ensures)

pub loop-i-preserved : goal.loop-i-preserved
loop-i-preserved c =
    let s = c.index-names-i.result in
    let names = c.args.names.now in
    let unknown : list_any (bytes_eq s) (words (take c.loop-i.i names)) ≡ false =
    Adds-fresh 1 _ c.loop-i.places c.add.new.self s _ _ c.loop-i.invariant.numbered c.in_ok-add.ensures ∙ ap not c.if-not-branch.false in
    record {
      numbered = IsNumbering-more (λ (n : (List ℕ)). n) 1 names c.loop-i.i s c.loop-i.places c.add.new.self _ _
          c.loop-i-test.true c.index-names-i.is refl c.loop-i.invariant.numbered c.in_ok-add.ensures;
      passed = passed-one (double_at c.args.list (words names)) (words names) c.loop-i.i s c.loop-i.invariant.passed
          (inside names c.loop-i.i c.loop-i-test.true) (name-at names c.loop-i.i s c.index-names-i.is)
          (double-is c.args.list names c.loop-i.i s false unknown);
    }

pub returns-clause-ok : goal.returns-clause-ok
unfolding double_fault
returns-clause-ok c =
    let names = c.args.names.now in (
      passed-all (double_at c.args.list (words names)) (words names) c.loop-i.i c.loop-i.invariant.passed (rw (length-map names (λ (n : (List ℕ)). n)) c.loop-i-test.false),
      rw (take_all c.loop-i.i names c.loop-i-test.false) at c.loop-i.invariant.numbered,
    )
