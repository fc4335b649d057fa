-- A text that is read as a journal is the journal's text.
use Rattle.std.proofs.Common.{◌≡◌, ◌∙◌, ℕ, ◌+◌, ◌≤◌, Bool, true, false, List, [], ◌∷◌, ◌++◌, length, Option, Some, None, Result, Ok, Err, cond, refl, sym, ap, append_assoc, append-nil, arith, inl, inr}
use Rattle.std.specs.Prelude.{◌==◌, ◌&&◌, ◌⊎◌, not, nat_le, codes}
use Rattle.std.specs.List.{list_all}
use Rattle.std.specs.Str.{bytes_eq}
use Rattle.std.proofs.lemmas.Bool.{le-leb, leb-true, and_from, and_parts}
use Rattle.std.proofs.lemmas.Bool.Decides.{nat_tests}
use Rattle.std.proofs.lemmas.Grind.{flat_map-append}
use Rattle.qp_model.specs.Kinds.{BEGIN, REST}
use Rattle.qp_model.specs.declared.record.Rec.{Rec}
use Rattle.qp_model.specs.declared.journals.Journal.{Journal}
use Rattle.qp_model.specs.Vocabulary.{has_count}
use Rattle.qp_model.specs.Output.{JournalItem, has_form, has_no_rest, is_end_status, is_in_range, is_lane_in_range, is_record_in_range, last_kernel}
use Rattle.qp_model.specs.OutputText.{line_text, lines_text, text}
use Rattle.std.specs.Result.{IfOk}
use Rattle.qp_text.specs.Found.{ReadsJournal}
use Rattle.qp_text.specs.declared.found.Found.{Found}
use Rattle.qp_text.specs.declared.found.TextFault.{TextFault}
use Rattle.qp_text.specs.declared.progress.Reading.{Reading}
use Rattle.qp_text.specs.Parts.{split}
use Rattle.qp_text.specs.LineItem.{form_of_parts, item_of_line}
use Rattle.qp_text.specs.Progress.{all_lanes, nothing_read, journal_of}
use Rattle.qp_text.specs.ReadText.{after_line, finish, form_at, last_part, read_parts, read_text, take_line, take_read}
use Rattle.qp_text.specs.TextLaw.{records_have_64_bits}
use Rattle.qp_text.proofs.ItemLaw.{IsLine, item_of_line-is}
use Rattle.qp_text.proofs.ReadLemmas.{split-cons}
use Rattle.qp_text.proofs.SplitLemmas.{joined, joined-split}
use Rattle.qp_text.proofs.TakenLaw.{Takes, taken}
use Rattle.qp_text.proofs.ProgressLaw.{Good, take_item-is}

-- the text of what has been read
abbrev pub text_so_far : Reading → List ℕ
text_so_far p = lines_text p.form (taken p)

-- a first line states form 1 or 2
pub form-known : (parts : List (List ℕ)) → (form_of_parts parts ≡ 1) ⊎ (form_of_parts parts ≡ 2)
form-known [] = inl refl
form-known (word ∷ []) = inl refl
form-known (word ∷ form ∷ parts) = go (bytes_eq word (codes "qp") && bytes_eq form (codes "2")) where
  go : (is_2 : Bool) → (cond {A = ℕ} is_2 2 1 ≡ 1) ⊎ (cond {A = ℕ} is_2 2 1 ≡ 2)
  go true = inr refl
  go false = inl refl

form_at-known : (p : Reading) (line : List ℕ) → Good p → (form_at p line ≡ 1) ⊎ (form_at p line ≡ 2)
form_at-known p line (inl good) = rw good.0 good.1.form
form_at-known p line (inr start) = rw start (form-known (split 32 line))

-- a line that is taken
pub record TakesLine (p q : Reading) (line : List ℕ) : Type 0 where
  pub good : Good q
  pub text : text_so_far q ≡ text_so_far p ++ (line ++ 10 ∷ [])

-- the text of what was read, in the form of the line that comes
so_far-form : (p : Reading) (line : List ℕ) → Good p → text_so_far p ≡ lines_text (form_at p line) (taken p)
so_far-form p line (inl good) = rw good.0 refl
so_far-form p line (inr start) = rw start refl

taken-is : (p q : Reading) (line : List ℕ) (i : JournalItem) → Good p → Takes p q (form_at p line) i → IsLine (form_at p line) line i → TakesLine p q line
taken-is p q line i good takes is = record {
  good = inl (takes.begun, takes.ranged);
  text =
      ap (λ items. lines_text q.form items) takes.items ∙ ap (λ form. lines_text form (taken p ++ i ∷ [])) takes.form_is
      ∙ flat_map-append (line_text (form_at p line)) (taken p) (i ∷ [])
      ∙ ap (λ t. lines_text (form_at p line) (taken p) ++ t) (append-nil (line_text (form_at p line) i) ∙ is.text)
      ∙ ap (λ t. t ++ (line ++ 10 ∷ [])) (sym (so_far-form p line good));
}

form_at-begun : (p : Reading) (line : List ℕ) → p.begun ≡ true → p.form ≡ form_at p line
form_at-begun p line begun = rw begun refl

pub take_line-is : (p q : Reading) (line : List ℕ) → Good p → take_line p line ≡ Ok q → TakesLine p q line
take_line-is p q line good is = go (item_of_line (form_at p line) line) refl is where
  go : (read : Result JournalItem ℕ) → item_of_line (form_at p line) line ≡ read → take_read (form_at p line) p read ≡ Ok q → TakesLine p q line
  go (Err code) read is = absurd cc
  go (Ok i) read is =
      let shown = item_of_line-is (form_at p line) line i read in
      taken-is p q line i good
      (take_item-is (form_at p line) p q i good (form_at-begun p line) (form_at-known p line good) shown.first shown.past shown.count shown.fits is) shown

-- what a reading of a whole text says
pub record IsText (v : ℕ) (j : Journal) (bytes : List ℕ) : Type 0 where
  pub text : text v j ≡ bytes
  pub range : is_in_range v j ≡ true
  pub form : has_form v j ≡ true
  pub bits : records_have_64_bits j.lanes ≡ true

-- records in range for form 1 have none that form 1 doesn't know
no_rest-lane : (lane : List Rec) → list_all (is_record_in_range 1) lane ≡ true → list_all (λ (r : Rec). not (r.kind == REST)) lane ≡ true
no_rest-lane [] fits = refl
no_rest-lane (r ∷ lane) fits =
    let both = and_parts (is_record_in_range 1 r) (list_all (is_record_in_range 1) lane) fits in
    let three = and_parts (nat_le BEGIN r.kind && nat_le r.kind 45 && has_count r.kind (r.of ∷ r.nums.items)) (nat_le r.of 32) both.0 in
    let two = and_parts (nat_le BEGIN r.kind && nat_le r.kind 45) (has_count r.kind (r.of ∷ r.nums.items)) three.0 in
    let one = and_parts (nat_le BEGIN r.kind) (nat_le r.kind 45) two.0 in
    let small : r.kind ≤ 45 = leb-true r.kind 45 one.1 in
    let other : (r.kind == REST) ≡ false = grind (arith, nat_tests) in
    and_from (not (r.kind == REST)) (list_all (λ (x : Rec). not (x.kind == REST)) lane) (rw other refl) (no_rest-lane lane both.1)

no_rest-lanes : (lanes : List (List Rec)) → list_all (is_lane_in_range 1) lanes ≡ true → has_no_rest lanes ≡ true
no_rest-lanes [] fits = refl
no_rest-lanes (lane ∷ lanes) fits =
    let both = and_parts (is_lane_in_range 1 lane) (list_all (is_lane_in_range 1) lanes) fits in
    let records = and_parts (nat_le (length lane) 1000001) (list_all (is_record_in_range 1) lane) both.0 in
    and_from (list_all (λ (r : Rec). not (r.kind == REST)) lane) (has_no_rest lanes) (no_rest-lane lane records.1) (no_rest-lanes lanes both.1)

form-holds : (v : ℕ) (j : Journal) → (v ≡ 1) ⊎ (v ≡ 2) → nat_le j.kernel (last_kernel v) ≡ true → list_all (is_lane_in_range v) j.lanes ≡ true → has_form v j ≡ true
form-holds v j (inr two) kernel lanes = rw two refl
form-holds v j (inl one) kernel lanes =
    let low : j.kernel ≤ 2 = leb-true j.kernel 2 (rw one at kernel) in
    let other : (j.kernel == 3) ≡ false = grind (arith, nat_tests) in
    rw (one, other) (no_rest-lanes j.lanes (rw one at lanes))

-- two answers that are equal
pub ok-pair : {A B E : Type 0} (a c : A) (b d : B) → ◌≡◌ {A = Result (A × B) E} (Ok (a, b)) (Ok (c, d)) → (a ≡ c) × (b ≡ d)
ok-pair {A} {B} a c b d is =
    let pairs : ◌≡◌ {A = A × B} (a, b) (c, d) = cc in
    (ap (λ (p : A × B). p.0) pairs, ap (λ (p : A × B). p.1) pairs)

-- the text ends
finish-is : (number v : ℕ) (p : Reading) (j : Journal) → Good p → (ended : Option ℕ) → p.end ≡ ended → finish number p ended ≡ Ok (v, j) → IsText v j (text_so_far p)
finish-is number v p j good None end is = absurd cc
finish-is number v p j (inr start) (Some status) end is = let none = rw start at end in absurd cc
finish-is number v p j (inl good) (Some status) end is =
    let ranged = good.1 in
    let last = ranged.ended status end in
    let lanes_are : all_lanes p ≡ p.lanes = rw last.1 (append-nil p.lanes) in
    let range : is_in_range p.form (journal_of p status) ≡ true =
    and_from (nat_le p.kernel (last_kernel p.form) && nat_le 1 p.budget && nat_le p.budget 1000000 && is_end_status status && nat_le (length p.lanes) 49)
    (list_all (is_lane_in_range p.form) p.lanes)
    (and_from (nat_le p.kernel (last_kernel p.form) && nat_le 1 p.budget && nat_le p.budget 1000000 && is_end_status status) (nat_le (length p.lanes) 49)
    (and_from (nat_le p.kernel (last_kernel p.form) && nat_le 1 p.budget && nat_le p.budget 1000000) (is_end_status status)
    (and_from (nat_le p.kernel (last_kernel p.form) && nat_le 1 p.budget) (nat_le p.budget 1000000)
    (and_from (nat_le p.kernel (last_kernel p.form)) (nat_le 1 p.budget) ranged.kernel ranged.low) ranged.high) last.0)
    (le-leb (length p.lanes) 49 (rw lanes_are at ranged.count)))
    (rw lanes_are at ranged.lanes) in
    let whole : IsText p.form (journal_of p status) (text_so_far p) = record {
      text = rw (good.0, end, lanes_are) refl;
      range = range;
      form = form-holds p.form (journal_of p status) ranged.form ranged.kernel (rw lanes_are at ranged.lanes);
      bits = rw lanes_are at ranged.bits;
    } in
    let same = ok-pair p.form v (journal_of p status) j is in
    rw (← same.0, ← same.1) whole

-- what stands behind the last newline
last_part-is : (number v : ℕ) (p : Reading) (j : Journal) (part : List ℕ) → Good p → last_part number p part ≡ Ok (v, j) → IsText v j (text_so_far p ++ part)
last_part-is number v p j [] good is = rw (append-nil (text_so_far p)) (finish-is number v p j good p.end refl is)
last_part-is number v p j (b ∷ part) good is = absurd cc

-- the lines from here on
read_parts-is : (number v : ℕ) (p : Reading) (j : Journal) (part : List ℕ) (parts : List (List ℕ)) → Good p → read_parts number p (part ∷ parts) ≡ Ok (v, j)
    → IsText v j (text_so_far p ++ joined 10 (part ∷ parts))
read_parts-is number v p j part [] good is = last_part-is number v p j part good is
read_parts-is number v p j line (part ∷ parts) good is = go (take_line p line) refl is (λ q. read_parts-is (number + 1) v q j part parts) where
  go : (read : Result Reading ℕ) → take_line p line ≡ read
      → after_line number read (λ q. read_parts (number + 1) q (part ∷ parts)) ≡ Ok (v, j)
      → ((q : Reading) → Good q → read_parts (number + 1) q (part ∷ parts) ≡ Ok (v, j) → IsText v j (text_so_far q ++ joined 10 (part ∷ parts)))
      → IsText v j (text_so_far p ++ joined 10 (line ∷ part ∷ parts))
  go (Err code) read is later = absurd cc
  go (Ok q) read is later =
      let takes = take_line-is p q line good read in
      let same : text_so_far q ++ joined 10 (part ∷ parts) ≡ text_so_far p ++ joined 10 (line ∷ part ∷ parts) =
      rw takes.text (append_assoc (text_so_far p) (line ++ 10 ∷ []) (joined 10 (part ∷ parts))
      ∙ ap (λ t. text_so_far p ++ t) (append_assoc line (10 ∷ []) (joined 10 (part ∷ parts)))) in
      rw (← same) (later q takes.good is)

-- a text that is read as a journal is the journal's text, and the journal is in range
pub read_text-is : (v : ℕ) (j : Journal) (bytes : List ℕ) → read_text bytes ≡ Ok (v, j) → IsText v j bytes
read_text-is v j bytes is =
    let parts = split-cons 10 bytes in
    let read = rw parts.2 at is in
    let whole : joined 10 (parts.0 ∷ parts.1) ≡ bytes = sym (ap (joined 10) parts.2) ∙ joined-split 10 bytes in
    rw (← whole) (read_parts-is 1 v nothing_read j parts.0 parts.1 (inr refl) read)

-- what a reader answers
pub Reads-is : (result : Result Found TextFault) (bytes : List ℕ) → ReadsJournal result (read_text bytes)
    → IfOk result (λ found. IsText found.form found.journal bytes)
Reads-is (Ok found) bytes reads = read_text-is found.form found.journal bytes reads
Reads-is (Err fault) bytes reads = tt
