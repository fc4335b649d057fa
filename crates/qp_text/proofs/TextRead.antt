-- The text of a journal in range is read as the journal.
use Rattle.std.proofs.Common.{◌≡◌, ◌∙◌, ℕ, ◌+◌, ◌^◌, ◌<◌, ◌≤◌, Bool, true, false, List, [], ◌∷◌, ◌++◌, map, length, Option, Some, None, Result, Ok, cond, refl, sym, ap, subst, append_assoc, append-nil, length-append, arith, inl, inr}
use Rattle.std.specs.Prelude.{◌==◌, ◌&&◌, ◌||◌, ◌⊎◌, not, nat_lt, nat_le, option_to_list}
use Rattle.std.specs.List.{list_all}
use Rattle.std.proofs.lemmas.Bool.{eqb-true, eq-eqb, le-leb, leb-true, and_from, and_parts}
use Rattle.std.proofs.lemmas.Bool.Decides.{nat_tests}
use Rattle.std.proofs.lemmas.Fmt.{decimal_digit}
use Rattle.std.proofs.lemmas.Grind.{flat_map-append}
use Rattle.qp_model.specs.Kinds.{QP, LANE, END_LINE, BEGIN}
use Rattle.qp_model.specs.declared.record.Rec.{Rec}
use Rattle.qp_model.specs.declared.journals.Journal.{Journal}
use Rattle.qp_model.specs.Vocabulary.{has_count}
use Rattle.qp_model.specs.Output.{JournalItem, item, end_item, head_item, record_item, items_of_lane, items_of_lanes, has_form, has_no_rest, is_end_status, is_in_range, is_lane_in_range, is_record_in_range, last_id, last_kernel}
use Rattle.qp_model.specs.OutputText.{line_text, lines_text, text}
use Rattle.qp_text.specs.declared.progress.Reading.{Reading}
use Rattle.qp_text.specs.declared.found.Found.{Found}
use Rattle.qp_text.specs.declared.found.TextFault.{TextFault}
use Rattle.qp_text.specs.Found.{ReadsJournal}
use Rattle.qp_text.specs.Parts.{split}
use Rattle.qp_text.specs.LineItem.{form_of_line, form_of_parts, item_of_line}
use Rattle.qp_text.specs.Progress.{nothing_read, go_on, take_item}
use Rattle.qp_text.specs.ReadText.{read_parts, read_text, take_line, take_read}
use Rattle.qp_text.specs.TextLaw.{ReadingIsExact, ReadsTexts, TextsAreOneToOne, has_64_bits, lane_has_64_bits, record_has_64_bits, records_have_64_bits}
use Rattle.qp_text.proofs.LineText.{IsItem, bare_line, line-free, line-parts, line-read}
use Rattle.qp_text.proofs.ReadLemmas.{read-next}
use Rattle.qp_text.proofs.SplitLemmas.{is_free, split-first}
use Rattle.qp_text.proofs.TextLaw.{ok-pair, read_text-is}

-- a reading goes over these bytes to another reading, whatever follows
abbrev ReadsOn : Reading → Reading → List ℕ → Type 0
ReadsOn p q bytes = (number : ℕ) (rest : List ℕ) → (next : ℕ) × (read_parts number p (split 10 (bytes ++ rest)) ≡ read_parts next q (split 10 rest))

-- over one part and then over the next
reads-then : (p q r : Reading) (a b : List ℕ) → ReadsOn p q a → ReadsOn q r b → ReadsOn p r (a ++ b)
reads-then p q r a b over_a over_b number rest =
    let one = over_a number (b ++ rest) in
    let two = over_b one.0 rest in
    (two.0, ap (λ bytes. read_parts number p (split 10 bytes)) (append_assoc a b rest) ∙ one.1 ∙ two.1)

-- over a line that is taken
reads-line : (p q : Reading) (line : List ℕ) → is_free 10 line ≡ true → take_line p line ≡ Ok q → ReadsOn p q (line ++ 10 ∷ [])
reads-line p q line free taken number rest = (
  number + 1,
  ap (λ bytes. read_parts number p (split 10 bytes)) (append_assoc line (10 ∷ []) rest)
      ∙ ap (read_parts number p) (split-first 10 line rest free)
      ∙ read-next number p q line rest taken,
)

-- the ids of the items that are no records are ids of each form
low-id : (form id : ℕ) → id ≤ 3 → id ≤ last_id form
low-id form id low = go (form == 2) where
  go : (is_2 : Bool) → id ≤ cond is_2 46 45
  go true = omega arith
  go false = omega arith

-- a status is small
status-small : (n : ℕ) → is_end_status n ≡ true → n ≤ 4
status-small n is = go (n == 0) (n == 3) (n == 4) refl refl refl is where
  go : (a b c : Bool) → (n == 0) ≡ a → (n == 3) ≡ b → (n == 4) ≡ c → ((a || b) || c) ≡ true → n ≤ 4
  go true b c zero three four is = omega (arith, eqb-true n 0 zero)
  go false true c zero three four is = omega (arith, eqb-true n 3 three)
  go false false true zero three four is = omega (arith, eqb-true n 4 four)
  go false false false zero three four is = absurd cc

-- a small number has 64 bits
bits-small : (n : ℕ) → n ≤ 1000000 → nat_lt n (2 ^ 64) ≡ true
bits-small n small = grind (arith, nat_tests)

module _ (form kernel budget : ℕ) where
  -- a reading under way
  abbrev under : List (List Rec) → Option (List Rec) → Reading
  under lanes lane = record { begun = true; form = form; kernel = kernel; budget = budget; lanes = lanes; lane = lane; end = None }

  -- a reading behind the last line
  abbrev ended : List (List Rec) → ℕ → Reading
  ended lanes status = record { begun = true; form = form; kernel = kernel; budget = budget; lanes = lanes; lane = None; end = Some status }

  -- over the line of an item that is taken
  reads-item : (lanes : List (List Rec)) (lane : Option (List Rec)) (i : JournalItem) (q : Reading) → IsItem form i → go_on (under lanes lane) i ≡ Ok q
      → ReadsOn (under lanes lane) q (line_text form i)
  reads-item lanes lane i q is goes =
      reads-line (under lanes lane) q (bare_line form i) (line-free form i is)
      (ap (take_read form (under lanes lane)) (line-read form i is) ∙ goes)

  -- a record in range is an item
  record-item : (r : Rec) → is_record_in_range form r ≡ true → has_64_bits r.nums.items ≡ true
      → IsItem form (record_item r) × (BEGIN ≤ r.kind) × (nat_le r.of 32 ≡ true)
  record-item r fits bits =
      let three = and_parts (nat_le BEGIN r.kind && nat_le r.kind (last_id form) && has_count r.kind (r.of ∷ r.nums.items)) (nat_le r.of 32) fits in
      let two = and_parts (nat_le BEGIN r.kind && nat_le r.kind (last_id form)) (has_count r.kind (r.of ∷ r.nums.items)) three.0 in
      let one = and_parts (nat_le BEGIN r.kind) (nat_le r.kind (last_id form)) two.0 in
      let first : BEGIN ≤ r.kind = leb-true BEGIN r.kind one.0 in
      let small : r.of ≤ 1000000 = omega (arith, leb-true r.of 32 three.1) in (
        record {
          first = omega (arith, first);
          past = leb-true r.kind (last_id form) one.1;
          count = two.1;
          fits = and_from (nat_lt r.of (2 ^ 64)) (has_64_bits r.nums.items) (bits-small r.of small) bits;
        },
        first,
        three.1,
      )

  -- it is taken into the lane that is being read
  record-taken : (lanes : List (List Rec)) (lane : List Rec) (r : Rec) → BEGIN ≤ r.kind → nat_le r.of 32 ≡ true → length lane < 1000001
      → go_on (under lanes (Some lane)) (record_item r) ≡ Ok (under lanes (Some (lane ++ r ∷ [])))
  record-taken lanes lane r first small room =
      let not_qp : (r.kind == QP) ≡ false = grind (arith, nat_tests) in
      let not_lane : (r.kind == LANE) ≡ false = grind (arith, nat_tests) in
      let not_end : (r.kind == END_LINE) ≡ false = grind (arith, nat_tests) in
      let more : nat_lt (length lane) 1000001 ≡ true = grind (arith, nat_tests) in
      rw (not_qp, not_lane, not_end, small, more) refl

  -- over the lines of records
  reads-records : (lanes : List (List Rec)) (lane records : List Rec) → list_all (is_record_in_range form) records ≡ true
      → lane_has_64_bits records ≡ true → length lane + length records ≤ 1000001
      → ReadsOn (under lanes (Some lane)) (under lanes (Some (lane ++ records))) (lines_text form (map record_item records))
  reads-records lanes lane [] fits bits few = λ number rest.
      (number, ap (λ (all : List Rec). read_parts number (under lanes (Some all)) (split 10 rest)) (sym (append-nil lane)))
  reads-records lanes lane (r ∷ records) fits bits few =
      let both = and_parts (is_record_in_range form r) (list_all (is_record_in_range form) records) fits in
      let bits_both = and_parts (record_has_64_bits r) (lane_has_64_bits records) bits in
      let is = record-item r both.0 bits_both.0 in
      let next = under lanes (Some (lane ++ r ∷ [])) in
      let line = reads-item lanes (Some lane) (record_item r) next is.0 (record-taken lanes lane r is.1 is.2 (omega arith)) in
      let later = reads-records lanes (lane ++ r ∷ []) records both.1 bits_both.1 (omega (arith, length-append lane (r ∷ []))) in
      reads-then (under lanes (Some lane)) next (under lanes (Some (lane ++ r ∷ records))) (line_text form (record_item r)) (lines_text form (map record_item records)) line
      (subst (λ (all : List Rec). ReadsOn next (under lanes (Some all)) (lines_text form (map record_item records))) (append_assoc lane (r ∷ []) records) later)

  -- over the lines of a lane
  reads-lane : (lanes : List (List Rec)) (before : Option (List Rec)) (number : ℕ) (lane : List Rec) → number ≡ length (lanes ++ option_to_list before) → number ≤ 48
      → is_lane_in_range form lane ≡ true → lane_has_64_bits lane ≡ true
      → ReadsOn (under lanes before) (under (lanes ++ option_to_list before) (Some lane)) (lines_text form (items_of_lane number lane))
  reads-lane lanes before number lane next few fits bits =
      let both = and_parts (nat_le (length lane) 1000001) (list_all (is_record_in_range form) lane) fits in
      let i : JournalItem = item LANE (number ∷ []) in
      let all = lanes ++ option_to_list before in
      let is : IsItem form i = record {
        first = omega arith;
        past = low-id form LANE (omega arith);
        count = refl;
        fits = and_from (nat_lt number (2 ^ 64)) true (bits-small number (omega arith)) refl;
      } in
      let goes : go_on (under lanes before) i ≡ Ok (under all (Some [])) = rw (← next, eq-eqb number number refl, le-leb number 48 few) refl in
      reads-then (under lanes before) (under all (Some [])) (under all (Some lane)) (line_text form i) (lines_text form (map record_item lane))
      (reads-item lanes before i (under all (Some [])) is goes)
      (reads-records all [] lane both.1 bits (omega (arith, leb-true (length lane) 1000001 both.0)))

  module _ (status : ℕ) (good : is_end_status status ≡ true) where
    abbrev last : JournalItem
    last = item END_LINE (status ∷ [])

    -- over the last line
    reads-end : (lanes : List (List Rec)) (before : Option (List Rec)) → ReadsOn (under lanes before) (ended (lanes ++ option_to_list before) status) (line_text form last)
    reads-end lanes before =
        let is : IsItem form last = record {
          first = omega arith;
          past = low-id form END_LINE (omega arith);
          count = refl;
          fits = and_from (nat_lt status (2 ^ 64)) true (bits-small status (omega (arith, status-small status good))) refl;
        } in
        let goes : go_on (under lanes before) last ≡ Ok (ended (lanes ++ option_to_list before) status) = rw good refl in
        reads-item lanes before last (ended (lanes ++ option_to_list before) status) is goes

    -- over the lines of lanes and the last line
    reads-lanes : (done : List (List Rec)) (before : Option (List Rec)) (number : ℕ) (lanes : List (List Rec)) → number ≡ length (done ++ option_to_list before)
        → number + length lanes ≤ 49 → list_all (is_lane_in_range form) lanes ≡ true → records_have_64_bits lanes ≡ true
        → ReadsOn (under done before) (ended ((done ++ option_to_list before) ++ lanes) status) (lines_text form (items_of_lanes number lanes ++ last ∷ []))
    reads-lanes done before number [] next few fits bits =
        let all = done ++ option_to_list before in
        subst (λ (lanes : List (List Rec)). ReadsOn (under done before) (ended lanes status) (line_text form last ++ [])) (sym (append-nil all))
        (subst (λ (bytes : List ℕ). ReadsOn (under done before) (ended all status) bytes) (sym (append-nil (line_text form last))) (reads-end done before))
    reads-lanes done before number (lane ∷ lanes) next few fits bits =
        let both = and_parts (is_lane_in_range form lane) (list_all (is_lane_in_range form) lanes) fits in
        let bits_both = and_parts (lane_has_64_bits lane) (records_have_64_bits lanes) bits in
        let all = done ++ option_to_list before in
        let here = items_of_lane number lane in
        let behind = items_of_lanes (number + 1) lanes ++ last ∷ [] in
        let after : number + 1 ≡ length (all ++ lane ∷ []) = omega (arith, next, length-append all (lane ∷ [])) in
        let first = reads-lane done before number lane next (omega arith) both.0 bits_both.0 in
        let later = reads-lanes all (Some lane) (number + 1) lanes after (omega arith) both.1 bits_both.1 in
        let whole : lines_text form here ++ lines_text form behind ≡ lines_text form ((here ++ items_of_lanes (number + 1) lanes) ++ last ∷ []) =
        sym (flat_map-append (line_text form) here behind) ∙ ap (lines_text form) (sym (append_assoc here (items_of_lanes (number + 1) lanes) (last ∷ []))) in
        subst (λ (bytes : List ℕ). ReadsOn (under done before) (ended (all ++ lane ∷ lanes) status) bytes) whole
        (reads-then (under done before) (under all (Some lane)) (ended (all ++ lane ∷ lanes) status) (lines_text form here) (lines_text form behind) first
        (subst (λ (lanes : List (List Rec)). ReadsOn (under all (Some lane)) (ended lanes status) (lines_text form behind)) (append_assoc all (lane ∷ []) lanes) later))

-- the first item of a form
abbrev first_item : ℕ → ℕ → ℕ → JournalItem
first_item form kernel budget = item QP (form ∷ kernel ∷ budget ∷ [])

-- the first line states the form
form-stated : (form kernel budget : ℕ) → (form ≡ 1) ⊎ (form ≡ 2) → IsItem form (first_item form kernel budget)
    → form_of_line (bare_line form (first_item form kernel budget)) ≡ form
form-stated form kernel budget (inl one) = rw one (stated kernel budget) where
  stated : (kernel budget : ℕ) → IsItem 1 (first_item 1 kernel budget) → form_of_line (bare_line 1 (first_item 1 kernel budget)) ≡ 1
  stated kernel budget is = ap form_of_parts (line-parts 1 (first_item 1 kernel budget) is) ∙ rw (decimal_digit 1 (omega arith)) refl
form-stated form kernel budget (inr two) = rw two (stated kernel budget) where
  stated : (kernel budget : ℕ) → IsItem 2 (first_item 2 kernel budget) → form_of_line (bare_line 2 (first_item 2 kernel budget)) ≡ 2
  stated kernel budget is = ap form_of_parts (line-parts 2 (first_item 2 kernel budget) is) ∙ rw (decimal_digit 2 (omega arith)) refl

-- the last kernel of each form
kernel-small : (form kernel : ℕ) → nat_le kernel (last_kernel form) ≡ true → kernel ≤ 3
kernel-small form kernel fits = go (form == 2) (leb-true kernel (last_kernel form) fits) where
  go : (is_2 : Bool) → kernel ≤ cond is_2 3 2 → kernel ≤ 3
  go true low = low
  go false low = omega (arith, low)

-- a form is 1 or 2
form-known : (form : ℕ) (j : Journal) → has_form form j ≡ true → (form ≡ 1) ⊎ (form ≡ 2)
form-known form j has = go (form == 2) (form == 1) refl refl has where
  go : (is_2 is_1 : Bool) → (form == 2) ≡ is_2 → (form == 1) ≡ is_1 → (is_2 || (is_1 && not (j.kernel == 3) && has_no_rest j.lanes)) ≡ true → (form ≡ 1) ⊎ (form ≡ 2)
  go true is_1 two one has = inr (eqb-true form 2 two)
  go false true two one has = inl (eqb-true form 1 one)
  go false false two one has = absurd cc

-- over the first line
reads-first : (form kernel budget : ℕ) → (form ≡ 1) ⊎ (form ≡ 2) → nat_le kernel (last_kernel form) ≡ true → nat_le 1 budget ≡ true → nat_le budget 1000000 ≡ true
    → ReadsOn nothing_read (under form kernel budget [] None) (line_text form (first_item form kernel budget))
reads-first form kernel budget known fits low high =
    let i = first_item form kernel budget in
    let line = bare_line form i in
    let form_small : form ≤ 1000000 = elim known [ inl one ↦ omega (arith, one) | inr two ↦ omega (arith, two) ] in
    let is : IsItem form i = record {
      first = omega arith;
      past = low-id form QP (omega arith);
      count = refl;
      fits = rw (bits-small form form_small, bits-small kernel (omega (arith, kernel-small form kernel fits)), bits-small budget (leb-true budget 1000000 high)) refl;
    } in
    let goes : take_item form nothing_read i ≡ Ok (under form kernel budget [] None) = rw (eq-eqb form form refl, fits, low, high) refl in
    reads-line nothing_read (under form kernel budget [] None) line (line-free form i is)
    (ap (λ v. take_read v nothing_read (item_of_line v line)) (form-stated form kernel budget known is)
    ∙ ap (take_read form nothing_read) (line-read form i is) ∙ goes)

-- over the whole text
reads-all : (form : ℕ) (j : Journal) → has_form form j ≡ true → is_in_range form j ≡ true → records_have_64_bits j.lanes ≡ true
    → ReadsOn nothing_read (ended form j.kernel j.budget j.lanes j.end) (text form j)
reads-all form j has fits bits =
    let six = and_parts (nat_le j.kernel (last_kernel form) && nat_le 1 j.budget && nat_le j.budget 1000000 && is_end_status j.end && nat_le (length j.lanes) 49)
    (list_all (is_lane_in_range form) j.lanes) fits in
    let five = and_parts (nat_le j.kernel (last_kernel form) && nat_le 1 j.budget && nat_le j.budget 1000000 && is_end_status j.end) (nat_le (length j.lanes) 49) six.0 in
    let four = and_parts (nat_le j.kernel (last_kernel form) && nat_le 1 j.budget && nat_le j.budget 1000000) (is_end_status j.end) five.0 in
    let three = and_parts (nat_le j.kernel (last_kernel form) && nat_le 1 j.budget) (nat_le j.budget 1000000) four.0 in
    let two = and_parts (nat_le j.kernel (last_kernel form)) (nat_le 1 j.budget) three.0 in
    let few : 0 + length j.lanes ≤ 49 = omega (arith, leb-true (length j.lanes) 49 five.1) in
    reads-then nothing_read (under form j.kernel j.budget [] None) (ended form j.kernel j.budget j.lanes j.end)
    (line_text form (head_item form j)) (lines_text form (items_of_lanes 0 j.lanes ++ end_item j ∷ []))
    (reads-first form j.kernel j.budget (form-known form j has) two.0 two.1 three.1)
    (reads-lanes form j.kernel j.budget j.end four.1 [] None 0 j.lanes refl few six.1 bits)

-- the text of a journal in range is read as the journal
pub read_text-back : (form : ℕ) (j : Journal) → has_form form j ≡ true → is_in_range form j ≡ true → records_have_64_bits j.lanes ≡ true
    → read_text (text form j) ≡ Ok (form, j)
read_text-back form j has fits bits =
    let all = reads-all form j has fits bits 1 [] in
    ap (λ bytes. read_parts 1 nothing_read (split 10 bytes)) (sym (append-nil (text form j))) ∙ all.1

-- texts of journals are read exactly
pub reading_is_exact : ReadingIsExact
reading_is_exact form j bytes = (
  λ is. let whole = read_text-is form j bytes is in (record { shape = whole.form; range = whole.range; bits = whole.bits }, whole.text),
  λ is. ap read_text (sym is.1) ∙ read_text-back form j is.0.shape is.0.range is.0.bits,
)

-- and are one to one
pub texts_are_one_to_one : TextsAreOneToOne
texts_are_one_to_one v w i j first second same =
    ok-pair v w i j (sym (read_text-back v i first.shape first.range first.bits) ∙ ap read_text same ∙ read_text-back w j second.shape second.range second.bits)

-- what a reader of texts answers
pub reads_texts : (result : Result Found TextFault) (bytes : List ℕ) → ReadsJournal result (read_text bytes) → ReadsTexts result bytes
reads_texts result bytes reads form j is same =
    subst (ReadsJournal result) (ap read_text (sym same) ∙ read_text-back form j is.shape is.range is.bits) reads
