-- A packed lane with one record more.
use Rattle.std.proofs.Common.{◌≡◌, ℕ, ◌+◌, ◌-◌, List, [], ◌∷◌, ◌++◌, length, ◌∙◌}
use Rattle.qp_packed.specs.Packing.{PackedRecord, packed_one, record_begin, records_read, FitsInWords, ArePacked}
use Rattle.qp_packed.proofs.RecordLemmas.{push-packed}
use Rattle.qp_packed.proofs.TailLemmas.{place-new, place-old}

-- so many records and one more, where the last one began and where this one begins
pub record IsMore (n last at : ℕ) (ws longer : List ℕ) (r : PackedRecord) : Type 0 where
  pub packed : ArePacked (n + 1) longer
  pub last_is : at ≡ record_begin (n + 1 - 1) (records_read (n + 1) longer)
  pub last_but_one_is : last ≡ record_begin (n + 1 - 2) (records_read (n + 1) longer)
  pub records : records_read (n + 1) longer ≡ records_read n ws ++ r ∷ []

pub is-more : (n last at : ℕ) (ws longer : List ℕ) (r : PackedRecord) → ArePacked n ws → last ≡ record_begin (n - 1) (records_read n ws) → at ≡ length ws → FitsInWords r → longer ≡ ws ++ packed_one r
    → IsMore n last at ws longer r
is-more n last at ws longer r p last_is here fit is =
    let both = push-packed n ws r p fit in
    record {
      packed = rw is both.1;
      last_is = rw (is, both.0) (here ∙ place-new n ws r p);
      last_but_one_is = rw (is, both.0) (place-old n last (records_read n ws) r p.count last_is);
      records = rw is both.0;
    }
