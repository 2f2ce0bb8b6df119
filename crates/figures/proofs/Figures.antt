-- Every figure holds.
use mathlib.Core.Path.{◌≡◌, refl, ap₂, ◌∙◌}
use mathlib.Core.List.{List, [], ◌∷◌}
use mathlib.Core.Bool.{Bool, true, false, ◌&&◌, ◌||◌}
use Prim.Native.Nat.{ℕ, zero, suc, ◌*◌, ◌%◌, ◌≤◌, ◌<◌}
use native.Mathlib.Nat.{zero-mul}
use native.Mathlib.Omega.{arith}
use lib.Dec.{eqb, leb}
use lib.ListN.{length, length-take, length-drop}
use borrow.Author.Tests.{leb-true, leb-false, le-leb, eq-eqb, ne_eqb}
use Rattle.octets.specs.Octets.{xors, zeros}
use Rattle.octets.specs.Pieces.{pieces, in_pieces}
use Rattle.octets.proofs.XorLaws.{zero-⊕}
use Rattle.gf256.proofs.Figures.{sub_0x00, xtime_0x80}
use Rattle.pbkdf2.specs.Pbkdf2.{laid, values_made}
use Rattle.suite.specs.Split.{running, split, merge_from, merge}
use Rattle.xts.proofs.Figures.{double-first, double-last}
use Rattle.rules.specs.Checks.{Check, first}
use Rattle.rules.specs.Profiles.{profile_at, known}
use Rattle.rules.specs.Layout.{area_sectors, round_up, area_start, areas_end, payload_start}
use Rattle.rules.specs.Header.{size_ok}
use Rattle.rules.specs.Format.{FormatInput, format_checks, settle_format, format}
use Rattle.profiles.specs.Rows.{hash_of, aes_xts_row, rows}
use Rattle.profiles.specs.Suites.{alignment, aes_xts, suite_of, built}
use Rattle.profiles.proofs.Lawful.{derives_hash}
use Rattle.screens.specs.Screens.{enabled_bit, details_of, no_details}
use Rattle.ledger.specs.Ledger.{start_ledger, set_slot}
use Rattle.ledger.proofs.LayoutLaws.{end_is, end-most}
use Rattle.bridge.specs.Screened.{live_bit, ledger_slots}
use Rattle.figures.specs.Figures.{Plain, piece_lengths, Figures}
use Rattle.figures.proofs.ScreenFigures.{after-2, fresh_slots, fresh_details, added-slots}
use Rattle.figures.proofs.ListFigures.{entries, list-bytes, add-sectors, change_sectors}
use Rattle.figures.proofs.CostFigures.{largest_trials, trials_most, values_most, format_values_most}
use Rattle.figures.proofs.LargestFigures.{largest_reached}

-- what is left to check of plain arguments, where the image has n bytes
abbrev length_checks : ℕ → List Check
length_checks n = (leb 1024 n && eqb (n % 512) 0, 1) ∷ (leb (2048 * 512) n, 12) ∷ []

module _ (a : FormatInput) (image : List ℕ) where
  -- format's number is that of its first check that fails
  code_is : (r : ℕ) → first (format_checks built a image) ≡ r → (format built a image).code ≡ r
  unfolding format settle_format
  code_is zero e = rw e
  code_is (suc r) e = rw (e, ne_eqb (suc r) 0 (λ z. omega arith))

  module _ (h : Plain a) where
    left-to-check : (n : ℕ) → length image ≡ n → first (format_checks built a image) ≡ first (length_checks n)
    unfolding format_checks first size_ok known profile_at rows aes_xts_row
    left-to-check n e =
        rw (
          e,
          h.profile_is,
          le-leb 1 a.stripes h.stripes_least,
          le-leb a.stripes 4000 h.stripes_most,
          h.payload_is,
          h.key_is,
          le-leb 1000 a.count h.count_is,
          h.uuid_long,
          h.uuid_printable,
        )

    by_length : (n r : ℕ) → length image ≡ n → first (length_checks n) ≡ r → (format built a image).code ≡ r
    by_length n r e f = code_is r (left-to-check n e ∙ f)

-- ---- the payload's start

aligned_1 : (n L : ℕ) → payload_start 1 n L ≡ areas_end n L
unfolding payload_start round_up
aligned_1 n L = omega arith

two_starts : (n L : ℕ) → n ≤ 4000 → L ≤ 64 → (eqb (payload_start alignment n L) 2048 || eqb (payload_start alignment n L) 4096) ≡ true
unfolding payload_start round_up
two_starts n L h k = go (leb (areas_end n L) 2048) refl
  where
    e : 8 ≤ areas_end n L
    e = let i = end_is n L in omega arith

    go : (b : Bool) → leb (areas_end n L) 2048 ≡ b → (eqb (round_up alignment (areas_end n L)) 2048 || eqb (round_up alignment (areas_end n L)) 4096) ≡ true
    go true l = let m = leb-true (areas_end n L) 2048 l in rw (eq-eqb (round_up alignment (areas_end n L)) 2048 (omega (arith, e)))
    go false l =
        let m : 2048 < areas_end n L = leb-false (areas_end n L) 2048 l in
        let x : round_up alignment (areas_end n L) ≡ 4096 = omega (arith, end-most n L h k) in
        rw x

-- ---- the splitter

module _ (x : List ℕ) where
  pieces_1 : length x ≡ 32 → piece_lengths 1 x ≡ 20 ∷ 12 ∷ []
  unfolding in_pieces pieces hash_of
  pieces_1 e = simp (length-take, length-drop, e)

  pieces_2 : length x ≡ 64 → piece_lengths 2 x ≡ 20 ∷ 20 ∷ 20 ∷ 4 ∷ []
  unfolding in_pieces pieces hash_of
  pieces_2 e = simp (length-take, length-drop, e)

  pieces_3 : length x ≡ 32 → piece_lengths 3 x ≡ 32 ∷ []
  unfolding in_pieces pieces hash_of
  pieces_3 e = simp (length-take, e)

  pieces_4 : length x ≡ 64 → piece_lengths 4 x ≡ 32 ∷ 32 ∷ []
  unfolding in_pieces pieces hash_of
  pieces_4 e = simp (length-take, length-drop, e)

zeros-xors : (key : List ℕ) → xors (zeros (length key)) key ≡ key
unfolding xors zeros
zeros-xors [] = refl
zeros-xors (b ∷ key) = ap₂ ◌∷◌ (zero-⊕ b) (zeros-xors key)

module _ (H : List ℕ → List ℕ) (key : List ℕ) where
  one_stripe : split H (length key) 1 [] key ≡ key
  unfolding split running
  one_stripe = zeros-xors key

  one_merged : merge H (length key) 1 key ≡ key
  unfolding merge merge_from running
  one_merged = rw (zero-mul (length key)) (zeros-xors key)

pub figures : Figures
unfolding area_sectors round_up area_start areas_end payload_start first start_ledger ledger_slots set_slot live_bit no_details suite_of aes_xts hash_of laid values_made
figures =
    record {
      sectors_32 = refl;
      starts_32 = refl;
      end_32 = refl;
      sectors_64 = refl;
      starts_64 = refl;
      end_64 = refl;
      end_n_1 = refl;
      end_n_15 = refl;
      end_n_16 = refl;
      aligned_1 = aligned_1;
      payload_32 = refl;
      payload_64 = refl;
      payload_n_1 = refl;
      payload_n_15 = refl;
      payload_n_16 = refl;
      payload_n_3967 = refl;
      payload_n_3968 = refl;
      payload_64_n_1983 = refl;
      payload_64_n_1984 = refl;
      two_starts = two_starts;
      length_1048576 = λ a image h e. by_length a image h 1048576 0 e refl;
      length_1048575 = λ a image h e. by_length a image h 1048575 1 e refl;
      length_1048064 = λ a image h e. by_length a image h 1048064 12 e refl;
      length_33280 = λ a image h e. by_length a image h 33280 12 e refl;
      length_33279 = λ a image h e. by_length a image h 33279 1 e refl;
      length_32768 = λ a image h e. by_length a image h 32768 12 e refl;
      doubled_first = double-first;
      doubled_last = double-last;
      substituted_0 = sub_0x00;
      doubled_0x80 = xtime_0x80;
      pieces_1 = pieces_1;
      pieces_2 = pieces_2;
      pieces_3 = pieces_3;
      pieces_4 = pieces_4;
      derived_1 = λ p s c. (derives_hash (hash_of 1)).key_is p s c 32 (omega arith);
      derived_4 = λ p s c. (derives_hash (hash_of 4)).key_is p s c 64 (omega arith);
      one_stripe = λ k. one_stripe _;
      one_merged = λ k. one_merged _;
      fresh_slots = fresh_slots;
      added_1_slots = λ a image f key x list. added-slots a image f 1 key x list;
      added_8_slots = λ a image f key x list. added-slots a image f 8 key x list;
      fresh_details = fresh_details;
      slots_after_2 = after-2 enabled_bit 0;
      details_after_2 = after-2 details_of no_details;
      add_1_sectors = λ a image cs h key x list. add-sectors a image cs h 1 (omega arith) (omega arith) key x list;
      add_8_sectors = λ a image cs h key x list. add-sectors a image cs h 8 (omega arith) (omega arith) key x list;
      change_sectors = change_sectors;
      entries_n_1 = λ f k l n. entries f k 1 l n;
      entries_n_16 = λ f k l n. entries f k 16 l n;
      entries_n_17 = λ f k l n. entries f k 17 l n;
      entries_n_4000 = λ f k l n. entries f k 4000 l n;
      bytes_n_4000 = list-bytes;
      made_20_20 = refl;
      made_20_32 = refl;
      made_20_64 = refl;
      made_32_32 = refl;
      made_32_64 = refl;
      made_before_the_product = refl;
      largest_trials = largest_trials;
      largest_reached = largest_reached;
      trials_most = trials_most;
      values_most = values_most;
      format_values_most = format_values_most;
    }
