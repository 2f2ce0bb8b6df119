-- A drive that reaches the largest sum of trials: its header is accepted, and its sum computed.
use mathlib.Core.Path.{◌≡◌, refl}
use mathlib.Core.List.{List, [], ◌∷◌, ◌++◌, map, flatten}
use mathlib.Core.Bool.{true}
use Prim.Native.Nat.{ℕ, ◌-◌}
use lib.Dec.{ltb}
use lib.ListN.{length}
use borrow.Author.Tests.{ltb-true}
use Rattle.octets.specs.Octets.{Bytes, zeros, big_endian, be32_at, same}
use Rattle.octets.specs.Splice.{part}
use Rattle.octets.proofs.OctetsLaws.{bytes-append, str_zeros}
use Rattle.octets.proofs.BoolLaws.{and_split}
use Rattle.pbkdf2.specs.Pbkdf2.{values_made}
use Rattle.rules.specs.Checks.{first, every}
use Rattle.rules.specs.Profiles.{holds_text, fits, number_of, no_profile, profile_at}
use Rattle.rules.specs.Layout.{slots}
use Rattle.rules.specs.Facts.{is_enabled, no_slot, slot_of, slot_at, profile_in, facts_of}
use Rattle.rules.specs.Header.{size_ok, record_ok, slot_ok, area_end, inside, apart, all_apart, sound_checks, header_checks}
use Rattle.rules.specs.Step.{record_head}
use Rattle.rules.specs.Costs.{checksum_cost, derivation_cost, trial_cost, enabled_cost, trials_cost}
use Rattle.profiles.specs.Rows.{name_of, hash_of, aes_xts_row, rows}
use Rattle.profiles.specs.Suites.{aes_xts, suite_of}
use Rattle.figures.specs.Figures.{largest_sum, largest_fields, largest_record, largest_image, Reaches}

-- each element is a byte, by one test
every_byte : (x : List ℕ) → every (λ b. ltb b 256) x ≡ true → Bytes x
unfolding every
every_byte [] h = tt
every_byte (a ∷ x) h =
    let q = and_split (ltb a 256) (every (λ b. ltb b 256) x) h in
    (ltb-true a 256 q.0, every_byte x q.1)

abbrev header : List ℕ
header = flatten largest_fields ++ flatten (map largest_record slots)

header-bytes : every (λ b. ltb b 256) header ≡ true
unfolding every flatten zeros big_endian record_head name_of hash_of aes_xts_row largest_fields largest_record
header-bytes = refl

image-bytes : Bytes largest_image
unfolding largest_image
image-bytes =
    let n : ℕ = 5120 - length header in
    bytes-append header (zeros n) (every_byte header header-bytes) (str_zeros n).byte

pub largest_reached : Reaches largest_image largest_sum
unfolding flatten zeros big_endian be32_at same part first every holds_text fits number_of no_profile profile_at is_enabled no_slot slot_of slot_at profile_in facts_of
    size_ok record_ok slot_ok area_end inside apart all_apart sound_checks header_checks record_head checksum_cost derivation_cost trial_cost enabled_cost trials_cost
    values_made name_of hash_of aes_xts_row rows aes_xts suite_of largest_fields largest_record largest_image
largest_reached = record { bytes = image-bytes; accepted = refl; sum_is = refl }
