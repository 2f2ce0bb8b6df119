-- The figures of 01 ("Figures to check") and of Wishes 1, 2, 4, 5 and 6 of 02, as statements over the definitions that the calls' contracts cite.
use Rattle.std.specs.Prelude.{◌≡◌, true, false, ◌||◌, ℕ, ◌+◌, ◌-◌, ◌*◌, ◌^◌, ◌≤◌, ◌<◌, eqb, length, take, replicate}
use mathlib.Core.List.{List, [], ◌∷◌, ◌++◌, map, flatten}
use Rattle.octets.specs.Octets.{Bytes, zeros, padded, be32, same}
use Rattle.octets.specs.Pieces.{in_pieces}
use Rattle.octets.specs.Splice.{part}
use Rattle.hash.specs.Hash.{digest_of}
use Rattle.pbkdf2.specs.Pbkdf2.{F}
use Rattle.gf256.specs.Field.{xtime, sub}
use Rattle.suite.specs.Split.{split, merge}
use Rattle.xts.specs.Xts.{double}
use Rattle.rules.specs.Checks.{first}
use Rattle.rules.specs.Layout.{area_sectors, area_start, areas_end, payload_start, slots}
use Rattle.rules.specs.Facts.{Facts, SlotInput, enabled, is_enabled, slot_of, facts_of}
use Rattle.rules.specs.Header.{magic, version, size_ok, header_checks}
use Rattle.rules.specs.Sectors.{encoded, area_count, slot_list}
use Rattle.rules.specs.Calls.{Call, add, change}
use Rattle.rules.specs.Step.{record_head, After, step}
use Rattle.rules.specs.Lists.{list_of}
use Rattle.rules.specs.Format.{FormatInput, printable, format}
use Rattle.rules.specs.Costs.{trials_cost, cost_on, format_cost}
use Rattle.profiles.specs.Rows.{hash_of, aes_xts_row}
use Rattle.profiles.specs.Suites.{suite_of, alignment, built}
use Rattle.screens.specs.Screens.{slot_screen, detail_screen}
use Rattle.ledger.specs.Demand3.{FormatTyped, Typed, AllTyped, last_image}

-- format's arguments for profile 1 and any stripes that give payload 2,048, with nothing wrong but maybe the image's length
pub record Plain (a : FormatInput) : Type 0 where
  pub profile_is : a.profile ≡ 1
  pub stripes_least : 1 ≤ a.stripes
  pub stripes_most : a.stripes ≤ 4000
  pub payload_is : payload_start alignment a.stripes 32 ≡ 2048
  pub key_is : length a.key ≡ 32
  pub count_is : 1000 ≤ a.count
  pub uuid_long : length a.uuid ≡ 36
  pub uuid_printable : printable a.uuid ≡ true

-- an accepted format on an image, by built profiles
pub record Fresh (a : FormatInput) (image : List ℕ) : Type 0 where
  pub typed : FormatTyped a
  pub accepted : (format built a image).code ≡ 0

-- what an add on the drive that it left answers and leaves
abbrev pub added : FormatInput → List ℕ → ℕ → List ℕ → SlotInput → List ℕ → After
added a image k key x list = step built (format built a image).image (add k key x list)

-- a drive of L 32 with one stripe, after an accepted format and any list of calls
pub record OneStripe (a : FormatInput) (image : List ℕ) (cs : List Call) : Type 0 where
  pub fresh : Fresh a image
  pub profile_is : a.profile ≡ 1
  pub stripes_is : a.stripes ≡ 1
  pub typed : AllTyped cs

-- the sectors that the list of a call on it writes, in their order
abbrev pub list_numbers : FormatInput → List ℕ → List Call → Call → List ℕ
list_numbers a image cs c = let z = last_image built a image cs in map (λ w. w.0) (list_of (facts_of built z) c z)

-- how long the pieces are into which H cuts x, with the hash of profile k
abbrev pub piece_lengths : ℕ → List ℕ → List ℕ
piece_lengths k x = in_pieces (digest_of (hash_of k)).size (λ i piece. length piece ∷ []) 0 x

-- T_i of PBKDF2 with the hash of profile k
abbrev pub block_of : ℕ → List ℕ → List ℕ → ℕ → ℕ → List ℕ
block_of k password salt count i = F (digest_of (hash_of k)) password salt count i

-- eight enabled slots of profile 2 (SHA-1, 64 key bytes), and each count the largest that four bytes hold
pub record Largest (f : Facts) : Type 0 where
  pub suite_is : f.suite ≡ suite_of 2
  pub key_is : f.profile.key_bytes ≡ 64
  pub checksum_is : f.checksum_count ≡ 2 ^ 32 - 1
  pub enabled_all : (k : ℕ) → 1 ≤ k → k ≤ 8 → is_enabled (slot_of f k) ≡ true
  pub counts_are : (k : ℕ) → 1 ≤ k → k ≤ 8 → (slot_of f k).count ≡ 2 ^ 32 - 1

-- their sum of trials
abbrev pub largest_sum : ℕ
largest_sum = 171798691800

-- a drive of ten sectors that is such: the fields before its slots, with payload start 10; checksum, salt and UUID are zeros
unfoldable pub largest_fields : List (List ℕ)
largest_fields =
    let p = aes_xts_row 2 64 in
    magic
    ∷ version
    ∷ padded 32 p.cipher
    ∷ padded 32 p.mode
    ∷ padded 32 p.hash
    ∷ be32 10
    ∷ be32 p.key_bytes
    ∷ zeros 20
    ∷ zeros 32
    ∷ be32 (2 ^ 32 - 1)
    ∷ zeros 40
    ∷ []

-- the record of its slot k, from 0: one stripe, in sector k + 2
unfoldable pub largest_record : ℕ → List ℕ
largest_record k = record_head enabled (2 ^ 32 - 1) (zeros 32) ++ (be32 (k + 2) ++ be32 1)

-- the header, and zeros after it
unfoldable pub largest_image : List ℕ
largest_image = padded (10 * 512) (flatten largest_fields ++ flatten (map largest_record slots))

-- an image whose header is accepted, and its sum of trials
pub record Reaches (image : List ℕ) (sum : ℕ) : Type 0 where
  pub bytes : Bytes image
  pub accepted : first (header_checks built image) ≡ 0
  pub sum_is : trials_cost (facts_of built image) 1 8 ≡ sum

-- the one table
pub record Figures : Type 0 where
  -- "L 32, n 4,000: 251 sectors; starts 8, 264, 520, 776, 1,032, 1,288, 1,544, 1,800; payload 2,051", which is now where area 8 ends
  pub sectors_32 : area_sectors 4000 32 ≡ 251
  pub starts_32 : map (area_start 4000 32) slots ≡ 8 ∷ 264 ∷ 520 ∷ 776 ∷ 1032 ∷ 1288 ∷ 1544 ∷ 1800 ∷ []
  pub end_32 : areas_end 4000 32 ≡ 2051
  -- "L 64, n 4,000: 501; starts 8, 512, 1,016, 1,520, 2,024, 2,528, 3,032, 3,536; payload 4,037", which is now where area 8 ends
  pub sectors_64 : area_sectors 4000 64 ≡ 501
  pub starts_64 : map (area_start 4000 64) slots ≡ 8 ∷ 512 ∷ 1016 ∷ 1520 ∷ 2024 ∷ 2528 ∷ 3032 ∷ 3536 ∷ []
  pub end_64 : areas_end 4000 64 ≡ 4037
  -- "L 32: n 1 and n 15 give payload 65; n 16 gives 66": area 8 ends there
  pub end_n_1 : areas_end 1 32 ≡ 65
  pub end_n_15 : areas_end 15 32 ≡ 65
  pub end_n_16 : areas_end 16 32 ≡ 66
  -- with alignment 1 the payload begins there, as 01 has it
  pub aligned_1 : (n L : ℕ) → payload_start 1 n L ≡ areas_end n L
  -- 02, Wish 4: "2,051 and 4,037 become 4,096, and 65 becomes 2,048"
  pub payload_32 : payload_start alignment 4000 32 ≡ 4096
  pub payload_64 : payload_start alignment 4000 64 ≡ 4096
  pub payload_n_1 : payload_start alignment 1 32 ≡ 2048
  pub payload_n_15 : payload_start alignment 15 32 ≡ 2048
  pub payload_n_16 : payload_start alignment 16 32 ≡ 2048
  -- the most stripes that 2,048 sectors hold, and one more
  pub payload_n_3967 : payload_start alignment 3967 32 ≡ 2048
  pub payload_n_3968 : payload_start alignment 3968 32 ≡ 4096
  pub payload_64_n_1983 : payload_start alignment 1983 64 ≡ 2048
  pub payload_64_n_1984 : payload_start alignment 1984 64 ≡ 4096
  -- no format gives another start
  pub two_starts : (n L : ℕ) → n ≤ 4000 → L ≤ 64 → (eqb (payload_start alignment n L) 2048 || eqb (payload_start alignment n L) 4096) ≡ true
  -- for payload 2,048: 1,048,576 bytes pass, 1,048,575 give 1, 1,048,064 give 12
  pub length_1048576 : (a : FormatInput) (image : List ℕ) → Plain a → length image ≡ 1048576 → (format built a image).code ≡ 0
  pub length_1048575 : (a : FormatInput) (image : List ℕ) → Plain a → length image ≡ 1048575 → (format built a image).code ≡ 1
  pub length_1048064 : (a : FormatInput) (image : List ℕ) → Plain a → length image ≡ 1048064 → (format built a image).code ≡ 12
  -- "For payload 65: 33,280 bytes pass, 33,279 give 1, 32,768 give 12": of these the first give 12 now
  pub length_33280 : (a : FormatInput) (image : List ℕ) → Plain a → length image ≡ 33280 → (format built a image).code ≡ 12
  pub length_33279 : (a : FormatInput) (image : List ℕ) → Plain a → length image ≡ 33279 → (format built a image).code ≡ 1
  pub length_32768 : (a : FormatInput) (image : List ℕ) → Plain a → length image ≡ 32768 → (format built a image).code ≡ 12
  -- "Doubling: first byte 1 and zeros gives first byte 2; last byte 128 and zeros gives first byte 0x87"
  pub doubled_first : double (1 ∷ zeros 15) ≡ 2 ∷ zeros 15
  pub doubled_last : double (zeros 15 ++ 128 ∷ []) ≡ 0x87 ∷ zeros 15
  -- "AES substitution of 0x00 is 0x63; 0x80 doubled is 0x1B"
  pub substituted_0 : sub 0x00 ≡ 0x63
  pub doubled_0x80 : xtime 0x80 ≡ 0x1B
  -- "For L = 32 the pieces are 20 and 12, for L = 64 they are 20, 20, 20 and 4" (01, "The splitter"), of profiles 1 and 2
  pub pieces_1 : (x : List ℕ) → length x ≡ 32 → piece_lengths 1 x ≡ 20 ∷ 12 ∷ []
  pub pieces_2 : (x : List ℕ) → length x ≡ 64 → piece_lengths 2 x ≡ 20 ∷ 20 ∷ 20 ∷ 4 ∷ []
  -- "the pieces are then 32 bytes" (02, Wish 1), of profiles 3 and 4
  pub pieces_3 : (x : List ℕ) → length x ≡ 32 → piece_lengths 3 x ≡ 32 ∷ []
  pub pieces_4 : (x : List ℕ) → length x ≡ 64 → piece_lengths 4 x ≡ 32 ∷ 32 ∷ []
  -- "PBKDF2 numbers its blocks from 1 ... and crops the last" (01, "Ciphers and hashes"): the L bytes of profile 1, and of profile 4
  pub derived_1 : (p s : List ℕ) (c : ℕ) → (suite_of 1).derive p s c 32 ≡ block_of 1 p s c 1 ++ take 12 (block_of 1 p s c 2)
  pub derived_4 : (p s : List ℕ) (c : ℕ) → (suite_of 4).derive p s c 64 ≡ block_of 4 p s c 1 ++ take 32 (block_of 4 p s c 2)
  -- "With n = 1 the only stripe is the key", of every profile
  pub one_stripe : (k : ℕ) (key : List ℕ) → split (suite_of k).diffuse (length key) 1 [] key ≡ key
  pub one_merged : (k : ℕ) (key : List ℕ) → merge (suite_of k).diffuse (length key) 1 key ≡ key
  -- 02, "Wish 2": the first screen of a fresh drive, and after one add
  pub fresh_slots : (a : FormatInput) (image : List ℕ) → Fresh a image
      → slot_screen built (format built a image).image ≡ record { code = 0; entries = 0 ∷ 0 ∷ 0 ∷ 0 ∷ 0 ∷ 0 ∷ 0 ∷ 0 ∷ [] }
  pub added_1_slots : (a : FormatInput) (image : List ℕ) → Fresh a image → (key : List ℕ) (x : SlotInput) (list : List ℕ) → Typed (add 1 key x list)
      → (added a image 1 key x list).said.code ≡ 0 → slot_screen built (added a image 1 key x list).image ≡ record { code = 0; entries = 1 ∷ 0 ∷ 0 ∷ 0 ∷ 0 ∷ 0 ∷ 0 ∷ 0 ∷ [] }
  pub added_8_slots : (a : FormatInput) (image : List ℕ) → Fresh a image → (key : List ℕ) (x : SlotInput) (list : List ℕ) → Typed (add 8 key x list)
      → (added a image 8 key x list).said.code ≡ 0 → slot_screen built (added a image 8 key x list).image ≡ record { code = 0; entries = 0 ∷ 0 ∷ 0 ∷ 0 ∷ 0 ∷ 0 ∷ 0 ∷ 1 ∷ [] }
  -- the second screen of a fresh drive of L 32, n 4,000
  pub fresh_details : (a : FormatInput) (image : List ℕ) → Fresh a image → a.profile ≡ 1 → a.stripes ≡ 4000
      → detail_screen built (format built a image).image
      ≡ record {
        code = 0;
        entries = map (λ start. record { enabled = 0; count = 0; start = start; stripes = 4000 }) (8 ∷ 264 ∷ 520 ∷ 776 ∷ 1032 ∷ 1288 ∷ 1544 ∷ 1800 ∷ []);
      }
  -- zeros after refusal 2
  pub slots_after_2 : (image : List ℕ) → size_ok image ≡ true → same (part image 0 6) magic ≡ false
      → slot_screen built image ≡ record { code = 2; entries = 0 ∷ 0 ∷ 0 ∷ 0 ∷ 0 ∷ 0 ∷ 0 ∷ 0 ∷ [] }
  pub details_after_2 : (image : List ℕ) → size_ok image ≡ true → same (part image 0 6) magic ≡ false
      → detail_screen built image ≡ record { code = 2; entries = replicate 8 (record { enabled = 0; count = 0; start = 0; stripes = 0 }) }
  -- 02, "Wish 5", L 32, n 1: the sectors of an add's list, in slot 1 and in slot 8, and of a change's, from 8 to 7
  pub add_1_sectors : (a : FormatInput) (image : List ℕ) (cs : List Call) → OneStripe a image cs → (key : List ℕ) (x : SlotInput) (list : List ℕ)
      → list_numbers a image cs (add 1 key x list) ≡ 8 ∷ 1 ∷ 0 ∷ []
  pub add_8_sectors : (a : FormatInput) (image : List ℕ) (cs : List Call) → OneStripe a image cs → (key : List ℕ) (x : SlotInput) (list : List ℕ)
      → list_numbers a image cs (add 8 key x list) ≡ 64 ∷ 1 ∷ 0 ∷ []
  pub change_sectors : (a : FormatInput) (image : List ℕ) (cs : List Call) → OneStripe a image cs → (passphrase : List ℕ) (x : SlotInput) (filler list : List ℕ)
      → list_numbers a image cs (change 8 passphrase 7 x filler list) ≡ 56 ∷ 1 ∷ 0 ∷ 64 ∷ 1 ∷ 0 ∷ []
  -- L 32: n 1, 16, 17 and 4,000 give 1, 1, 2 and 250 entries of the area, and 4,000 a list of 130,032 bytes, of an image that has the area
  pub entries_n_1 : (f : Facts) (k : ℕ) → f.profile.key_bytes ≡ 32 → (slot_of f k).stripes ≡ 1 → area_count f k ≡ 1
  pub entries_n_16 : (f : Facts) (k : ℕ) → f.profile.key_bytes ≡ 32 → (slot_of f k).stripes ≡ 16 → area_count f k ≡ 1
  pub entries_n_17 : (f : Facts) (k : ℕ) → f.profile.key_bytes ≡ 32 → (slot_of f k).stripes ≡ 17 → area_count f k ≡ 2
  pub entries_n_4000 : (f : Facts) (k : ℕ) → f.profile.key_bytes ≡ 32 → (slot_of f k).stripes ≡ 4000 → area_count f k ≡ 250
  pub bytes_n_4000 : (f : Facts) (k : ℕ) → f.profile.key_bytes ≡ 32 → (slot_of f k).stripes ≡ 4000
      → (image : List ℕ) → 1024 ≤ length image → ((slot_of f k).start + 250) * 512 ≤ length image → length (encoded (slot_list f k image)) ≡ 130032
  -- 02, "Wish 6": "c × m / D of them, the quotient rounded up before the product"; D is 20 in profiles 1 and 2, 32 in profiles 3 and 4
  pub made_20_20 : (suite_of 1).made 1000 20 ≡ 1000
  pub made_20_32 : (suite_of 1).made 1000 32 ≡ 2000
  pub made_20_64 : (suite_of 2).made 1000 64 ≡ 4000
  pub made_32_32 : (suite_of 3).made 1000 32 ≡ 1000
  pub made_32_64 : (suite_of 4).made 1000 64 ≡ 2000
  pub made_before_the_product : (suite_of 1).made 1001 32 ≡ 2002
  -- the largest sum of trials, which an accepted drive has and no drive's exceeds, and so every number of a call is one of 64 bits
  pub largest_trials : (f : Facts) → Largest f → trials_cost f 1 8 ≡ largest_sum
  pub largest_reached : Reaches largest_image largest_sum
  pub trials_most : (image : List ℕ) → Bytes image → trials_cost (facts_of built image) 1 8 ≤ largest_sum
  pub values_most : (image : List ℕ) → Bytes image → (c : Call) → Typed c → cost_on built image c < 2 ^ 64
  pub format_values_most : (a : FormatInput) (image : List ℕ) → FormatTyped a → format_cost built a image < 2 ^ 64
